-- The kind need not be asked: zeros are no session.
use mathlib.Core.Path.{◌≡◌, refl}
use mathlib.Core.Bool.{Bool, true, false, ◌&&◌, ◌||◌, or-false, or_assoc}
use Prim.Native.Nat.{ℕ, ◌≤◌}
use native.Mathlib.Omega.{arith}
use lib.Dec.{eqb}
use borrow.Author.Tests.{ne_eqb}
use Rattle.message.specs.Kind
use Rattle.mailbox.specs.Entry.{Entry}
use Rattle.mailbox.specs.Layout.{entry_at}
use Rattle.reopen.specs.Reopening.{entry_names}
use Rattle.reopen.specs.Parts.{Plain}
use Rattle.reopen.proofs.entry_names.Goals as goal

zero-differs : (t : ℕ) → 1 ≤ t → (n : ℕ) → n ≡ 0 → eqb n t ≡ false
zero-differs t low n z = ne_eqb n t (λ q. omega (arith, low, q, z))

unasked : (t : ℕ) → 1 ≤ t → (e : Entry) → Plain e → eqb e.session t || eqb e.a t || eqb e.b t ≡ entry_names t e
unfolding entry_names
unasked t low e p = go (Kind.carries e.kind) refl
  where
    go : (c : Bool) → Kind.carries e.kind ≡ c → eqb e.session t || eqb e.a t || eqb e.b t ≡ eqb e.session t || c && (eqb e.a t || eqb e.b t)
    go true q = or_assoc (eqb e.session t) (eqb e.a t) (eqb e.b t)
    go false q =
        let z = p q in
        rw (zero-differs t low e.a z.0, zero-differs t low e.b z.1) (or-false (eqb e.session t || false))

pub returns : goal.returns
returns c =
    let a = c.args in
    let q = c.requires.0 in
    rw (c.message_to_item-m.ensures) (unasked a.t q.low (entry_at a.mail.now a.k) (q.plain a.k c.requires.1))
