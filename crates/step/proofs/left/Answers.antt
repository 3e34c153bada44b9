-- Without an entry there is one less.
use mathlib.Core.Path.{◌≡◌, sym, ap, ◌∙◌}
use mir.Val.{bool_byte}
use mathlib.Core.List.{List}
use Prim.Native.Nat.{ℕ, ◌-◌, ◌<◌}
use native.Mathlib.Omega.{arith}
use lib.ListN.{length}
use Rattle.std.specs.Prelude.{Option, Some, None, IfSome, is_some}
use Rattle.lists.proofs.Laws.{remove_at-length, remove_at-past}
use Rattle.mailbox.specs.Entry.{Entry}
use Rattle.mailbox.specs.Layout.{entries_of}
use Rattle.mailbox.proofs.Laws.{kept-length, length-entries}
use Rattle.step.specs.Parts.{without}
use Rattle.step.proofs.left.Goals as goal

one_less : (o : Option ℕ) (l : List Entry) (n f : ℕ) → n ≡ length l → f ≡ bool_byte (is_some o) → IfSome o (λ k. k < n) → n - f ≡ length (without o l)
one_less None l n f e b h = omega (arith, e, b, ap length (remove_at-past (length l) l (omega arith)))
one_less (Some k) l n f e b h = omega (arith, e, b, h, remove_at-length k l (omega (arith, e, h)))

pub count-requires : goal.count-requires
count-requires c =
    omega (arith, kept-length c.args.mail.now c.requires.0)

pub returns : goal.returns
returns c = one_less c.args.entry (entries_of c.args.mail.now) _ _ (c.count.ensures ∙ sym (length-entries c.args.mail.now)) (c.from.ensures ∙ ap bool_byte c.is_some.ensures) (rw c.count.ensures c.requires.1)
