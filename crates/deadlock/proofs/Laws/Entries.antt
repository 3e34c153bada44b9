-- What holds of every entry of the mailbox, when a message is taken and others are sent.
use mathlib.Core.Path.{◌≡◌, refl, sym}
use mathlib.Core.Bool.{◌&&◌, Bool, beq, cond, false, true}
use mathlib.Core.List.{◌∷◌, List}
use Prim.Native.Nat.{ℕ}
use native.Mathlib.Omega.{arith}
use lib.Dec.{eqb}
use borrow.Author.Tests.{eqb-true}
use Rattle.lists.proofs.Tests.{and_both}
use Rattle.deadlock.specs.Machine.{Entry, from_item, from_session, is_on_route, Message, no_entry, put_back, Sends, take_first, Taken, taken}
use Rattle.deadlock.specs.Counts.{Every, every-cons, every-nil}

-- a message between session t and item x, to the item (true) or to the session (false)
abbrev pub entry : Bool → ℕ → ℕ → Message → Entry
entry d t x m = record { to_item = d; session = t; item = x; message = m }

beq-true : (a b : Bool) → beq a b ≡ true → a ≡ b
beq-true true true e = refl
beq-true true false e = sym e
beq-true false true e = e
beq-true false false e = refl

-- an entry of a route
pub entry-is : (d : Bool) (t x : ℕ) (a : Entry) → is_on_route d t x a ≡ true → entry d t x a.message ≡ a
unfolding is_on_route
entry-is d t x a e =
    let p = and_both (beq d a.to_item) (eqb t a.session && eqb x a.item) e in
    let q = and_both (eqb t a.session) (eqb x a.item) p.1 in
    rw (beq-true d a.to_item p.0, eqb-true t a.session q.0, eqb-true x a.item q.1) refl

module _ {Q : Entry → Type 0} where
  pub every_take : (d : Bool) (t x : ℕ) {l : List Entry} (m : Message) (r : List Entry) → Every Q l → take_first d t x l ≡ taken m r → Q (entry d t x m) × Every Q r
  unfolding take_first put_back
  every_take d t x m r every-nil e = let z : ◌≡◌ {A = ℕ} 0 1 = cc in absurd (omega arith)
  every_take d t x m r (every-cons {a} {l} h k) e = cases (is_on_route d t x a) refl (take_first d t x l) refl (λ m r. every_take d t x m r k) e
    where
      cases : (b : Bool) → is_on_route d t x a ≡ b → (o : Taken) → take_first d t x l ≡ o
          → ((m : Message) (r : List Entry) → take_first d t x l ≡ taken m r → Q (entry d t x m) × Every Q r)
          → cond b (taken a.message l) (put_back a o) ≡ taken m r → Q (entry d t x m) × Every Q r
      cases true g o q ih e =
          let z : a.message ≡ m = cc in
          let y : l ≡ r = cc in
          let k2 : Q (entry d t x a.message) = rw (entry-is d t x a g) h in
          (rw z at k2, rw y at k)
      cases false g no_entry q ih e = let z : ◌≡◌ {A = ℕ} 0 1 = cc in absurd (omega arith)
      cases false g (taken m' r') q ih e =
          let z : m' ≡ m = cc in
          let y : a ∷ r' ≡ r = cc in
          let i = ih m' r' q in
          let k2 : Every Q (a ∷ r') = every-cons h i.1 in
          (rw z at i.0, rw y at k2)

  pub every-fromSession : (t : ℕ) {l : Sends} → Every (λ (p : ℕ × Message). Q (entry true t p.0 p.1)) l → Every Q (from_session t l)
  unfolding from_session
  every-fromSession t every-nil = every-nil
  every-fromSession t (every-cons h k) = every-cons h (every-fromSession t k)

  pub every-fromItem : (x : ℕ) {l : Sends} → Every (λ (p : ℕ × Message). Q (entry false p.0 x p.1)) l → Every Q (from_item x l)
  unfolding from_item
  every-fromItem x every-nil = every-nil
  every-fromItem x (every-cons h k) = every-cons h (every-fromItem x k)
