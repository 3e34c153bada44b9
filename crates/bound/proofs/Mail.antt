-- A sum over the mailbox, when a message is taken and others are sent.
use mathlib.Core.Path.{◌≡◌, ap, refl}
use mathlib.Core.Bool.{Bool, cond, false, true}
use mathlib.Core.List.{[], ◌++◌, ◌∷◌, List}
use Prim.Native.Nat.{◌+◌, ℕ}
use native.Mathlib.Omega.{arith}
use Rattle.deadlock.specs.Machine.{Entry, from_item, from_session, is_on_route, Message, no_entry, put_back, Sends, take_first, Taken, taken}
use Rattle.deadlock.proofs.Laws.Entries.{entry, entry-is}
use Rattle.bound.specs.Potential.{mail_sum}
use Rattle.bound.proofs.Sent.{sent_weight}

module _ (f : Entry → ℕ) where
  pub sum-append : (l k : List Entry) → mail_sum f (l ++ k) ≡ mail_sum f l + mail_sum f k
  unfolding mail_sum
  sum-append [] k = omega arith
  sum-append (e ∷ l) k = omega (arith, sum-append l k)

  pub sum-from_session : (t : ℕ) (l : Sends) → mail_sum f (from_session t l) ≡ sent_weight (λ x m. f (entry true t x m)) l
  unfolding mail_sum from_session sent_weight
  sum-from_session t [] = refl
  sum-from_session t (p ∷ l) = omega (arith, sum-from_session t l)

  pub sum-from_item : (x : ℕ) (l : Sends) → mail_sum f (from_item x l) ≡ sent_weight (λ t m. f (entry false t x m)) l
  unfolding mail_sum from_item sent_weight
  sum-from_item x [] = refl
  sum-from_item x (p ∷ l) = omega (arith, sum-from_item x l)

  module _ (d : Bool) (t x : ℕ) where
    -- what is taken had its part
    pub sum-take : (l : List Entry) (m : Message) (r : List Entry) → take_first d t x l ≡ taken m r → mail_sum f l ≡ f (entry d t x m) + mail_sum f r
    unfolding mail_sum take_first put_back
    sum-take [] m r e = cc
    sum-take (a ∷ l) m r e = cases (is_on_route d t x a) refl (take_first d t x l) refl (sum-take l) e
      where
        cases : (b : Bool) → is_on_route d t x a ≡ b → (o : Taken) → take_first d t x l ≡ o
            → ((m : Message) (r : List Entry) → take_first d t x l ≡ taken m r → mail_sum f l ≡ f (entry d t x m) + mail_sum f r)
            → cond b (taken a.message l) (put_back a o) ≡ taken m r
            → f a + mail_sum f l ≡ f (entry d t x m) + mail_sum f r
        cases true h o q ih e =
            let z : a.message ≡ m = cc in
            let y : l ≡ r = cc in
            omega (arith, ap f (entry-is d t x a h), ap (λ (n : Message). f (entry d t x n)) z, ap (mail_sum f) y)
        cases false h no_entry q ih e = let z : ◌≡◌ {A = ℕ} 0 1 = cc in absurd (omega arith)
        cases false h (taken m' r') q ih e =
            let z : m' ≡ m = cc in
            let y : a ∷ r' ≡ r = cc in
            omega (arith, ih m' r' q, ap (λ (n : Message). f (entry d t x n)) z, ap (mail_sum f) y)

  -- a message at a session
  pub sum-session : (t x : ℕ) (l : List Entry) (m : Message) (r : List Entry) (o : Sends) → take_first false t x l ≡ taken m r
      → mail_sum f (r ++ from_session t o) + f (entry false t x m) ≡ mail_sum f l + sent_weight (λ y a. f (entry true t y a)) o
  sum-session t x l m r o e = omega (arith, sum-append r (from_session t o), sum-from_session t o, sum-take false t x l m r e)

  -- a message at an item
  pub sum-item : (t x : ℕ) (l : List Entry) (m : Message) (r : List Entry) (o : Sends) → take_first true t x l ≡ taken m r
      → mail_sum f (r ++ from_item x o) + f (entry true t x m) ≡ mail_sum f l + sent_weight (λ u a. f (entry false u x a)) o
  sum-item t x l m r o e = omega (arith, sum-append r (from_item x o), sum-from_item x o, sum-take true t x l m r e)
