-- What the messages that an item or a session sends add up to, each by its receiver; and what holds of each of them.
use mathlib.Core.Path.{◌∙◌, ◌≡◌, refl}
use mathlib.Core.Bool.{Bool, cond, false, not, true}
use mathlib.Core.List.{[], ◌∷◌, List, map}
use Prim.Native.Nat.{◌+◌, ◌≤◌, suc, zero, ℕ}
use native.Mathlib.Omega.{arith}
use lib.Dec.{eqb}
use lib.ListN.{length}
use Rattle.lists.specs.Lists.{filter, sum_up_to}
use Rattle.lists.proofs.Tests.{by-test}
use Rattle.deadlock.specs.Lists.{bit, one_to}
use Rattle.deadlock.specs.Machine.{down, Message, probe, probes_anew, probes_from, probes_to, resend, resends, Rules, Sends, to_each}
use Rattle.deadlock.specs.Counts.{Every, every-cons, every-nil, is_stored, sum_over}
use Rattle.deadlock.proofs.Laws.Counts.{every_append}
use Rattle.deadlock.proofs.Coverage.Sums.{sumOver-append}
use Rattle.bound.proofs.Sent.{sent-append, sent-probes_to, sent_weight}

-- ---- sums over lists
sum_ones : (l : List ℕ) → sum_over (λ _. 1) l ≡ length l
unfolding sum_over
sum_ones [] = refl
sum_ones (a ∷ l) = omega (arith, sum_ones l)

-- over 1 to n
sum-one_to : (f : ℕ → ℕ) (n : ℕ) → sum_over f (one_to n) ≡ sum_up_to n f
unfolding sum_over sum_up_to one_to
sum-one_to f zero = refl
sum-one_to f (suc n) = omega (arith, sumOver-append f (one_to n) (suc n ∷ []), sum-one_to f n)

module _ (g : ℕ → Message → ℕ) where
  sent-resends : (k : List ℕ) → sent_weight g (resends k) ≡ sum_over (λ a. g a (down resend)) k
  unfolding sent_weight resends sum_over
  sent-resends [] = refl
  sent-resends (a ∷ k) = omega (arith, sent-resends k)

  -- probes to the holder for the sessions l, a resend to each of k
  pub sent-anew : (R : Rules) (h : ℕ) → ((i j : ℕ) → g h (probe i j) ≡ 1) → (l k : List ℕ)
      → sent_weight g (probes_anew R h l k) ≤ sum_over (λ _. 1) l + sum_over (λ a. g a (down resend)) k
  unfolding probes_anew
  sent-anew R h one l k = omega (arith, sent-append g (probes_to R h l) (resends k), sent-probes_to g R h one l, sum_ones l, sent-resends k)

  each-sum : (m : Message) (f : ℕ → Bool) (l : List ℕ) → sent_weight g (to_each m f l) ≡ sum_over (λ x. cond (f x) (g x m) 0) l
  unfolding sent_weight to_each sum_over
  each-sum m f [] = refl
  each-sum m f (x ∷ l) = cases (f x) (each-sum m f l)
    where
      cases : (b : Bool) → sent_weight g (to_each m f l) ≡ sum_over (λ x. cond (f x) (g x m) 0) l
          → sent_weight g (cond b ((x, m) ∷ to_each m f l) (to_each m f l)) ≡ cond b (g x m) 0 + sum_over (λ x. cond (f x) (g x m) 0) l
      cases true ih = omega arith
      cases false ih = omega arith

  -- a message to each item that passes a test
  pub sent-each : (m : Message) (f : ℕ → Bool) (n : ℕ) → sent_weight g (to_each m f (one_to n)) ≡ sum_up_to n (λ x. cond (f x) (g x m) 0)
  sent-each m f n = each-sum m f (one_to n) ∙ sum-one_to _ n

  stored-sum : (x : ℕ) → ((i j : ℕ) → g x (probe i j) ≡ 1) → (f : ℕ → ℕ) (l : List ℕ) → sent_weight g (probes_from f x l) ≡ sum_over (is_stored f) l
  unfolding sent_weight probes_from sum_over
  stored-sum x one f [] = refl
  stored-sum x one f (i ∷ l) = cases (eqb (f i) 0) (stored-sum x one f l)
    where
      cases : (b : Bool) → sent_weight g (probes_from f x l) ≡ sum_over (is_stored f) l
          → sent_weight g (cond b (probes_from f x l) ((x, probe i (f i)) ∷ probes_from f x l)) ≡ bit (not b) + sum_over (is_stored f) l
      cases true ih = omega arith
      cases false ih = omega (arith, one i (f i))

  -- what is stored
  pub sent-stored : (x : ℕ) → ((i j : ℕ) → g x (probe i j) ≡ 1) → (f : ℕ → ℕ) (n : ℕ) → sent_weight g (probes_from f x (one_to n)) ≡ sum_up_to n (is_stored f)
  sent-stored x one f n = stored-sum x one f (one_to n) ∙ sum-one_to _ n

-- ---- what holds of each
every-one_to : (P : ℕ → Type 0) (n : ℕ) → ((x : ℕ) → 1 ≤ x → x ≤ n → P x) → Every P (one_to n)
unfolding one_to
every-one_to P zero h = every-nil
every-one_to P (suc n) h =
    every_append (every-one_to P n (λ x lo hi. h x lo (omega arith))) (every-cons (h (suc n) (omega arith) (omega arith)) every-nil)

module _ (Q : ℕ → Message → Type 0) where
  abbrev pub Sent : Sends → Type 0
  Sent l = Every (λ (p : ℕ × Message). Q p.0 p.1) l

  -- probes to the holder for those of l that are senior to it
  pub every-probes_to : (R : Rules) (h : ℕ) (l : List ℕ) → ((a : ℕ) → R.senior a h ≡ true → Q h (probe a h)) → Sent (probes_to R h l)
  unfolding probes_to filter
  every-probes_to R h [] p = every-nil
  every-probes_to R h (b ∷ l) p =
      by-test (λ (q : List ℕ). Sent (map (λ (a : ℕ). (h, probe a h)) q)) (R.senior b h) (λ e. every-cons (p b e) (every-probes_to R h l p)) (λ _. every-probes_to R h l p)

  pub every-resends : (k : List ℕ) → ((a : ℕ) → Q a (down resend)) → Sent (resends k)
  unfolding resends
  every-resends [] r = every-nil
  every-resends (a ∷ k) r = every-cons (r a) (every-resends k r)

  pub every-anew : (R : Rules) (h : ℕ) (l k : List ℕ) → ((i j : ℕ) → Q h (probe i j)) → ((a : ℕ) → Q a (down resend)) → Sent (probes_anew R h l k)
  unfolding probes_anew
  every-anew R h l k p r = every_append (every-probes_to R h l (λ a _. p a h)) (every-resends k r)

  each_of : (m : Message) (f : ℕ → Bool) {l : List ℕ} → Every (λ (x : ℕ). f x ≡ true → Q x m) l → Sent (to_each m f l)
  unfolding to_each
  each_of m f every-nil = every-nil
  each_of m f (every-cons {a} {l} h r) = by-test Sent (f a) (λ e. every-cons (h e) (each_of m f r)) (λ _. each_of m f r)

  pub every-each : (m : Message) (f : ℕ → Bool) (n : ℕ) → ((x : ℕ) → 1 ≤ x → x ≤ n → f x ≡ true → Q x m) → Sent (to_each m f (one_to n))
  every-each m f n h = each_of m f (every-one_to (λ x. f x ≡ true → Q x m) n h)

  pub every-stored : (f : ℕ → ℕ) (x : ℕ) (l : List ℕ) → ((i j : ℕ) → Q x (probe i j)) → Sent (probes_from f x l)
  unfolding probes_from
  every-stored f x [] h = every-nil
  every-stored f x (i ∷ l) h = by-test Sent (eqb (f i) 0) (λ _. every-stored f x l h) (λ _. every-cons (h i (f i)) (every-stored f x l h))
