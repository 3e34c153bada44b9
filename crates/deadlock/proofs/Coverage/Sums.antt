-- Laws of the sums in the clauses on coverage.
use mathlib.Core.Path.{◌∙◌, ◌≡◌, ap, refl, sym}
use mathlib.Core.Bool.{Bool, cond, false, not, true, true≢false}
use mathlib.Core.List.{[], ◌++◌, ◌∷◌, List, map}
use mathlib.Core.Logic.{◌≢◌, ◌⊎◌, inl, inr}
use Prim.Native.Nat.{◌+◌, ◌≤◌, suc, zero, ℕ}
use native.Mathlib.Omega.{arith}
use lib.Dec.{eqb}
use borrow.Author.Tests.{eqb-false, eqb-true, ne_eqb}
use Rattle.lists.specs.Lists.{filter}
use Rattle.lists.proofs.Tests.{by-test, eqb_self, same?}
use Rattle.deadlock.specs.Lists.{bit, occurs, without}
use Rattle.deadlock.specs.Machine.{Message, probe, probes_from, probes_to, rebroadcast, rebroadcasts, resends, Rules, Sends, Session, to_each, up}
use Rattle.message.specs.Kind
use Rattle.deadlock.specs.Counts.{cleans_sent, count_kind, except, fresh_probes, is_stored, probe_of, probes_by, sent_to, sum_over, unless_cleaned}
use Rattle.deadlock.proofs.Laws.Lists.{bit_le, occurs-oneTo, zero-or-more}
use Rattle.deadlock.proofs.Laws.Routes.{countKind-append}
use Rattle.deadlock.proofs.Laws.Counts.{cleansOf-sentTo, cleansOf-some}

pub unlessCleaned-le : (j k : ℕ) → unless_cleaned j k ≤ k
unfolding unless_cleaned
unlessCleaned-le zero k = omega arith
unlessCleaned-le (suc j) k = omega arith

pub unlessCleaned-open : (j k : ℕ) → j ≡ 0 → unless_cleaned j k ≡ k
unfolding unless_cleaned
unlessCleaned-open zero k e = refl
unlessCleaned-open (suc j) k e = absurd (omega arith)

pub unlessCleaned-shut : (j k : ℕ) → 1 ≤ j → unless_cleaned j k ≡ 0
unfolding unless_cleaned
unlessCleaned-shut zero k e = absurd (omega arith)
unlessCleaned-shut (suc j) k e = refl

pub unlessCleaned-mono : (j k k' : ℕ) → k ≤ k' → unless_cleaned j k ≤ unless_cleaned j k'
unfolding unless_cleaned
unlessCleaned-mono zero k k' h = h
unlessCleaned-mono (suc j) k k' h = omega arith

pub probesBy-append : (i : ℕ) (q p : List Message) → probes_by i (q ++ p) ≡ probes_by i q + probes_by i p
unfolding probes_by
probesBy-append i [] p = omega arith
probesBy-append i (m ∷ q) p = omega (arith, probesBy-append i q p)

pub freshProbes-no-clean : (i : ℕ) (q : List Message) → count_kind Kind.clean q ≡ 0 → fresh_probes i q ≡ probes_by i q
unfolding fresh_probes probes_by count_kind
freshProbes-no-clean i [] z = refl
freshProbes-no-clean i (m ∷ q) z = omega (arith, freshProbes-no-clean i q (omega arith), unlessCleaned-open (count_kind Kind.clean q) (probe_of i m) (omega arith))

pub freshProbes-append : (i : ℕ) (q p : List Message) → count_kind Kind.clean p ≡ 0 → fresh_probes i (q ++ p) ≡ fresh_probes i q + fresh_probes i p
unfolding fresh_probes
freshProbes-append i [] p z = omega arith
freshProbes-append i (m ∷ q) p z = omega (arith, freshProbes-append i q p z, ap (λ (k : ℕ). unless_cleaned k (probe_of i m)) (let e : count_kind Kind.clean (q ++ p) ≡ count_kind Kind.clean q = omega (arith, countKind-append Kind.clean q p) in e))

pub freshProbes-right : (i : ℕ) (q p : List Message) → fresh_probes i p ≤ fresh_probes i (q ++ p)
unfolding fresh_probes
freshProbes-right i [] p = omega arith
freshProbes-right i (m ∷ q) p = omega (arith, freshProbes-right i q p)

pub freshProbes-skip : (i : ℕ) (m : Message) (q : List Message) → probe_of i m ≡ 0 → fresh_probes i (m ∷ q) ≡ fresh_probes i q
unfolding fresh_probes
freshProbes-skip i m q z = omega (arith, unlessCleaned-le (count_kind Kind.clean q) (probe_of i m))

-- taking the head loses a fresh probe only where no clean is behind it
pub freshProbes-head : (i : ℕ) (m : Message) (q : List Message) → (fresh_probes i (m ∷ q) ≡ fresh_probes i q) ⊎ ((count_kind Kind.clean q ≡ 0) × (1 ≤ probe_of i m))
unfolding fresh_probes
freshProbes-head i m q = cases (zero-or-more (count_kind Kind.clean q)) (zero-or-more (probe_of i m))
  where
    cases : (count_kind Kind.clean q ≡ 0) ⊎ (1 ≤ count_kind Kind.clean q) → (probe_of i m ≡ 0) ⊎ (1 ≤ probe_of i m)
        → (unless_cleaned (count_kind Kind.clean q) (probe_of i m) + fresh_probes i q ≡ fresh_probes i q) ⊎ ((count_kind Kind.clean q ≡ 0) × (1 ≤ probe_of i m))
    cases (inl z) (inr k) = inr (z, k)
    cases d (inl k) = inl (omega (arith, k, unlessCleaned-le (count_kind Kind.clean q) (probe_of i m)))
    cases (inr z) (inr k) = inl (omega (arith, unlessCleaned-shut (count_kind Kind.clean q) (probe_of i m) z))

pub sumOver-mono : (f g : ℕ → ℕ) → ((a : ℕ) → f a ≤ g a) → (l : List ℕ) → sum_over f l ≤ sum_over g l
unfolding sum_over
sumOver-mono f g h [] = omega arith
sumOver-mono f g h (a ∷ l) = omega (arith, h a, sumOver-mono f g h l)

pub sumOver-append : (f : ℕ → ℕ) (l k : List ℕ) → sum_over f (l ++ k) ≡ sum_over f l + sum_over f k
unfolding sum_over
sumOver-append f [] k = omega arith
sumOver-append f (a ∷ l) k = omega (arith, sumOver-append f l k)

pub sumOver-without : (f : ℕ → ℕ) (t : ℕ) → f t ≡ 0 → (l : List ℕ) → sum_over f (without t l) ≡ sum_over f l
unfolding sum_over without
sumOver-without f t z [] = refl
sumOver-without f t z (a ∷ l) = by-test (λ (q : List ℕ). sum_over f q ≡ f a + sum_over f l) (eqb a t) {x = l} {y = a ∷ without t l} (λ e. omega (arith, z, ap f (eqb-true a t e))) (λ _. omega (arith, sumOver-without f t z l))

pub sumOver-zero : (f : ℕ → ℕ) → ((a : ℕ) → f a ≡ 0) → (l : List ℕ) → sum_over f l ≡ 0
unfolding sum_over
sumOver-zero f z [] = refl
sumOver-zero f z (a ∷ l) = omega (arith, z a, sumOver-zero f z l)

pub except-mono : (t : ℕ) (f g : ℕ → ℕ) → ((a : ℕ) → t ≢ a → f a ≤ g a) → (a : ℕ) → except t f a ≤ except t g a
unfolding except
except-mono t f g h a = cases (eqb a t) refl
  where
    cases : (b : Bool) → eqb a t ≡ b → cond b 0 (f a) ≤ cond b 0 (g a)
    cases true e = omega arith
    cases false e = h a (λ q. eqb-false a t e (sym q))

pub except-zero : (t : ℕ) (f : ℕ → ℕ) (a : ℕ) → f a ≡ 0 → except t f a ≡ 0
unfolding except
except-zero t f a z = by-test (λ (k : ℕ). k ≡ 0) (eqb a t) {x = 0} {y = f a} (λ _. refl) (λ _. z)

-- ---- what is sent
pub no-clean-sent : (a : ℕ) (out : Sends) → ((v : ℕ) → cleans_sent v out ≡ 0) → count_kind Kind.clean (sent_to a out) ≡ 0
no-clean-sent a out z = cases (zero-or-more (count_kind Kind.clean (sent_to a out)))
  where
    cases : (count_kind Kind.clean (sent_to a out) ≡ 0) ⊎ (1 ≤ count_kind Kind.clean (sent_to a out)) → count_kind Kind.clean (sent_to a out) ≡ 0
    cases (inl k) = k
    cases (inr k) = let c = cleansOf-some (sent_to a out) k in absurd (omega (arith, c.1, cleansOf-sentTo c.0 a out, z c.0))

module _ (R : Rules) where
  pub probesBy-probesTo : (t h : ℕ) (l : List ℕ) → 1 ≤ occurs t l → R.senior t h ≡ true → 1 ≤ probes_by t (sent_to h (probes_to R h l))
  unfolding probes_to filter sent_to probes_by occurs
  probesBy-probesTo t h [] p s = absurd (omega arith)
  probesBy-probesTo t h (b ∷ l) p s = cases (R.senior b h) refl (same? b t) (probesBy-probesTo t h l)
    where
      cases : (c : Bool) → R.senior b h ≡ c → Dec (b ≡ t) → (1 ≤ occurs t l → R.senior t h ≡ true → 1 ≤ probes_by t (sent_to h (probes_to R h l)))
          → 1 ≤ probes_by t (sent_to h (map (λ (a : ℕ). (h, probe a h)) (cond c (b ∷ filter (λ (a : ℕ). R.senior a h) l) (filter (λ (a : ℕ). R.senior a h) l))))
      cases true e (yes q) ih = rw eqb_self (omega (arith, ap (λ (z : ℕ). bit (eqb z t)) q, ap bit (eqb_self t)))
      cases true e (no q) ih = rw eqb_self (omega (arith, ih (omega (arith, ap bit (ne_eqb b t q))) s))
      cases false e (yes q) ih = absurd (true≢false (sym s ∙ (ap (λ (z : ℕ). R.senior z h) (sym q) ∙ e)))
      cases false e (no q) ih = ih (omega (arith, ap bit (ne_eqb b t q))) s

  pub countKind-resends : (t : ℕ) (l : List ℕ) → 1 ≤ occurs t l → 1 ≤ count_kind Kind.resend (sent_to t (resends l))
  unfolding resends sent_to count_kind occurs
  countKind-resends t [] p = absurd (omega arith)
  countKind-resends t (b ∷ l) p = elim (same? b t) [
    | yes q ↦ rw (q, eqb_self) (omega arith)
    | no q ↦ rw (ne_eqb t b (λ z. q (sym z))) (countKind-resends t l (omega (arith, ap bit (ne_eqb b t q))))
  ]

-- ---- what is stored
pub isStored-zero : (f : ℕ → ℕ) (i : ℕ) → f i ≡ 0 → is_stored f i ≡ 0
isStored-zero f i e = ap (λ (k : ℕ). bit (not (eqb k 0))) e

pub isStored-one : (f : ℕ → ℕ) (i : ℕ) → f i ≢ 0 → is_stored f i ≡ 1
isStored-one f i ne = ap (λ (b : Bool). bit (not b)) (ne_eqb (f i) 0 ne)

pub isStored-or : (f : ℕ → ℕ) (i : ℕ) → (f i ≢ 0) ⊎ (is_stored f i ≡ 0)
isStored-or f i = elim (same? (f i) 0) [ yes q ↦ inr (isStored-zero f i q) | no q ↦ inl q ]

pub probesBy-storedProbes : (f : ℕ → ℕ) (x i : ℕ) (l : List ℕ) → 1 ≤ occurs i l → is_stored f i ≤ probes_by i (sent_to x (probes_from f x l))
unfolding probes_from sent_to probes_by occurs
probesBy-storedProbes f x i [] h = absurd (omega arith)
probesBy-storedProbes f x i (k ∷ l) h = cases (eqb (f k) 0) refl (same? k i) (probesBy-storedProbes f x i l)
  where
    cases : (b : Bool) → eqb (f k) 0 ≡ b → Dec (k ≡ i) → (1 ≤ occurs i l → is_stored f i ≤ probes_by i (sent_to x (probes_from f x l)))
        → is_stored f i ≤ probes_by i (sent_to x (cond b (probes_from f x l) ((x, probe k (f k)) ∷ probes_from f x l)))
    cases true e (yes q) ih = omega (arith, isStored-zero f i (ap f (sym q) ∙ eqb-true (f k) 0 e))
    cases true e (no q) ih = ih (omega (arith, ap bit (ne_eqb k i q)))
    cases false e (yes q) ih = rw eqb_self (omega (arith, bit_le (not (eqb (f i) 0)), ap (λ (b : ℕ). bit (eqb b i)) q, ap bit (eqb_self i)))
    cases false e (no q) ih = rw eqb_self (omega (arith, ih (omega (arith, ap bit (ne_eqb k i q)))))

pub no-request-storedProbes : (f : ℕ → ℕ) (x z : ℕ) (l : List ℕ) → count_kind Kind.request (sent_to z (probes_from f x l)) ≡ 0
unfolding probes_from sent_to count_kind
no-request-storedProbes f x z [] = refl
no-request-storedProbes f x z (i ∷ l) = by-test (λ (q : Sends). count_kind Kind.request (sent_to z q) ≡ 0) (eqb (f i) 0) (λ _. no-request-storedProbes f x z l)
    (λ _. by-test (λ (q : List Message). count_kind Kind.request q ≡ 0) (eqb z x) (λ _. omega (arith, no-request-storedProbes f x z l)) (λ _. no-request-storedProbes f x z l))

rebroadcasts-sent : (z : ℕ) (f : ℕ → Bool) → f z ≡ true → (l : List ℕ) → 1 ≤ occurs z l → 1 ≤ count_kind Kind.rebroadcast (sent_to z (to_each (up rebroadcast) f l))
unfolding to_each sent_to count_kind occurs
rebroadcasts-sent z f e [] h = absurd (omega arith)
rebroadcasts-sent z f e (x ∷ l) h = cases (f x) refl (same? x z) (rebroadcasts-sent z f e l)
  where
    cases : (b : Bool) → f x ≡ b → Dec (x ≡ z) → (1 ≤ occurs z l → 1 ≤ count_kind Kind.rebroadcast (sent_to z (to_each (up rebroadcast) f l)))
        → 1 ≤ count_kind Kind.rebroadcast (sent_to z (cond b ((x, up rebroadcast) ∷ to_each (up rebroadcast) f l) (to_each (up rebroadcast) f l)))
    cases true k (yes q) ih = rw (q, eqb_self) (omega arith)
    cases true k (no q) ih = rw (ne_eqb z x (λ y. q (sym y))) (ih (omega (arith, ap bit (ne_eqb x z q))))
    cases false k (yes q) ih = absurd (true≢false (sym e ∙ (ap f (sym q) ∙ k)))
    cases false k (no q) ih = ih (omega (arith, ap bit (ne_eqb x z q)))

pub probeOf-some : (a b : ℕ) → a ≤ b → (a ≡ 0) ⊎ (1 ≤ b)
probeOf-some zero b h = inl refl
probeOf-some (suc a) b h = inr (omega arith)

-- a session that takes a clean from item x sends a rebroadcast to every other item that it holds
pub rebroadcast-to-held : (R : Rules) (x : ℕ) (r : Session) (z : ℕ) → 1 ≤ z → z ≤ R.M → x ≢ z → r.held z ≡ true
    → 1 ≤ count_kind Kind.rebroadcast (sent_to z (rebroadcasts R x r))
unfolding rebroadcasts
rebroadcast-to-held R x r z lo hi ne h = rebroadcasts-sent z _ (rw (h, ne_eqb z x (λ q. ne (sym q)))) _ (omega (arith, occurs-oneTo R.M z lo hi))
