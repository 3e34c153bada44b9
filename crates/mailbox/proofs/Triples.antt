-- Laws of the routes and the bodies of a list of entries: three numbers of each, in order.
use mathlib.Core.Path.{◌≡◌, refl, sym, ap, ◌∙◌}
use mathlib.Core.List.{List, [], ◌∷◌, ◌++◌}
use Prim.Native.Nat.{ℕ, zero, suc, ◌+◌, ◌-◌, ◌*◌, ◌≤◌, ◌<◌}
use native.Mathlib.Nat.{add-zero}
use native.Mathlib.Omega.{arith}
use lib.ListN.{length, get_or, take, drop}
use lib.Seq.{take-nil, drop-nil, drop-cons, get_or-drop}
use Rattle.buffer.specs.Bytes.{slice}
use Rattle.lists.specs.Lists.{without_places, tabulate}
use Rattle.entry.specs.Entry.{Entry, unused}
use Rattle.mailbox.specs.Layout.{routes, bodies}

unfoldable pub triples : (Entry → ℕ) → (Entry → ℕ) → (Entry → ℕ) → List Entry → List ℕ
triples f g h [] = []
triples f g h (e ∷ l) = f e ∷ g e ∷ h e ∷ triples f g h l

pub routes-triples : (l : List Entry) → routes l ≡ triples (λ e. e.direction) (λ e. e.session) (λ e. e.item) l
unfolding routes triples
routes-triples [] = refl
routes-triples (e ∷ l) = ap (λ (r : List ℕ). e.direction ∷ e.session ∷ e.item ∷ r) (routes-triples l)

pub bodies-triples : (l : List Entry) → bodies l ≡ triples (λ e. e.kind) (λ e. e.a) (λ e. e.b) l
unfolding bodies triples
bodies-triples [] = refl
bodies-triples (e ∷ l) = ap (λ (r : List ℕ). e.kind ∷ e.a ∷ e.b ∷ r) (bodies-triples l)

module _ (f g h : Entry → ℕ) where
  pub length-triples : (l : List Entry) → length (triples f g h l) ≡ 3 * length l
  unfolding triples
  length-triples [] = refl
  length-triples (e ∷ l) = let rest = length-triples l in omega arith

  pub triples-append : (l k : List Entry) → triples f g h (l ++ k) ≡ triples f g h l ++ triples f g h k
  unfolding triples
  triples-append [] k = refl
  triples-append (e ∷ l) k = ap (λ (r : List ℕ). f e ∷ g e ∷ h e ∷ r) (triples-append l k)

  triples-take : (k : ℕ) (l : List Entry) → triples f g h (take k l) ≡ take (3 * k) (triples f g h l)
  unfolding triples
  triples-take zero l = refl
  triples-take (suc k) [] = sym (take-nil (3 * suc k))
  triples-take (suc k) (e ∷ l) =
      let n : 3 * suc k ≡ suc (suc (suc (3 * k))) = omega arith in rw (n) (ap (λ (r : List ℕ). f e ∷ g e ∷ h e ∷ r) (triples-take k l))

  triples-drop : (k : ℕ) (l : List Entry) → triples f g h (drop k l) ≡ drop (3 * k) (triples f g h l)
  unfolding triples
  triples-drop zero l = refl
  triples-drop (suc k) [] = sym (drop-nil (3 * suc k))
  triples-drop (suc k) (e ∷ l) = let n : 3 * suc k ≡ suc (suc (suc (3 * k))) = omega arith in rw (n) (triples-drop k l)

  -- the entries from a up to b are taken out
  pub triples-without : (a b : ℕ) (l : List Entry) → a ≤ b
      → triples f g h (without_places a b l) ≡ take (3 * a) (triples f g h l) ++ drop (3 * a + 3 * (b - a)) (triples f g h l)
  unfolding without_places
  triples-without a b l order =
      let both : 3 * b ≡ 3 * a + 3 * (b - a) = omega arith in
      triples-append (take a l) (drop b l) ∙ rw (triples-take a l, triples-drop b l, both) refl

  -- the three numbers of entry k, and what follows them
  drop-triples : (k : ℕ) (l : List Entry) → k < length l
      → drop (3 * k) (triples f g h l) ≡ f (get_or l k unused) ∷ g (get_or l k unused) ∷ h (get_or l k unused) ∷ triples f g h (drop (suc k) l)
  unfolding triples
  drop-triples k l p = sym (triples-drop k l) ∙ ap (triples f g h) (drop-cons l k unused p)

  module _ (k : ℕ) (l : List Entry) (p : k < length l) where
    number : (j : ℕ) → get_or (triples f g h l) (3 * k + j) 0 ≡ get_or (f (get_or l k unused) ∷ g (get_or l k unused) ∷ h (get_or l k unused) ∷ triples f g h (drop (suc k) l)) j 0
    number j = sym (get_or-drop (3 * k) (triples f g h l) j 0) ∙ ap (λ (r : List ℕ). get_or r j 0) (drop-triples k l p)

    pub first-number : get_or (triples f g h l) (3 * k) 0 ≡ f (get_or l k unused)
    first-number = ap (λ (n : ℕ). get_or (triples f g h l) n 0) (sym (add-zero (3 * k))) ∙ number 0

    pub second-number : get_or (triples f g h l) (3 * k + 1) 0 ≡ g (get_or l k unused)
    second-number = number 1

    pub third_number : get_or (triples f g h l) (3 * k + 2) 0 ≡ h (get_or l k unused)
    third_number = number 2

  -- numbers that stand in a row are those of the entries that are read there
  pub triples-tabulate : (m : List ℕ) (n at : ℕ) (e : ℕ → Entry) → at + 3 * n ≤ length m
      → ((k : ℕ) → f (e k) ≡ get_or m (at + 3 * k) 0)
      → ((k : ℕ) → g (e k) ≡ get_or m (at + 3 * k + 1) 0)
      → ((k : ℕ) → h (e k) ≡ get_or m (at + 3 * k + 2) 0)
      → triples f g h (tabulate n e) ≡ slice m at (3 * n)
  unfolding triples tabulate
  triples-tabulate m zero at e p s t u = refl
  triples-tabulate m (suc n) at e p s t u =
      let three : 3 * suc n ≡ suc (suc (suc (3 * n))) = omega arith in
      let one : suc at ≡ at + 1 = omega arith in
      let two : suc (suc at) ≡ at + 2 = omega arith in
      let on : (k : ℕ) → at + 3 * suc k ≡ suc (suc (suc at)) + 3 * k = λ k. omega arith in
      let rest : triples f g h (tabulate n (λ k. e (suc k))) ≡ slice m (suc (suc (suc at))) (3 * n) =
      triples-tabulate m n (suc (suc (suc at))) (λ k. e (suc k)) (omega arith)
      (λ k. s (suc k) ∙ ap (λ (i : ℕ). get_or m i 0) (on k))
      (λ k. t (suc k) ∙ ap (λ (i : ℕ). get_or m (i + 1) 0) (on k))
      (λ k. u (suc k) ∙ ap (λ (i : ℕ). get_or m (i + 2) 0) (on k)) in
      rw (three, drop-cons m at 0 (omega arith), drop-cons m (suc at) 0 (omega arith), drop-cons m (suc (suc at)) 0 (omega arith), s 0, t 0, u 0, add-zero, rest, two, one) refl
