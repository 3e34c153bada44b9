-- The bytes of a mailbox after entries are taken out, after one is added, and of an empty mailbox.
use mathlib.Core.Path.{◌≡◌, refl, sym, ap, ◌∙◌}
use mathlib.Core.List.{List, [], ◌∷◌, ◌++◌, append_assoc, map}
use Prim.Native.Nat.{ℕ, ◌+◌, ◌-◌, ◌*◌, ◌≤◌, ◌<◌}
use native.Mathlib.Numerals.{add-one}
use native.Mathlib.Omega.{arith}
use lib.ListN.{length, get_or, take, drop, replicate, length-append, length-map, replicate-append-replicate}
use lib.Seq.{take-suc, length-take-le}
use Rattle.buffer.specs.Bytes.{splice, to_bytes, padded}
use Rattle.lists.specs.Lists.{without_places}
use Rattle.lists.proofs.Laws.{length_without}
use Rattle.message.specs.declared.Message.{Message}
use Rattle.entry.specs.Entry.{Entry, width}
use Rattle.mailbox.specs.Layout.{header, count_place, route_place, body_place, routes, bodies, mail_bytes, size}
use Rattle.entry.specs.Entry.{sent}
use Rattle.buffer.proofs.Padded.{length-padded, end-within}
use Rattle.entry.proofs.Cuts.{closed_up, cut-within}
use Rattle.mailbox.proofs.Triples.{triples, routes-triples, bodies-triples, triples-append, triples-without}
use Rattle.mailbox.proofs.Laws.{framed, head, framed-second, length-routes, length-bodies}

-- the count alone is written
splice-count : (C n k : ℕ) (r q : List ℕ) → splice (framed C n r q) count_place (to_bytes 2 k) ≡ framed C k r q
unfolding splice
splice-count C n k r q = refl

-- the entries from a up to b are taken out
module _ (a b : ℕ) (l : List Entry) (order : a ≤ b) where
  routes-without : take (width * a) (routes l) ++ drop (width * a + width * (b - a)) (routes l) ≡ routes (without_places a b l)
  routes-without =
      rw (routes-triples l, routes-triples (without_places a b l)) (sym (triples-without (λ e. e.direction) (λ e. e.session) (λ e. e.item) a b l order))

  bodies-without : take (width * a) (bodies l) ++ drop (width * a + width * (b - a)) (bodies l) ≡ bodies (without_places a b l)
  bodies-without =
      rw (bodies-triples l, bodies-triples (without_places a b l)) (sym (triples-without (λ e. e.kind) (λ e. e.a) (λ e. e.b) a b l order))

-- what two cuts and a count leave
pub cut-mail : (C c a b len : ℕ) (l : List Entry) {m m₁ m₂ : List ℕ} → length l ≡ c → c ≤ C → a ≤ b → b ≤ c → len ≡ width * (c - a) → m ≡ mail_bytes C l
    → m₁ ≡ splice m (route_place a) (closed_up m (route_place a) (width * (b - a)) len)
    → m₂ ≡ splice m₁ (body_place C a) (closed_up m₁ (body_place C a) (width * (b - a)) len)
    → splice m₂ count_place (to_bytes 2 (c - (b - a))) ≡ mail_bytes C (without_places a b l)
unfolding mail_bytes
cut-mail C c a b len l {m₁ = m₁} {m₂ = m₂} size h order p s e e₁ e₂ =
    let left : List Entry = without_places a b l in
    let count : length left ≡ c - (b - a) = length_without a b l order (omega arith) ∙ ap (λ (j : ℕ). j - (b - a)) size in
    let r : List ℕ = padded (width * C) (routes left) in
    let first : m₁ ≡ framed C (length l) r (padded (width * C) (bodies l)) =
    e₁ ∙ rw (e) (cut-within (head C (length l)) (padded (width * C) (bodies l)) (width * C) (routes l) (width * a) (width * (b - a)) len (omega (arith, length-routes l)) (omega (arith, length-routes l)) (omega (arith, length-routes l)))
    ∙ ap (λ (q : List ℕ). framed C (length l) (padded (width * C) q) (padded (width * C) (bodies l))) (routes-without a b l order) in
    let at : body_place C a ≡ length (head C (length l) ++ r) + width * a =
    omega (arith, length-append (head C (length l)) r, length-padded (width * C) (routes left) (omega (arith, length-routes left))) in
    let second : m₂ ≡ framed C (length l) r (padded (width * C) (bodies left)) =
    e₂
    ∙ rw (at, first ∙ framed-second C (length l) r (padded (width * C) (bodies l))) (cut-within (head C (length l) ++ r) [] (width * C) (bodies l) (width * a) (width * (b - a)) len (omega (arith, length-bodies l)) (omega (arith, length-bodies l)) (omega (arith, length-bodies l)))
    ∙ ap (λ (q : List ℕ). (head C (length l) ++ r) ++ (padded (width * C) q ++ [])) (bodies-without a b l order)
    ∙ sym (framed-second C (length l) r (padded (width * C) (bodies left))) in
    ap (λ (q : List ℕ). splice q count_place (to_bytes 2 (c - (b - a)))) second ∙ splice-count C (length l) (c - (b - a)) r (padded (width * C) (bodies left))
    ∙ rw (count) refl

routes_add : (l : List Entry) (e : Entry) → routes l ++ (e.direction ∷ e.session ∷ e.item ∷ []) ≡ routes (l ++ (e ∷ []))
unfolding triples
routes_add l e =
    rw (routes-triples l, routes-triples (l ++ (e ∷ []))) (sym (triples-append (λ e. e.direction) (λ e. e.session) (λ e. e.item) l (e ∷ [])))

bodies_add : (l : List Entry) (e : Entry) → bodies l ++ (e.kind ∷ e.a ∷ e.b ∷ []) ≡ bodies (l ++ (e ∷ []))
unfolding triples
bodies_add l e = rw (bodies-triples l, bodies-triples (l ++ (e ∷ []))) (sym (triples-append (λ e. e.kind) (λ e. e.a) (λ e. e.b) l (e ∷ [])))

-- what a route, a body and a count leave
pub add_mail : (C n : ℕ) (l : List Entry) (e : Entry) {m m₁ m₂ : List ℕ} → length l ≡ n → n < C → m ≡ mail_bytes C l
    → m₁ ≡ splice m (route_place n) (e.direction ∷ e.session ∷ e.item ∷ [])
    → m₂ ≡ splice m₁ (body_place C n) (e.kind ∷ e.a ∷ e.b ∷ [])
    → splice m₂ count_place (to_bytes 2 (n + 1)) ≡ mail_bytes C (l ++ (e ∷ []))
unfolding mail_bytes
add_mail C n l e {m₁ = m₁} {m₂ = m₂} len h f e₁ e₂ =
    let r : List ℕ = padded (width * C) (routes (l ++ (e ∷ []))) in
    let route : List ℕ = e.direction ∷ e.session ∷ e.item ∷ [] in
    let body : List ℕ = e.kind ∷ e.a ∷ e.b ∷ [] in
    let count : length (l ++ (e ∷ [])) ≡ n + 1 = length-append l (e ∷ []) ∙ ap (λ (k : ℕ). k + 1) len in
    let here : route_place n ≡ length (head C (length l)) + length (routes l) = omega (arith, length-routes l) in
    let first : m₁ ≡ framed C (length l) r (padded (width * C) (bodies l)) =
    e₁ ∙ rw (f, here) (end-within (head C (length l)) (padded (width * C) (bodies l)) (width * C) (routes l) route (omega (arith, length-routes l)))
    ∙ ap (λ (q : List ℕ). framed C (length l) (padded (width * C) q) (padded (width * C) (bodies l))) (routes_add l e) in
    let at : body_place C n ≡ length (head C (length l) ++ r) + length (bodies l) =
    omega (arith, length-append (head C (length l)) r, length-bodies l, length-padded (width * C) (routes (l ++ (e ∷ []))) (omega (arith, length-routes (l ++ (e ∷ []))))) in
    let second : m₂ ≡ framed C (length l) r (padded (width * C) (bodies (l ++ (e ∷ [])))) =
    e₂
    ∙ rw (at, first ∙ framed-second C (length l) r (padded (width * C) (bodies l))) (end-within (head C (length l) ++ r) [] (width * C) (bodies l) body (omega (arith, length-bodies l)))
    ∙ ap (λ (q : List ℕ). (head C (length l) ++ r) ++ (padded (width * C) q ++ [])) (bodies_add l e)
    ∙ sym (framed-second C (length l) r (padded (width * C) (bodies (l ++ (e ∷ []))))) in
    ap (λ (q : List ℕ). splice q count_place (to_bytes 2 (n + 1))) second ∙ splice-count C (length l) (n + 1) r (padded (width * C) (bodies (l ++ (e ∷ []))))
    ∙ rw (count) refl

-- zeros, with C written over the first two
pub empty-mail : (C n : ℕ) → n ≡ size C → splice (replicate n 0) 0 (to_bytes 2 C) ≡ mail_bytes C []
unfolding splice mail_bytes routes bodies
empty-mail C n e =
    let parts : n ≡ header + (width * C + width * C) = omega arith in
    let left : width * C - 0 ≡ width * C = omega arith in
    rw (left, parts, ← replicate-append-replicate {A = ℕ} header (width * C + width * C) 0, ← replicate-append-replicate {A = ℕ} (width * C) (width * C) 0) refl

map-append : (d p : ℕ) (k j : List Message) → map (sent d p) (k ++ j) ≡ map (sent d p) k ++ map (sent d p) j
map-append d p [] j = refl
map-append d p (m ∷ k) j = ap (λ (l : List Entry). sent d p m ∷ l) (map-append d p k j)

-- one more of a list of messages
pub one_more : (d p i : ℕ) (k : List Message) (l : List Entry) (m : Message) → i < length k
    → (l ++ map (sent d p) (take i k)) ++ (sent d p (get_or k i m) ∷ []) ≡ l ++ map (sent d p) (take (i + 1) k)
one_more d p i k l m h =
    rw (add-one, take-suc k i m h, map-append d p (take i k) (get_or k i m ∷ []), append_assoc) refl

pub length_more : (d p i : ℕ) (k : List Message) (l : List Entry) → i ≤ length k → length (l ++ map (sent d p) (take i k)) ≡ length l + i
length_more d p i k l h = length-append l (map (sent d p) (take i k)) ∙ ap (λ (n : ℕ). length l + n) (length-map (take i k) (sent d p) ∙ length-take-le i k h)
