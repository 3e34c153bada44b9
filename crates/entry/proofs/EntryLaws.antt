-- Laws of an entry: what its form and its route tell of its numbers.
use mathlib.Core.Path.{◌≡◌, refl}
use mathlib.Core.Bool.{Bool, true, false, not, cond, ◌&&◌, ◌||◌}
use mathlib.Core.Logic.{◌⊎◌, inl, inr, ⊎_elim}
use Prim.Native.Nat.{ℕ, ◌≤◌}
use native.Mathlib.Omega.{arith}
use lib.Dec.{eqb}
use borrow.Author.Tests.{eqb-true, eq-eqb}
use Rattle.lists.specs.Lists.{between}
use Rattle.lists.proofs.Tests.{and_both, within}
use Rattle.message.specs.Kind
use Rattle.entry.specs.Entry.{Entry, to_item, to_session, on_route, carried, well_formed}

or_cases : (a b : Bool) → (a || b) ≡ true → (a ≡ true) ⊎ (b ≡ true)
or_cases true b e = inl refl
or_cases false b e = inr e

-- a kind and its direction
pub record Carried (d k : ℕ) : Type 0 where
  pub direction : (d ≡ to_item) ⊎ (d ≡ to_session)
  pub low : Kind.request ≤ k
  pub high : k ≤ Kind.withdrawn
  pub item : d ≡ to_item → k ≤ Kind.withdraw
  pub session : d ≡ to_session → (k ≡ Kind.probe) ⊎ ((k ≡ Kind.clean) ⊎ (Kind.grant ≤ k))

carried-item : (d k : ℕ) → (eqb d to_item && between Kind.request Kind.withdraw k) ≡ true → Carried d k
carried-item d k e =
    let at : d ≡ to_item = eqb-true d to_item (and_both (eqb d to_item) (between Kind.request Kind.withdraw k) e).0 in
    let range = (and_both (eqb d to_item) (between Kind.request Kind.withdraw k) e).1 in
    let low = (within Kind.request Kind.withdraw k range).0 in
    let high = (within Kind.request Kind.withdraw k range).1 in
    record { direction = inl at; low = low; high = omega arith; item = λ _. high; session = λ q. absurd (omega arith) }

carried-session : (d k : ℕ) → (eqb d to_session && (eqb k Kind.probe || eqb k Kind.clean || between Kind.grant Kind.withdrawn k)) ≡ true → Carried d k
carried-session d k e =
    let kinds = eqb k Kind.probe || eqb k Kind.clean || between Kind.grant Kind.withdrawn k in
    let at : d ≡ to_session = eqb-true d to_session (and_both (eqb d to_session) kinds e).0 in
    let made : Kind.request ≤ k → k ≤ Kind.withdrawn → (k ≡ Kind.probe) ⊎ ((k ≡ Kind.clean) ⊎ (Kind.grant ≤ k)) → Carried d k =
    λ low high s. record { direction = inr at; low = low; high = high; item = λ q. absurd (omega arith); session = λ _. s } in
    ⊎_elim
    (λ both.
    ⊎_elim
    (λ q. let p = eqb-true k Kind.probe q in made (omega arith) (omega arith) (inl p))
    (λ q. let p = eqb-true k Kind.clean q in made (omega arith) (omega arith) (inr (inl p)))
    (or_cases (eqb k Kind.probe) (eqb k Kind.clean) both))
    (λ range.
    let low = (within Kind.grant Kind.withdrawn k range).0 in
    made (omega arith) (within Kind.grant Kind.withdrawn k range).1 (inr (inr low)))
    (or_cases (eqb k Kind.probe || eqb k Kind.clean) (between Kind.grant Kind.withdrawn k) (and_both (eqb d to_session) kinds e).1)

pub carried-facts : (d k : ℕ) → carried d k ≡ true → Carried d k
carried-facts d k e =
    ⊎_elim (carried-item d k) (carried-session d k)
    (or_cases (eqb d to_item && between Kind.request Kind.withdraw k) (eqb d to_session && (eqb k Kind.probe || eqb k Kind.clean || between Kind.grant Kind.withdrawn k)) e)

-- the numbers of a well-formed entry
pub record EntryFacts (S M : ℕ) (e : Entry) : Type 0 where
  pub kinds : Carried e.direction e.kind
  pub session-low : 1 ≤ e.session
  pub session-high : e.session ≤ S
  pub item-low : 1 ≤ e.item
  pub item-high : e.item ≤ M
  pub a-low : Kind.carries e.kind ≡ true → 1 ≤ e.a
  pub a-high : e.a ≤ S
  pub b-low : Kind.carries e.kind ≡ true → 1 ≤ e.b
  pub b-high : e.b ≤ S
  pub plain : Kind.carries e.kind ≡ false → (e.a ≡ 0) × (e.b ≡ 0)
  pub addressed : e.kind ≡ Kind.abort → e.a ≡ e.session

-- two numbers that the kind carries or not
pub record Pair (p : Bool) (S a b : ℕ) : Type 0 where
  pub a-low : p ≡ true → 1 ≤ a
  pub a-high : a ≤ S
  pub b-low : p ≡ true → 1 ≤ b
  pub b-high : b ≤ S
  pub plain : p ≡ false → (a ≡ 0) × (b ≡ 0)

pair_facts : (p : Bool) (S a b : ℕ) → cond p (between 1 S a && between 1 S b) (eqb a 0 && eqb b 0) ≡ true → Pair p S a b
pair_facts true S a b e =
    let f = (and_both (between 1 S a) (between 1 S b) e).0 in
    let g = (and_both (between 1 S a) (between 1 S b) e).1 in
    record {
      a-low = λ _. (within 1 S a f).0;
      a-high = (within 1 S a f).1;
      b-low = λ _. (within 1 S b g).0;
      b-high = (within 1 S b g).1;
      plain = λ q. absurd (let z : ◌≡◌ {A = ℕ} 0 1 = cc in omega arith);
    }
pair_facts false S a b e =
    let f = eqb-true a 0 (and_both (eqb a 0) (eqb b 0) e).0 in
    let g = eqb-true b 0 (and_both (eqb a 0) (eqb b 0) e).1 in
    record {
      a-low = λ q. absurd (let z : ◌≡◌ {A = ℕ} 0 1 = cc in omega arith);
      a-high = omega arith;
      b-low = λ q. absurd (let z : ◌≡◌ {A = ℕ} 0 1 = cc in omega arith);
      b-high = omega arith;
      plain = λ _. (f, g);
    }

addressed-fact : (k a t : ℕ) → (not (eqb k Kind.abort) || eqb a t) ≡ true → k ≡ Kind.abort → a ≡ t
addressed-fact k a t e q = eqb-true a t (rw (eq-eqb k Kind.abort q) at e)

pub entry-facts : (S M : ℕ) (e : Entry) → well_formed S M e ≡ true → EntryFacts S M e
unfolding well_formed
entry-facts S M e w =
    let kinds = carried e.direction e.kind in
    let session = between 1 S e.session in
    let item = between 1 M e.item in
    let numbers = cond (Kind.carries e.kind) (between 1 S e.a && between 1 S e.b) (eqb e.a 0 && eqb e.b 0) in
    let abort = not (eqb e.kind Kind.abort) || eqb e.a e.session in
    let four = (and_both (kinds && session && item && numbers) abort w).0 in
    let three = (and_both (kinds && session && item) numbers four).0 in
    let two = (and_both (kinds && session) item three).0 in
    let s = (and_both kinds session two).1 in
    let i = (and_both (kinds && session) item three).1 in
    let n = pair_facts (Kind.carries e.kind) S e.a e.b (and_both (kinds && session && item) numbers four).1 in
    record {
      kinds = carried-facts e.direction e.kind (and_both kinds session two).0;
      session-low = (within 1 S e.session s).0;
      session-high = (within 1 S e.session s).1;
      item-low = (within 1 M e.item i).0;
      item-high = (within 1 M e.item i).1;
      a-low = n.a-low;
      a-high = n.a-high;
      b-low = n.b-low;
      b-high = n.b-high;
      plain = n.plain;
      addressed = addressed-fact e.kind e.a e.session (and_both (kinds && session && item && numbers) abort w).1;
    }

-- the three numbers of an entry's route
pub record OnRoute (d t x : ℕ) (e : Entry) : Type 0 where
  pub direction : e.direction ≡ d
  pub session : e.session ≡ t
  pub item : e.item ≡ x

pub route-facts : (direction t x : ℕ) (e : Entry) → on_route direction t x e ≡ true → OnRoute direction t x e
route-facts direction t x e q =
    let last = and_both (eqb e.direction direction && eqb e.session t) (eqb e.item x) q in
    let front = and_both (eqb e.direction direction) (eqb e.session t) last.0 in
    record {
      direction = eqb-true e.direction direction front.0;
      session = eqb-true e.session t front.1;
      item = eqb-true e.item x last.1;
    }
