-- The mailbox by routes: what taking and sending leave of each route.
use mathlib.Core.Path.{◌∙◌, ◌≡◌, ap, refl, sym}
use mathlib.Core.Bool.{Bool, beq, cond, false, not, true, and-false, and-true}
use mathlib.Core.List.{[], ◌++◌, ◌∷◌, List}
use mathlib.Core.Logic.{◌≢◌}
use Prim.Native.Nat.{◌+◌, ◌≤◌, ℕ}
use native.Mathlib.Omega.{arith}
use lib.Dec.{eqb}
use borrow.Author.Tests.{eqb-true, ne_eqb}
use Rattle.lists.proofs.Tests.{and_both, eqb_self}
use Rattle.deadlock.specs.Lists.{bit}
use Rattle.deadlock.specs.Machine.{Entry, from_item, from_session, is_on_route, Message, no_entry, put_back, route, Sends, take_first, taken, Taken}
use Rattle.deadlock.specs.Counts.{count_behind, count_kind, kind_of, sent_to}

pub countKind-append : (k : ℕ) (l m : List Message) → count_kind k (l ++ m) ≡ count_kind k l + count_kind k m
unfolding count_kind
countKind-append k [] m = omega arith
countKind-append k (b ∷ l) m = omega (arith, countKind-append k l m)

pub countBehind-le : (a b : ℕ) (l : List Message) → count_behind a b l ≤ count_kind b l
unfolding count_kind count_behind
countBehind-le a b [] = omega arith
countBehind-le a b (m ∷ l) = cases (eqb (kind_of m) a) (countBehind-le a b l)
  where
    cases : (t : Bool) → count_behind a b l ≤ count_kind b l → cond t (count_kind b l) (count_behind a b l) ≤ bit (eqb (kind_of m) b) + count_kind b l
    cases true h = omega arith
    cases false h = omega arith

pub countBehind-none : (a b : ℕ) (l m : List Message) → count_kind b m ≡ 0 → count_behind a b (l ++ m) ≡ count_behind a b l
unfolding count_kind count_behind
countBehind-none a b [] m h = omega (arith, countBehind-le a b m)
countBehind-none a b (x ∷ l) m h = cases (eqb (kind_of x) a) (countBehind-none a b l m h)
  where
    cases : (t : Bool) → count_behind a b (l ++ m) ≡ count_behind a b l
        → cond t (count_kind b (l ++ m)) (count_behind a b (l ++ m)) ≡ cond t (count_kind b l) (count_behind a b l)
    cases true ih = omega (arith, countKind-append b l m)
    cases false ih = ih

pub countBehind-first : (a b : ℕ) (l m : List Message) → count_kind a l ≡ 0 → count_behind a b (l ++ m) ≡ count_behind a b m
unfolding count_kind count_behind
countBehind-first a b [] m h = refl
countBehind-first a b (x ∷ l) m h = cases (eqb (kind_of x) a) (countBehind-first a b l m) h
  where
    cases : (t : Bool) → (count_kind a l ≡ 0 → count_behind a b (l ++ m) ≡ count_behind a b m) → bit t + count_kind a l ≡ 0
        → cond t (count_kind b (l ++ m)) (count_behind a b (l ++ m)) ≡ count_behind a b m
    cases true ih h = absurd (omega arith)
    cases false ih h = ih (omega arith)

-- ---- routes
pub route-append : (d : Bool) (t x : ℕ) (l m : List Entry) → route d t x (l ++ m) ≡ route d t x l ++ route d t x m
unfolding route
route-append d t x [] m = refl
route-append d t x (e ∷ l) m = cases (is_on_route d t x e) (route-append d t x l m)
  where
    cases : (b : Bool) → route d t x (l ++ m) ≡ route d t x l ++ route d t x m
        → cond b (e.message ∷ route d t x (l ++ m)) (route d t x (l ++ m)) ≡ cond b (e.message ∷ route d t x l) (route d t x l) ++ route d t x m
    cases true ih = ap (λ (q : List Message). e.message ∷ q) ih
    cases false ih = ih

-- two routes that share no entry
unfoldable pub Apart : Bool → ℕ → ℕ → Bool → ℕ → ℕ → Type 0
Apart d t x d' t' x' = (e : Entry) → is_on_route d t x e ≡ true → is_on_route d' t' x' e ≡ false

-- what is taken from a route is its head; the other routes keep theirs
pub take_same : (d : Bool) (t x : ℕ) (l : List Entry) (m : Message) (r : List Entry) → take_first d t x l ≡ taken m r → route d t x l ≡ m ∷ route d t x r
unfolding route take_first put_back
take_same d t x [] m r e = cc
take_same d t x (a ∷ l) m r e = cases (is_on_route d t x a) refl (take_first d t x l) refl (take_same d t x l) e
  where
    cases : (b : Bool) → is_on_route d t x a ≡ b → (o : Taken) → take_first d t x l ≡ o
        → ((m : Message) (r : List Entry) → take_first d t x l ≡ taken m r → route d t x l ≡ m ∷ route d t x r)
        → cond b (taken a.message l) (put_back a o) ≡ taken m r
        → cond b (a.message ∷ route d t x l) (route d t x l) ≡ m ∷ route d t x r
    cases true h o q ih e = cc
    cases false h no_entry q ih e = cc
    cases false h (taken m' r') q ih e = cc (ih m' r' q)

pub take-other : (d : Bool) (t x : ℕ) (d' : Bool) (t' x' : ℕ) → Apart d t x d' t' x'
    → (l : List Entry) (m : Message) (r : List Entry) → take_first d t x l ≡ taken m r → route d' t' x' l ≡ route d' t' x' r
unfolding route take_first put_back Apart
take-other d t x d' t' x' ap [] m r e = cc
take-other d t x d' t' x' ap (a ∷ l) m r e = cases (is_on_route d t x a) refl (take_first d t x l) refl (take-other d t x d' t' x' ap l) e
  where
    cases : (b : Bool) → is_on_route d t x a ≡ b → (o : Taken) → take_first d t x l ≡ o
        → ((m : Message) (r : List Entry) → take_first d t x l ≡ taken m r → route d' t' x' l ≡ route d' t' x' r)
        → cond b (taken a.message l) (put_back a o) ≡ taken m r
        → route d' t' x' (a ∷ l) ≡ route d' t' x' r
    cases true h o q ih e = cc (ap a h)
    cases false h no_entry q ih e = cc
    cases false h (taken m' r') q ih e = cc (ih m' r' q)

beq-not : (d e : Bool) → beq d e ≡ true → beq (not d) e ≡ false
beq-not true true h = refl
beq-not true false h = sym h
beq-not false true h = sym h
beq-not false false h = refl

module _ (t x t' x' : ℕ) where
  pub apart-direction : (d : Bool) → Apart d t x (not d) t' x'
  unfolding Apart is_on_route
  apart-direction d e g = rw (beq-not d e.to_item (and_both (beq d e.to_item) _ g).0)

  pub apart-session : (d d' : Bool) → t ≢ t' → Apart d t x d' t' x'
  unfolding Apart is_on_route
  apart-session d d' h e g =
      let q : t ≡ e.session = eqb-true t e.session (and_both _ (eqb x e.item) (and_both (beq d e.to_item) _ g).1).0 in
      rw (ne_eqb t' e.session (λ k. h (q ∙ sym k)), and-false)

  pub apart-item : (d d' : Bool) → x ≢ x' → Apart d t x d' t' x'
  unfolding Apart is_on_route
  apart-item d d' h e g =
      let q : x ≡ e.item = eqb-true x e.item (and_both (eqb t e.session) _ (and_both (beq d e.to_item) _ g).1).1 in
      rw (ne_eqb x' e.item (λ k. h (q ∙ sym k)), and-false, and-false)

pub fromSession-own : (t x : ℕ) (l : Sends) → route true t x (from_session t l) ≡ sent_to x l
unfolding route from_session sent_to is_on_route
fromSession-own t x [] = refl
fromSession-own t x (p ∷ l) = rw (eqb_self t, fromSession-own t x l)

pub fromSession-other : (t t' x : ℕ) (l : Sends) → t' ≢ t → route true t' x (from_session t l) ≡ []
unfolding route from_session sent_to is_on_route
fromSession-other t t' x [] h = refl
fromSession-other t t' x (p ∷ l) h = rw (ne_eqb t' t h) (fromSession-other t t' x l h)

pub fromSession-down : (t t' x : ℕ) (l : Sends) → route false t' x (from_session t l) ≡ []
unfolding route from_session sent_to is_on_route
fromSession-down t t' x [] = refl
fromSession-down t t' x (p ∷ l) = fromSession-down t t' x l

pub fromItem-own : (t x : ℕ) (l : Sends) → route false t x (from_item x l) ≡ sent_to t l
unfolding route from_item sent_to is_on_route
fromItem-own t x [] = refl
fromItem-own t x (p ∷ l) = rw (eqb_self x, and-true, fromItem-own t x l)

pub fromItem-other : (t x x' : ℕ) (l : Sends) → x' ≢ x → route false t x' (from_item x l) ≡ []
unfolding route from_item sent_to is_on_route
fromItem-other t x x' [] h = refl
fromItem-other t x x' (p ∷ l) h = rw (ne_eqb x' x h, and-false) (fromItem-other t x x' l h)

pub fromItem-up : (t x x' : ℕ) (l : Sends) → route true t x' (from_item x l) ≡ []
unfolding route from_item sent_to is_on_route
fromItem-up t x x' [] = refl
fromItem-up t x x' (p ∷ l) = fromItem-up t x x' l

pub sentTo-append : (a : ℕ) (l m : Sends) → sent_to a (l ++ m) ≡ sent_to a l ++ sent_to a m
unfolding sent_to
sentTo-append a [] m = refl
sentTo-append a (p ∷ l) m = cases (eqb a p.0) (sentTo-append a l m)
  where
    cases : (b : Bool) → sent_to a (l ++ m) ≡ sent_to a l ++ sent_to a m
        → cond b (p.1 ∷ sent_to a (l ++ m)) (sent_to a (l ++ m)) ≡ cond b (p.1 ∷ sent_to a l) (sent_to a l) ++ sent_to a m
    cases true e = ap (λ (q : List Message). p.1 ∷ q) e
    cases false e = e
