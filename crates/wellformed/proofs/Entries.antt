-- The ranges of a well-formed entry's numbers, and when a message that is sent is a well-formed entry.
use mathlib.Core.Path.{◌≡◌, refl}
use mathlib.Core.Bool.{true, false, not, ◌||◌}
use Prim.Native.Nat.{ℕ}
use lib.Dec.{eqb}
use borrow.Author.Tests.{eq-eqb}
use Rattle.lists.specs.Lists.{between}
use Rattle.lists.proofs.Tests.{and_intro, between_intro, or_neither}
use Rattle.message.specs.Kind
use Rattle.mailbox.specs.Entry.{Entry, carried, well_formed}
use Rattle.mailbox.proofs.EntryLaws.{EntryFacts, entry-facts}

module _ (S M : ℕ) where
  -- the ranges of a well-formed entry's numbers
  module _ (e : Entry) (w : well_formed S M e ≡ true) where
    facts : EntryFacts S M e
    facts = entry-facts S M e w

    pub session-range : between 1 S e.session ≡ true
    session-range = between_intro 1 S e.session facts.session-low facts.session-high

    pub item-range : between 1 M e.item ≡ true
    item-range = between_intro 1 M e.item facts.item-low facts.item-high

    pub a-range : Kind.carries e.kind ≡ true → between 1 S e.a ≡ true
    a-range c = between_intro 1 S e.a (facts.a-low c) facts.a-high

    pub b-range : Kind.carries e.kind ≡ true → between 1 S e.b ≡ true
    b-range c = between_intro 1 S e.b (facts.b-low c) facts.b-high

  module _ (e : Entry) (kind : carried e.direction e.kind ≡ true) (session : between 1 S e.session ≡ true) (item : between 1 M e.item ≡ true) where
    -- an entry that carries no sessions
    pub plain_entry : Kind.carries e.kind ≡ false → e.a ≡ 0 → e.b ≡ 0 → well_formed S M e ≡ true
    unfolding well_formed
    plain_entry c a b =
        let other = (or_neither (eqb e.kind Kind.probe || eqb e.kind Kind.clean) (eqb e.kind Kind.abort) c).1 in
        and_intro (and_intro (and_intro (and_intro kind session) item) (rw (c) (and_intro (eq-eqb e.a 0 a) (eq-eqb e.b 0 b)))) (rw (other) refl)

    -- one that carries two
    pub pair_entry : Kind.carries e.kind ≡ true → between 1 S e.a ≡ true → between 1 S e.b ≡ true
        → not (eqb e.kind Kind.abort) || eqb e.a e.session ≡ true → well_formed S M e ≡ true
    unfolding well_formed
    pair_entry c a b d = and_intro (and_intro (and_intro (and_intro kind session) item) (rw (c) (and_intro a b))) d
