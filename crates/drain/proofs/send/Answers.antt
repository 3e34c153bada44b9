-- The two tests, the places, and what is added.
use mathlib.Core.Path.{◌≡◌, refl, sym, ◌∙◌}
use mathlib.Core.Bool.{true, false, true≢false, false≢true}
use mathlib.Core.List.{map}
use Prim.Native.Nat.{ℕ}
use lib.ListN.{length, length-map}
use Rattle.mailbox.specs.Entry.{sent}
use Rattle.drain.specs.Parts.{longer, fits}
use Rattle.drain.proofs.Gaps.{filled-spent, filled-left}
use Rattle.drain.proofs.send.Goals as goal

pub returns-then-not-has_room : goal.returns-then-not-has_room
returns-then-not-has_room c =
    let none : fits (longer c.args.gap) (length c.args.out.now) c.args.mail.now ≡ false = sym c.has_room.ensures ∙ c.if-not-has_room.true in
    record { refusal = rw none refl; made = rw none refl; stays = λ _. (refl, refl); spent = λ q. absurd (false≢true q); added = λ q. absurd (false≢true q) }

pub returns-then-not-allowed : goal.returns-then-not-allowed
returns-then-not-allowed c =
    let fit : fits (longer c.args.gap) (length c.args.out.now) c.args.mail.now ≡ true = sym c.has_room.ensures ∙ c.if-not-has_room.false in
    record { refusal = rw fit refl; made = rw (fit, c.if-not-allowed.true) refl; stays = λ _. (refl, refl); spent = λ q. absurd (false≢true q); added = λ q. absurd (false≢true q) }

pub make_places-made-requires : goal.make_places-made-requires
make_places-made-requires c = (c.requires.0, c.requires.1, sym c.has_room.ensures ∙ c.if-not-has_room.false)

pub post-requires : goal.post-requires
post-requires c = let p = c.make_places-made.ensures in record { kept = p.spent.kept; fits = p.free }

pub returns : goal.returns
returns c =
    let m = c.args.mail.now in
    let n : ℕ = length c.args.out.now in
    let f = sent c.args.direction c.args.party in
    let p = c.make_places-made.ensures in
    let fit : fits (longer c.args.gap) n m ≡ true = sym c.has_room.ensures ∙ c.if-not-has_room.false in
    let count : length (map f c.args.out.now) ≡ n = length-map c.args.out.now f in
    record {
      refusal = rw fit refl;
      made = rw (fit, c.if-not-allowed.false) refl;
      stays = λ q. absurd (true≢false q);
      spent = λ _. (filled-spent (longer c.args.gap) n _ m _ p (map f c.args.out.now) count c.post.ensures, p.front);
      added = λ _. filled-left (longer c.args.gap) n _ m _ p (map f c.args.out.now) count c.post.ensures;
    }
