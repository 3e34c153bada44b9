-- `next` gives the lowest member first; the empty mask has none.
use Rattle.bitset.proofs.Laws.{bits_none}
use Rattle.bitset.proofs.MembersIterator.next.Goals as goal

pub returns-then-self-eq0-clause-steps : goal.returns-then-self-eq0-clause-steps
returns-then-self-eq0-clause-steps c =
    rw c.if-self-eq0.true (bits_none 64 1, bits_none 64 1)
