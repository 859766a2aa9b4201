-- `hierarchy::ladders::write_ladder` meets its contract: the climb from the head of a, written if there is room.
-- Assumes nothing.
use Rattle.hierarchy.proofs.Outcomes.{start_reached, ladder_short, ladder_done}
use Rattle.hierarchy.proofs.ladders.write_ladder.Goals as goal

pub climb-count-requires : goal.climb-count-requires
climb-count-requires c = rw c.of-heads.ensures
    (start_reached c.requires (rw c.of-heads.ensures at c.head-start.ensures))

pub returns-then-rungs-count : goal.returns-then-rungs-count
returns-then-rungs-count c =
    let climbed = c.climb-count in
    ladder_short c.requires (rw c.of-heads.ensures at c.head-start.ensures) (rw c.of-heads.ensures at climbed.ensures)
    climbed.auto.rungs c.if-rungs-count.true

pub returns : goal.returns
returns c =
    let climbed = c.climb-count in
    ladder_done c.requires (rw c.of-heads.ensures at c.head-start.ensures) (rw c.of-heads.ensures at climbed.ensures)
    climbed.auto.rungs c.if-rungs-count.false
