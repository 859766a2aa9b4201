-- The measure of `hierarchy::rungs::climb`: how many heads stand above the rung and under the goal.
-- Assumes nothing.
use Rattle.promise.proofs.Ladder.{to_go}
use Rattle.hierarchy.proofs.rungs.+climb.Given as goal

abbrev pub decreases-climb : goal.decreases-climb
decreases-climb l = let m = l.heads.now.marks in (to_go m.classes m.bytes.now l.goal l.rung).0
