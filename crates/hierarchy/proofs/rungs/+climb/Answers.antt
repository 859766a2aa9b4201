-- `hierarchy::rungs::climb` meets its contract.
-- Assumes nothing.
use Rattle.std.proofs.Common.{ℕ}
use Rattle.promise.proofs.Ladder.{to_go, rung_falls}
use Rattle.hierarchy.proofs.Climbing.{Beyond, beyond_none, beyond_next, climbed, not_climbed, next_reached}
use Rattle.hierarchy.proofs.rungs.+climb.Goals as goal
use Rattle.hierarchy.proofs.rungs.+climb.Goals.{Joined-rung-head, then-rung-head, else-rung-head}

pub climb-count-requires : goal.climb-count-requires
climb-count-requires t c =
    let a = c.args in
    let m = a.heads.now.marks in
    let sound = a.heads.now.found.sound in
    let r = c.next_rung-next.ensures in
    let left = to_go m.classes m.bytes.now a.goal in
    let falls = rung_falls m.classes m.bytes.now sound r (left c.next_rung-next.result).1 (left a.rung).1 in
    (rw c.decreases at falls, next_reached sound c.requires c.head.ensures r)

-- both ways to the last test know the rungs beyond this one
beyond :
    (t : ℕ) (c : Joined-rung-head t)
    → let a = c.args in
    let m = a.heads.now.marks in
    Beyond m.classes m.bytes.now a.goal a.rung a.before a.rungs.now c.if-rung-head.count c.if-rung-head.rungs
beyond t c =
    elim c.if-rung-head.branch [
      | then-rung-head w ↦ rw (w.count-is, w.rungs-is) (beyond_none (rw (← w.if-rung-head.true) at c.head.ensures))
      | else-rung-head w ↦
          rw (w.count-is, w.rungs-is)
          (beyond_next w.next_rung-next.ensures w.climb-count.ensures w.climb-count.auto.rungs)
    ]

pub returns-then-count-rungs : goal.returns-then-count-rungs
returns-then-count-rungs t c =
    climbed (beyond t (goal.at.returns-then-count-rungs t c).Joined-rung-head) c.if-count-rungs.true

pub returns-else-count-rungs : goal.returns-else-count-rungs
returns-else-count-rungs t c =
    not_climbed (beyond t (goal.at.returns-else-count-rungs t c).Joined-rung-head) c.if-count-rungs.false
