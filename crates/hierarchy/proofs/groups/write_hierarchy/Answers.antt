-- `hierarchy::groups::write_hierarchy` meets its contract: heads and steps are found, both buffers tested, and then
-- both written.
-- Assumes nothing.
use Rattle.std.proofs.Common.{arith}
use Rattle.hierarchy.proofs.Outcomes.{heads_short, steps_short, hierarchy_done}
use Rattle.hierarchy.proofs.groups.write_hierarchy.Goals as goal

pub returns-then-heads-marks : goal.returns-then-heads-marks
returns-then-heads-marks c = heads_short c.requires c.if-heads-marks.true

pub returns-then-steps-size : goal.returns-then-steps-size
returns-then-steps-size c =
    steps_short (rw c.of-found.ensures at c.list_steps-count.ensures.noted) c.if-steps-size.true

pub returns : goal.returns
returns c =
    hierarchy_done (rw c.of-found.ensures at c.bytes.ensures) c.if-heads-marks.false c.copy_from_slice.ensures.after
    (omega arith)
    (rw c.of-found.ensures at c.list_steps-count.ensures.noted) c.if-steps-size.false c.copy_from_slice-2.ensures.after
