-- `hierarchy::groups::hierarchy` meets its contract.
-- Assumes nothing.
use Rattle.std.proofs.Common.{refl, sym, ◌∙◌}
use Rattle.promise.proofs.Standing.{stood}
use Rattle.hierarchy.proofs.Outcomes.{hierarchy_left_owed}
use Rattle.hierarchy.proofs.groups.hierarchy.Goals as goal

pub write_hierarchy-requires : goal.write_hierarchy-requires
write_hierarchy-requires c =
    let h = c.in_ok-marks.ensures in
    rw (h.marks.classes, h.marks.bytes) (stood _ _ 0 h.first refl).sound

pub returns : goal.returns
returns c =
    let h = c.in_ok-marks.ensures in
    let m = h.marks in
    hierarchy_left_owed h.first
    (rw (m.classes, m.bytes) at (sym c.count_open.ensures ∙ c.if-count_open-ne0.false))
    (rw (m.classes, m.bytes) at c.write_hierarchy.ensures)
