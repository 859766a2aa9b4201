-- `hierarchy::ladders::ladder` meets its contract.
-- Assumes nothing.
use Rattle.std.proofs.Common.{refl, sym, ◌∙◌}
use Rattle.promise.proofs.Standing.{stood}
use Rattle.hierarchy.specs.Left.{HasLadder}
use Rattle.hierarchy.proofs.Outcomes.{ladder_left_owed}
use Rattle.hierarchy.proofs.ladders.ladder.Goals as goal
use Rattle.hierarchy.proofs.ladders.ladder.Goals.{Else-not-under}

there_is :
    (c : Else-not-under)
    → let a = c.args in
    HasLadder a.session.classes a.table.now a.a a.b
there_is c =
    let h = c.in_ok-marks.ensures in
    let m = h.marks in
    record {
      sound = (stood _ _ 0 h.first refl).sound;
      lower_below = rw m.classes at c.if-marks-a.false;
      upper_below = rw m.classes at c.if-marks-b.false;
      under = rw (m.classes, m.bytes) at (c.under.ensures.0 c.if-not-under.false);
    }

pub write_ladder-requires : goal.write_ladder-requires
write_ladder-requires c =
    let m = c.in_ok-marks.ensures.marks in
    rw (m.classes, m.bytes) (there_is (goal.at.write_ladder-requires c).Else-not-under)

pub returns : goal.returns
returns c =
    let h = c.in_ok-marks.ensures in
    let m = h.marks in
    ladder_left_owed h.first
    (rw (m.classes, m.bytes) at (sym c.count_open.ensures ∙ c.if-count_open-ne0.false))
    (there_is (goal.at.returns c).Else-not-under)
    (rw (m.classes, m.bytes) at c.write_ladder.ensures)
