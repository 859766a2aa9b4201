-- `reading::read` meets its contract: the fields from here on follow all of them.
-- Assumes nothing.
use Rattle.std.proofs.Common.{◌-◌, length}
use Rattle.reading.proofs.Advance.{FieldsLeft}
use Rattle.reading.proofs.read.Given as goal

abbrev pub invariant-loop-at : goal.invariant-loop-at
invariant-loop-at l = FieldsLeft l.book l.initial.table l.at l.stage l.session l.table

abbrev pub decreases-loop-at : goal.decreases-loop-at
decreases-loop-at l = length l.book - l.at
