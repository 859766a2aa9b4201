-- `passes::take_yes` meets its contract: three passes over lines of the table before them.
-- Assumes nothing.
use Rattle.passes.proofs.Passes.{yes_taken}
use Rattle.passes.proofs.take_yes.Goals as goal

pub returns : goal.returns
returns c =
    yes_taken c.requires c.column_flags-under_a.ensures c.row_flags-above_b.ensures
    c.row_flags-not_above_a.ensures c.column_flags-not_under_b.ensures c.spread.ensures
    c.spread-2.ensures c.spread-3.ensures
