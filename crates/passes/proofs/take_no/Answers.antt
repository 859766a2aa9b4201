-- `passes::take_no` meets its contract: one pass.
-- Assumes nothing.
use Rattle.passes.proofs.Passes.{no_taken}
use Rattle.passes.proofs.take_no.Goals as goal

pub returns : goal.returns
returns c =
    no_taken c.requires c.row_flags-above_c.ensures c.column_flags-under_d.ensures
    c.spread.ensures
