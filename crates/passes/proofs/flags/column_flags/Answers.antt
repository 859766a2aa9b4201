-- `passes::flags::column_flags` meets its contract: each flag is what the test of its class said.
-- Assumes nothing.
use Rattle.std.proofs.Common.{rules}
use Rattle.passes.proofs.flags.column_flags.Goals as goal

pub returns : goal.returns
returns c = record { at = λ x l. let said = c.flags_of.ensures x l in search rules }
