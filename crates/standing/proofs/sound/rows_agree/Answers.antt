-- `standing::sound::rows_agree` meets its contract.
-- Assumes nothing.
use Rattle.std.proofs.Common.{rules, false}
use Rattle.std.proofs.lemmas.Iterator.{YieldsList-from_slice, YieldsList-from_zip}
use Rattle.std.proofs.lemmas.Iterator.Consumers.{fold_from_yields_List}
use Rattle.standing.proofs.Clear.{rows_clear}
use Rattle.standing.proofs.sound.rows_agree.Goals as goal

pub returns : goal.returns
returns c =
    let row_a = c.row.result.now in
    let row_b = c.row-2.result.now in
    rows_clear row_a row_b c.row.ensures c.row-2.ensures
    (fold_from_yields_List _ _ false _ c.fold.ensures.ran
    (YieldsList-from_zip (YieldsList-from_slice row_a cc) (YieldsList-from_slice row_b cc))
    (λ a x b q k. search rules))
