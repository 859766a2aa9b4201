-- `standing::sound::marks_small` meets its contract.
-- Assumes nothing.
use Rattle.std.proofs.Common.{rules, false}
use Rattle.std.proofs.lemmas.Iterator.{YieldsList-from_slice}
use Rattle.std.proofs.lemmas.Iterator.Consumers.{fold_from_yields_List}
use Rattle.standing.proofs.Clear.{marks_clear}
use Rattle.standing.proofs.sound.marks_small.Goals as goal

pub returns : goal.returns
returns c =
    let marks = c.all.result.now in
    marks_clear marks c.all.ensures
    (fold_from_yields_List _ _ false _ c.fold.ensures.ran (YieldsList-from_slice marks cc) (λ a x b q k. search rules))
