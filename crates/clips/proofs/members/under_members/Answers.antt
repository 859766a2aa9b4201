-- `clips::members::under_members` meets its contract.
-- Assumes nothing.
use Rattle.std.proofs.Common.{rules, arith, false}
use Rattle.std.proofs.lemmas.Iterator.{YieldsList-from_slice, YieldsList-from_zip}
use Rattle.std.proofs.lemmas.Iterator.Consumers.{fold_from_yields_List}
use Rattle.clips.proofs.Seen.{row_closed}
use Rattle.clips.proofs.members.under_members.Goals as goal

pub returns : goal.returns
returns c =
    let row = c.row.result.now in
    let played = c.args.played.now in
    row_closed row c.row.ensures (omega (arith, c.args.marks.now.shape.few))
    (fold_from_yields_List _ _ false _ c.fold.ensures.ran
    (YieldsList-from_zip (YieldsList-from_slice row cc) (YieldsList-from_slice played cc))
    (λ a x b q k. search rules))
