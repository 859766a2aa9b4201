-- `clips::members::none_beyond` meets its contract.
-- Assumes nothing.
use Rattle.std.proofs.Common.{rules, tests}
use Rattle.std.proofs.lemmas.Iterator.{YieldsList-from_slice}
use Rattle.std.proofs.lemmas.Iterator.Adapters.{YieldsList-from_skip}
use Rattle.std.proofs.lemmas.Iterator.Search.{any_from_yields_List}
use Rattle.clips.proofs.Seen.{none_set}
use Rattle.clips.proofs.members.none_beyond.Goals as goal

pub returns : goal.returns
returns c =
    none_set
    (any_from_yields_List (λ b. b) _ _ c.any.result c.any.ensures.ran
    (YieldsList-from_skip c.args.n (YieldsList-from_slice c.args.played.now cc) cc)
    (λ x b q k. search (rules, tests)))
