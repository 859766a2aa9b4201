-- `clips::members::non_members` meets its contract.
-- Assumes nothing.
use Rattle.std.proofs.Common.{rules}
use Rattle.promise.specs.Clips.{Flagged}
use Rattle.passes.proofs.FromFn.{Says, flags_of}
use Rattle.clips.proofs.members.non_members.Goals as goal

says : (c : goal.After-from_fn) → Says c.from_fn.ensures.items c.args.n (λ x. ¬ Flagged c.args.played.now x)
says _ x b f k l = search rules

pub returns : goal.returns
returns c = flags_of c.from_fn.ensures.items _ (says c) c.requires
