-- `clips::clip_bytes` meets its contract: of the flags only the members matter.
-- Assumes nothing.
use mathlib.Core.Logic.Iff
use Rattle.std.proofs.Common.{rules}
use Rattle.promise.specs.Clips.{FlagsFit}
use Rattle.promise.proofs.Clips.{clip_same_members, bytes_clip}
use Rattle.clips.proofs.clip_bytes.Goals as goal

pub returns : goal.returns
returns c =
    let fit : FlagsFit c.args.session.classes c.args.played.now = search rules in
    (bytes_clip fit).1 (clip_same_members _ _ (λ a. Iff.symm (c.flags_of.ensures.at a)) c.take_clip.ensures)
