-- `clips::members::none_contradicts` meets its contract.
-- Assumes nothing.
use Rattle.std.proofs.Common.{rules}
use Rattle.promise.specs.Clips.{Flagged}
use Rattle.standing.proofs.Every.{every}
use Rattle.clips.specs.Seen.{UnderMembers}
use Rattle.clips.proofs.Seen.{noes_agree}
use Rattle.clips.proofs.members.none_contradicts.Goals as goal

pub returns : goal.returns
returns c =
    let m = c.args.marks.now in
    let played = c.args.played.now in
    noes_agree
    (every m.classes (λ a. Flagged played a → UnderMembers m.classes m.bytes.now played a) c.all.ensures.ran (cc)
    (λ a r q k. search rules))
