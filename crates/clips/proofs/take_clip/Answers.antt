-- `clips::take_clip` meets its contract: the two refusals of the call itself, then one pass.
-- Assumes nothing.
use Rattle.std.proofs.Common.{refl}
use Rattle.order.proofs.Decide.{stable}
use Rattle.promise.proofs.Standing.{stood}
use Rattle.promise.proofs.Clips.{dec_beyond, dec_clip_contradicts}
use Rattle.marks.proofs.Answers.{refuted, affirmed}
use Rattle.clips.proofs.Taken.{clip_beyond, clip_contradicted, clip_taken}
use Rattle.clips.proofs.take_clip.Goals as goal

pub returns-then-not-none_beyond : goal.returns-then-not-none_beyond
returns-then-not-none_beyond c =
    clip_beyond (stood _ _ 0 c.requires refl)
    (stable (dec_beyond _ _) (refuted c.if-not-none_beyond.true c.none_beyond.ensures))

pub returns-then-not-none_contradicts : goal.returns-then-not-none_contradicts
returns-then-not-none_contradicts c =
    clip_contradicted (stood _ _ 0 c.requires refl) (affirmed c.if-not-none_beyond.false c.none_beyond.ensures)
    (stable (dec_clip_contradicts _ _ _) (refuted c.if-not-none_contradicts.true c.none_contradicts.ensures))

pub returns : goal.returns
returns c =
    clip_taken (stood _ _ 0 c.requires refl) (affirmed c.if-not-none_beyond.false c.none_beyond.ensures)
    (affirmed c.if-not-none_contradicts.false c.none_contradicts.ensures) c.non_members-others.ensures c.spread.ensures
