-- `replay::replay` meets its contract: the calls so far were made.
-- Assumes nothing.
use Rattle.std.proofs.Common.{take}
use Rattle.replay.proofs.Replays.{MadeSoFar}
use Rattle.replay.proofs.replay.Given as goal

abbrev pub invariant-loop-intake : goal.invariant-loop-intake
invariant-loop-intake l =
    MadeSoFar l.initial.session l.initial.table (take l.intake-index l.history) l.session l.table
