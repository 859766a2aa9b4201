-- `replay::replay` meets its contract: the calls so far were made.
-- Assumes nothing.
use Rattle.std.proofs.lemmas.List.{take_all}
use Rattle.replay.proofs.Replays.{none_made, one_more, all_made}
use Rattle.replay.proofs.replay.Goals as goal

pub loop-intake-init : goal.loop-intake-init
loop-intake-init c = none_made _ _

pub loop-intake-preserved : goal.loop-intake-preserved
loop-intake-preserved c =
    rw c.unwrap_or-session.ensures
    (one_more c.args.history.now _ _ c.make.result c.loop-intake-test.true c.loop-intake.invariant c.make.ensures)

pub returns : goal.returns
returns c =
    all_made c.in_ok-session.ensures
    (rw (take_all c.loop-intake.intake-index c.args.history.now c.loop-intake-test.false) at c.loop-intake.invariant)
