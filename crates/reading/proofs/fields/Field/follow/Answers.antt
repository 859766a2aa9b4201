-- `reading::fields::Field::follow` meets its contract: the facts from here on follow all of them.
-- Assumes nothing.
use Rattle.std.proofs.Common.{arith, refl, ◌+◌}
use Rattle.std.proofs.lemmas.List.{take_rest}
use Rattle.std.proofs.lemmas.Result.{err_from_is_err_and}
use Rattle.reading.proofs.Following.{some_number}
use Rattle.reading.proofs.Advance.{facts_left, refused_here, facts_next, all_followed}
use Rattle.reading.proofs.fields.Field.follow.Goals as goal

pub loop-at-init : goal.loop-at-init
loop-at-init c =
    record {
      left = facts_left c.requires.whole c.requires.within c.requires.stands;
      end = omega arith;
      step = c.width-at-step.ensures;
    }

pub returns-in_err-session : goal.returns-in_err-session
returns-in_err-session c =
    let p = rw take_rest at c.in_err-session.ensures in
    let r = err_from_is_err_and c.from_residual.result c.from_residual.ensures.1 in
    rw (r.1, r.2) (refused_here c.loop-at.invariant.left (omega arith) p (some_number _))

pub loop-at-preserved : goal.loop-at-preserved
loop-at-preserved c =
    let p = rw take_rest at c.in_ok-session.ensures in
    record {
      left = facts_next c.loop-at.invariant.left (omega arith) p _ (omega (arith, c.width-at-step.ensures)) refl;
      end = c.loop-at.invariant.end;
      step = c.loop-at.invariant.step;
    }

pub returns : goal.returns
returns c = all_followed c.loop-at.invariant.left (omega (arith, c.loop-at.invariant.end))

pub returns-in_ok-session : goal.returns-in_ok-session
returns-in_ok-session c =
    let p = rw take_rest at c.in_ok-session.ensures in
    let next = c.loop-at.at + c.width-at-step.result in
    all_followed
    (facts_next c.loop-at.invariant.left (omega arith) p next (omega (arith, c.width-at-step.ensures)) refl)
    (omega arith)
