-- `session::facts::take_fact` meets its contract: a fact that the table has already is accepted.
-- Assumes nothing.
use Rattle.std.proofs.Common.{refl}
use Rattle.promise.proofs.Standing.{stood}
use Rattle.promise.proofs.Tell.{agreeing_accepted}
use Rattle.session.proofs.facts.take_fact.Goals as goal

pub returns-in-Yes-true : goal.returns-in-Yes-true
returns-in-Yes-true c =
    agreeing_accepted c.args.kind (stood _ _ 0 c.requires refl)
    (record {
      lower_below = c.if-classes-lower.false;
      upper_below = c.if-classes-upper.false;
      settled = rw c.in-Yes-true.is-1 c.in-Yes-true.ensures;
    })

pub returns-in-Yes-true-2 : goal.returns-in-Yes-true-2
returns-in-Yes-true-2 c =
    agreeing_accepted c.args.kind (stood _ _ 0 c.requires refl)
    (record {
      lower_below = c.if-classes-lower.false;
      upper_below = c.if-classes-upper.false;
      settled = rw c.in-Yes-true.is-1 c.in-Yes-true.ensures;
    })
