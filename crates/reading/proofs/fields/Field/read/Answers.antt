-- `reading::fields::Field::read` meets its contract: a class count by fresh, facts one by one.
-- Assumes nothing.
use Rattle.std.proofs.lemmas.Result.{err_from_is_err_and}
use Rattle.reading.specs.Parts.{FieldRight}
use Rattle.reading.proofs.Following.{field_refused, field_right, count_taken, count_followed, facts_begun}
use Rattle.reading.proofs.Following.{facts_whole, facts_followed}
use Rattle.reading.proofs.fields.Field.read.Goals as goal
use Rattle.reading.proofs.fields.Field.read.Goals.{In_ok-placed}

-- the field is not refused
right : (c : In_ok-placed) → let a = c.args in FieldRight a.stage a.self.now.bytes.now c.in_ok-placed.field-0
right c =
    let a = c.args in
    field_right a.self.now.place a.session c.contents.result c.in_ok-placed.ensures c.contents.ensures

pub returns-in_err-placed : goal.returns-in_err-placed
returns-in_err-placed c =
    let a = c.args in
    let e = err_from_is_err_and c.from_residual.result c.from_residual.ensures.1 in
    rw (e.1, e.2)
    (field_refused a.self.now.place a.session _ c.contents.result c.in_err-placed.ensures c.contents.ensures)

pub returns-in-Classes : goal.returns-in-Classes
returns-in-Classes c =
    let count = rw c.in-Classes.is at (right (goal.at.returns-in-Classes c).In_ok-placed) in
    rw c.placed-in-Classes.ensures (count_followed count c.byte.ensures (count_taken _ c.fresh-begun.ensures))

pub follow-requires : goal.follow-requires
follow-requires c =
    let facts = rw c.in-Facts.is at (right (goal.at.follow-requires c).In_ok-placed) in
    record { whole = facts_whole facts; within = facts.within; stands = c.requires (facts_begun facts) }

pub returns-in-Facts : goal.returns-in-Facts
returns-in-Facts c =
    let facts = rw c.in-Facts.is at (right (goal.at.returns-in-Facts c).In_ok-placed) in
    facts_followed facts c.follow.ensures
