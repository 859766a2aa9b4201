-- `reading::read` meets its contract: the fields from here on follow all of them.
-- Assumes nothing.
use Rattle.std.proofs.Common.{arith, refl, eqb-true, sym}
use Rattle.std.proofs.lemmas.List.{take_rest}
use Rattle.std.proofs.lemmas.Result.{err_from_is_err_and}
use Rattle.reading.proofs.Following.{some_number}
use Rattle.reading.proofs.Advance.{read_empty, book_refused, fields_next, book_read}
use Rattle.reading.proofs.read.Goals as goal

pub returns-then-is_empty : goal.returns-then-is_empty
returns-then-is_empty c = read_empty _ _ (eqb-true _ _ (sym c.if-is_empty.ensures))

pub returns-in_err-session : goal.returns-in_err-session
returns-in_err-session c =
    let e = err_from_is_err_and c.from_residual.result c.from_residual.ensures.1 in
    rw (e.1, e.2)
    (book_refused c.loop-at.invariant c.loop-at-test.true (rw take_rest at c.in_err-session.ensures) (some_number _))

pub loop-at-preserved : goal.loop-at-preserved
loop-at-preserved c =
    fields_next c.loop-at.invariant c.loop-at-test.true (rw take_rest at c.in_ok-session.ensures) _
    (let e = rw take_rest at c.length.ensures.0 in omega arith) refl

pub returns : goal.returns
returns c = book_read c.loop-at.invariant c.loop-at-test.false
