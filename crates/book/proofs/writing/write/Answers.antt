-- `book::writing::write` meets its contract: it is refused where the table is, and what is left to owe is owed.
-- Assumes nothing.
use Rattle.std.proofs.lemmas.Result.{err_from_is_err_and}
use Rattle.book.proofs.Books.{write_refused, write_left_owed}
use Rattle.book.proofs.writing.write.Goals as goal

pub returns-in_err-marks : goal.returns-in_err-marks
returns-in_err-marks c =
    let e = err_from_is_err_and c.from_residual.result c.from_residual.ensures.1 in
    rw (e.1, e.2) (write_refused _ _ _ c.in_err-marks.field-0.0 c.in_err-marks.ensures.first)

pub returns : goal.returns
returns c =
    let of = c.in_ok-marks.ensures.marks in
    write_left_owed _ _ _ c.in_ok-marks.ensures.first (rw (of.classes, of.bytes) at c.write_book.ensures)
