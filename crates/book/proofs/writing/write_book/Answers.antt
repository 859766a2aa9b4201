-- `book::writing::write_book` meets its contract: the pairs are counted, the buffer tested, and then the book written.
-- Assumes nothing.
use Rattle.book.proofs.Books.{book_short, book_done}
use Rattle.book.proofs.writing.write_book.Goals as goal

pub returns-then-out-yes : goal.returns-then-out-yes
returns-then-out-yes c = book_short c.list_marked-yes.ensures c.list_marked-no.ensures c.if-out-yes.true

pub returns : goal.returns
returns c = book_done c.write_fields.ensures
