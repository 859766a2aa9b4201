-- `book::writing::write_field` meets its contract: the pairs are written, and then the head before them.
-- Assumes nothing.
use Rattle.book.proofs.Books.{field_put}
use Rattle.book.proofs.writing.write_field.Goals as goal

pub returns : goal.returns
returns c = field_put c.requires c.list_marked-count.ensures c.write_head.ensures
