-- `book::writing::write_fields` meets its contract: each field stands right behind the one before it.
-- Assumes nothing.
use Rattle.std.proofs.Common.{arith}
use Rattle.book.proofs.Books.{field_end, book_put}
use Rattle.book.proofs.writing.write_fields.Goals as goal

pub write_field-requires : goal.write_field-requires
write_field-requires c =
    record {
      pairs = c.requires.no_pairs;
      listed = c.requires.no_listed;
      room = omega (arith, field_end c.write_field-behind.ensures c.requires.yes_listed);
    }

pub returns : goal.returns
returns c =
    book_put c.write_head-contents.ensures c.put_byte-facts.ensures c.write_field-behind.ensures c.write_field.ensures
