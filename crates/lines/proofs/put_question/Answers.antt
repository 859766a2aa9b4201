-- `lines::put_question` meets its contract: next asks, and the line of the pair asked about fits.
-- Assumes nothing.
use Rattle.std.proofs.Common.{arith}
use Rattle.lines.proofs.Saying.{asks, question_short}
use Rattle.lines.proofs.put_question.Goals as goal

pub unwrap-asked-requires : goal.unwrap-asked-requires
unwrap-asked-requires c = asks _ _ c.unwrap.result c.requires.1 (rw c.unwrap.ensures at c.next.ensures)

pub put_line-requires : goal.put_line-requires
put_line-requires c =
    let owed = rw (c.unwrap.ensures, c.unwrap-asked.ensures) at c.next.ensures in
    omega (arith, c.requires.2, question_short _ _ c.unwrap-asked.result c.requires.0 owed)
