-- `lines::text::put_line` meets its contract: each part stands behind the one before it.
-- Assumes nothing.
use Rattle.buffers.proofs.Placing.{put_then}
use Rattle.lines.proofs.text.put_line.Goals as goal

pub returns : goal.returns
returns c =
    put_then c.put_announced-behind.ensures
    (put_then c.put_announced-behind-2.ensures c.put_byte.ensures)
