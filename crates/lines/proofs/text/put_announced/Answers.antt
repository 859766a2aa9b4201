-- `lines::text::put_announced` meets its contract: the number stands behind the bytes.
-- Assumes nothing.
use Rattle.buffers.proofs.Placing.{put_then}
use Rattle.lines.proofs.text.put_announced.Goals as goal

pub returns : goal.returns
returns c = put_then c.put_bytes-behind.ensures c.put_number.ensures
