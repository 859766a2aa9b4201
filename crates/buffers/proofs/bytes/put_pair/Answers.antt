-- `buffers::bytes::put_pair` meets its contract: the second byte stands behind the first.
-- Assumes nothing.
use Rattle.std.proofs.Common.{arith}
use Rattle.buffers.proofs.Placing.{put_then}
use Rattle.buffers.proofs.bytes.put_pair.Goals as goal

pub returns-then-at-out : goal.returns-then-at-out
returns-then-at-out c =
    record {
      put = λ _. (put_then c.put_byte-next.ensures c.put_byte.ensures).placed;
      kept = λ short. absurd (omega arith);
    }
