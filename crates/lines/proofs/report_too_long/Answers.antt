-- `lines::report_too_long` meets its contract: a line with a number of two digits and one of five fits.
-- Assumes nothing.
use Rattle.std.proofs.Common.{arith, length-append}
use Rattle.buffers.proofs.Decimals.{decimal_written}
use Rattle.lines.proofs.report_too_long.Goals as goal

pub put_line-requires : goal.put_line-requires
put_line-requires c =
    simp length-append
    (omega (
      arith,
      (decimal_written 15).short 2 (omega arith) (omega arith),
      (decimal_written 32768).short 5 (omega arith) (omega arith),
    ))
