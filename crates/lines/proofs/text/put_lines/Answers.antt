-- `lines::text::put_lines` meets its contract: the lines of the pairs that have come stand there.
-- Assumes nothing.
use Rattle.std.proofs.Common.{rules, arith}
use Rattle.lines.proofs.LineByLine.{line_short, line_more}
use Rattle.lines.proofs.text.put_lines.Goals as goal

pub put_line-behind-requires : goal.put_line-behind-requires
put_line-behind-requires g c =
    let short = line_short c.args.letter c.from.result c.from-in-loop-first.result (omega arith) (omega arith) in
    let left = (c.in-Some.ensures.goes.on c.loop-first.invariant.1).2 in
    omega (arith, short, left, c.loop-first.invariant.3, c.requires.room)

pub loop-first-preserved : goal.loop-first-preserved
loop-first-preserved g c =
    let short = line_short c.args.letter c.from.result c.from-in-loop-first.result (omega arith) (omega arith) in
    let left = (c.in-Some.ensures.goes.on c.loop-first.invariant.1).2 in
    let put = rw (c.from.ensures, c.from-in-loop-first.ensures) at c.put_line-behind.ensures in (
      search rules,
      search rules,
      line_more _ (c.in-Some.first, c.in-Some.second) c.loop-first.invariant.2 put,
      omega (arith, short, left, c.loop-first.invariant.3, c.put_line-behind.ensures.ends),
    )
