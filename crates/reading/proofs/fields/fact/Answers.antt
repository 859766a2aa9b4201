-- `reading::fields::fact` meets its contract.
-- Assumes nothing.
use Rattle.std.proofs.Common.{arith}
use Rattle.reading.proofs.Following.{bad_verdict_ends, fact_taken}
use Rattle.reading.proofs.fields.fact.Goals as goal

pub returns-then-verdict-gt1 : goal.returns-then-verdict-gt1
returns-then-verdict-gt1 c = bad_verdict_ends (omega (arith, c.verdict-verdict.ensures))

pub returns : goal.returns
returns c =
    rw (c.placed.ensures, ← c.verdict-verdict.ensures, ← c.kind.ensures)
    (fact_taken _ c.requires.stands c.if-verdict-gt1.false c.take_fact-taken.ensures)
