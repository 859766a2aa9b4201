-- `lines::report` meets its contract: the lines stand one behind the other.
-- Assumes nothing.
use Rattle.std.proofs.Common.{refl, sym, ◌∙◌, arith, length-append}
use Rattle.buffers.proofs.Decimals.{decimal_longest}
use Rattle.lines.proofs.Saying.{counts_short, reported_settled, reported_open}
use Rattle.lines.proofs.report.Goals as goal

pub put_line-requires : goal.put_line-requires
put_line-requires c = simp length-append (grind (arith, decimal_longest))

pub put_counts-behind-requires : goal.put_counts-behind-requires
put_counts-behind-requires c =
    let ready = rw c.in-Ok.is at c.requires in
    let short = counts_short _ _ c.opened-pairs.result (ready.stands refl) c.opened-pairs.ensures in
    simp length-append (omega arith)

pub put_settled-requires : goal.put_settled-requires
put_settled-requires c =
    let ready = rw c.in-Ok.is at c.requires in
    let short = counts_short _ _ c.opened-pairs.result (ready.stands refl) c.opened-pairs.ensures in
    record {
      stands = ready.stands refl;
      none_open = sym c.opened-pairs.ensures ∙ c.if-pairs-eq0.true;
      heads_room = ready.heads_room;
      steps_room = ready.steps_room;
      text_room = omega (arith, simp length-append at c.put_counts-behind.ensures.ends);
    }

pub put_question-requires : goal.put_question-requires
put_question-requires c =
    let ready = rw c.in-Ok.is at c.requires in
    let short = counts_short _ _ c.opened-pairs.result (ready.stands refl) c.opened-pairs.ensures in
    (ready.stands refl, omega arith, omega (arith, simp length-append at c.put_counts-behind.ensures.ends))

pub returns-then-pairs-eq0 : goal.returns-then-pairs-eq0
returns-then-pairs-eq0 c =
    rw c.in-Ok.is
    (reported_settled c.opened-pairs.ensures c.put_counts-behind.ensures c.if-pairs-eq0.true c.put_settled.ensures)

pub returns-else-pairs-eq0 : goal.returns-else-pairs-eq0
returns-else-pairs-eq0 c =
    rw c.in-Ok.is (reported_open c.opened-pairs.ensures c.put_counts-behind.ensures c.put_question.ensures)
