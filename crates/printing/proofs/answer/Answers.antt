-- `printing::answer` meets its contract: the marks of the table that was read are lent.
-- Assumes nothing.
use Rattle.std.proofs.Common.{◌*◌, ◌≤◌, sym, rules, arith, length-take-le}
use Rattle.std.proofs.lemmas.Result.{MatchResult-weaker}
use Rattle.printing.proofs.Readable.{Lent, few_marks, marks_ready}
use Rattle.printing.proofs.answer.Goals as goal
use Rattle.printing.proofs.answer.Goals.{After-map_or-classes}

lent : (c : After-map_or-classes) → Lent c.read-read.result c.map_or-classes.result
lent c = MatchResult-weaker c.read-read.result c.map_or-classes.ensures (λ s p. search rules) (λ _ e. e)

few : (c : After-map_or-classes) → c.map_or-classes.result * c.map_or-classes.result ≤ 16384
few c = few_marks _ _ (lent c) c.read-read.ensures

pub overflow_mul-classes : goal.overflow_mul-classes
overflow_mul-classes c = omega (arith, few c)

pub slice_bounds-report-end : goal.slice_bounds-report-end
slice_bounds-report-end c = omega (arith, few c)

pub slice_bounds-report-end-2 : goal.slice_bounds-report-end-2
slice_bounds-report-end-2 c = sym (length-take-le _ c.read-read.new.table (omega (arith, few c)))

pub report-requires : goal.report-requires
report-requires c =
    record {
      stands = marks_ready _ _ (lent (goal.at.report-requires c).After-map_or-classes) c.read-read.ensures;
      heads_room = c.requires.heads_room;
      steps_room = c.requires.steps_room;
      text_room = c.requires.text_room;
    }
