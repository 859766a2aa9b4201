-- `steps::thirds::add_row` meets its contract: the flags passed have the row added.
-- Assumes nothing.
use Rattle.std.proofs.Common.{◌≡◌, ◌≤◌, ◌<◌, ℕ, false, ◌||◌, length, get_or, nat_eq}
use Rattle.order.specs.Tables.{mark}
use Rattle.steps.proofs.thirds.add_row.Given as goal

abbrev pub invariant-loop-b : goal.invariant-loop-b
invariant-loop-b l =
    record {
      size : length l.thirds ≡ 128;
      done :
          (k : ℕ) → k < l.b
          → get_or l.thirds k false
          ≡ (get_or l.fn.thirds k false || nat_eq (mark l.marks.classes l.marks.bytes.now l.c k) 1);
      rest : (k : ℕ) → l.b ≤ k → get_or l.thirds k false ≡ get_or l.fn.thirds k false;
    }
