-- `steps::heads::Heads::of` meets its contract: every class passed has its head.
-- Assumes nothing.
use Rattle.std.proofs.Common.{◌≡◌, ℕ, ◌<◌, length, get_or}
use Rattle.promise.specs.Hierarchy.{HeadOf}
use Rattle.steps.proofs.heads.Heads.of.Given as goal

abbrev pub invariant-loop-a : goal.invariant-loop-a
invariant-loop-a l =
    record {
      size : length l.heads ≡ 128;
      passed : (b : ℕ) → b < l.a → HeadOf l.marks.classes l.marks.bytes.now b (get_or l.heads b 0);
    }
