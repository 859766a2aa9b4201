-- `passes::mark_row` meets its contract: the bytes that the loop has passed are marked, and the later ones as before.
-- Assumes nothing.
use Prim.Native.Nat.{ℕ, ◌<◌, ◌≤◌}
use mathlib.Core.Path.{◌≡◌}
use lib.ListN.{get_or}
use Rattle.promise.specs.Clips.{Flagged}
use Rattle.passes.specs.Spread.{Becomes}
use Rattle.passes.proofs.mark_row.Given as goal

abbrev pub invariant-loop-y : goal.invariant-loop-y
invariant-loop-y l =
    ((k : ℕ) → k < l.y → Becomes (Flagged l.ys k) l.v (get_or l.fn.row k 0) (get_or l.row k 0))
    × ((k : ℕ) → l.y ≤ k → get_or l.row k 0 ≡ get_or l.fn.row k 0)
