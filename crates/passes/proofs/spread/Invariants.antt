-- `passes::spread` meets its contract: the rows that the loop has passed are marked, and the later ones as before.
-- Assumes nothing.
use mathlib.Core.Path.{◌≡◌}
use mathlib.Core.Bool.{Bool}
use mathlib.Core.List.{List}
use Prim.Native.Nat.{ℕ, ◌<◌, ◌≤◌}
use Rattle.order.specs.Tables.{mark, SameRest}
use Rattle.promise.specs.Clips.{Flagged}
use Rattle.passes.specs.Spread.{Becomes}
use Rattle.passes.proofs.spread.Given as goal

-- the flagged rows before k are marked
pub record RowsMarked (n : ℕ) (xs ys : List Bool) (v k : ℕ) (t u : List ℕ) : Type 0 where
  pub passed :
      (x : ℕ) → x < k → (y : ℕ) → y < n → Becomes (Flagged xs x × Flagged ys y) v (mark n t x y) (mark n u x y)
  pub later : (x y : ℕ) → k ≤ x → x < n → y < n → mark n u x y ≡ mark n t x y
  pub rest : SameRest n t u

abbrev pub invariant-loop-x : goal.invariant-loop-x
invariant-loop-x l = RowsMarked l.n l.xs l.ys l.v l.x l.fn.table l.table
