-- `fresh_marks` meets its contract: the diagonal is yes as far as it was passed, and no other mark is settled.
-- Assumes nothing.
use mathlib.Core.Path.{◌≡◌}
use mathlib.Core.Logic.{◌≢◌}
use mathlib.Core.List.{List}
use Prim.Native.Nat.{ℕ, ◌<◌}
use Rattle.order.specs.Tables.{mark, SameRest}
use Rattle.marks.proofs.fresh.fresh_marks.Given as goal

-- the diagonal before i is yes, every other mark open, and no byte from n*n on changed
pub record Diagonal (n i : ℕ) (t u : List ℕ) : Type 0 where
  pub rest : SameRest n t u
  pub on : (a : ℕ) → a < i → mark n u a a ≡ 1
  pub off : (a b : ℕ) → a < n → b < n → a ≢ b → mark n u a b ≡ 0

abbrev pub invariant-loop-a : goal.invariant-loop-a
invariant-loop-a l = Diagonal l.n l.a l.fn.table l.table
