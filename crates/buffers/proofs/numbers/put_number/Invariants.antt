-- `buffers::numbers::put_number` meets its contract: behind the digits that are left stand the others.
-- Assumes nothing.
use Rattle.std.proofs.Common.{ℕ, ◌≡◌, ◌-◌, ◌≤◌, List, ◌++◌}
use Rattle.buffers.specs.Placed.{Put}
use Rattle.buffers.specs.Decimal.{decimal}
use Rattle.buffers.proofs.Decimals.{last_digits}
use Rattle.buffers.proofs.numbers.put_number.Given as goal

-- the digits of rest are still to be put before index left; those of the number behind them stand there
pub record Left (number at behind : ℕ) (out₀ out : List ℕ) (left rest : ℕ) : Type 0 where
  pub above : at ≤ left
  pub others : List ℕ
  pub whole : decimal number ≡ last_digits (left - at) rest ++ others
  pub put : Put others left out₀ behind out

abbrev pub invariant-loop-left : goal.invariant-loop-left
invariant-loop-left l = Left l.number l.at l.behind l.fn.out l.out l.left l.rest
