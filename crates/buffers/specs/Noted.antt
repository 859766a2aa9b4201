-- Pairs of classes counted one by one, and written two bytes each.
-- Assumes nothing.
use Rattle.std.specs.Prelude.{◌≡◌, List, [], ◌∷◌, ℕ, ◌+◌, ◌≤◌, ◌<◌, length}
use Rattle.order.specs.Tables.{Pair, bytes_of}
use Rattle.buffers.specs.Placed.{Placed}

-- the pair stands at index at, if there is room for it; if not, no byte is changed
pub record PairPut (at a b : ℕ) (out out' : List ℕ) : Type 0 where
  pub put : at + 2 ≤ length out → Placed (a ∷ b ∷ []) at out out'
  pub kept : length out < at + 2 → out' ≡ out

-- the pairs of l were counted, and they were written to the front of out if it has room for all of them
pub record Noted (out : List ℕ) (l : List Pair) (count : ℕ) (out' : List ℕ) : Type 0 where
  pub counted : count ≡ length l
  pub size : length out' ≡ length out
  pub written : length (bytes_of l) ≤ length out → Placed (bytes_of l) 0 out out'
