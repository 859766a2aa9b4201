-- What the functions on tables need of class count and bytes, and what they say of one mark.
-- Assumes nothing.
use Rattle.std.specs.Prelude.{◌≡◌, List, ℕ, ◌+◌, ◌*◌, ◌≤◌, ◌<◌, length, get_or}
use Rattle.order.specs.Tables.{mark, Fresh, SameRest}

-- at most 128 classes, and room for their marks
pub record Shape (n : ℕ) (t : List ℕ) : Type 0 where
  pub few : n ≤ 128
  pub room : n * n ≤ length t

-- i is where the mark of (a, b) stands
pub record IndexOf (n a b i : ℕ) : Type 0 where
  pub is : i ≡ a * n + b
  pub below : i < n * n

-- the row of class a: its marks, one for each class
pub record RowOf (n : ℕ) (t : List ℕ) (a : ℕ) (row : List ℕ) : Type 0 where
  pub size : length row ≡ n
  pub at : (b : ℕ) → b < n → get_or row b 0 ≡ mark n t a b

-- the n*n marks, row after row
pub record AllOf (n : ℕ) (t marks : List ℕ) : Type 0 where
  pub size : length marks ≡ n * n
  pub at : (i : ℕ) → i < n * n → get_or marks i 0 ≡ get_or t i 0

-- the fresh table, with no byte from n*n on changed
pub record MadeFresh (n : ℕ) (t t' : List ℕ) : Type 0 where
  pub marks : Fresh n t'
  pub rest : SameRest n t t'
