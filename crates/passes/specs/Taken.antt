-- A fact taken in: what it needs of the table, and what it leaves.
-- Assumes nothing.
use Rattle.std.specs.Prelude.{◌≡◌, List, ℕ, ◌<◌}
use Rattle.order.specs.Facts.{Fact, ◌with◌}
use Rattle.order.specs.Tables.{mark, Sound, TableOf, Marks, SameRest}
use Rattle.marks.specs.Shape.{Shape}

-- (a, b) is an open pair of a sound table: a fact on it may be taken in
pub record OpenPair (n : ℕ) (t : List ℕ) (a b : ℕ) : Type 0 where
  pub shape : Shape n t
  pub sound : Sound n t
  pub lower_below : a < n
  pub upper_below : b < n
  pub is_open : mark n t a b ≡ 0

-- the fact has been taken in: the marks are those of the table before and of the fact, and no byte from n*n on is
-- changed
pub record FactTaken (n : ℕ) (f : Fact) (t t' : List ℕ) : Type 0 where
  pub marks : TableOf n (Marks n t with f) t'
  pub rest : SameRest n t t'
