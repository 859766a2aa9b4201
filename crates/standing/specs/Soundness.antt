-- What the soundness test looks at: every mark, the diagonal, and the rows of the two classes of each pair.
-- Assumes nothing.
use Rattle.std.specs.Prelude.{◌≡◌, ◌≢◌, Bool, true, false, ◌&&◌, ◌||◌, not, List, ℕ, ◌*◌, ◌≤◌, ◌<◌, eqb, get_or}
use Rattle.order.specs.Tables.{mark}

-- the n*n marks are 0, 1 or 2
pub record SmallMarks (n : ℕ) (t : List ℕ) : Type 0 where
  pub at : (i : ℕ) → i < n * n → get_or t i 0 ≤ 2

-- the diagonal is yes
pub record DiagonalYes (n : ℕ) (t : List ℕ) : Type 0 where
  pub at : (a : ℕ) → a < n → mark n t a a ≡ 1

-- what soundness asks of a pair (a, b) where one class is marked x in the row of a and y in the row of b. A yes pair:
-- if b is under the class so is a, and if a is not under it neither is b. An open pair: b is not under it if a is not.
abbrev pub Asks : Bool → ℕ → ℕ → Type 0
Asks true x y = (y ≡ 1 → x ≡ 1) × (x ≡ 2 → y ≡ 2)
Asks false x y = y ≡ 1 → x ≢ 2

-- the test of it: true where it does not hold
abbrev pub against : Bool → ℕ → ℕ → Bool
against true x y = (eqb y 1 && not (eqb x 1)) || (eqb x 2 && not (eqb y 2))
against false x y = eqb y 1 && eqb x 2

-- what soundness asks of a yes pair, or of an open one, at every class
pub record RowsAgree (n : ℕ) (t : List ℕ) (yes_pair : Bool) (a b : ℕ) : Type 0 where
  pub at : (c : ℕ) → c < n → Asks yes_pair (mark n t a c) (mark n t b c)

-- what soundness asks of a pair
pub record PairStands (n : ℕ) (t : List ℕ) (a b : ℕ) : Type 0 where
  pub yes_pair : mark n t a b ≡ 1 → RowsAgree n t true a b
  pub open_pair : mark n t a b ≡ 0 → RowsAgree n t false a b

-- what soundness asks of a class and each class
pub record ClassStands (n : ℕ) (t : List ℕ) (a : ℕ) : Type 0 where
  pub pairs : (b : ℕ) → b < n → PairStands n t a b
