-- Lines of a table as flags, and a pass over the pairs of two of them.
-- Assumes nothing.
use Rattle.std.specs.Prelude.{◌≡◌, ◌↔◌, ◌⊎◌, Bool, List, ℕ, ◌<◌, length, get_or}
use Rattle.order.specs.Tables.{mark, SameRest}
use Rattle.promise.specs.Clips.{Flagged}

-- of the classes below n, those of P are flagged
pub record FlagsOf (n : ℕ) (P : ℕ → Type 0) (flags : List Bool) : Type 0 where
  pub at : (x : ℕ) → x < n → Flagged flags x ↔ P x

-- a mark, now m', was m: it is v where P holds, and as before where not
abbrev pub Becomes : Type 0 → ℕ → ℕ → ℕ → Type 0
Becomes P v m m' = (P × (m' ≡ v)) ⊎ ((¬ P) × (m' ≡ m))

-- every flagged byte of a row has become v, and every other is as before
pub record RowMarked (flags : List Bool) (v : ℕ) (row row' : List ℕ) : Type 0 where
  pub size : length row ≡ length row'
  pub each :
      (y : ℕ) → y < length row → Becomes (Flagged flags y) v (get_or row y 0) (get_or row' y 0)

-- every pair of P has become v, every other is marked as before, and no byte from n*n on is changed
pub record Spread (n : ℕ) (P : ℕ → ℕ → Type 0) (v : ℕ) (t t' : List ℕ) : Type 0 where
  pub each : (x y : ℕ) → x < n → y < n → Becomes (P x y) v (mark n t x y) (mark n t' x y)
  pub rest : SameRest n t t'
