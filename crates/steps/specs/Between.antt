-- Third heads, found for one head a: a flag for each class.
-- Assumes nothing.
use Rattle.std.specs.Prelude.{◌≡◌, ◌↔◌, ◌≢◌, Bool, false, ◌||◌, List, ℕ, ◌<◌, eqb, get_or}
use Rattle.order.specs.Tables.{mark}
use Rattle.promise.specs.Hierarchy.{Under, Head, Third}

-- c is a head above a, and not a itself
pub record HeadAbove (n : ℕ) (t : List ℕ) (a c : ℕ) : Type 0 where
  pub head : Head n t c
  pub differ : c ≢ a
  pub under : Under n t a c

-- the flags of the classes that c is under are up, beside those that were
pub record RowAdded (n : ℕ) (t : List ℕ) (c : ℕ) (flags flags' : List Bool) : Type 0 where
  pub at : (b : ℕ) → b < n → get_or flags' b false ≡ (get_or flags b false || eqb (mark n t c b) 1)

-- the same, but the flag of c is as it was
pub record ThirdAdded (n : ℕ) (t : List ℕ) (c : ℕ) (flags flags' : List Bool) : Type 0 where
  pub at :
      (b : ℕ) → b < n
      → (get_or flags' b false ≡ false) ↔ ((get_or flags b false ≡ false) × (c ≢ b → ¬ Under n t c b))

-- the flag of a class b is down exactly where no third head stands between a and b
pub record ThirdsOf (n : ℕ) (t : List ℕ) (a : ℕ) (flags : List Bool) : Type 0 where
  pub at : (b : ℕ) → b < n → (get_or flags b false ≡ false) ↔ ((c : ℕ) → ¬ Third n t a b c)
