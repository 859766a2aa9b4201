-- What the functions on members say of one class and of flags.
-- Assumes nothing.
use Rattle.std.specs.Prelude.{◌≡◌, ◌↔◌, Bool, List, ℕ, ◌<◌}
use Rattle.order.specs.Tables.{mark}
use Rattle.promise.specs.Clips.{Flagged}

-- a is marked as under members only
pub record UnderMembers (n : ℕ) (t : List ℕ) (played : List Bool) (a : ℕ) : Type 0 where
  pub at : (b : ℕ) → b < n → mark n t a b ≡ 1 → Flagged played b

-- the same flags are set
pub record SameFlags (flags other : List Bool) : Type 0 where
  pub at : (a : ℕ) → Flagged flags a ↔ Flagged other a
