-- What the functions over heads and steps need, and what they leave.
-- Assumes nothing.
use Rattle.std.specs.Prelude.{List, ℕ, ◌<◌, get_or}
use Rattle.order.specs.Tables.{Sound, Pair}
use Rattle.promise.specs.Hierarchy.{HeadOf, StepsOf}
use Rattle.buffers.specs.Noted.{Noted}

-- a sound table, and the head of each of its classes
pub record HeadsFound (n : ℕ) (t heads : List ℕ) : Type 0 where
  pub sound : Sound n t
  pub at : (a : ℕ) → a < n → HeadOf n t a (get_or heads a 0)

-- the direct steps were counted, and written if there is room for all of them
abbrev pub StepsNoted : ℕ → List ℕ → List ℕ → ℕ → List ℕ → Type 0
StepsNoted n t out count out' = (l : List Pair) × StepsOf n t l × Noted out l count out'
