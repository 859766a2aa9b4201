-- What hierarchy and ladder still owe where only 8 may be due.
-- Assumes nothing.
use Rattle.std.specs.Prelude.{◌⊎◌, List, [], ◌∷◌, ℕ, ◌<◌}
use Rattle.order.specs.Tables.{Sound}
use Rattle.promise.specs.Calls.{Counted}
use Rattle.promise.specs.Calls.{started, Call, TooShort}
use Rattle.promise.specs.Refusals.{no_room}
use Rattle.promise.specs.Hierarchy.{Under, HeadsOf, StepBytes, hierarchy, LadderOf, ladder}
use Rattle.standing.specs.Left.{left}

-- hierarchy, where none of the refusals 1 to 4 and 7 is due
abbrev pub hierarchy_left : ℕ → List ℕ → List ℕ → List ℕ → Call (Counted × (List ℕ × List ℕ))
hierarchy_left n t heads steps =
    left (no_room (TooShort (HeadsOf n t) heads ⊎ TooShort (StepBytes n t) steps) ∷ [])
    (hierarchy (started n) t heads steps)

-- a sound table and two of its classes, a under b
pub record HasLadder (n : ℕ) (t : List ℕ) (a b : ℕ) : Type 0 where
  pub sound : Sound n t
  pub lower_below : a < n
  pub upper_below : b < n
  pub under : Under n t a b

-- ladder, where there is one
abbrev pub ladder_left : ℕ → List ℕ → ℕ → ℕ → List ℕ → Call (Counted × List ℕ)
ladder_left n t a b out = left (no_room (TooShort (LadderOf n t a b) out) ∷ []) (ladder (started n) t a b out)
