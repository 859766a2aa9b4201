-- The heads that were found: the lowest class equal to a class, the heads of all, and which classes are heads.
-- Assumes nothing.
use Rattle.std.proofs.Common.{◌≢◌, ◌+◌, ◌≤◌, ◌<◌, ℕ, List, length, get_or, arith, Option, Some, None}
use Rattle.std.proofs.Common.{set, get_or-set_other, get_or-set_same, below_more}
use Rattle.std.specs.Option.{MatchOption, unwrap_or}
use native.Mathlib.Decide.{dec_lt}
use Rattle.order.specs.Tables.{Sound}
use Rattle.promise.specs.Hierarchy.{Equal, HeadOf}

-- the first class below a that is equal to a, or a itself
pub first_equal :
    {n : ℕ} {t : List ℕ} {a : ℕ} (r : Option ℕ) → Sound n t → a < n
    → MatchOption r ((k : ℕ) → 0 ≤ k → k < a → ¬ Equal n t a k)
    (λ i. (0 ≤ i) × (i < a) × Equal n t a i × ((k : ℕ) → 0 ≤ k → k < i → ¬ Equal n t a k))
    → HeadOf n t a (unwrap_or r a)
first_equal {n} {t} {a} None sound below none =
    let same = sound.diagonal a below in
    record { below = below; equal = (same, same); lowest = λ c _ e. go c e (dec_lt c a) }
  where
    go : (c : ℕ) → Equal n t a c → Dec (c < a) → a ≤ c
    go c e (yes l) = absurd (none c (omega arith) l e)
    go c e (no l) = omega arith
first_equal {n} {t} {a} (Some i) sound below (_, least, equal, none) =
    record { below = omega arith; equal = equal; lowest = λ c _ e. go c e (dec_lt c i) }
  where
    go : (c : ℕ) → Equal n t a c → Dec (c < i) → i ≤ c
    go c e (yes l) = absurd (none c (omega arith) l e)
    go c e (no l) = omega arith

-- what holds of each item below i, and of what is stored there, holds of each below i + 1
pub stored_more :
    {X : Type 0} (P : ℕ → X → Type 0) (xs : List X) (i : ℕ) (x d : X) → i < length xs
    → ((k : ℕ) → k < i → P k (get_or xs k d)) → P i x → (k : ℕ) → k < i + 1 → P k (get_or (set xs i x) k d)
stored_more P xs i x d below before here =
    below_more (λ k. P k (get_or (set xs i x) k d)) i
    (λ k l. let other : k ≢ i = omega arith in rw get_or-set_other (before k l))
    (rw get_or-set_same here)
