-- Flags made from a function of the class.
-- Assumes nothing.
use mathlib.Core.Path.{◌≡◌}
use mathlib.Core.Logic.{◌↔◌}
use mathlib.Core.Bool.{Bool, true, false}
use mathlib.Core.List.{List}
use Prim.Native.Nat.{ℕ, zero, suc, ◌+◌, ◌≤◌, ◌<◌}
use native.Mathlib.Decide.{ℕ_discrete}
use native.Mathlib.Omega.{arith}
use denote.Param.Members.{Mut, Called}
use Rattle.std.specs.Array.{IsFromFnResult, IsFromFnResultFrom}
use Rattle.promise.specs.Clips.{Flagged}
use Rattle.passes.specs.Spread.{FlagsOf}

-- the calls that made the flags say of each class below n whether P holds of it, and change nothing
abbrev pub Says :
    {F : Type 0} {g : Mut F (ℕ × Unit {0}) Bool} {f : F} {flags : List Bool} {m : ℕ} → IsFromFnResult g f flags m
    → ℕ → (ℕ → Type 0) → Type 0
Says {F} {g} {f} _ n P =
    (x : ℕ) (b : Bool) (f' : F) → x < n → Called g f (x, tt) b f' → ((b ≡ true) ↔ P x) × (f' ≡ f)

module _
    {F : Type 0} {g : Mut F (ℕ × Unit {0}) Bool} {f : F} {flags : List Bool} {m : ℕ}
    (made : IsFromFnResult g f flags m) {n : ℕ} (P : ℕ → Type 0) (says : Says made n P) where
  -- the k calls from i on
  calls :
      (k i : ℕ) → IsFromFnResultFrom g f flags i k → (x : ℕ) → i ≤ x → x < i + k → x < n → Flagged flags x ↔ P x
  calls zero i h x l r hx = absurd (omega arith)
  calls (suc k) i h x l r hx =
      let here : ((h.1 ≡ true) ↔ P i) × (h.0 ≡ f) = says i h.1 h.0 (omega arith) h.3 in
      let later : IsFromFnResultFrom g f flags (i + 1) k = rw here.1 at h.4 in
      elim (ℕ_discrete x i) [
        | yes e ↦ rw (e, h.2.1 false) here.0
        | no d ↦ calls k (i + 1) later x (omega arith) (omega arith) hx
      ]

  pub flags_of : n ≤ m → FlagsOf n P flags
  flags_of few = record { at = λ x l. calls m 0 made.each x (omega arith) (omega arith) l }
