-- Flags: whether one is set is decided, and one that is set is there; and what flags that are bytes are.
-- Assumes nothing.
use mathlib.Core.Path.{◌≡◌, refl, sym, ap}
use mathlib.Core.Logic.{◌↔◌, ◌≢◌}
use mathlib.Core.Bool.{Bool, true, false}
use mathlib.Core.List.{List, [], ◌∷◌}
use Prim.Native.Nat.{ℕ, zero, suc, ◌≤◌, ◌<◌}
use native.Mathlib.Omega.{arith}
use lib.ListN.{get_or, length}
use Rattle.order.proofs.Sets.{yes_not_no}
use Rattle.promise.specs.Clips.{truth_of, Flagged, flags_of}

unfoldable pub dec_set : (b : Bool) → Dec (b ≡ true)
dec_set true = yes refl
dec_set false = no (λ e. yes_not_no (sym e))

unfoldable pub dec_flagged : (flags : List Bool) (a : ℕ) → Dec (Flagged flags a)
dec_flagged flags a = dec_set (get_or flags a false)

pub flag_there : (flags : List Bool) (a : ℕ) → Flagged flags a → a < length flags
flag_there [] a e = absurd (yes_not_no (sym e))
flag_there (b ∷ flags) zero e = omega arith
flag_there (b ∷ flags) (suc a) e = let l = flag_there flags a e in omega arith

pub flag_behind : (flags : List Bool) (a : ℕ) → length flags ≤ a → false ≡ get_or flags a false
flag_behind [] a h = refl
flag_behind (b ∷ flags) zero h = absurd (omega arith)
flag_behind (b ∷ flags) (suc a) h = flag_behind flags a (omega arith)

-- the flag of a class is the truth of its byte
pub flag_read : (bytes : List ℕ) (a : ℕ) → get_or (flags_of bytes) a false ≡ truth_of (get_or bytes a 0)
flag_read [] a = refl
flag_read (byte ∷ bytes) zero = refl
flag_read (byte ∷ bytes) (suc a) = flag_read bytes a

truth_set : (byte : ℕ) → (truth_of byte ≡ true) ↔ (byte ≢ 0)
truth_set zero = (λ e. absurd (yes_not_no (sym e)), λ z. absurd (z refl))
truth_set (suc k) = (λ _ e. omega arith, λ _. refl)

-- so the flag of a class is set exactly where its byte is there and not 0
pub flag_set : (bytes : List ℕ) (a : ℕ) → Flagged (flags_of bytes) a ↔ (get_or bytes a 0 ≢ 0)
flag_set bytes a = rw (flag_read bytes a) (truth_set (get_or bytes a 0))

-- there are as many flags as bytes
pub flags_length : (bytes : List ℕ) → length (flags_of bytes) ≡ length bytes
flags_length [] = refl
flags_length (byte ∷ bytes) = ap suc (flags_length bytes)
