-- Bytes placed in a buffer, one by one, behind each other and before each other.
-- Assumes nothing.
use mathlib.Core.Path.{◌≡◌, refl, sym, ◌∙◌, ap}
use mathlib.Core.List.{List, [], ◌∷◌, ◌++◌}
use Prim.Native.Nat.{ℕ, ◌+◌, ◌-◌, ◌≤◌, ◌<◌}
use native.Mathlib.Omega.{arith}
use lib.ListN.{length, set, length-append, take-append-drop}
use Rattle.std.proofs.Common.{rules, add-one}
use Rattle.std.proofs.lemmas.List.{same_lists, places, set_split, drop-drop}
use Rattle.buffers.specs.Placed.{place, Placed, Put}

place_one : (x at : ℕ) (out : List ℕ) → at < length out → set out at x ≡ place (x ∷ []) at out
place_one x at out h = rw (set_split, drop-drop, add-one)

place_length : (w : List ℕ) (at : ℕ) (out : List ℕ) → at + length w ≤ length out → length (place w at out) ≡ length out
place_length w at out h = search (rules, places)

-- bytes placed right behind others make one run with them, whichever of the two are placed first
place_behind :
    (w x : List ℕ) (at j : ℕ) (out : List ℕ) → j ≡ at + length w → j ≤ length out
    → place x j (place w at out) ≡ place (w ++ x) at out
place_behind w x at j out e h = same_lists _ _ (search (rules, places)) (λ k d l. grind (arith, places))

place_before :
    (w x : List ℕ) (at j : ℕ) (out : List ℕ) → j ≡ at + length w → j ≤ length out
    → place w at (place x j out) ≡ place (w ++ x) at out
place_before w x at j out e h = same_lists _ _ (search (rules, places)) (λ k d l. grind (arith, places))

module _
    {w x : List ℕ} {at j : ℕ} {out out₁ out₂ : List ℕ} (next : j ≡ at + length w) (room : j ≤ length out)
  where
    pub placed_behind : Placed w at out out₁ → Placed x j out₁ out₂ → Placed (w ++ x) at out out₂
    placed_behind p q = record { bytes = rw (q.bytes, p.bytes) (place_behind w x at j out next room) }

    pub placed_before : Placed x j out out₁ → Placed w at out₁ out₂ → Placed (w ++ x) at out out₂
    placed_before p q = record { bytes = rw (q.bytes, p.bytes) (place_before w x at j out next room) }

-- nothing was put
pub put_none : {at : ℕ} {out : List ℕ} → at ≤ length out → Put [] at out at out
put_none {at} {out} h =
    record { placed = record { bytes = sym (take-append-drop at out) }; ends = omega arith; fits = h }

-- one byte was stored
pub put_one : {at : ℕ} {out : List ℕ} (x : ℕ) → at < length out → Put (x ∷ []) at out (at + 1) (set out at x)
put_one {at} {out} x h =
    record { placed = record { bytes = place_one x at out h }; ends = refl; fits = omega arith }

-- the length stays
pub put_length :
    {w : List ℕ} {at : ℕ} {out : List ℕ} {behind : ℕ} {out' : List ℕ} → Put w at out behind out'
    → length out' ≡ length out
put_length {w} {at} {out} h =
    ap (λ (u : List ℕ). length u) h.placed.bytes ∙ place_length w at out (omega (arith, h.ends, h.fits))

-- what is put right behind what was put stands there together with it
pub put_then :
    {w x : List ℕ} {at : ℕ} {out : List ℕ} {behind : ℕ} {out₁ : List ℕ} {end : ℕ} {out₂ : List ℕ}
    → Put w at out behind out₁ → Put x behind out₁ end out₂ → Put (w ++ x) at out end out₂
put_then {w} {x} first second =
    record {
      placed = placed_behind first.ends first.fits first.placed second.placed;
      ends = omega (arith, first.ends, second.ends, length-append w x);
      fits = omega (arith, second.fits, put_length first);
    }

-- and so does what is put right before it
pub put_before :
    {w x : List ℕ} {at : ℕ} {out : List ℕ} {behind : ℕ} {out₁ : List ℕ} {end : ℕ} {out₂ : List ℕ}
    → Put x behind out end out₁ → Put w at out₁ behind out₂ → Put (w ++ x) at out end out₂
put_before {w} {x} first second =
    record {
      placed =
          placed_before second.ends (omega (arith, second.fits, put_length first)) first.placed second.placed;
      ends = omega (arith, first.ends, second.ends, length-append w x);
      fits = first.fits;
    }

-- one byte was stored right before what was put
pub put_front :
    {w : List ℕ} {at : ℕ} {out : List ℕ} {behind : ℕ} {out' : List ℕ} (x : ℕ) → 0 < at → Put w at out behind out'
    → Put (x ∷ w) (at - 1) out behind (set out' (at - 1) x)
put_front {at = at} {out' = out'} x some h =
    let next : at - 1 + 1 ≡ at = omega arith in
    put_before h (rw next at (put_one {at = at - 1} {out = out'} x (omega (arith, h.ends, h.fits, put_length h))))
