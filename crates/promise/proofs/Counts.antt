-- Calls that count: two outcomes for one input are equal, there is one, a buffer keeps its length, and calls are alike
-- that are to write the same, given that what is to be written is fixed and there.
-- Assumes nothing.
use mathlib.Core.Path.{◌≡◌, refl, sym, ◌∙◌, ap}
use mathlib.Core.Logic.{◌↔◌}
use mathlib.Core.List.{List, [], ◌∷◌, ◌++◌}
use Prim.Native.Nat.{ℕ, ◌≤◌, ◌<◌}
use native.Mathlib.Decide.{ℕ_discrete, dec_lt}
use native.Mathlib.Omega.{arith}
use lib.ListN.{length, drop, length-append, length-drop}
use Rattle.order.specs.Tables.{opens}
use Rattle.promise.specs.Refusals.{Condition, First}
use Rattle.promise.specs.declared.Session.{Session}
use Rattle.promise.specs.Calls.{Counted}
use Rattle.promise.specs.Calls.Counted.{Count}
use Rattle.promise.specs.Calls.{Owed, count_number, open_pairs, over, TooShort, writes, count_for}
use Rattle.promise.proofs.Refusals.{Alike}
use Rattle.promise.proofs.Standing.{standing_there}
use Rattle.promise.proofs.Calls.{Fixed, owed_unique, owed_there, CallsAlike}

-- a buffer that is long enough keeps its length
pub over_fits : (w out : List ℕ) → length w ≤ length out → length (over w out) ≡ length out
over_fits w out h = omega (arith, length-append w (drop (length w) out), length-drop (length w) out)

pub over_length :
    (P : List ℕ → Type 0) (w out : List ℕ) → P w → ¬ TooShort P out → length (over w out) ≡ length out
over_length P w out p room = go (dec_lt (length out) (length w))
  where
    go : Dec (length out < length w) → length (over w out) ≡ length out
    go (yes h) = absurd (room (w, p, h))
    go (no h) = over_fits w out (omega arith)

-- an empty part of a buffer is lent, so nothing is written
pub lent_none : (l out : List ℕ) → length l ≡ 0 → l ++ out ≡ out
lent_none [] out e = refl
lent_none (x ∷ l) out e = absurd (omega arith)

module _ (refusals : List Condition) (P : List ℕ → Type 0) (out : List ℕ) where
  pub writes_fixed : (First refusals 0 → (u v : List ℕ) → P u → P v → u ≡ v) → Fixed (writes refusals P out)
  writes_fixed unique f o o₂ d d₂ =
      d.2 ∙ ap (λ (w : List ℕ). (Count (length w), over w out)) (unique f d.0 d₂.0 d.1 d₂.1) ∙ sym d₂.2

  unfoldable pub writes_there :
      (k : ℕ) × First refusals k → (First refusals 0 → (w : List ℕ) × P w)
      → (o : Counted × List ℕ) × Owed (writes refusals P out) o
  writes_there first made =
      owed_there (writes refusals P out) (λ k. refl) first (λ f.
      let w = made f in ((Count (length w.0), over w.0 out), refl, (w.0, w.1, refl)))

  -- accepted, what P has is counted, and written to the front
  pub writes_wrote :
      {c : ℕ} {out' : List ℕ} → Owed (writes refusals P out) (Count c, out')
      → (w : List ℕ) × P w × (c ≡ length w) × (out' ≡ over w out)
  writes_wrote h =
      let d = h.done refl in (
        d.0,
        d.1,
        ap (λ (o : Counted × List ℕ). (count_for o.0).count) d.2,
        ap (λ (o : Counted × List ℕ). o.1) d.2,
      )

  -- the length of a buffer stays
  pub writes_length :
      (First refusals 0 → ¬ TooShort P out) → {o : Counted × List ℕ} → Owed (writes refusals P out) o
      → length o.1 ≡ length out
  writes_length room {o} h = go (ℕ_discrete (count_number o.0) 0)
    where
      go : Dec (count_number o.0 ≡ 0) → length o.1 ≡ length out
      go (yes e) =
          let d = h.done e in
          ap (λ (x : Counted × List ℕ). length x.1) d.2
          ∙ over_length P d.0 out d.1 (room (rw e at h.number))
      go (no e) = ap (λ (x : Counted × List ℕ). length x.1) (h.refused e)

-- what is to be written decides whether a buffer is too short, and what is owed

pub short_alike :
    (P P₂ : List ℕ → Type 0) (out : List ℕ) → ((w : List ℕ) → P w ↔ P₂ w) → TooShort P out ↔ TooShort P₂ out
short_alike P P₂ out same =
    (λ z. (z.0, (same z.0).0 z.1, z.2), λ z. (z.0, (same z.0).1 z.1, z.2))

pub writes_alike :
    (refusals refusals₂ : List Condition) (P P₂ : List ℕ → Type 0) (out : List ℕ) → Alike refusals refusals₂
    → (First refusals 0 → (w : List ℕ) → P w → P₂ w) → CallsAlike (writes refusals P out) (writes refusals₂ P₂ out)
writes_alike refusals refusals₂ P P₂ out alike same =
    record {
      refusals = alike;
      number = λ _. refl;
      refused = λ _. refl;
      done = λ f o d. (d.0, same f d.0 d.1, d.2);
    }

-- how many pairs are open

pub open_pairs_fixed : (s : Session) (t : List ℕ) → Fixed (open_pairs s t)
open_pairs_fixed s t f r r₂ d d₂ = d ∙ sym d₂

pub open_pairs_unique : (s : Session) (t : List ℕ) {r r₂ : Counted} → Owed (open_pairs s t) r → Owed (open_pairs s t) r₂
    → r ≡ r₂
open_pairs_unique s t = owed_unique (open_pairs s t) (open_pairs_fixed s t)

unfoldable pub open_pairs_there : (s : Session) (t : List ℕ) → (r : Counted) × Owed (open_pairs s t) r
open_pairs_there s t =
    owed_there (open_pairs s t) (λ k. refl) (standing_there [] s t (λ st. (0, refl))) (λ f.
    (Count (opens s.classes t), refl, refl))
