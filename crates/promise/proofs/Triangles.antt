-- Direct steps make no triangle, so that there are at most n * n / 4 of them; with room for so many a hierarchy is
-- written, and the room that the program keeps for them suffices.
-- Assumes nothing.
use mathlib.Core.Path.{◌≡◌, refl, sym, ap}
use mathlib.Core.Logic.{◌≢◌, ◌⊎◌, inl, inr}
use mathlib.Core.List.{List}
use Prim.Native.Nat.{ℕ, ◌*◌, ◌/◌, ◌≤◌}
use native.Mathlib.Omega.{arith}
use lib.ListN.{length}
use Rattle.order.specs.Tables.{Sound, opens, Pair}
use Rattle.promise.specs.Refusals.{First}
use Rattle.order.proofs.Pairs.{length_bytes}
use Rattle.promise.specs.declared.Session.{Session}
use Rattle.promise.specs.Calls.{Counted}
use Rattle.promise.specs.Calls.{Owed, count_number, TooShort}
use Rattle.promise.specs.Hierarchy.{Under, Direct, HeadsOf, StepsOf, StepBytes, hierarchy_refusals, hierarchy}
use Rattle.promise.proofs.Standing.{Stands, square, standing_own, first_stands}
use Rattle.promise.proofs.Calls.{owed_accepted}
use Rattle.promise.proofs.Mantel.{NoTriangle, few_edges}
use Rattle.promise.proofs.Hierarchy.{dec_direct, heads_equal}

module _ {n : ℕ} {t : List ℕ} (sound : Sound n t) where
  -- no step leads back: heads that are under each other are one, and the ends of a direct step differ
  not_back : {a b : ℕ} → Direct n t a b → ¬ Under n t b a
  not_back d u = d.differ (heads_equal n t sound d.from d.to (d.under, u))

  -- the middle of two steps in a row is a third head between their ends, and a round of three leads back
  no_triangle : NoTriangle (Direct n t)
  no_triangle =
      record {
        one_way = λ d e. not_back d e.under;
        no_shortcut = λ {a} {b} {c} d e f.
            f.alone b
            (record {
              head = d.to;
              not_lower = λ z. d.differ (sym z);
              not_upper = e.differ;
              above = d.under;
              under = e.under;
            });
        no_round = λ {a} {b} {c} d e f.
            not_back d (sound.transitive b c a d.to.below e.to.below d.from.below e.under f.under);
      }

-- at most n * n / 4 direct steps
pub steps_few : {n : ℕ} {t : List ℕ} {l : List Pair} → Sound n t → StepsOf n t l → 4 * length l ≤ n * n
steps_few {n} {t} sound h = few_edges (Direct n t) (dec_direct n t) (no_triangle sound) n h

module _ (s : Session) (t heads steps : List ℕ) where
  -- n bytes of heads, and two bytes for each of n * n / 4 steps, are not too short
  hierarchy_fits :
      Stands s t → s.classes ≤ length heads → 2 * (s.classes * s.classes / 4) ≤ length steps
      → ¬ (TooShort (HeadsOf s.classes t) heads ⊎ TooShort (StepBytes s.classes t) steps)
  hierarchy_fits st many room (inl (hs, p, short)) = omega (arith, p.size)
  hierarchy_fits st many room (inr (w, (l, p, same), short)) =
      omega (arith, short, ap (λ (u : List ℕ). length u) same, length_bytes l, steps_few st.sound p)

  -- where no pair is open and so many fit, nothing is refused
  pub hierarchy_accepted :
      {o : Counted × (List ℕ × List ℕ)} → Stands s t → opens s.classes t ≡ 0 → s.classes ≤ length heads
      → 2 * (s.classes * s.classes / 4) ≤ length steps → Owed (hierarchy s t heads steps) o → count_number o.0 ≡ 0
  hierarchy_accepted st none many room =
      owed_accepted (hierarchy s t heads steps)
      (first_stands (hierarchy_refusals s t heads steps) st
      (inr (λ z. omega arith, inr (hierarchy_fits st many room, refl))))

  -- "room for 128 heads and 8,192 bytes of steps": with that room 8 never comes up
  pub hierarchy_room :
      {o : Counted × (List ℕ × List ℕ)} → 128 ≤ length heads → 8192 ≤ length steps → Owed (hierarchy s t heads steps) o
      → count_number o.0 ≢ 8
  hierarchy_room {o} many room h e =
      let p = standing_own (hierarchy_refusals s t heads steps) s (inr (omega arith)) h.number in go p.0 p.1
    where
      go : Stands s t → First (hierarchy_refusals s t heads steps) (count_number o.0) → ⊥
      go st (inl (_, k)) = omega arith
      go st (inr (_, inl (short, k))) =
          hierarchy_fits st (omega (arith, st.few)) (omega (arith, square s.classes st.few)) short
      go st (inr (_, inr (_, k))) = omega arith
