-- What each way out of hierarchy and ladder owes.
-- Assumes nothing.
use Rattle.std.proofs.Common.{◌≡◌, ◌⊎◌, ◌*◌, ◌≤◌, ◌<◌, ◌++◌, ℕ, List, [], length, take, drop, refl, ap, ◌∙◌, sym}
use Rattle.std.proofs.Common.{inl, inr, arith}
use lib.Seq.{take_at}
use Rattle.order.specs.Tables.{Sound, opens, bytes_of}
use Rattle.order.proofs.Pairs.{length_bytes}
use Rattle.promise.specs.declared.Session.{Session}
use Rattle.promise.specs.Refusals.{First, standing}
use Rattle.promise.specs.Calls.{Counted}
use Rattle.promise.specs.Calls.Counted.{Count, Refused}
use Rattle.promise.specs.Calls.{Owed, TooShort}
use Rattle.promise.specs.Hierarchy.{HeadOf, HeadsOf, StepBytes, hierarchy_refusals, hierarchy, LadderOf}
use Rattle.promise.specs.Hierarchy.{ladder_refusals, ladder}
use Rattle.promise.proofs.Standing.{first_stands, stood}
use Rattle.promise.proofs.Calls.{owed_refused, owed_done}
use Rattle.promise.proofs.Hierarchy.{head_head, heads_there, step_bytes_unique}
use Rattle.promise.proofs.Ladder.{number_most, to_go, through, ladder_unique}
use Rattle.standing.proofs.Left.{left_owed}
use Rattle.steps.specs.HeadsFound.{StepsNoted}
use Rattle.hierarchy.specs.Climb.{Reached, Climbed}
use Rattle.hierarchy.specs.Left.{hierarchy_left, HasLadder, ladder_left}

module _ {n : ℕ} {t heads steps : List ℕ} where
  too_short :
      TooShort (HeadsOf n t) heads ⊎ TooShort (StepBytes n t) steps
      → Owed (hierarchy_left n t heads steps) (Refused 8 0, (heads, steps))
  too_short short = owed_refused (hierarchy_left n t heads steps) (λ k. refl) (inl (short, refl)) (λ e. omega arith)

  pub heads_short :
      Sound n t → length heads < n → Owed (hierarchy_left n t heads steps) (Refused 8 0, (heads, steps))
  heads_short sound short =
      let hs = heads_there n t sound in too_short (inl (hs.0, hs.1, omega (arith, hs.1.size)))

  pub steps_short :
      {out out' : List ℕ} {count : ℕ} → StepsNoted n t out count out' → length steps < 2 * count
      → Owed (hierarchy_left n t heads steps) (Refused 8 0, (heads, steps))
  steps_short (l, p, noted) short =
      too_short (inr (bytes_of l, (l, p, refl), omega (arith, noted.counted, length_bytes l)))

  pub hierarchy_done :
      {hs out listed hs' steps' : List ℕ} {count : ℕ} → HeadsOf n t hs → n ≤ length heads → hs' ≡ hs
      → 2 * count ≤ length out → StepsNoted n t out count listed → 2 * count ≤ length steps
      → steps' ≡ take (2 * count) listed
      → Owed (hierarchy_left n t heads steps) (Count count, (hs' ++ drop n heads, steps' ++ drop (2 * count) steps))
  hierarchy_done {hs} {out} {listed} {hs'} {steps'} {count} h many heads-written enough (l, p, noted) room written =
      owed_done (hierarchy_left n t heads steps) (inr (fits, refl)) refl
      (hs, l, h, p, rw (heads-written, written, front, sym h.size, sym all, noted.counted) refl)
    where
      all : length (bytes_of l) ≡ 2 * count
      all = omega (arith, noted.counted, length_bytes l)

      front : take (2 * count) listed ≡ bytes_of l
      front =
          ap (λ (u : List ℕ). take (2 * count) u) (noted.written (omega (arith, all))).bytes
          ∙ take_at (bytes_of l) (drop (length (bytes_of l)) out) (2 * count) all

      fits : ¬ (TooShort (HeadsOf n t) heads ⊎ TooShort (StepBytes n t) steps)
      fits (inl (hs, h, short)) = omega (arith, h.size)
      fits (inr (w, h, short)) =
          omega (arith, ap (λ (u : List ℕ). length u) (step_bytes_unique w (bytes_of l) h (l, p, refl)), all)

-- a climb from the head of a starts with no rung before it
pub start_reached :
    {n : ℕ} {t : List ℕ} {a b start : ℕ} → HasLadder n t a b → HeadOf n t a start → Reached n t b start 0
start_reached {n} {t} {a} {b} {start} c h =
    let left = to_go n t b start in
    record {
      goal_below = c.upper_below;
      head = head_head n t c.sound c.lower_below h;
      under = through n t c.sound h.below c.lower_below c.upper_below h.equal.1 c.under;
      left = left.0;
      number = left.1;
      few = omega (arith, number_most left.1);
    }

module _
    {n : ℕ} {t : List ℕ} {a b start : ℕ} {out : List ℕ} {count : ℕ} {out' : List ℕ} (c : HasLadder n t a b)
    (h : HeadOf n t a start) (k : Climbed n t b start 0 out count out') (size : length out' ≡ length out)
  where
    from_start : LadderOf n t a b k.rungs
    from_start = record { start = start; head = h; rungs = k.ladder }

    pub ladder_short : length out' < count → Owed (ladder_left n t a b out) (Refused 8 0, out')
    ladder_short short =
        rw (k.unwritten (omega arith))
        (owed_refused (ladder_left n t a b out) (λ k. refl)
        (inl ((k.rungs, from_start, omega (arith, k.counted)), refl))
        (λ e. omega arith))

    pub ladder_done : count ≤ length out' → Owed (ladder_left n t a b out) (Count count, out')
    ladder_done room =
        owed_done (ladder_left n t a b out) (inr (fits, refl)) refl
        (k.rungs, from_start, rw ((k.written (omega arith)).bytes, all) refl)
      where
        all : count ≡ length k.rungs
        all = omega (arith, k.counted)

        fits : ¬ TooShort (LadderOf n t a b) out
        fits (l, p, short) =
            omega (
              arith,
              ap (λ (u : List ℕ). length u) (ladder_unique n t c.sound c.upper_below l k.rungs p from_start),
            )

-- where only 8 may still be due, what is left is owed by the call

pub hierarchy_left_owed :
    {s : Session} {t heads steps : List ℕ} {o : Counted × (List ℕ × List ℕ)} → First (standing s t []) 0
    → opens s.classes t ≡ 0 → Owed (hierarchy_left s.classes t heads steps) o → Owed (hierarchy s t heads steps) o
hierarchy_left_owed {s} {t} {heads} {steps} first e =
    left_owed (hierarchy_left s.classes t heads steps).refusals (hierarchy s t heads steps) (λ f.
    first_stands (hierarchy_refusals s t heads steps) (stood s t 0 first refl) (inr (λ z. omega arith, f)))

pub ladder_left_owed :
    {s : Session} {t : List ℕ} {a b : ℕ} {out : List ℕ} {o : Counted × List ℕ} → First (standing s t []) 0
    → opens s.classes t ≡ 0 → HasLadder s.classes t a b → Owed (ladder_left s.classes t a b out) o
    → Owed (ladder s t a b out) o
ladder_left_owed {s} {t} {a} {b} {out} first e c =
    left_owed (ladder_left s.classes t a b out).refusals (ladder s t a b out) (λ f.
    first_stands (ladder_refusals s t a b out) (stood s t 0 first refl)
    (inr (beyond, inr (λ z. omega arith, inr (λ z. z c.under, f)))))
  where
    beyond : ¬ ((s.classes ≤ a) ⊎ (s.classes ≤ b))
    beyond (inl z) = omega (arith, c.lower_below)
    beyond (inr z) = omega (arith, c.upper_below)
