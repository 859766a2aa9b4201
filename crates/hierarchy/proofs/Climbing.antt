-- A climb, rung by rung: what is left above a rung, and the rung written under it.
-- Assumes nothing.
use Rattle.std.proofs.Common.{◌≡◌, ◌+◌, ◌≤◌, ◌<◌, ℕ, List, [], ◌∷◌, length, set, refl, arith}
use Rattle.std.proofs.Common.{Option, Some, None}
use Rattle.std.specs.Option.{MatchOption}
use native.Mathlib.Decide.{dec_lt}
use Rattle.order.specs.Tables.{Sound}
use Rattle.promise.specs.Hierarchy.{Under, HeadOf, Direct, NextRung, Ladder}
use Rattle.promise.proofs.Ladder.{to_go, rung_falls, rung_there}
use Rattle.buffers.specs.Placed.{Placed}
use Rattle.buffers.proofs.Placing.{placed_before, put_none, put_one}
use Rattle.hierarchy.specs.Climb.{BelowGoal, Reached, Climbed}

-- the rungs beyond this one, and out₁ as the climb from there left it
pub record Beyond (n : ℕ) (t : List ℕ) (goal rung before : ℕ) (out : List ℕ) (count : ℕ) (out₁ : List ℕ) : Type 0 where
  pub later : List ℕ
  pub ladder : Ladder n t goal rung (rung ∷ later)
  pub counted : count ≡ before + 1 + length later
  pub size : length out₁ ≡ length out
  pub written : count ≤ length out → Placed later (before + 1) out out₁
  pub unwritten : length out < count → out₁ ≡ out

module _ {n : ℕ} {t : List ℕ} {goal rung before : ℕ} {out : List ℕ} where
  -- the goal's head is the last rung
  pub beyond_none : HeadOf n t goal rung → Beyond n t goal rung before out (before + 1) out
  beyond_none h =
      record {
        later = [];
        ladder = Ladder.end h;
        counted = omega arith;
        size = refl;
        written = λ room. (put_none room).placed;
        unwritten = λ _. refl;
      }

  -- the climb from the next rung on
  pub beyond_next :
      {next count : ℕ} {out₁ : List ℕ} → NextRung n t goal rung next → Climbed n t goal next (before + 1) out count out₁
      → length out₁ ≡ length out → Beyond n t goal rung before out count out₁
  beyond_next r k e =
      record {
        later = k.rungs;
        ladder = Ladder.rung r k.ladder;
        counted = k.counted;
        size = e;
        written = k.written;
        unwritten = k.unwritten;
      }

  module _ {count : ℕ} {out₁ : List ℕ} (h : Beyond n t goal rung before out count out₁) where
    -- the rung fits under what stands above it
    under_written : count ≤ length out → Placed (rung ∷ h.later) before out (set out₁ before rung)
    under_written room =
        placed_before refl (omega (arith, h.counted)) (h.written room)
        (put_one rung (omega (arith, h.counted, h.size))).placed

    pub climbed : count ≤ length out₁ → Climbed n t goal rung before out count (set out₁ before rung)
    climbed room =
        record {
          rungs = rung ∷ h.later;
          ladder = h.ladder;
          counted = omega (arith, h.counted);
          written = under_written;
          unwritten = λ short. absurd (omega (arith, h.size));
        }

    pub not_climbed : length out₁ < count → Climbed n t goal rung before out count out₁
    not_climbed short =
        record {
          rungs = rung ∷ h.later;
          ladder = h.ladder;
          counted = omega (arith, h.counted);
          written = λ room. absurd (omega (arith, h.size));
          unwritten = h.unwritten;
        }

-- c is directly above the rung and under the goal
abbrev pub LeadsOn : ℕ → List ℕ → ℕ → ℕ → ℕ → Type 0
LeadsOn n t goal rung c = Direct n t rung c × Under n t c goal

-- where one leads on, the first below n that does is the next rung
abbrev pub FirstOn : ℕ → List ℕ → ℕ → ℕ → Option ℕ → Type 0
FirstOn n t goal rung r =
    MatchOption r ((c : ℕ) → 0 ≤ c → c < n → ¬ LeadsOn n t goal rung c)
    (λ i. (0 ≤ i) × (i < n) × LeadsOn n t goal rung i × ((c : ℕ) → 0 ≤ c → c < i → ¬ LeadsOn n t goal rung c))

pub next_found :
    {n : ℕ} {t : List ℕ} {goal rung : ℕ} (r : Option ℕ) → Sound n t → BelowGoal n t goal rung
    → FirstOn n t goal rung r → (next : ℕ) × (r ≡ Some next) × NextRung n t goal rung next
next_found {n} {t} None sound b none =
    let d = rung_there n t sound b.goal_below b.head b.under b.not_yet in
    absurd (none d.0 (omega arith) d.1.direct.to.below (d.1.direct, d.1.under))
next_found {n} {t} {goal} {rung} (Some i) sound b (_, below, on, none) =
    (i, refl, record { direct = on.0; under = on.1; lowest = λ c d u. go c (d, u) (dec_lt c i) })
  where
    go : (c : ℕ) → LeadsOn n t goal rung c → Dec (c < i) → i ≤ c
    go c p (yes l) = absurd (none c (omega arith) l p)
    go c p (no l) = omega arith

module _
    {n : ℕ} {t : List ℕ} {goal rung before top : ℕ} (sound : Sound n t) (r : Reached n t goal rung before)
    (h : HeadOf n t goal top)
  where
    -- "the number of heads strictly above the rung and under the goal falls"
    pub next_reached : {next : ℕ} → NextRung n t goal rung next → Reached n t goal next (before + 1)
    next_reached {next} d =
        let left = to_go n t goal next in
        let falls = rung_falls n t sound d left.1 r.number in
        record {
          goal_below = r.goal_below;
          head = d.direct.to;
          under = d.under;
          left = left.0;
          number = left.1;
          few = omega (arith, r.few);
        }
