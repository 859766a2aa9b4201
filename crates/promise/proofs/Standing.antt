-- Refusals 1 to 4: what holds where none of them is due, that there is a first one or none, and that the marks and the
-- length of the table alone decide them.
-- Assumes nothing.
use mathlib.Core.Path.{◌≡◌, refl, subst}
use mathlib.Core.Logic.Iff
use mathlib.Core.Logic.{◌≢◌, ◌⊎◌, inl, inr, ⊎_elim}
use mathlib.Core.List.{List, []}
use Prim.Native.Nat.{ℕ, suc, ◌+◌, ◌*◌, ◌-◌, ◌≤◌, ◌<◌}
use native.Mathlib.Decide.{ℕ_discrete, dec_lt, dec_le}
use native.Mathlib.Nat.{mul-le-mul, mul-le-mul_right}
use native.Mathlib.Omega.{arith}
use lib.ListN.{length}
use Rattle.order.specs.Tables.{Sound, SameMarks, opens}
use Rattle.promise.specs.Refusals.{Condition, First, Overcounted, standing}
use Rattle.order.proofs.Decide.{stable, either, negated, as_well}
use Rattle.promise.proofs.Refusals.{stage, Alike}
use Rattle.order.proofs.Sound.{dec_sound}
use Rattle.order.proofs.Tables.{same_sym, sound_by_marks}
use Rattle.order.proofs.Counts.{opens_by_marks}
use Rattle.promise.specs.declared.Session.{Session}

-- none of the refusals 1 to 4 is due
pub record Stands (s : Session) (t : List ℕ) : Type 0 where
  pub some : 1 ≤ s.classes
  pub few : s.classes ≤ 128
  pub room : s.classes * s.classes ≤ length t
  pub sound : Sound s.classes t
  pub count : s.tests + opens s.classes t + s.classes ≤ s.classes * s.classes

-- n is at most its square
pub square_above : (n : ℕ) → 1 ≤ n → n ≤ n * n
square_above n h = omega (arith, mul-le-mul_right n h)

-- at most 128 * 128 marks
pub square : (n : ℕ) → n ≤ 128 → n * n ≤ 16384
square n h = mul-le-mul h h

-- where a number is none of 1 to 4, it comes from the refusals of the call itself

not_four : {k j : ℕ} → (k ≡ 0) ⊎ (4 < k) → k ≡ suc j → j < 4 → ⊥
not_four (inl e) f h = omega arith
not_four (inr l) f h = omega arith

pub standing_own :
    (own : List Condition) (s : Session) {t : List ℕ} {k : ℕ} → (k ≡ 0) ⊎ (4 < k) → First (standing s t own) k
    → Stands s t × First own k
standing_own own s z (inl p) = absurd (not_four z p.1 (omega arith))
standing_own own s z (inr (p, inl q)) = absurd (not_four z q.1 (omega arith))
standing_own own s z (inr (p, inr (q, inl r))) = absurd (not_four z r.1 (omega arith))
standing_own own s z (inr (p, inr (q, inr (r, inl v)))) = absurd (not_four z v.1 (omega arith))
standing_own own s {t} z (inr (p, inr (q, inr (r, inr (v, w))))) = (
  record {
    some = some;
    few = stable (dec_le s.classes 128) (λ z. p (inr (omega arith)));
    room = omega arith;
    sound = stable (dec_sound s.classes t) r;
    count = omega (arith, square_above s.classes some, in_bounds);
  },
  w,
)
  where
    some : 1 ≤ s.classes
    some = stable (dec_le 1 s.classes) (λ z. p (inl (omega arith)))

    in_bounds : ¬ (s.classes * s.classes - s.classes < s.tests + opens s.classes t)
    in_bounds z = v (record { exceeds = z })

pub standing_passed :
    (own : List Condition) (s : Session) {t : List ℕ} → First (standing s t own) 0 → Stands s t × First own 0
standing_passed own s = standing_own own s (inl refl)

pub stood : (s : Session) (t : List ℕ) (k : ℕ) → First (standing s t []) k → k ≡ 0 → Stands s t
stood s t k h e = (standing_passed [] s (subst (λ (number : ℕ). First (standing s t []) number) e h)).0

pub stands_first :
    (own : List Condition) {s : Session} {t : List ℕ} {k : ℕ} → Stands s t → First (standing s t own) k → First own k
stands_first own st (inl (inl e, _)) = absurd (omega (arith, st.some))
stands_first own st (inl (inr e, _)) = absurd (omega (arith, st.few))
stands_first own st (inr (_, inl (e, _))) = absurd (omega (arith, st.room))
stands_first own st (inr (_, inr (_, inl (e, _)))) = absurd (e st.sound)
stands_first own st (inr (_, inr (_, inr (_, inl (e, _))))) = absurd (omega (arith, st.count, e.exceeds))
stands_first own st (inr (_, inr (_, inr (_, inr (_, w))))) = w

-- a refusal 1 to 4 comes before those of the call itself
pub standing_refused :
    (own : List Condition) (s : Session) (t : List ℕ) (k : ℕ) → First (standing s t []) k → k ≢ 0
    → First (standing s t own) k
standing_refused own s t k (inl p) ne = inl p
standing_refused own s t k (inr (p, inl q)) ne = inr (p, inl q)
standing_refused own s t k (inr (p, inr (q, inl r))) ne = inr (p, inr (q, inl r))
standing_refused own s t k (inr (p, inr (q, inr (r, inl v)))) ne = inr (p, inr (q, inr (r, inl v)))
standing_refused own s t k (inr (p, inr (q, inr (r, inr (v, e))))) ne = absurd (ne e)

-- other refusals of the call itself that give the same number
pub standing_map :
    (own other : List Condition) (s : Session) (t : List ℕ) {k : ℕ} → (First own k → First other k)
    → First (standing s t own) k → First (standing s t other) k
standing_map own other s t f (inl p) = inl p
standing_map own other s t f (inr (p, inl q)) = inr (p, inl q)
standing_map own other s t f (inr (p, inr (q, inl r))) = inr (p, inr (q, inl r))
standing_map own other s t f (inr (p, inr (q, inr (r, inl v)))) = inr (p, inr (q, inr (r, inl v)))
standing_map own other s t f (inr (p, inr (q, inr (r, inr (v, w))))) = inr (p, inr (q, inr (r, inr (v, f w))))

pub first_stands :
    (own : List Condition) {s : Session} {t : List ℕ} {k : ℕ} → Stands s t → First own k → First (standing s t own) k
first_stands own st h =
    inr (
      ⊎_elim (λ e. omega (arith, st.some)) (λ e. omega (arith, st.few)),
      inr (
        λ e. omega (arith, st.room),
        inr (λ e. e st.sound, inr (λ e. omega (arith, st.count, e.exceeds), h)),
      ),
    )

-- there is a first refusal, or none, where there is one of those that follow
unfoldable pub standing_there :
    (own : List Condition) (s : Session) (t : List ℕ) → (Stands s t → (k : ℕ) × First own k)
    → (k : ℕ) × First (standing s t own) k
standing_there own s t later =
    stage 1 (either (ℕ_discrete s.classes 0) (dec_lt 128 s.classes)) (λ p₁.
    stage 2 (dec_lt (length t) (s.classes * s.classes)) (λ p₂.
    stage 3 (negated (dec_sound s.classes t)) (λ p₃.
    stage 4
    (as_well (λ z. record { exceeds = z }) (λ e. e.exceeds)
    (dec_lt (s.classes * s.classes - s.classes) (s.tests + opens s.classes t))) (λ p₄.
    later (standing_passed [] s (inr (p₁, inr (p₂, inr (p₃, inr (p₄, refl)))))).0))))

-- two classes of which neither is n or more
pub below_of : (n a b : ℕ) → ¬ ((n ≤ a) ⊎ (n ≤ b)) → (a < n) × (b < n)
below_of n a b h =
    (stable (dec_lt a n) (λ z. h (inl (omega arith))), stable (dec_lt b n) (λ z. h (inr (omega arith))))

-- the marks, and that there is room for them, decide whether a table stands
pub stands_by_marks :
    {s : Session} {t t₂ : List ℕ} → SameMarks s.classes t t₂ → s.classes * s.classes ≤ length t₂ → Stands s t
    → Stands s t₂
stands_by_marks m room st =
    record {
      some = st.some;
      few = st.few;
      room = room;
      sound = sound_by_marks m st.sound;
      count = rw (← opens_by_marks m) st.count;
    }

-- the marks and the length decide which of the refusals 1 to 4 is due
pub standing_alike :
    (own own₂ : List Condition) (s : Session) {t t₂ : List ℕ} → SameMarks s.classes t t₂ → length t ≡ length t₂
    → Alike own own₂ → Alike (standing s t own) (standing s t₂ own₂)
standing_alike own own₂ s {t} {t₂} m e later = (
  refl,
  Iff.rfl,
  λ _. (
    refl,
    rw e Iff.rfl,
    λ _. (
      refl,
      Iff.not (sound_by_marks m, sound_by_marks (same_sym m)),
      λ _. (refl, (over m, over (same_sym m)), λ _. later),
    ),
  ),
)
  where
    over : {u v : List ℕ} → SameMarks s.classes u v → Overcounted s u → Overcounted s v
    over q o = record { exceeds = rw (← opens_by_marks q) o.exceeds }
