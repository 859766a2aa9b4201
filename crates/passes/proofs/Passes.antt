-- The passes of a fact make the table of the marks before and of the fact.
-- Assumes nothing.
use mathlib.Core.Path.{◌≡◌, sym, ◌∙◌}
use mathlib.Core.Logic.Iff
use mathlib.Core.Logic.{◌↔◌, inl, inr, ⊎_elim}
use mathlib.Core.Bool.{Bool}
use mathlib.Core.List.{List}
use Prim.Native.Nat.{ℕ, ◌<◌}
use native.Mathlib.Omega.{arith}
use Rattle.order.specs.Facts.{Fact, under, not_under, ◌with◌, Below, Yes, No}
use Rattle.order.specs.Tables.{mark, Settles, Marks, Contradicts}
use Rattle.order.proofs.Bytes.{rest_trans}
use Rattle.order.proofs.Sets.{within_with}
use Rattle.order.proofs.Tables.{sound_table, marks_within, mark_against_settled}
use Rattle.order.proofs.Exactness.{consistent, fact_possible}
use Rattle.order.proofs.Steps.{YesAfterYes, NoAfterYes, YesAfterNo, NoAfterNo, yes_after_yes_form, no_after_yes_form}
use Rattle.order.proofs.Steps.{yes_after_no_form, no_after_no_form, yes_step, no_step}
use Rattle.promise.specs.Clips.{Flagged}
use Rattle.passes.specs.Spread.{FlagsOf, Becomes, Spread}
use Rattle.passes.specs.Taken.{OpenPair, FactTaken}

-- no pair is both yes and no after a fact on an open pair
never_both :
    {n : ℕ} {t : List ℕ} (f : Fact) → OpenPair n t f.lower f.upper → (x y : ℕ) → x < n → y < n
    → Yes (Marks n t with f) x y → No (Marks n t with f) x y → ⊥
never_both {n} {t} f h x y hx hy =
    let below : Below n f = record { lower_below = h.lower_below; upper_below = h.upper_below } in
    let open_pair : ¬ Contradicts n t f = λ z. mark_against_settled f.holds (sym z ∙ h.is_open) in
    consistent (within_with marks_within below) (fact_possible marks_within (sound_table h.sound) f below open_pair)
    hx hy

-- what a known mark settles, where not both can be
yes_settled : {m : ℕ} {Y N : Type 0} → (Y → N → ⊥) → m ≡ 1 → Y → Settles m Y N
yes_settled never e y =
    record {
      small = omega arith;
      one = (λ _. y, λ _. e);
      two = (λ z. absurd (omega arith), λ z. absurd (never y z));
    }

no_settled : {m : ℕ} {Y N : Type 0} → (Y → N → ⊥) → m ≡ 2 → N → Settles m Y N
no_settled never e z =
    record {
      small = omega arith;
      one = (λ y. absurd (omega arith), λ y. absurd (never y z));
      two = (λ _. z, λ _. e);
    }

-- a pass over flags is one over the classes that they flag
flagged_pass :
    {n : ℕ} {X Y : ℕ → Type 0} {xs ys : List Bool} {v : ℕ} {t u : List ℕ} → FlagsOf n X xs → FlagsOf n Y ys
    → Spread n (λ x y. Flagged xs x × Flagged ys y) v t u → (x y : ℕ) → x < n → y < n
    → Becomes (X x × Y y) v (mark n t x y) (mark n u x y)
flagged_pass {X = X} {Y} {xs} {ys} f g s x y hx hy =
    let same : (Flagged xs x × Flagged ys y) ↔ (X x × Y y) = Iff.and (f.at x hx) (g.at y hy) in
    ⊎_elim (λ w. inl (same.0 w.0, w.1)) (λ w. inr (λ q. w.0 (same.1 q), w.1)) (s.each x y hx hy)

module _ {n : ℕ} {t : List ℕ} {c d : ℕ} (h : OpenPair n t c d) where
  -- the one pass of a no
  pub no_taken :
      {above-c under-d : List Bool} {u : List ℕ} → FlagsOf n (λ y. mark n t c y ≡ 1) above-c
      → FlagsOf n (λ x. mark n t x d ≡ 1) under-d → Spread n (λ x y. Flagged above-c x × Flagged under-d y) 2 t u
      → FactTaken n (not_under c d) t u
  no_taken {u = u} above under s =
      record { marks = no_step h.sound h.lower_below h.upper_below settles; rest = s.rest }
    where
      settles : (x y : ℕ) → x < n → y < n → Settles (mark n u x y) (YesAfterNo n t c d x y) (NoAfterNo n t c d x y)
      settles x y hx hy = go (flagged_pass above under s x y hx hy)
        where
          never : YesAfterNo n t c d x y → NoAfterNo n t c d x y → ⊥
          never p q =
              let table = sound_table h.sound in
              never_both (not_under c d) h x y hx hy
              ((yes_after_no_form table h.lower_below h.upper_below x y hx hy).0 p)
              ((no_after_no_form table h.lower_below h.upper_below x y hx hy).0 q)

          go :
              Becomes ((mark n t c x ≡ 1) × (mark n t y d ≡ 1)) 2 (mark n t x y) (mark n u x y)
              → Settles (mark n u x y) (YesAfterNo n t c d x y) (NoAfterNo n t c d x y)
          go (inl p) = no_settled never p.1 (inr p.0)
          go (inr p) =
              let e = p.1 in
              record {
                small = rw e (h.sound.small x y hx hy);
                one = (λ z. sym e ∙ z, λ z. e ∙ z);
                two = (λ z. inl (sym e ∙ z), λ z. elim z [ inl q ↦ e ∙ q | inr q ↦ absurd (p.0 q) ]);
              }

module _ {n : ℕ} {t : List ℕ} {a b : ℕ} (h : OpenPair n t a b) where
  -- no pair is both yes and no after the fact
  never : (x y : ℕ) → x < n → y < n → YesAfterYes n t a b x y → NoAfterYes n t a b x y → ⊥
  never x y hx hy p q =
      let table = sound_table h.sound in
      never_both (under a b) h x y hx hy
      ((yes_after_yes_form table h.lower_below h.upper_below x y hx hy).0 p)
      ((no_after_yes_form table h.lower_below h.upper_below (λ z. omega (arith, h.is_open)) x y hx hy).0 q)

  -- the three passes of a yes
  pub yes_taken :
      {under-a above-b not-above-a not-under-b : List Bool} {u v w : List ℕ}
      → FlagsOf n (λ x. mark n t x a ≡ 1) under-a → FlagsOf n (λ y. mark n t b y ≡ 1) above-b
      → FlagsOf n (λ y. mark n t a y ≡ 2) not-above-a → FlagsOf n (λ x. mark n t x b ≡ 2) not-under-b
      → Spread n (λ x y. Flagged under-a x × Flagged above-b y) 1 t u
      → Spread n (λ x y. Flagged above-b x × Flagged not-above-a y) 2 u v
      → Spread n (λ x y. Flagged not-under-b x × Flagged under-a y) 2 v w → FactTaken n (under a b) t w
  yes_taken {u = u} {v = v} {w = w} under-a above-b not-above-a not-under-b s₁ s₂ s₃ =
      record {
        marks = yes_step h.sound h.lower_below h.upper_below (λ z. omega (arith, h.is_open)) settles;
        rest = rest_trans s₁.rest (rest_trans s₂.rest s₃.rest);
      }
    where
      settles : (x y : ℕ) → x < n → y < n → Settles (mark n w x y) (YesAfterYes n t a b x y) (NoAfterYes n t a b x y)
      settles x y hx hy =
          go (flagged_pass under-a above-b s₁ x y hx hy) (flagged_pass above-b not-above-a s₂ x y hx hy)
          (flagged_pass not-under-b under-a s₃ x y hx hy)
        where
          go :
              Becomes ((mark n t x a ≡ 1) × (mark n t b y ≡ 1)) 1 (mark n t x y) (mark n u x y)
              → Becomes ((mark n t b x ≡ 1) × (mark n t a y ≡ 2)) 2 (mark n u x y) (mark n v x y)
              → Becomes ((mark n t x b ≡ 2) × (mark n t y a ≡ 1)) 2 (mark n v x y) (mark n w x y)
              → Settles (mark n w x y) (YesAfterYes n t a b x y) (NoAfterYes n t a b x y)
          go p q (inl r) = no_settled (never x y hx hy) r.1 (inr (inr (r.0.1, r.0.0)))
          go p (inl q) (inr r) = no_settled (never x y hx hy) (r.1 ∙ q.1) (inr (inl q.0))
          go (inl p) (inr q) (inr r) = yes_settled (never x y hx hy) (r.1 ∙ q.1 ∙ p.1) (inr p.0)
          go (inr p) (inr q) (inr r) =
              let e = r.1 ∙ q.1 ∙ p.1 in
              record {
                small = rw e (h.sound.small x y hx hy);
                one = (λ z. inl (sym e ∙ z), λ z. elim z [ inl k ↦ e ∙ k | inr k ↦ absurd (p.0 k) ]);
                two = (
                  λ z. inl (sym e ∙ z),
                  λ z.
                      elim z [
                        | inl k ↦ e ∙ k
                        | inr k ↦ elim k [ inl i ↦ absurd (q.0 i) | inr i ↦ absurd (r.0 (i.1, i.0)) ]
                      ],
                );
              }
