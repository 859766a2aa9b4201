-- What looking at a clip and taking it in comes to: the outcome that the call owes.
-- Assumes nothing.
use mathlib.Core.Path.{◌≡◌, refl}
use mathlib.Core.Logic.{◌⊎◌, inl, inr, ⊎_elim}
use mathlib.Core.Bool.{Bool}
use mathlib.Core.List.{List}
use Prim.Native.Nat.{ℕ, ◌<◌}
use native.Mathlib.Omega.{arith}
use Rattle.order.specs.Tables.{mark, Settles, SomeContradicts}
use Rattle.promise.specs.declared.Session.{Session}
use Rattle.promise.specs.Calls.{refusal, accepted, Owed}
use Rattle.promise.specs.Clips.{Flagged, ClipNo, MemberBeyond, clip_refusals, clip}
use Rattle.promise.proofs.Standing.{Stands, first_stands}
use Rattle.promise.proofs.Calls.{owed_refused, owed_done}
use Rattle.promise.proofs.Clips.{contrary, clip_step}
use Rattle.passes.specs.Spread.{FlagsOf, Becomes, Spread}

module _ {s : Session} {t : List ℕ} {played : List Bool} (st : Stands s t) where
  -- 5: a class of n or more played
  pub clip_beyond : MemberBeyond s.classes played → Owed (clip s t played) (refusal 5 s, t)
  clip_beyond b =
      owed_refused (clip s t played) (λ k. refl) (first_stands (clip_refusals s t played) st (inl (b, refl)))
      (λ z. omega arith)

  module _ (inside : ¬ MemberBeyond s.classes played) where
    -- 6: one of the noes contradicts
    pub clip_contradicted :
        SomeContradicts s.classes t (ClipNo s.classes played) → Owed (clip s t played) (refusal 6 s, t)
    clip_contradicted c =
        owed_refused (clip s t played) (λ k. refl)
        (first_stands (clip_refusals s t played) st (inr (inside, inl (c, refl)))) (λ z. omega arith)

    -- accepted: the pairs of a member and a non-member are marked no
    pub clip_taken :
        {others : List Bool} {t' : List ℕ} → ¬ SomeContradicts s.classes t (ClipNo s.classes played)
        → FlagsOf s.classes (λ x. ¬ Flagged played x) others
        → Spread s.classes (λ a b. Flagged played a × Flagged others b) 2 t t'
        → Owed (clip s t played) (accepted s, t')
    clip_taken {others} {t'} fine flags h =
        owed_done (clip s t played) (first_stands (clip_refusals s t played) st (inr (inside, inr (fine, refl)))) refl
        (record {
          reply = refl;
          marks = clip_step st.sound fine (λ x y hx hy. settled x y hx hy (h.each x y hx hy));
          rest = h.rest;
        })
      where
        n : ℕ
        n = s.classes

        settled :
            (x y : ℕ) → x < n → y < n → Becomes (Flagged played x × Flagged others y) 2 (mark n t x y) (mark n t' x y)
            → Settles (mark n t' x y) (mark n t x y ≡ 1)
            ((mark n t x y ≡ 2) ⊎ (Flagged played x × (¬ Flagged played y)))
        settled x y hx hy (inl (p, e)) =
            let q : Flagged played x × (¬ Flagged played y) = (p.0, (flags.at y hy).0 p.1) in
            record {
              small = omega arith;
              one = (λ z. absurd (omega arith), λ z. absurd (fine (contrary n played t hx hy (q, z))));
              two = (λ _. inr q, λ _. e);
            }
        settled x y hx hy (inr (p, e)) =
            record {
              small = rw e (st.sound.small x y hx hy);
              one = rw e (λ z. z, λ z. z);
              two = rw e (λ z. inl z, ⊎_elim (λ z. z) (λ q. absurd (p (q.0, (flags.at y hy).1 q.1))));
            }
