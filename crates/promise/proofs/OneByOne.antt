-- A clip and its noes told one by one, in any order and each as often as you like: the same outcome, or one of them
-- is refused.
-- Assumes nothing.
use mathlib.Core.Path.{◌≡◌, refl, sym, ◌∙◌, ap, subst}
use mathlib.Core.Logic.{◌↔◌, ◌≢◌, ◌⊎◌, inl, inr}
use mathlib.Core.Bool.{Bool, false}
use mathlib.Core.List.Memᴰ
use mathlib.Core.List.{List, [], ◌∷◌, map, map-id, Memᴰ}
use Prim.Native.Nat.{ℕ}
use native.Mathlib.Decide.{ℕ_discrete}
use native.Mathlib.Nat.{add-zero}
use native.Mathlib.Omega.{arith}
use lib.ListN.{length}
use Rattle.order.specs.Facts.{Fact, fact_on, not_under, Listed, Below}
use Rattle.order.specs.Tables.{Marks, Pair}
use Rattle.promise.specs.Refusals.{First, standing}
use Rattle.order.proofs.Decide.{both, negated}
use Rattle.order.proofs.Tables.{sound_table, marks_within}
use Rattle.order.proofs.Pairs.{pairs_of, pairs_listed}
use Rattle.promise.specs.declared.Session.{Session}
use Rattle.promise.specs.declared.Reply.{Reply}
use Rattle.promise.specs.Calls.{refusal, Owed}
use Rattle.promise.specs.declared.Kind.{Kind}
use Rattle.promise.specs.Tell.{tell}
use Rattle.promise.specs.Clips.{Flagged, ClipNo, MemberBeyond, clip}
use Rattle.promise.specs.Runs.{StandsFor, Intake, taking, Said, AllFit, Made, Run, calls_of}
use Rattle.promise.specs.Runs.{AllAccepted}
use Rattle.promise.proofs.Flags.{dec_flagged}
use Rattle.promise.proofs.Standing.{standing_passed}
use Rattle.promise.proofs.Calls.{changes_kept, changes_session}
use Rattle.promise.proofs.Clips.{clip_refused}
use Rattle.promise.proofs.Runs.{run_there, first_or, rest}
use Rattle.promise.proofs.AnyOrder.{listed_said, runs_same}

-- The noes of a clip as a list.

abbrev noes_of : List Pair → List Fact
noes_of [] = []
noes_of (p ∷ l) = not_under p.0 p.1 ∷ noes_of l

noes_mem : (l : List Pair) (f : Fact) → Memᴰ f (noes_of l) ↔ (Memᴰ (f.lower, f.upper) l × (f.holds ≡ false))
noes_mem [] f = (λ i. absurd (Memᴰ.not-nil i), λ h. absurd (Memᴰ.not-nil h.0))
noes_mem (p ∷ l) f =
    let later = noes_mem l f in
    (λ i. there later (Memᴰ.cases_cons i), λ h. back later (Memᴰ.cases_cons h.0) h.1)
  where
    Both : Type 0
    Both = Memᴰ f (noes_of l) ↔ (Memᴰ (f.lower, f.upper) l × (f.holds ≡ false))

    there :
        Both → (f ≡ not_under p.0 p.1) ⊎ Memᴰ f (noes_of l)
        → Memᴰ (f.lower, f.upper) (p ∷ l) × (f.holds ≡ false)
    there later (inl e) = (Memᴰ.head (ap (λ (g : Fact). (g.lower, g.upper)) e), ap (λ (g : Fact). g.holds) e)
    there later (inr j) = let r = later.0 j in (Memᴰ.tail r.0, r.1)

    back :
        Both → ((f.lower, f.upper) ≡ p) ⊎ Memᴰ (f.lower, f.upper) l → f.holds ≡ false
        → Memᴰ f (noes_of (p ∷ l))
    back later (inl e) z =
        Memᴰ.head
        (ap (λ (b : Bool). fact_on f.lower f.upper b) z
        ∙ ap (λ (q : Pair). not_under q.0 q.1) e)
    back later (inr j) z = Memᴰ.tail (later.1 (j, z))

-- there is a list of them
pub clip_listed : (n : ℕ) (played : List Bool) → (l : List Fact) × ((f : Fact) → ClipNo n played f ↔ Listed l f)
clip_listed n played = (noes_of pairs, λ f. (λ h. there f h, λ i. back f ((noes_mem pairs f).0 i)))
  where
    Apart : ℕ → ℕ → Type 0
    Apart a b = Flagged played a × (¬ Flagged played b)

    dec_apart : (a b : ℕ) → Dec (Apart a b)
    dec_apart a b = both (dec_flagged played a) (negated (dec_flagged played b))

    pairs : List Pair
    pairs = pairs_of Apart dec_apart n

    there : (f : Fact) → ClipNo n played f → Listed (noes_of pairs) f
    there f h =
        (noes_mem pairs f).1 (
          ((pairs_listed Apart dec_apart n).exact f.lower f.upper).1
              (h.below.lower_below, h.below.upper_below, (h.member, h.non_member)),
          h.is_no,
        )

    back : (f : Fact) → Memᴰ (f.lower, f.upper) pairs × (f.holds ≡ false) → ClipNo n played f
    back f h =
        let q = ((pairs_listed Apart dec_apart n).exact f.lower f.upper).0 h.0 in
        record {
          below = record { lower_below = q.0; upper_below = q.1 };
          member = q.2.0;
          non_member = q.2.1;
          is_no = h.1;
        }

-- The facts of a list, told one after the other.

abbrev pub tells_of : List Fact → List Intake
tells_of l = map (Intake.fact Kind.Told) l

tells_said : (n : ℕ) (l : List Fact) (f : Fact) → Said n (tells_of l) f ↔ Listed l f
tells_said n l f = rw (map-id l) at (listed_said n (λ _. Kind.Told) (λ g. g) l f)

tells_fit : (n : ℕ) (l : List Fact) → ((f : Fact) → Listed l f → Below n f) → AllFit n (tells_of l)
tells_fit n [] all = tt
tells_fit n (f ∷ l) all = (all f (Memᴰ.head refl), tells_fit n l (λ g i. all g (Memᴰ.tail i)))

-- tells leave the session as it is
told_same :
    {s : Session} {t : List ℕ} {f : Fact} {r : Reply} {t' : List ℕ} → Owed (tell Kind.Told s t f) (r, t')
    → r.session ≡ s
told_same {s = s} {r = r} h = go (ℕ_discrete r.number 0)
  where
    go : Dec (r.number ≡ 0) → r.session ≡ s
    go (yes e) = changes_session h e ∙ rw (add-zero s.tests) refl
    go (no e) = (changes_kept h e).0

same_first : {c d : Intake} {calls later : List Intake} → c ∷ calls ≡ d ∷ later → c ≡ d
same_first {c} e = ap (λ (l : List Intake). first_or c l) e

tells_same :
    (l : List Fact) {s s' : Session} {t t' : List ℕ} {made : List Made} → Run s t made s' t'
    → calls_of made ≡ tells_of l
    → s' ≡ s
tells_same l Run.stop e = refl
tells_same [] (Run.call h number run) e = absurd (omega (arith, ap length e))
tells_same (f ∷ l) {s} {s'} {t} (Run.call {m = m} {t₁ = t₁} {r = r} h number run) e =
    tells_same l run (ap rest e) ∙ told_same (subst (λ (c : Intake). Owed (taking c s t) (r, t₁)) (same_first e) h)

-- "with the same outcome as telling all those noes one by one, in any order, or nothing changed if one of them
-- contradicts": for every list that has the noes of the clip and no other fact, and every run that tells them. The
-- clip is accepted exactly where each of them is, and then leaves what they leave; otherwise it is refused with 6,
-- and nothing changed.
pub clip_told :
    {s : Session} {t : List ℕ} {played : List Bool} {r : Reply} {t' : List ℕ} {made : List Made} {s'' : Session}
    {t'' : List ℕ}
    → Owed (clip s t played) (r, t') → First (standing s t []) 0 → ¬ MemberBeyond s.classes played
    → (l : List Fact) → ((f : Fact) → ClipNo s.classes played f ↔ Listed l f) → Run s t made s'' t''
    → calls_of made ≡ tells_of l
    → ((r.number ≡ 0) ↔ AllAccepted made) × (AllAccepted made → (s'' ≡ r.session) × (t'' ≡ t'))
    × ((¬ AllAccepted made) → ◌≡◌ {A = Reply × List ℕ} (r, t') (refusal 6 s, t))
clip_told {s} {t} {played} {r} {t'} {made} {s''} {t''} h stands b l listing run calls =
    ((λ e. whole.0.0 (e, tt), λ all. accepted all), left, refused)
  where
    n : ℕ
    n = s.classes

    before : StandsFor (Marks n t) s t
    before =
        record { within = marks_within; table = sound_table (standing_passed [] s stands).0.sound; stands = stands }

    clipped : Made
    clipped = record { call = Intake.clipped played; number = r.number }

    alone : List Made
    alone = clipped ∷ []

    fit : AllFit n (calls_of made)
    fit = rw calls (tells_fit n l (λ f i. ((listing f).1 i).below))

    same : (f : Fact) → Said n (calls_of alone) f ↔ Said n (calls_of made) f
    same f = rw calls (there, λ i. inl ((listing f).1 ((tells_said n l f).0 i)))
      where
        there : Said n (calls_of alone) f → Said n (tells_of l) f
        there (inl i) = (tells_said n l f).1 ((listing f).0 i)
        there (inr i) = absurd i

    whole : (AllAccepted alone ↔ AllAccepted made) × (AllAccepted alone → t' ≡ t'')
    whole = runs_same (Marks n t) refl before (b, tt) fit (Run.call {m = clipped} h refl Run.stop) run same

    accepted : AllAccepted made → r.number ≡ 0
    accepted all = (whole.0.1 all).0

    left : AllAccepted made → (s'' ≡ r.session) × (t'' ≡ t')
    left all =
        let e = accepted all in
        (tells_same l run calls ∙ sym (changes_session h e), sym (whole.1 (e, tt)))

    refused : (¬ AllAccepted made) → ◌≡◌ {A = Reply × List ℕ} (r, t') (refusal 6 s, t)
    refused no_whole =
        let ne : r.number ≢ 0 = λ e. no_whole (whole.0.0 (e, tt)) in
        h.refused ne ∙ rw ((clip_refused before b h).1 ne) refl

-- and there are such a list and such a run
pub clip_tells_there :
    (s : Session) (t : List ℕ) (played : List Bool)
    → (l : List Fact) × ((f : Fact) → ClipNo s.classes played f ↔ Listed l f)
    × (made : List Made) × (s'' : Session) × (t'' : List ℕ) × Run s t made s'' t'' × (calls_of made ≡ tells_of l)
clip_tells_there s t played =
    let q = clip_listed s.classes played in
    let x = run_there (tells_of q.0) s t in
    (q.0, q.1, x.0, x.1, x.2, x.3, x.4)
