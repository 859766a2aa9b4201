-- Tell and answer: one outcome for each input, and what an accepted or refused fact does.
-- Assumes nothing.
use mathlib.Core.Path.{◌≡◌, refl, sym, ◌∙◌, ap}
use mathlib.Core.Logic.{◌↔◌, ◌≢◌, inl, inr}
use mathlib.Core.List.{List}
use Prim.Native.Nat.{ℕ, zero, suc, ◌+◌, ◌*◌, ◌≤◌}
use native.Mathlib.Decide.{ℕ_discrete, dec_le}
use native.Mathlib.Nat.{add-zero}
use native.Mathlib.Omega.{arith}
use lib.ListN.{length}
use Rattle.order.specs.Facts.{Fact, Facts, Only, ◌with◌, Below}
use Rattle.order.specs.Tables.{mark, Marks, Contradicts, open_count, opens, mark_against}
use Rattle.order.specs.Orders.{Impossible}
use Rattle.promise.specs.Refusals.{First, standing}
use Rattle.order.proofs.Decide.{either}
use Rattle.promise.proofs.Refusals.{stage}
use Rattle.order.proofs.Tables.{table_unique, table_settled, sound_table, marks_within, mark_for_settled}
use Rattle.order.proofs.Tables.{for_not_against}
use Rattle.order.proofs.Exactness.{contradicts_exact}
use Rattle.order.proofs.Bytes.{rest_refl, front_mark, front_rest}
use Rattle.order.proofs.Counts.{opens_with}
use Rattle.order.proofs.Taking.{taken_in, taken_table, new_mark, length_laid}
use Rattle.promise.specs.declared.Session.{Session}
use Rattle.promise.specs.declared.Reply.{Reply}
use Rattle.promise.specs.Calls.{tested, accepted, Owed, over}
use Rattle.promise.specs.declared.Kind.{Kind}
use Rattle.promise.specs.Tell.{adds, tell_refusals, tell}
use Rattle.promise.specs.Runs.{StandsFor}
use Rattle.promise.proofs.Standing.{Stands, standing_passed, stands_first, first_stands, standing_there}
use Rattle.promise.proofs.Standing.{below_of}
use Rattle.promise.proofs.Taking.{MarksAfter, Leaves, stands_of}
use Rattle.promise.proofs.Calls.{owed_done, changes_unique, changes_kept, changes_session, changes_there}

-- the session after an accepted fact
abbrev pub session_after : Kind → Session → List ℕ → Fact → Session
session_after kind s t f = tested (adds kind 0 (mark s.classes t f.lower f.upper)) s

pub tell_unique :
    (kind : Kind) {s : Session} {t : List ℕ} {f : Fact} {o o₂ : Reply × List ℕ} → Owed (tell kind s t f) o
    → Owed (tell kind s t f) o₂ → o ≡ o₂
tell_unique kind = changes_unique (λ u v. table_unique)

-- what is known of an accepted fact
own_passed :
    (s : Session) (t : List ℕ) (f : Fact) → First (tell_refusals s t f) 0
    → Below s.classes f × (¬ Contradicts s.classes t f)
own_passed s t f (inl z) = absurd (omega (arith, z.1))
own_passed s t f (inr (_, inl z)) = absurd (omega (arith, z.1))
own_passed s t f (inr (p, inr (q, _))) =
    let b = below_of s.classes f.lower f.upper p in (record { lower_below = b.0; upper_below = b.1 }, q)

pub tell_passed :
    (s : Session) (t : List ℕ) (f : Fact) → First (standing s t (tell_refusals s t f)) 0
    → Stands s t × Below s.classes f × (¬ Contradicts s.classes t f)
tell_passed s t f h =
    let p = standing_passed (tell_refusals s t f) s h in
    let q = own_passed s t f p.1 in
    (p.0, q.0, q.1)

unfoldable pub tell_there :
    (kind : Kind) (s : Session) (t : List ℕ) (f : Fact) → (o : Reply × List ℕ) × Owed (tell kind s t f) o
tell_there kind s t f =
    changes_there (standing s t (tell_refusals s t f)) s (session_after kind s t f) n (MarksAfter s t f) t
    (standing_there (tell_refusals s t f) s t (λ st.
    stage 5 (either (dec_le n f.lower) (dec_le n f.upper)) (λ p₅.
    stage 6 (ℕ_discrete (mark n t f.lower f.upper) (mark_against f.holds)) (λ p₆. (0, refl)))))
    (λ g.
    (over (taken_in n t f) t, new g, front_rest n (taken_in n t f) t size (tell_passed s t f g).0.room))
  where
    n : ℕ
    n = s.classes

    size : length (taken_in n t f) ≡ n * n
    size = length_laid n (new_mark n t f.lower f.upper f.holds)

    new : First (standing s t (tell_refusals s t f)) 0 → MarksAfter s t f (over (taken_in n t f) t)
    new g =
        let p = tell_passed s t f g in
        record {
          at = λ a b ha hb.
              rw (front_mark n (taken_in n t f) t size a b ha hb)
              ((taken_table n t p.0.sound f p.1 p.2).at a b ha hb);
        }

-- a fact that the table has already is accepted and changes nothing, where none of the refusals 1 to 4 is due
pub agreeing_accepted :
    (kind : Kind) {s : Session} {t : List ℕ} {f : Fact} → Stands s t → Marks s.classes t f
    → Owed (tell kind s t f) (accepted s, t)
agreeing_accepted kind {s} {t} {f} st m =
    owed_done (tell kind s t f)
    (first_stands (tell_refusals s t f) st
    (inr (
      λ z. elim z [ inl p ↦ omega (arith, m.lower_below) | inr p ↦ omega (arith, m.upper_below) ],
      inr (λ z. for_not_against f.holds (sym m.settled ∙ z), refl),
    )))
    refl
    (record {
      reply = rw (none_added kind (mark s.classes t f.lower f.upper) settled, add-zero s.tests) refl;
      marks = table_settled f (sound_table st.sound) m;
      rest = rest_refl t;
    })
  where
    none_added : (kind : Kind) (k : ℕ) → k ≢ 0 → adds kind 0 k ≡ 0
    none_added Kind.Told k z = refl
    none_added Kind.Answered zero z = absurd (z refl)
    none_added Kind.Answered (suc k) z = refl

    settled : mark s.classes t f.lower f.upper ≢ 0
    settled z = mark_for_settled f.holds (sym m.settled ∙ z)

pub agreeing_unchanged :
    (kind : Kind) {s : Session} {t : List ℕ} {f : Fact} {r : Reply} {t' : List ℕ} → Stands s t → Marks s.classes t f
    → Owed (tell kind s t f) (r, t') → ◌≡◌ {A = Reply × List ℕ} (r, t') (accepted s, t)
agreeing_unchanged kind st m h = tell_unique kind h (agreeing_accepted kind st m)

-- the class count stays, the tally grows by what the call adds, and that and what stays open is no more than was open
pub tell_opens :
    (kind : Kind) {s : Session} {t : List ℕ} {f : Fact} {r : Reply} {t' : List ℕ} → Owed (tell kind s t f) (r, t')
    → (k : ℕ) → r.number ≡ k
    → (r.session.classes ≡ s.classes)
    × (r.session.tests ≡ s.tests + adds kind k (mark s.classes t f.lower f.upper))
    × (adds kind k (mark s.classes t f.lower f.upper) + opens s.classes t' ≤ opens s.classes t)
tell_opens kind {s} {t} {f} {r} {t'} h zero e =
    let p = tell_passed s t f (rw e at h.number) in
    let le = opens_with f (marks_within {n = s.classes} {t = t}) p.1 (sound_table p.0.sound)
    (h.done e).marks in
    let q = few kind (mark s.classes t f.lower f.upper) in (
      ap (λ (x : Session). x.classes) (changes_session h e),
      ap (λ (x : Session). x.tests) (changes_session h e),
      omega arith,
    )
  where
    few : (kind : Kind) (m : ℕ) → adds kind 0 m ≤ open_count m
    few Kind.Told m = omega arith
    few Kind.Answered zero = omega arith
    few Kind.Answered (suc m) = omega arith
tell_opens kind {s} {t} {f} {r} {t'} h (suc k) e =
    let q = changes_kept h (λ z. omega arith) in
    rw (q.0, q.1, none kind) (refl, omega arith, omega arith)
  where
    none : (kind : Kind) → adds kind (suc k) (mark s.classes t f.lower f.upper) ≡ 0
    none Kind.Told = refl
    none Kind.Answered = refl

-- what an accepted fact leaves
pub tell_leaves :
    (kind : Kind) {s : Session} {t : List ℕ} {f : Fact} {r : Reply} {t' : List ℕ} → Owed (tell kind s t f) (r, t')
    → r.number ≡ 0
    → Leaves (Only f) s t r.session t'
tell_leaves kind {s = s} {t = t} {f = f} h e =
    let o = tell_opens kind h 0 e in
    record {
      within = λ g z. rw z (tell_passed s t f (rw e at h.number)).1;
      classes = o.0;
      marks = (h.done e).marks;
      size = (h.done e).rest.size;
      count = omega (arith, o.1, o.2);
    }

-- "A fact on two classes below the count is refused as contradictory exactly when no order agrees with it and those
-- accepted before", and it is refused for no other reason
pub tell_refused :
    (kind : Kind) {S : Facts} {s : Session} {t : List ℕ} {f : Fact} {r : Reply} {t' : List ℕ} → StandsFor S s t
    → Below s.classes f → Owed (tell kind s t f) (r, t')
    → ((r.number ≢ 0) ↔ Impossible s.classes (S with f)) × (r.number ≢ 0 → r.number ≡ 6)
tell_refused kind {S} {s} {t} {f} {r} st b h = go (stands_first (tell_refusals s t f) (stands_of st) h.number)
  where
    exact : Contradicts s.classes t f ↔ Impossible s.classes (S with f)
    exact = contradicts_exact st.within st.table f b

    go :
        First (tell_refusals s t f) r.number
        → ((r.number ≢ 0) ↔ Impossible s.classes (S with f)) × (r.number ≢ 0 → r.number ≡ 6)
    go (inl (inl z, e)) = absurd (omega (arith, b.lower_below))
    go (inl (inr z, e)) = absurd (omega (arith, b.upper_below))
    go (inr (_, inl (z, e))) = ((λ _. exact.0 z, λ _ y. omega arith), λ _. e)
    go (inr (_, inr (z, e))) = ((λ y. absurd (y e), λ x. absurd (z (exact.1 x))), λ y. absurd (y e))
