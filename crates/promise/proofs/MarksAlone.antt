-- "Bytes from n*n on are never read or written." Not written is `SameRest`, a part of each contract. Not read: on two
-- tables with the same marks and the same length every call gives the same answer, leaves the same bytes in every
-- buffer and the same marks; and so do runs, and reading a book.
-- Assumes nothing.
use mathlib.Core.Path.{◌≡◌, refl, sym, ◌∙◌, ap}
use mathlib.Core.Logic.Iff
use mathlib.Core.Logic.{◌↔◌}
use mathlib.Core.Bool.{Bool}
use mathlib.Core.List.{List, []}
use Prim.Native.Nat.{ℕ, ◌<◌}
use native.Mathlib.Decide.{ℕ_discrete}
use native.Mathlib.Omega.{arith}
use lib.ListN.{length}
use Rattle.order.specs.Facts.{Fact, Facts, Only, Within}
use Rattle.order.specs.Tables.{SameMarks, SomeContradicts, opens, Pair}
use Rattle.order.proofs.Tables.{same_sym, more_by_marks}
use Rattle.order.proofs.Counts.{opens_by_marks}
use Rattle.order.proofs.Pairs.{lists_map}
use Rattle.order.proofs.Steps.{or_cong}
use Rattle.promise.specs.declared.Session.{Session}
use Rattle.promise.specs.declared.Reply.{Reply}
use Rattle.promise.specs.Next.{Question}
use Rattle.promise.specs.Next.Question.{Ask, Done, Refused}
use Rattle.promise.specs.Calls.{Counted}
use Rattle.promise.specs.Calls.Counted.{Count}
use Rattle.promise.specs.declared.CrossedQuestion.{CrossedQuestion}
use Rattle.promise.specs.declared.CrossedCount.{CrossedCount}
use Rattle.promise.specs.Refusals.{standing}
use Rattle.promise.specs.Calls.{tested, Owed, open_pairs, TooShort, count_for_c, writes_for_c}
use Rattle.promise.specs.declared.Kind.{Kind}
use Rattle.promise.specs.Tell.{adds, fresh_refusals, fresh, tell_refusals, tell}
use Rattle.promise.specs.Clips.{ClipNo, clip_refusals, clip, flags_of, bytes_refusals, clip_bytes}
use Rattle.promise.specs.Runs.{Intake, taking, Made, Run, calls_of}
use Rattle.promise.specs.Next.{Names, next, next_for_c}
use Rattle.promise.specs.Hierarchy.{Under, Equal, HeadOf, Third, Direct, HeadsOf, StepsOf, StepBytes, NextRung}
use Rattle.promise.specs.Hierarchy.{Ladder, LadderOf, hierarchy_refusals, hierarchy, ladder_refusals, ladder}
use Rattle.promise.specs.Book.{BookOf, BookRead, write_refusals, write}
use Rattle.promise.proofs.Refusals.{Alike}
use Rattle.promise.proofs.Standing.{standing_alike, standing_passed, below_of}
use Rattle.promise.proofs.Calls.{CallsAlike, owed_alike, crossing_alike, reply_alike, changes_alike}
use Rattle.promise.proofs.Calls.{Keeps, changes_kept, changes_session, changes_length}
use Rattle.promise.proofs.Fresh.{fresh_same}
use Rattle.promise.proofs.Tell.{tell_passed, tell_opens}
use Rattle.promise.proofs.Clips.{clip_session, clip_within}
use Rattle.promise.proofs.Next.{next_unique}
use Rattle.promise.proofs.Counts.{short_alike, writes_alike, open_pairs_unique}
use Rattle.promise.proofs.Crossing.{next_for_c_unique, open_pairs_for_c_unique, hierarchy_for_c_unique}
use Rattle.promise.proofs.Crossing.{ladder_for_c_unique, write_for_c_unique}
use Rattle.promise.proofs.Hierarchy.{hierarchy_unique}
use Rattle.promise.proofs.Ladder.{ladder_passed, ladder_written_unique}
use Rattle.promise.proofs.Write.{book_by_marks, write_unique}
use Rattle.promise.proofs.Read.{read_both}
use Rattle.promise.proofs.Runs.{run_both}

-- What the marks alone decide.

-- whether one of some facts on classes below n contradicts
against_by_marks :
    {n : ℕ} {t t₂ : List ℕ} {F : Facts} → SameMarks n t t₂ → Within n F → SomeContradicts n t F
    → SomeContradicts n t₂ F
against_by_marks m within c =
    let f = c.fact in
    let b = within f c.said in
    record {
      fact = f;
      said = c.said;
      against = sym (m.at f.lower f.upper b.lower_below b.upper_below) ∙ c.against;
    }

-- heads, direct steps and ladders

module _ {n : ℕ} {t t₂ : List ℕ} (m : SameMarks n t t₂) where
  under_by_marks : {a b : ℕ} → a < n → b < n → Under n t a b → Under n t₂ a b
  under_by_marks {a} {b} ha hb u = sym (m.at a b ha hb) ∙ u

  equal_by_marks : {a b : ℕ} → a < n → b < n → Equal n t a b → Equal n t₂ a b
  equal_by_marks ha hb e = (under_by_marks ha hb e.0, under_by_marks hb ha e.1)

head_by_marks : {n : ℕ} {t t₂ : List ℕ} {a h : ℕ} → SameMarks n t t₂ → a < n → HeadOf n t a h → HeadOf n t₂ a h
head_by_marks m ha p =
    record {
      below = p.below;
      equal = equal_by_marks m ha p.below p.equal;
      lowest = λ c hc e. p.lowest c hc (equal_by_marks (same_sym m) ha hc e);
    }

heads_by_marks : {n : ℕ} {t t₂ : List ℕ} → SameMarks n t t₂ → (hs : List ℕ) → HeadsOf n t hs → HeadsOf n t₂ hs
heads_by_marks m hs p = record { size = p.size; at = λ a ha. head_by_marks m ha (p.at a ha) }

third_by_marks :
    {n : ℕ} {t t₂ : List ℕ} {a b c : ℕ} → SameMarks n t t₂ → a < n → b < n → Third n t a b c → Third n t₂ a b c
third_by_marks m ha hb p =
    let hc = p.head.below in
    record {
      head = head_by_marks m hc p.head;
      not_lower = p.not_lower;
      not_upper = p.not_upper;
      above = under_by_marks m ha hc p.above;
      under = under_by_marks m hc hb p.under;
    }

direct_by_marks : {n : ℕ} {t t₂ : List ℕ} {a b : ℕ} → SameMarks n t t₂ → Direct n t a b → Direct n t₂ a b
direct_by_marks m p =
    let ha = p.from.below in
    let hb = p.to.below in
    record {
      from = head_by_marks m ha p.from;
      to = head_by_marks m hb p.to;
      under = under_by_marks m ha hb p.under;
      differ = p.differ;
      alone = λ c z. p.alone c (third_by_marks (same_sym m) ha hb z);
    }

steps_by_marks : {n : ℕ} {t t₂ : List ℕ} {l : List Pair} → SameMarks n t t₂ → StepsOf n t l → StepsOf n t₂ l
steps_by_marks m = lists_map (λ a b _ _. (direct_by_marks m, direct_by_marks (same_sym m)))

rung_by_marks :
    {n : ℕ} {t t₂ : List ℕ} {b rung next : ℕ} → SameMarks n t t₂ → b < n → NextRung n t b rung next
    → NextRung n t₂ b rung next
rung_by_marks m hb p =
    record {
      direct = direct_by_marks m p.direct;
      under = under_by_marks m p.direct.to.below hb p.under;
      lowest = λ c d u.
          p.lowest c (direct_by_marks (same_sym m) d) (under_by_marks (same_sym m) d.to.below hb u);
    }

rungs_by_marks :
    {n : ℕ} {t t₂ : List ℕ} {b rung : ℕ} {l : List ℕ} → SameMarks n t t₂ → b < n → Ladder n t b rung l
    → Ladder n t₂ b rung l
rungs_by_marks m hb (Ladder.end p) = Ladder.end (head_by_marks m hb p)
rungs_by_marks m hb (Ladder.rung r p) = Ladder.rung (rung_by_marks m hb r) (rungs_by_marks m hb p)

ladder_by_marks :
    {n : ℕ} {t t₂ : List ℕ} {a b : ℕ} → SameMarks n t t₂ → (a < n) × (b < n) → (l : List ℕ) → LadderOf n t a b l
    → LadderOf n t₂ a b l
ladder_by_marks m (ha, hb) l p =
    record { start = p.start; head = head_by_marks m ha p.head; rungs = rungs_by_marks m hb p.rungs }

-- Fresh.

fresh_alike : (n : ℕ) (t t₂ : List ℕ) → length t ≡ length t₂ → Alike (fresh_refusals n t) (fresh_refusals n t₂)
fresh_alike n t t₂ e = (refl, Iff.rfl, λ _. (refl, rw e Iff.rfl, λ _. tt))

pub fresh_marks_alone :
    {n : ℕ} {t t₂ : List ℕ} {r r₂ : Reply} {u u₂ : List ℕ} → SameMarks n t t₂ → length t ≡ length t₂
    → Owed (fresh n t) (r, u) → Owed (fresh n t₂) (r₂, u₂) → (r ≡ r₂) × SameMarks n u u₂
fresh_marks_alone {n} {t} {t₂} m e h h₂ =
    changes_alike (fresh_alike n t t₂ e) (λ _. refl) (λ u u₂. fresh_same) h h₂ m

module _ (s : Session) {t t₂ : List ℕ} (m : SameMarks s.classes t t₂) (e : length t ≡ length t₂) where
  -- Tell, answer and clip.

  tell_own_alike : (f : Fact) → Alike (tell_refusals s t f) (tell_refusals s t₂ f)
  tell_own_alike f = (
    refl,
    Iff.rfl,
    λ p.
        let b = below_of s.classes f.lower f.upper p in
        (refl, rw (m.at f.lower f.upper b.0 b.1) Iff.rfl, λ _. tt),
  )

  pub tell_marks_alone :
      (kind : Kind) {f : Fact} {r r₂ : Reply} {u u₂ : List ℕ} → Owed (tell kind s t f) (r, u)
      → Owed (tell kind s t₂ f) (r₂, u₂) → (r ≡ r₂) × SameMarks s.classes u u₂
  tell_marks_alone kind {f} h h₂ =
      changes_alike (standing_alike (tell_refusals s t f) (tell_refusals s t₂ f) s m e (tell_own_alike f))
      (λ g.
      let b = (tell_passed s t f g).1 in
      ap (λ (k : ℕ). tested (adds kind 0 k) s) (m.at f.lower f.upper b.lower_below b.upper_below))
      (λ u u₂. more_by_marks (Only f) m) h h₂ m

  clip_own_alike : (played : List Bool) → Alike (clip_refusals s t played) (clip_refusals s t₂ played)
  clip_own_alike played =
      let within = clip_within s.classes played in (
        refl,
        Iff.rfl,
        λ _. (refl, (against_by_marks m within, against_by_marks (same_sym m) within), λ _. tt),
      )

  pub clip_marks_alone :
      {played : List Bool} {r r₂ : Reply} {u u₂ : List ℕ} → Owed (clip s t played) (r, u)
      → Owed (clip s t₂ played) (r₂, u₂) → (r ≡ r₂) × SameMarks s.classes u u₂
  clip_marks_alone {played} h h₂ =
      changes_alike
      (standing_alike (clip_refusals s t played) (clip_refusals s t₂ played) s m e (clip_own_alike played))
      (λ _. refl) (λ u u₂. more_by_marks (ClipNo s.classes played) m) h h₂ m

  pub bytes_marks_alone :
      {bytes : List ℕ} {r r₂ : Reply} {u u₂ : List ℕ} → Owed (clip_bytes s t bytes) (r, u)
      → Owed (clip_bytes s t₂ bytes) (r₂, u₂) → (r ≡ r₂) × SameMarks s.classes u u₂
  bytes_marks_alone {bytes} h h₂ =
      changes_alike
      (standing_alike (bytes_refusals s t bytes) (bytes_refusals s t₂ bytes) s m e
      (refl, Iff.rfl, λ _. clip_own_alike (flags_of bytes)))
      (λ _. refl) (λ u u₂. more_by_marks (ClipNo s.classes (flags_of bytes)) m) h h₂ m

  -- Next, and how many pairs are open.

  next_alike : CallsAlike (next s t) (next s t₂)
  next_alike =
      record {
        refusals = standing_alike [] [] s m e tt;
        number = λ _. refl;
        refused = λ _. refl;
        done = λ _ q. named q;
      }
    where
      named : (q : Question) → Names s.classes t q → Names s.classes t₂ q
      named (Ask a b) y =
          record {
            lower_below = y.lower_below;
            upper_below = y.upper_below;
            is_open = sym (m.at a b y.lower_below y.upper_below) ∙ y.is_open;
            first = λ c d hc hd p z. y.first c d hc hd p (m.at c d hc hd ∙ z);
          }
      named Done y = record { at = λ a b ha hb z. y.at a b ha hb (m.at a b ha hb ∙ z) }
      named (Refused number place) y = y

  pub next_marks_alone : {q q₂ : Question} → Owed (next s t) q → Owed (next s t₂) q₂ → q ≡ q₂
  next_marks_alone h h₂ = next_unique s t₂ (owed_alike next_alike h) h₂

  pub next_for_c_marks_alone : {q q₂ : CrossedQuestion} → Owed (next_for_c s t) q → Owed (next_for_c s t₂) q₂ → q ≡ q₂
  next_for_c_marks_alone h h₂ = next_for_c_unique s t₂ (owed_alike (crossing_alike next_alike) h) h₂

  open_pairs_alike : CallsAlike (open_pairs s t) (open_pairs s t₂)
  open_pairs_alike =
      record {
        refusals = standing_alike [] [] s m e tt;
        number = λ _. refl;
        refused = λ _. refl;
        done = λ _ r z. z ∙ ap Count (opens_by_marks m);
      }

  pub open_pairs_marks_alone : {r r₂ : Counted} → Owed (open_pairs s t) r → Owed (open_pairs s t₂) r₂ → r ≡ r₂
  open_pairs_marks_alone h h₂ = open_pairs_unique s t₂ (owed_alike open_pairs_alike h) h₂

  pub open_pairs_for_c_marks_alone :
      {r r₂ : CrossedCount} → Owed (count_for_c (open_pairs s t)) r → Owed (count_for_c (open_pairs s t₂)) r₂ → r ≡ r₂
  open_pairs_for_c_marks_alone h h₂ =
      open_pairs_for_c_unique s t₂ (owed_alike (crossing_alike open_pairs_alike) h) h₂

  -- Hierarchy, ladder and write.

  still_open_alike : (0 < opens s.classes t) ↔ (0 < opens s.classes t₂)
  still_open_alike = rw (opens_by_marks m) Iff.rfl

  hierarchy_alike : (heads steps : List ℕ) → CallsAlike (hierarchy s t heads steps) (hierarchy s t₂ heads steps)
  hierarchy_alike heads steps =
      record {
        refusals =
            standing_alike (hierarchy_refusals s t heads steps) (hierarchy_refusals s t₂ heads steps) s m e
            (refl, still_open_alike, λ _. (refl, or_cong heads_short steps_short, λ _. tt));
        number = λ _. refl;
        refused = λ _. refl;
        done = λ _ o d. (d.0, d.1, heads_by_marks m d.0 d.2, steps_by_marks m d.3, d.4);
      }
    where
      n : ℕ
      n = s.classes

      heads_short : TooShort (HeadsOf n t) heads ↔ TooShort (HeadsOf n t₂) heads
      heads_short =
          short_alike (HeadsOf n t) (HeadsOf n t₂) heads (λ hs. (heads_by_marks m hs, heads_by_marks (same_sym m) hs))

      steps_short : TooShort (StepBytes n t) steps ↔ TooShort (StepBytes n t₂) steps
      steps_short =
          short_alike (StepBytes n t) (StepBytes n t₂) steps (λ w. (
            λ z. (z.0, steps_by_marks m z.1, z.2),
            λ z. (z.0, steps_by_marks (same_sym m) z.1, z.2),
          ))

  pub hierarchy_marks_alone :
      (heads steps : List ℕ) {o o₂ : Counted × (List ℕ × List ℕ)} → Owed (hierarchy s t heads steps) o
      → Owed (hierarchy s t₂ heads steps) o₂ → o ≡ o₂
  hierarchy_marks_alone heads steps h h₂ =
      hierarchy_unique s t₂ heads steps (owed_alike (hierarchy_alike heads steps) h) h₂

  pub hierarchy_for_c_marks_alone :
      (heads steps : List ℕ) {o o₂ : CrossedCount × (List ℕ × List ℕ)}
      → Owed (writes_for_c (hierarchy s t heads steps)) o
      → Owed (writes_for_c (hierarchy s t₂ heads steps)) o₂ → o ≡ o₂
  hierarchy_for_c_marks_alone heads steps h h₂ =
      hierarchy_for_c_unique s t₂ heads steps (owed_alike (crossing_alike (hierarchy_alike heads steps)) h) h₂

  ladder_alike : (a b : ℕ) (out : List ℕ) → CallsAlike (ladder s t a b out) (ladder s t₂ a b out)
  ladder_alike a b out =
      writes_alike (standing s t (ladder_refusals s t a b out)) (standing s t₂ (ladder_refusals s t₂ a b out))
      (LadderOf s.classes t a b) (LadderOf s.classes t₂ a b) out
      (standing_alike (ladder_refusals s t a b out) (ladder_refusals s t₂ a b out) s m e own)
      (λ f.
      ladder_by_marks m
      (below_of s.classes a b
      (ladder_passed s t a b out (standing_passed (ladder_refusals s t a b out) s f).1).0))
    where
      own : Alike (ladder_refusals s t a b out) (ladder_refusals s t₂ a b out)
      own = (
        refl,
        Iff.rfl,
        λ p.
            let below = below_of s.classes a b p in (
              refl,
              still_open_alike,
              λ _. (
                refl,
                rw (m.at a b below.0 below.1) Iff.rfl,
                λ _. (
                  refl,
                  short_alike (LadderOf s.classes t a b) (LadderOf s.classes t₂ a b) out (λ l. (
                    ladder_by_marks m below l,
                    ladder_by_marks (same_sym m) below l,
                  )),
                  λ _. tt,
                ),
              ),
            ),
      )

  pub ladder_marks_alone :
      (a b : ℕ) (out : List ℕ) {o o₂ : Counted × List ℕ} → Owed (ladder s t a b out) o → Owed (ladder s t₂ a b out) o₂
      → o ≡ o₂
  ladder_marks_alone a b out h h₂ = ladder_written_unique s t₂ a b out (owed_alike (ladder_alike a b out) h) h₂

  pub ladder_for_c_marks_alone :
      (a b : ℕ) (out : List ℕ) {o o₂ : CrossedCount × List ℕ} → Owed (writes_for_c (ladder s t a b out)) o
      → Owed (writes_for_c (ladder s t₂ a b out)) o₂ → o ≡ o₂
  ladder_for_c_marks_alone a b out h h₂ =
      ladder_for_c_unique s t₂ a b out (owed_alike (crossing_alike (ladder_alike a b out)) h) h₂

  write_alike : (out : List ℕ) → CallsAlike (write s t out) (write s t₂ out)
  write_alike out =
      writes_alike (standing s t (write_refusals s t out)) (standing s t₂ (write_refusals s t₂ out))
      (BookOf s.classes t) (BookOf s.classes t₂) out
      (standing_alike (write_refusals s t out) (write_refusals s t₂ out) s m e (
        refl,
        short_alike (BookOf s.classes t) (BookOf s.classes t₂) out (λ w. (
          book_by_marks m,
          book_by_marks (same_sym m),
        )),
        λ _. tt,
      ))
      (λ _ w. book_by_marks m)

  pub write_marks_alone :
      (out : List ℕ) {o o₂ : Counted × List ℕ} → Owed (write s t out) o → Owed (write s t₂ out) o₂ → o ≡ o₂
  write_marks_alone out h h₂ = write_unique s t₂ out (owed_alike (write_alike out) h) h₂

  pub write_for_c_marks_alone :
      (out : List ℕ) {o o₂ : CrossedCount × List ℕ} → Owed (writes_for_c (write s t out)) o
      → Owed (writes_for_c (write s t₂ out)) o₂ → o ≡ o₂
  write_for_c_marks_alone out h h₂ =
      write_for_c_unique s t₂ out (owed_alike (crossing_alike (write_alike out)) h) h₂

-- Runs and reading: what is kept is that the marks and the length are the same.

abbrev SameTable : Session → List ℕ → List ℕ → Type 0
SameTable s t t₂ = SameMarks s.classes t t₂ × (length t ≡ length t₂)

tell_keeps : (kind : Kind) (f : Fact) → Keeps SameTable (λ s t. tell kind s t f)
tell_keeps kind f =
    record {
      both = λ s t t₂ k h h₂.
          let a = tell_marks_alone s k.0 k.1 kind h h₂ in
          (a.0, (rw (tell_opens kind h _ refl).0 a.1, sym (changes_length h) ∙ k.1 ∙ changes_length h₂));
    }

clip_keeps : (played : List Bool) → Keeps SameTable (λ s t. clip s t played)
clip_keeps played =
    record {
      both = λ s t t₂ k h h₂.
          let a = clip_marks_alone s k.0 k.1 h h₂ in
          (a.0, (rw (clip_session h) a.1, sym (changes_length h) ∙ k.1 ∙ changes_length h₂));
    }

intake_keeps : (c : Intake) → Keeps SameTable (taking c)
intake_keeps (Intake.fact kind f) = tell_keeps kind f
intake_keeps (Intake.clipped played) = clip_keeps played

-- runs that make the same calls from one session and two tables: the same refusal numbers, session and marks
pub run_marks_alone :
    {made made₂ : List Made} {s s₁ s₂ : Session} {t t₂ u u₂ : List ℕ} → SameMarks s.classes t t₂
    → length t ≡ length t₂ → Run s t made s₁ u → Run s t₂ made₂ s₂ u₂ → calls_of made ≡ calls_of made₂
    → (made ≡ made₂) × (s₁ ≡ s₂) × SameMarks s₁.classes u u₂
run_marks_alone m e run run₂ same =
    let q = run_both SameTable intake_keeps (m, e) run run₂ same in (q.0, q.1, q.2.0)

same_none : {t t₂ : List ℕ} → SameMarks 0 t t₂
same_none = record { at = λ a b ha. absurd (omega arith) }

-- fresh reads the length alone
fresh_keeps : (n : ℕ) → Keeps SameTable (λ _ t. fresh n t)
fresh_keeps n = record { both = same }
  where
    same :
        (s : Session) (t t₂ : List ℕ) {r r₂ : Reply} {u u₂ : List ℕ} → SameTable s t t₂ → Owed (fresh n t) (r, u)
        → Owed (fresh n t₂) (r₂, u₂) → (r ≡ r₂) × SameTable r.session u u₂
    same s t t₂ {r} {r₂} {u} {u₂} (m, e) h h₂ =
        (q, (marks (ℕ_discrete r.number 0), sym (changes_length h) ∙ e ∙ changes_length h₂))
      where
        q : r ≡ r₂
        q = reply_alike (fresh_alike n t t₂ e) (λ _. refl) (λ u u₂. fresh_same) h h₂

        marks : Dec (r.number ≡ 0) → SameMarks r.session.classes u u₂
        marks (yes z) =
            rw (changes_session h z) (fresh_same (h.done z).marks (h₂.done (rw q at z)).marks)
        marks (no z) = rw (changes_kept h z).0 same_none

-- "Reading applies facts left to right on a fresh table": of the table that it is given the length alone is read
pub read_marks_alone :
    {book t t₂ : List ℕ} {r r₂ : Reply} {u u₂ : List ℕ} → length t ≡ length t₂ → BookRead book t r u
    → BookRead book t₂ r₂ u₂ → (r ≡ r₂) × SameMarks r.session.classes u u₂
read_marks_alone e h h₂ =
    let q = read_both SameTable fresh_keeps tell_keeps (same_none, e) h h₂ in (q.0, q.1.0)
