-- Demand 3, over any run of tells, answers and clips, refused ones among them; and the tally as a number read off the
-- history.
-- Assumes nothing.
use mathlib.Core.Path.{◌≡◌, refl, sym, ◌∙◌, ap, ap₂, subst, subst⁻¹}
use mathlib.Core.Logic.{◌↔◌, ◌≢◌, inl, inr}
use mathlib.Core.List.Memᴰ
use mathlib.Core.List.{List, [], ◌∷◌, ◌++◌}
use Prim.Native.Nat.{ℕ, zero, suc, ◌+◌, ◌*◌, ◌≤◌, ◌<◌}
use native.Mathlib.Decide.{ℕ_discrete}
use native.Mathlib.Omega.{arith}
use lib.ListN.{length}
use Rattle.order.specs.Facts.{Facts, ◌and◌, ◌⊆◌, Below}
use Rattle.order.specs.Tables.{mark, TableOf, SameMarks, SameRest, opens}
use Rattle.order.specs.Orders.{Impossible, Possible, Exact}
use Rattle.order.proofs.Decide.{stable}
use Rattle.order.proofs.Sets.{entails_subset, and_none, none_and, and_left, and_right}
use Rattle.order.proofs.Tables.{table_unique, table_of_equals, settled_stays}
use Rattle.order.proofs.Bytes.{rest_refl, rest_trans}
use Rattle.order.proofs.Exactness.{possible_not, exact, table_possible}
use Rattle.promise.specs.declared.Session.{Session}
use Rattle.promise.specs.declared.Reply.{Reply}
use Rattle.promise.specs.Calls.{Owed}
use Rattle.promise.specs.Runs.{StandsFor, Intake, taking, SaidBy, Fits, added_by, Made, Run, FromFresh, calls_of}
use Rattle.promise.specs.Runs.{UnlessRefused, Accepted, tests_in}
use Rattle.promise.proofs.Calls.{Keeps, unique_keeps, changes_kept, changes_session}
use Rattle.promise.proofs.Fresh.{fresh_stands, fresh_there, fresh_accepted}
use Rattle.promise.proofs.Taking.{stands_of, Leaves, leaves_stands}
use Rattle.promise.proofs.Tell.{tell_unique, tell_there, tell_opens, tell_leaves, tell_refused}
use Rattle.promise.proofs.Clips.{clip_unique, clip_there, clip_session, clip_opens, clip_leaves, clip_refused}

-- the same facts, said otherwise
pub stands_equal : {S S' : Facts} {s : Session} {t : List ℕ} → S ⊆ S' → S' ⊆ S → StandsFor S s t → StandsFor S' s t
stands_equal i j st =
    record {
      within = λ f m. st.within f (j f m);
      table = table_of_equals (entails_subset j) (entails_subset i) st.table;
      stands = st.stands;
    }

-- One call: its outcome is there and the only one, and what it leaves.

pub intake_unique :
    (c : Intake) (s : Session) (t : List ℕ) {o o₂ : Reply × List ℕ} → Owed (taking c s t) o → Owed (taking c s t) o₂
    → o ≡ o₂
intake_unique (Intake.fact kind f) s t h h₂ = tell_unique kind h h₂
intake_unique (Intake.clipped played) s t h h₂ = clip_unique h h₂

pub intake_there : (c : Intake) (s : Session) (t : List ℕ) → (o : Reply × List ℕ) × Owed (taking c s t) o
intake_there (Intake.fact kind f) s t = tell_there kind s t f
intake_there (Intake.clipped played) s t = clip_there s t played

pub intake_leaves :
    (c : Intake) (s : Session) (t : List ℕ) {r : Reply} {t' : List ℕ} → Owed (taking c s t) (r, t') → r.number ≡ 0
    → Leaves (SaidBy s.classes c) s t r.session t'
intake_leaves (Intake.fact kind f) s t h e = tell_leaves kind h e
intake_leaves (Intake.clipped played) s t h e = clip_leaves h e

-- refused, it leaves all as it was; accepted, every byte from n*n on
intake_refused :
    (c : Intake) (s : Session) (t : List ℕ) {r : Reply} {t' : List ℕ} → Owed (taking c s t) (r, t') → r.number ≢ 0
    → (r.session ≡ s) × (t' ≡ t)
intake_refused (Intake.fact kind f) s t h = changes_kept h
intake_refused (Intake.clipped played) s t h = changes_kept h

intake_rest :
    (c : Intake) (s : Session) (t : List ℕ) {r : Reply} {t' : List ℕ} → Owed (taking c s t) (r, t') → r.number ≡ 0
    → SameRest s.classes t t'
intake_rest (Intake.fact kind f) s t h e = (h.done e).rest
intake_rest (Intake.clipped played) s t h e = (h.done e).rest

-- the class count stays, the tally grows by what the call adds, and that and what stays open is no more than was open
intake_opens :
    (c : Intake) (s : Session) (t : List ℕ) {r : Reply} {t' : List ℕ} → Owed (taking c s t) (r, t') → (k : ℕ)
    → r.number ≡ k
    → (r.session.classes ≡ s.classes) × (r.session.tests ≡ s.tests + added_by c k s t)
    × (added_by c k s t + opens s.classes t' ≤ opens s.classes t)
intake_opens (Intake.fact kind f) s t h k e = tell_opens kind h k e
intake_opens (Intake.clipped played) s t h k e =
    let o = clip_opens h in
    rw (clip_session h) (refl, omega arith, omega arith)

-- "A fact on two classes below the count is refused as contradictory exactly when no order agrees with it and those
-- accepted before", a clip "exactly when no order agrees with all of them and the facts accepted before"; and neither
-- is refused for another reason
pub intake_contradicted :
    (c : Intake) (s : Session) (t : List ℕ) {S : Facts} {r : Reply} {t' : List ℕ} → StandsFor S s t
    → Fits s.classes c
    → Owed (taking c s t) (r, t')
    → ((r.number ≢ 0) ↔ Impossible s.classes (S and SaidBy s.classes c)) × (r.number ≢ 0 → r.number ≡ 6)
intake_contradicted (Intake.fact kind f) s t st b h = tell_refused kind st b h
intake_contradicted (Intake.clipped played) s t st b h = clip_refused st b h

-- some order agrees with the facts that a table stands for
stands_possible : {S : Facts} {s : Session} {t : List ℕ} → StandsFor S s t → Possible s.classes S
stands_possible st = table_possible st.within st.table

-- a call is accepted exactly when some order agrees with what it says and the facts accepted before
pub intake_accepted :
    (c : Intake) (s : Session) (t : List ℕ) {S : Facts} {r : Reply} {t' : List ℕ} → StandsFor S s t
    → Fits s.classes c
    → Owed (taking c s t) (r, t') → (r.number ≡ 0) ↔ Possible s.classes (S and SaidBy s.classes c)
intake_accepted c s t {r = r} st b h = (
  λ e. let l = intake_leaves c s t h e in rw l.classes at (stands_possible (leaves_stands l st)),
  λ p. stable (ℕ_discrete r.number 0) (λ z. possible_not p ((intake_contradicted c s t st b h).0.0 z)),
)

-- what a run leaves stands for the facts it started from and those accepted
pub run_stands :
    {n : ℕ} {S : Facts} {s s' : Session} {t t' : List ℕ} {made : List Made} → s.classes ≡ n → StandsFor S s t
    → Run s t made s' t' → StandsFor (S and Accepted n made) s' t'
run_stands {S = S} c st Run.stop = stands_equal (λ f m. inl m) (and_none S (λ f i. i)) st
run_stands {n} {S} {s} {s'} {t} {t'} c st (Run.call {m = m} {later = later} {t₁ = t₁} {r = r} h e run) =
    go m.number e (λ T q st₁. run_stands {n = n} {S = T} q st₁ run)
  where
    go :
        (k : ℕ) → r.number ≡ k
        → ((T : Facts) → r.session.classes ≡ n → StandsFor T r.session t₁
        → StandsFor (T and Accepted n later) s' t')
        → StandsFor (S and (UnlessRefused k (SaidBy n m.call) and Accepted n later)) s' t'
    go zero z next =
        let l = intake_leaves m.call s t h z in
        stands_equal (and_left S (SaidBy n m.call) (Accepted n later))
        (and_right S (SaidBy n m.call) (Accepted n later))
        (next (S and SaidBy n m.call) (l.classes ∙ c)
        (subst (λ (k : ℕ). StandsFor (S and SaidBy k m.call) r.session t₁) c (leaves_stands l st)))
    go (suc k) z next =
        let q = intake_refused m.call s t h (λ y. omega arith) in
        stands_equal none_more none_said (next S (rw q.0 c) (rw (q.0, q.1) st))
      where
        none_more : (S and Accepted n later) ⊆ (S and (UnlessRefused (suc k) (SaidBy n m.call) and Accepted n later))
        none_more f (inl i) = inl i
        none_more f (inr i) = inr (inr i)

        none_said : (S and (UnlessRefused (suc k) (SaidBy n m.call) and Accepted n later)) ⊆ (S and Accepted n later)
        none_said f (inl i) = inl i
        none_said f (inr i) = inr (none_and (Accepted n later) (λ g z. z) f i)

-- fresh leaves a session of the class count that it was given
pub fresh_run_began :
    {n : ℕ} {t : List ℕ} {made : List Made} {s' : Session} {t' : List ℕ} (h : FromFresh n t made s' t')
    → h.reply.session.classes ≡ n
fresh_run_began h = ap (λ (s : Session). s.classes) (changes_session h.began h.accepted)

-- what a run from fresh leaves stands for the facts accepted
pub fresh_run_stands :
    {n : ℕ} {t : List ℕ} {made : List Made} {s' : Session} {t' : List ℕ} → FromFresh n t made s' t'
    → StandsFor (Accepted n made) s' t'
fresh_run_stands {n} {made = made} h =
    stands_equal (none_and (Accepted n made) (λ f i. Memᴰ.not-nil i)) (λ f m. inr m)
    (run_stands (fresh_run_began h) (fresh_stands h.began h.accepted) h.run)

-- the class count stays; the tally grows by the tests of the history; "From any moment on, answers counted since plus
-- pairs still open never exceed the pairs open at that moment"
pub run_tests :
    {s s' : Session} {t t' : List ℕ} {made : List Made} (run : Run s t made s' t')
    → (s'.classes ≡ s.classes) × (s'.tests ≡ s.tests + tests_in run)
    × (tests_in run + opens s.classes t' ≤ opens s.classes t)
unfolding tests_in
run_tests Run.stop = (refl, omega arith, omega arith)
run_tests {s} {s'} {t} {t'} (Run.call {m = m} {t₁ = t₁} {r = r} h e run) =
    let i = run_tests run in
    let o = intake_opens m.call s t h m.number e in
    let le : tests_in run + opens s.classes t' ≤ opens s.classes t₁ =
    subst (λ (n : ℕ). tests_in run + opens n t' ≤ opens n t₁) o.0 i.2
    in
    (i.0 ∙ o.0, omega (arith, i.1, o.1), omega (arith, le, o.2))

-- no byte from n*n on is written, and the length stays
pub run_rest :
    {s s' : Session} {t t' : List ℕ} {made : List Made} → Run s t made s' t' → SameRest s.classes t t'
run_rest {t = t} Run.stop = rest_refl t
run_rest {s} {s'} {t} {t'} (Run.call {m = m} {t₁ = t₁} {r = r} h e run) = go (ℕ_discrete r.number 0) (run_rest run)
  where
    go : Dec (r.number ≡ 0) → SameRest r.session.classes t₁ t' → SameRest s.classes t t'
    go (yes z) later = rest_trans (intake_rest m.call s t h z) (rw (intake_opens m.call s t h 0 z).0 at later)
    go (no z) later = let q = intake_refused m.call s t h z in rw (q.0, q.1) at later

-- A run from fresh: demand 3 for its class count.
module _ {n : ℕ} {t : List ℕ} {made : List Made} {s' : Session} {t' : List ℕ} (h : FromFresh n t made s' t') where
  pub fresh_run_classes : s'.classes ≡ n
  fresh_run_classes = (run_tests h.run).0 ∙ fresh_run_began h

  -- "The tally is therefore a number read off the history."
  pub fresh_run_tests : s'.tests ≡ tests_in h.run
  fresh_run_tests =
      let e : h.reply.session.tests ≡ 0 = ap (λ (s : Session). s.tests) (changes_session h.began h.accepted)
      in
      omega (arith, (run_tests h.run).1)

  -- "At most n*n-n tests can be counted."
  pub fresh_run_most : s'.tests + n ≤ n * n
  fresh_run_most =
      subst (λ (k : ℕ). s'.tests + k ≤ k * k) fresh_run_classes
      (omega (arith, (stands_of (fresh_run_stands h)).count))

  pub fresh_run_rest : SameRest n t t'
  fresh_run_rest =
      rest_trans (h.began.done h.accepted).rest (rw (fresh_run_began h) at (run_rest h.run))

  pub fresh_run_table : TableOf n (Accepted n made) t'
  fresh_run_table =
      subst (λ (k : ℕ). TableOf k (Accepted n made) t') fresh_run_classes (fresh_run_stands h).table

  -- "After each call a pair is yes exactly when every order agreeing with all accepted facts has it, no exactly when
  -- none has it, open otherwise."
  pub fresh_run_exact : (a b : ℕ) → a < n → b < n → Exact n (Accepted n made) t' a b
  fresh_run_exact =
      exact
      (λ f m.
      subst (λ (k : ℕ). Below k f) fresh_run_classes ((fresh_run_stands h).within f m))
      fresh_run_table

  -- "A fact on two classes below the count is refused as contradictory exactly when no order agrees with it and those
  -- accepted before." And a clip "is refused as contradictory exactly when no order agrees with all of them and the
  -- facts accepted before".
  pub fresh_run_refused :
      (c : Intake) {r : Reply} {t'' : List ℕ} → Fits n c → Owed (taking c s' t') (r, t'')
      → ((r.number ≢ 0) ↔ Impossible n (Accepted n made and SaidBy n c)) × (r.number ≢ 0 → r.number ≡ 6)
  fresh_run_refused c {r} {t''} b makes =
      subst
      (λ (k : ℕ).
      ((r.number ≢ 0) ↔ Impossible k (Accepted n made and SaidBy k c)) × (r.number ≢ 0 → r.number ≡ 6))
      fresh_run_classes
      (intake_contradicted c s' t' (fresh_run_stands h) (rw fresh_run_classes b) makes)

  -- a call is accepted exactly when some order agrees with what it says and the facts accepted before
  pub fresh_run_accepted :
      (c : Intake) {r : Reply} {t'' : List ℕ} → Fits n c → Owed (taking c s' t') (r, t'')
      → (r.number ≡ 0) ↔ Possible n (Accepted n made and SaidBy n c)
  fresh_run_accepted c {r} {t''} b makes =
      subst (λ (k : ℕ). (r.number ≡ 0) ↔ Possible k (Accepted n made and SaidBy k c)) fresh_run_classes
      (intake_accepted c s' t' (fresh_run_stands h) (rw fresh_run_classes b) makes)

  -- some order agrees with all accepted facts
  pub fresh_run_possible : Possible n (Accepted n made)
  fresh_run_possible =
      subst (λ (k : ℕ). Possible k (Accepted n made)) fresh_run_classes (stands_possible (fresh_run_stands h))

-- The facts accepted by one run are among those accepted by another, refused calls among either: nothing settled by the
-- first reads differently under the second.
pub fresh_runs_agree :
    {n : ℕ} {t t₂ : List ℕ} {made made₂ : List Made} {s s₂ : Session} {u u₂ : List ℕ} → FromFresh n t made s u
    → FromFresh n t₂ made₂ s₂ u₂ → Accepted n made ⊆ Accepted n made₂ → (a b : ℕ) → a < n → b < n
    → mark n u a b ≢ 0 → mark n u₂ a b ≡ mark n u a b
fresh_runs_agree h h₂ i = settled_stays i (fresh_run_table h) (fresh_run_table h₂)

-- The same facts accepted, in whatever order and by whatever calls: the same marks.
pub fresh_runs_same :
    {n : ℕ} {t t₂ : List ℕ} {made made₂ : List Made} {s s₂ : Session} {u u₂ : List ℕ} → FromFresh n t made s u
    → FromFresh n t₂ made₂ s₂ u₂ → Accepted n made ⊆ Accepted n made₂ → Accepted n made₂ ⊆ Accepted n made
    → SameMarks n u u₂
fresh_runs_same h h₂ i j =
    table_unique (table_of_equals (entails_subset j) (entails_subset i) (fresh_run_table h)) (fresh_run_table h₂)

-- A run is any list of calls: it can be cut at any moment and led on by one call more, and every list of calls has one.

pub run_cut :
    (before since : List Made) {s s' : Session} {t t' : List ℕ} → Run s t (before ++ since) s' t'
    → (s₁ : Session) × (t₁ : List ℕ) × Run s t before s₁ t₁ × Run s₁ t₁ since s' t'
run_cut [] since {s} {s'} {t} run = (s, t, Run.stop, run)
run_cut (m ∷ before) since (Run.call h e run) =
    let q = run_cut before since run in (q.0, q.1, Run.call h e q.2, q.3)

pub run_then :
    {made : List Made} (m : Made) {s s₁ : Session} {t t₁ t₂ : List ℕ} {r : Reply} → Run s t made s₁ t₁
    → Owed (taking m.call s₁ t₁) (r, t₂) → r.number ≡ m.number
    → Run s t (made ++ m ∷ []) r.session t₂
run_then m Run.stop makes e = Run.call makes e Run.stop
run_then m (Run.call h same run) makes e = Run.call h same (run_then m run makes e)

pub calls_then : (made : List Made) (m : Made) → calls_of (made ++ m ∷ []) ≡ calls_of made ++ m.call ∷ []
calls_then [] m = refl
calls_then (first ∷ made) m = ap (λ (l : List Intake). first.call ∷ l) (calls_then made m)

pub run_there :
    (calls : List Intake) (s : Session) (t : List ℕ)
    → (made : List Made) × (s' : Session) × (t' : List ℕ) × Run s t made s' t' × (calls_of made ≡ calls)
run_there [] s t = ([], s, t, Run.stop, refl)
run_there (c ∷ calls) s t =
    let q = intake_there c s t in
    let later = run_there calls q.0.0.session q.0.1 in (
      record { call = c; number = q.0.0.number } ∷ later.0,
      later.1,
      later.2,
      Run.call q.1 refl later.3,
      ap (λ (l : List Intake). c ∷ l) later.4,
    )

-- from fresh, any list of calls for any class count from 1 to 128 on any table that is long enough
pub fresh_run_there :
    (calls : List Intake) (n : ℕ) (t : List ℕ) → 1 ≤ n → n ≤ 128 → n * n ≤ length t
    → (made : List Made) × (s' : Session) × (t' : List ℕ) × FromFresh n t made s' t' × (calls_of made ≡ calls)
fresh_run_there calls n t some few room =
    let q = fresh_there n t in
    let x = run_there calls q.0.0.session q.0.1 in (
      x.0,
      x.1,
      x.2,
      record {
        reply = q.0.0;
        table = q.0.1;
        began = q.1;
        accepted = fresh_accepted t some few room q.1.number;
        run = x.3;
      },
      x.4,
    )

-- the first call of a list, and those after it
abbrev pub first_or : Intake → List Intake → Intake
first_or c [] = c
first_or _ (c ∷ calls) = c

abbrev pub rest : List Intake → List Intake
rest [] = []
rest (c ∷ calls) = calls

-- Two runs that make the same calls from one session and two tables: what every call keeps, replying the same on both,
-- holds in the end if it held at the start; they get the same numbers and leave one session.
module _ (Kept : Session → List ℕ → List ℕ → Type 0) (keeps : (c : Intake) → Keeps Kept (taking c)) where
  pub run_both :
      {made made₂ : List Made} {s s₁ s₂ : Session} {t t₂ u u₂ : List ℕ} → Kept s t t₂ → Run s t made s₁ u
      → Run s t₂ made₂ s₂ u₂ → calls_of made ≡ calls_of made₂ → (made ≡ made₂) × (s₁ ≡ s₂) × Kept s₁ u u₂
  run_both kept Run.stop Run.stop e = (refl, refl, kept)
  run_both kept Run.stop (Run.call h same run) e = absurd (omega (arith, ap length e))
  run_both kept (Run.call h same run) Run.stop e = absurd (omega (arith, ap length e))
  run_both {s = s} {s₂ = s₂} {t = t} {t₂ = t₂} {u₂ = u₂} kept (Run.call {m = m} h same run)
      (Run.call {later = later₂} {t₁ = v₂} {r = r₂} h₂ same₂ run₂) e =
      let first = ap (λ (calls : List Intake). first_or m.call calls) e in
      let h₃ = subst⁻¹ (λ (c : Intake). Owed (taking c s t₂) (r₂, v₂)) first h₂ in
      let one = (keeps m.call).both s t t₂ kept h h₃ in
      let number = sym same ∙ ap (λ (x : Reply). x.number) one.0 ∙ same₂ in
      let run₃ = subst⁻¹ (λ (x : Reply). Run x.session v₂ later₂ s₂ u₂) one.0 run₂ in
      let later = run_both one.1 run run₃ (ap rest e) in
      (ap₂ ◌∷◌ (ap₂ (λ c k. record { call = c; number = k }) first number) later.0, later.1, later.2)

-- runs that make the same calls from one session and one table leave one session and one table
pub run_unique :
    {made made₂ : List Made} {s s₁ s₂ : Session} {t t₁ t₂ : List ℕ} → Run s t made s₁ t₁ → Run s t made₂ s₂ t₂
    → calls_of made ≡ calls_of made₂ → (s₁ ≡ s₂) × (t₁ ≡ t₂)
run_unique run run₂ e =
    let q =
    run_both (λ s t t₂. t ≡ t₂) (λ c. unique_keeps (taking c) (λ s t o o₂. intake_unique c s t)) refl run run₂ e
    in
    (q.1, q.2)
