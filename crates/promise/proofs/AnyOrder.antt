-- Calls on classes below n are accepted whole exactly when some order agrees with all that they say; so the order in
-- which they come, and which calls say it, make no difference; and more facts leave what is settled as it is.
-- Assumes nothing.
use mathlib.Core.Path.{◌≡◌, sym, ◌∙◌, subst}
use mathlib.Core.Logic.{◌↔◌, ◌≢◌, ◌⊎◌, inl, inr}
use mathlib.Core.List.Memᴰ
use mathlib.Core.List.{List, [], ◌∷◌, map}
use Prim.Native.Nat.{ℕ, ◌<◌}
use Rattle.order.specs.Facts.{Fact, Facts, Listed, ◌and◌, ◌⊆◌, Within}
use Rattle.order.specs.Tables.{mark, TableOf}
use Rattle.order.specs.Orders.{Possible}
use Rattle.order.proofs.Sets.{entails_subset, within_and, none_and, and_left}
use Rattle.order.proofs.Tables.{table_unique, table_of_equals}
use Rattle.order.proofs.Exactness.{possible_subset, table_possible}
use Rattle.order.proofs.Bytes.{same_list, rest_sym, rest_trans}
use Rattle.promise.specs.declared.Session.{Session}
use Rattle.promise.specs.declared.Kind.{Kind}
use Rattle.promise.specs.Runs.{StandsFor, Intake, SaidBy, Said, Fits, AllFit, Made, Run, FromFresh, calls_of}
use Rattle.promise.specs.Runs.{Accepted, AllAccepted}
use Rattle.promise.proofs.Fresh.{fresh_stands}
use Rattle.promise.proofs.Taking.{leaves_stands}
use Rattle.promise.proofs.Runs.{intake_leaves, intake_accepted, run_stands, run_tests, run_rest, fresh_run_began}
use Rattle.promise.proofs.Runs.{fresh_runs_agree}

-- where all were accepted, the facts accepted are those said
pub accepted_said : (n : ℕ) (made : List Made) → AllAccepted made → (f : Fact)
    → Accepted n made f ↔ Said n (calls_of made) f
accepted_said n [] all f = (λ i. i, λ i. i)
accepted_said n (m ∷ later) all f =
    let q = accepted_said n later all.1 f in
    rw all.0 (there q, back q)
  where
    Both : Type 0
    Both = Accepted n later f ↔ Said n (calls_of later) f

    there : Both → SaidBy n m.call f ⊎ Accepted n later f → SaidBy n m.call f ⊎ Said n (calls_of later) f
    there q (inl i) = inl i
    there q (inr i) = inr (q.0 i)

    back : Both → SaidBy n m.call f ⊎ Said n (calls_of later) f → SaidBy n m.call f ⊎ Accepted n later f
    back q (inl i) = inl i
    back q (inr i) = inr (q.1 i)

-- "Hence, if one list of facts is contained in another and both are accepted whole, nothing settled by the first
-- reads differently under the second": of any calls, by what they say
pub contained_agree :
    {n : ℕ} {t t₂ : List ℕ} {made made₂ : List Made} {s s₂ : Session} {u u₂ : List ℕ} → FromFresh n t made s u
    → FromFresh n t₂ made₂ s₂ u₂ → AllAccepted made → AllAccepted made₂
    → Said n (calls_of made) ⊆ Said n (calls_of made₂) → (a b : ℕ) → a < n → b < n
    → mark n u a b ≢ 0 → mark n u₂ a b ≡ mark n u a b
contained_agree {n} {made = made} {made₂ = made₂} h h₂ all all₂ i =
    fresh_runs_agree h h₂ (λ f m. (accepted_said n made₂ all₂ f).1 (i f ((accepted_said n made all f).0 m)))

-- facts taken in one by one, each told or given as an answer, say what is listed
pub listed_said :
    {A : Type 0} (n : ℕ) (kind : A → Kind) (fact : A → Fact) (l : List A) (f : Fact)
    → Said n (map (λ x. Intake.fact (kind x) (fact x)) l) f ↔ Listed (map fact l) f
listed_said n kind fact [] f = (λ i. absurd i, λ i. absurd (Memᴰ.not-nil i))
listed_said n kind fact (x ∷ l) f =
    let q = listed_said n kind fact l f in (there q, λ i. back q (Memᴰ.cases_cons i))
  where
    Later : Type 0
    Later = Said n (map (λ x. Intake.fact (kind x) (fact x)) l) f

    there : Later ↔ Listed (map fact l) f → (f ≡ fact x) ⊎ Later → Listed (map fact (x ∷ l)) f
    there q (inl e) = Memᴰ.head e
    there q (inr i) = Memᴰ.tail (q.0 i)

    back : Later ↔ Listed (map fact l) f → (f ≡ fact x) ⊎ Listed (map fact l) f → (f ≡ fact x) ⊎ Later
    back q (inl e) = inl e
    back q (inr i) = inr (q.1 i)

-- and of two lists of facts, each with whether it is told or given as an answer
pub lists_agree :
    {n : ℕ} (l l₂ : List (Kind × Fact)) {t t₂ : List ℕ} {made made₂ : List Made} {s s₂ : Session} {u u₂ : List ℕ}
    → calls_of made ≡ map (λ x. Intake.fact x.0 x.1) l → calls_of made₂ ≡ map (λ x. Intake.fact x.0 x.1) l₂
    → FromFresh n t made s u → FromFresh n t₂ made₂ s₂ u₂ → AllAccepted made → AllAccepted made₂
    → Listed (map (λ x. x.1) l) ⊆ Listed (map (λ x. x.1) l₂)
    → (a b : ℕ) → a < n → b < n → mark n u a b ≢ 0 → mark n u₂ a b ≡ mark n u a b
lists_agree {n} l l₂ each each₂ h h₂ all all₂ i =
    contained_agree h h₂ all all₂ (rw (each, each₂) (λ f m.
    (listed_said n (λ x. x.0) (λ x. x.1) l₂ f).1 (i f ((listed_said n (λ x. x.0) (λ x. x.1) l f).0 m))))

-- what calls that fit say is on classes below n
all_within : (n : ℕ) (calls : List Intake) → AllFit n calls → Within n (Said n calls)
all_within n [] fit f i = absurd i
all_within n (Intake.fact kind g ∷ later) fit f (inl e) = rw e fit.0
all_within n (Intake.clipped played ∷ later) fit f (inl i) = i.below
all_within n (Intake.fact kind g ∷ later) fit f (inr i) = all_within n later fit.1 f i
all_within n (Intake.clipped played ∷ later) fit f (inr i) = all_within n later fit.1 f i

possible_accepted :
    {n : ℕ} (S : Facts) {s s' : Session} {t t' : List ℕ} {made : List Made} → s.classes ≡ n → StandsFor S s t
    → AllFit n (calls_of made) → Run s t made s' t' → Possible n (S and Said n (calls_of made)) → AllAccepted made
possible_accepted S c st fit Run.stop possible = tt
possible_accepted {n} S {s} {s'} {t} {t'} c st fit (Run.call {m = m} {later = later} {t₁ = t₁} {r = r} h e run)
    possible =
    let l = intake_leaves m.call s t h first in (
      sym e ∙ first,
      possible_accepted (S and SaidBy n m.call) (l.classes ∙ c)
          (subst (λ (k : ℕ). StandsFor (S and SaidBy k m.call) r.session t₁) c (leaves_stands l st)) fit.1 run
          (possible_subset (and_left S (SaidBy n m.call) (Said n (calls_of later))) possible),
    )
  where
    fewer : (S and SaidBy n m.call) ⊆ (S and Said n (m.call ∷ calls_of later))
    fewer f (inl i) = inl i
    fewer f (inr i) = inr (inl i)

    fits : Fits s.classes m.call
    fits = rw c fit.0

    first : r.number ≡ 0
    first = (intake_accepted m.call s t st fits h).1 (rw c (possible_subset fewer possible))

module _
    {n : ℕ} (S : Facts) {s s' : Session} {t t' : List ℕ} {made : List Made} (c : s.classes ≡ n) (st : StandsFor S s t)
    (run : Run s t made s' t') where
  -- accepted whole, the run leaves the table of the facts before and all that was said
  pub whole_table : AllAccepted made → TableOf n (S and Said n (calls_of made)) t'
  whole_table all =
      table_of_equals (entails_subset said) (entails_subset meant)
      (subst (λ (k : ℕ). TableOf k (S and Accepted n made) t') ((run_tests run).0 ∙ c) (run_stands c st run).table)
    where
      said : (S and Said n (calls_of made)) ⊆ (S and Accepted n made)
      said f (inl i) = inl i
      said f (inr i) = inr ((accepted_said n made all f).1 i)

      meant : (S and Accepted n made) ⊆ (S and Said n (calls_of made))
      meant f (inl i) = inl i
      meant f (inr i) = inr ((accepted_said n made all f).0 i)

  -- calls are accepted whole exactly when some order agrees with all that they say and the facts before
  pub run_whole : AllFit n (calls_of made) → AllAccepted made ↔ Possible n (S and Said n (calls_of made))
  run_whole fit = (
    λ all. table_possible (within_and (rw c at st.within) (all_within n (calls_of made) fit)) (whole_table all),
    possible_accepted S c st fit run,
  )

-- and from fresh, where there are no facts before
pub fresh_run_whole :
    {n : ℕ} {t : List ℕ} {made : List Made} {s' : Session} {t' : List ℕ} → FromFresh n t made s' t'
    → AllFit n (calls_of made) → AllAccepted made ↔ Possible n (Said n (calls_of made))
fresh_run_whole {n} {made = made} h fit =
    let q = run_whole (Listed []) (fresh_run_began h) (fresh_stands h.began h.accepted) h.run fit in (
      λ all. possible_subset (λ f i. inr i) (q.0 all),
      λ p. q.1 (possible_subset (none_and (Said n (calls_of made)) (λ f i. Memᴰ.not-nil i)) p),
    )

-- two runs that say the same facts: both are accepted whole or neither is, and accepted they leave the same table
pub runs_same :
    {n : ℕ} (S : Facts) {s s₁ s₂ : Session} {t t₁ t₂ : List ℕ} {made made₂ : List Made} → s.classes ≡ n
    → StandsFor S s t
    → AllFit n (calls_of made) → AllFit n (calls_of made₂) → Run s t made s₁ t₁ → Run s t made₂ s₂ t₂
    → ((f : Fact) → Said n (calls_of made) f ↔ Said n (calls_of made₂) f)
    → (AllAccepted made ↔ AllAccepted made₂) × (AllAccepted made → t₁ ≡ t₂)
runs_same {n} S {s} {s₁} {s₂} {t} {t₁} {t₂} {made} {made₂} c st fit fit₂ run run₂ same = ((there, back), left)
  where
    less : (S and Said n (calls_of made)) ⊆ (S and Said n (calls_of made₂))
    less f (inl i) = inl i
    less f (inr i) = inr ((same f).0 i)

    more : (S and Said n (calls_of made₂)) ⊆ (S and Said n (calls_of made))
    more f (inl i) = inl i
    more f (inr i) = inr ((same f).1 i)

    there : AllAccepted made → AllAccepted made₂
    there all = (run_whole S c st run₂ fit₂).1 (possible_subset more ((run_whole S c st run fit).0 all))

    back : AllAccepted made₂ → AllAccepted made
    back all = (run_whole S c st run fit).1 (possible_subset less ((run_whole S c st run₂ fit₂).0 all))

    left : AllAccepted made → t₁ ≡ t₂
    left all =
        same_list
        (table_unique (table_of_equals (entails_subset more) (entails_subset less) (whole_table S c st run all))
        (whole_table S c st run₂ (there all))) (rw c at (rest_trans (rest_sym (run_rest run)) (run_rest run₂)))
