-- Demand 3 for what `replay` leaves: the laws of runs, held to the calls themselves.
-- Assumes nothing.
use mathlib.Core.Path.{◌≡◌, refl, sym, ◌∙◌, ap, ap₂, subst}
use mathlib.Core.Logic.{◌↔◌, ◌≢◌}
use mathlib.Core.List.{List, [], ◌∷◌, ◌++◌}
use Prim.Native.Nat.{ℕ, ◌+◌, ◌<◌}
use native.Mathlib.Decide.{ℕ_discrete}
use lib.ListN.{length, get_or, take}
use Rattle.std.proofs.Common.{Result, Ok, Err}
use Rattle.std.specs.Result.{result_unwrap_or}
use Rattle.std.proofs.lemmas.List.{take_more, map-append}
use Rattle.order.specs.Facts.{◌and◌, ◌⊆◌}
use Rattle.order.specs.Tables.{mark}
use Rattle.order.specs.Orders.{Impossible, Possible, Exact}
use Rattle.promise.specs.declared.Refusal.{Refusal}
use Rattle.promise.specs.declared.Session.{Session}
use Rattle.promise.specs.declared.Reply.{Reply}
use Rattle.promise.specs.Calls.{accepted, reply_of, Owed}
use Rattle.promise.specs.Tell.{fresh}
use Rattle.promise.specs.Runs.{Intake as Taken, taking, SaidBy, Said, Fits, AllFit, Made, Run, calls_of, Accepted}
use Rattle.promise.specs.Runs.{AllAccepted, tests_in}
use Rattle.promise.proofs.Fresh.{fresh_unique}
use Rattle.promise.proofs.Runs.{run_unique, run_then, calls_then, fresh_run_exact, fresh_run_refused, fresh_run_tests}
use Rattle.promise.proofs.Runs.{fresh_run_accepted, fresh_run_possible, fresh_runs_agree}
use Rattle.promise.proofs.AnyOrder.{contained_agree, fresh_run_whole}
use Rattle.replay.specs.declared.Intake.{Intake}
use Rattle.replay.specs.Replay.{intake_of, all_calls, Ran, Replayed}

-- the calls of a history, made from a session and a table
pub record MadeSoFar (s₀ : Session) (t₀ : List ℕ) (history : List Intake) (s : Session) (t : List ℕ) : Type 0 where
  pub made : List Made
  pub run : Run s₀ t₀ made s t
  pub same : calls_of made ≡ all_calls history

pub none_made : (s : Session) (t : List ℕ) → MadeSoFar s t [] s t
none_made s t = record { made = []; run = Run.stop; same = refl }

-- one call more; where it is refused, it gives its session back
pub one_more :
    {s₀ s : Session} {t₀ t t' : List ℕ} (history : List Intake) (i : ℕ) (d : Intake)
    (outcome : Result Session Refusal) → i < length history → MadeSoFar s₀ t₀ (take i history) s t
    → Owed (taking (intake_of (get_or history i d)) s t) (reply_of s outcome, t')
    → MadeSoFar s₀ t₀ (take (i + 1) history) (result_unwrap_or outcome s) t'
one_more {s = s} history i d outcome l h makes =
    let here : Intake = get_or history i d in
    let m : Made = record { call = intake_of here; number = (reply_of s outcome).number } in
    rw (take_more history i d l, ← session_of s outcome)
    (record {
      made = h.made ++ m ∷ [];
      run = run_then m h.run makes refl;
      same =
          calls_then h.made m
          ∙ ap (λ (l : List Taken). l ++ intake_of here ∷ []) h.same
          ∙ sym (map-append intake_of (take i history) (here ∷ []));
    })
  where
    session_of : (s : Session) (outcome : Result Session Refusal)
        → (reply_of s outcome).session ≡ result_unwrap_or outcome s
    session_of s (Ok new) = refl
    session_of s (Err why) = refl

-- fresh was accepted, and all calls were made
pub all_made :
    {n : ℕ} {t t₁ t' : List ℕ} {s s' : Session} {history : List Intake}
    → Owed (fresh n t) (accepted s, t₁) → MadeSoFar s t₁ history s' t'
    → Replayed n t history (accepted s') t'
all_made {t₁ = t₁} {s = s} began h =
    record {
      accepted = λ _. refl;
      refused = λ z. absurd (z refl);
      ran = λ _.
          record {
            made = h.made;
            run = record { reply = accepted s; table = t₁; began = began; accepted = refl; run = h.run };
            same = h.same;
          };
    }

-- What is left by a replay that fresh did not refuse, `made` being the calls with the numbers they got.
module _ {n : ℕ} {t : List ℕ} {history : List Intake} {r : Reply} {t' : List ℕ}
    (h : Replayed n t history r t') (z : r.number ≡ 0) where
  abbrev made : List Made
  made = (h.ran z).made

  -- "After each call a pair is yes exactly when every order agreeing with all accepted facts has it, no exactly when
  -- none has it, open otherwise."
  pub replay_exact : (a b : ℕ) → a < n → b < n → Exact n (Accepted n made) t' a b
  replay_exact = fresh_run_exact (h.ran z).run

  -- "A fact on two classes below the count is refused as contradictory exactly when no order agrees with it and those
  -- accepted before." And a clip "is refused as contradictory exactly when no order agrees with all of them and the
  -- facts accepted before".
  pub replay_refused :
      (c : Taken) {r₂ : Reply} {t₂ : List ℕ} → Fits n c → Owed (taking c r.session t') (r₂, t₂)
      → ((r₂.number ≢ 0) ↔ Impossible n (Accepted n made and SaidBy n c)) × (r₂.number ≢ 0 → r₂.number ≡ 6)
  replay_refused = fresh_run_refused (h.ran z).run

  -- a call is accepted exactly when some order agrees with what it says and the facts accepted before
  pub replay_accepted :
      (c : Taken) {r₂ : Reply} {t₂ : List ℕ} → Fits n c → Owed (taking c r.session t') (r₂, t₂)
      → (r₂.number ≡ 0) ↔ Possible n (Accepted n made and SaidBy n c)
  replay_accepted = fresh_run_accepted (h.ran z).run

  -- some order agrees with all accepted facts
  pub replay_possible : Possible n (Accepted n made)
  replay_possible = fresh_run_possible (h.ran z).run

  -- calls on classes below n are accepted whole exactly when some order agrees with all that they say
  pub replay_whole :
      AllFit n (all_calls history) → AllAccepted made ↔ Possible n (Said n (all_calls history))
  replay_whole =
      subst (λ (calls : List Taken). AllFit n calls → AllAccepted made ↔ Possible n (Said n calls)) (h.ran z).same
      (fresh_run_whole (h.ran z).run)

  -- "The tally is therefore a number read off the history."
  pub replay_tests : r.session.tests ≡ tests_in (h.ran z).run.run
  replay_tests = fresh_run_tests (h.ran z).run

-- two replays that fresh did not refuse
module _ {n : ℕ} {t t₂ : List ℕ} {history history₂ : List Intake} {r r₂ : Reply} {u u₂ : List ℕ}
    (h : Replayed n t history r u) (h₂ : Replayed n t₂ history₂ r₂ u₂) (z : r.number ≡ 0) (z₂ : r₂.number ≡ 0) where
  -- "Hence, if one list of facts is contained in another and both are accepted whole, nothing settled by the first
  -- reads differently under the second": by what the calls say
  pub contained_replays_agree :
      AllAccepted (h.ran z).made → AllAccepted (h₂.ran z₂).made
      → Said n (all_calls history) ⊆ Said n (all_calls history₂) → (a b : ℕ) → a < n → b < n
      → mark n u a b ≢ 0 → mark n u₂ a b ≡ mark n u a b
  contained_replays_agree all all₂ i =
      contained_agree (h.ran z).run (h₂.ran z₂).run all all₂ (rw ((h.ran z).same, (h₂.ran z₂).same) i)

  -- the facts accepted by one are among those accepted by the other, refused calls among either
  pub replays_agree :
      Accepted n (h.ran z).made ⊆ Accepted n (h₂.ran z₂).made → (a b : ℕ) → a < n → b < n
      → mark n u a b ≢ 0 → mark n u₂ a b ≡ mark n u a b
  replays_agree = fresh_runs_agree (h.ran z).run (h₂.ran z₂).run

-- no two outcomes of one replay
pub replay_unique :
    {n : ℕ} {t : List ℕ} {history : List Intake} {r r₂ : Reply} {u u₂ : List ℕ} → Replayed n t history r u
    → Replayed n t history r₂ u₂ → ◌≡◌ {A = Reply × List ℕ} (r, u) (r₂, u₂)
replay_unique {n} {t} {history} {r} {r₂} {u} {u₂} h h₂ = go (ℕ_discrete r.number 0)
    (ℕ_discrete r₂.number 0)
  where
    -- the session and the table that two runs leave
    left : Ran n t history r.session u → Ran n t history r₂.session u₂ → (r.session ≡ r₂.session)
        × (u ≡ u₂)
    left f f₂ =
        run_unique
        (subst (λ (o : Reply × List ℕ). Run o.0.session o.1 f.made r.session u)
        (fresh_unique f.run.began f₂.run.began) f.run.run) f₂.run.run (f.same ∙ sym f₂.same)

    -- a run is not refused by fresh
    apart : {s : Session} {v w : List ℕ} {y : Reply} → Ran n t history s v → Owed (fresh n t) (y, w)
        → y.number ≡ 0
    apart f h = sym (ap (λ (o : Reply × List ℕ). o.0.number) (fresh_unique f.run.began h)) ∙ f.run.accepted

    go : Dec (r.number ≡ 0) → Dec (r₂.number ≡ 0) → ◌≡◌ {A = Reply × List ℕ} (r, u) (r₂, u₂)
    go (yes z) (yes z₂) =
        let q = left (h.ran z) (h₂.ran z₂) in
        ap₂ (λ x v. (x, v)) (h.accepted z ∙ ap accepted q.0 ∙ sym (h₂.accepted z₂)) q.1
    go (yes z) (no y₂) = absurd (y₂ (apart (h.ran z) (h₂.refused y₂)))
    go (no y) (yes z₂) = absurd (y (apart (h₂.ran z₂) (h.refused y)))
    go (no y) (no y₂) = fresh_unique (h.refused y) (h₂.refused y₂)
