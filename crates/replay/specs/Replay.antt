-- A history of calls, and what replaying it from fresh comes to.
-- Assumes nothing.
use Rattle.std.specs.Prelude.{◌≡◌, ◌≢◌, List, ℕ, map}
use Rattle.order.specs.Facts.{fact_on}
use Rattle.promise.specs.declared.Session.{Session}
use Rattle.promise.specs.declared.Reply.{Reply}
use Rattle.promise.specs.Calls.{accepted, Owed}
use Rattle.promise.specs.Tell.{fresh}
use Rattle.promise.specs.Runs.{Intake as Taken, Made, FromFresh, calls_of}
use Rattle.replay.specs.declared.Intake.{Intake}

-- what a call of the code takes in
abbrev pub intake_of : Intake → Taken
intake_of (Intake.Fact kind lower upper holds) = Taken.fact kind (fact_on lower upper holds)
intake_of (Intake.Clipped trial) = Taken.clipped trial.played

-- all calls of a history
abbrev pub all_calls : List Intake → List Taken
all_calls history = map intake_of history

-- "any run of tells and answers from a fresh table, refused ones among them, table and tally passed on untouched",
-- with clips among them: the calls made are those of the history
pub record Ran (n : ℕ) (t : List ℕ) (history : List Intake) (s' : Session) (t' : List ℕ) : Type 0 where
  pub made : List Made
  pub run : FromFresh n t made s' t'
  pub same : calls_of made ≡ all_calls history

-- where fresh refuses, its reply; otherwise the run
pub record Replayed (n : ℕ) (t : List ℕ) (history : List Intake) (r : Reply) (t' : List ℕ) : Type 0 where
  pub accepted : r.number ≡ 0 → r ≡ accepted r.session
  pub refused : r.number ≢ 0 → Owed (fresh n t) (r, t')
  pub ran : r.number ≡ 0 → Ran n t history r.session t'
