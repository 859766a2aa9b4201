-- Next: the first open pair, or done.
-- Assumes nothing.
use Rattle.std.specs.Prelude.{◌≡◌, ◌≢◌, true, false, List, [], ◌∷◌, ℕ, ◌<◌, Option, Some, None, Result, Ok, Err}
use Rattle.order.specs.Facts.{Fact}
use Rattle.order.specs.Tables.{mark, Before}
use Rattle.promise.specs.declared.Asked.{Asked}
use Rattle.promise.specs.declared.Refusal.{Refusal}
use Rattle.promise.specs.declared.Session.{Session}
use Rattle.promise.specs.declared.Reply.{Reply}
use Rattle.promise.specs.declared.CrossedQuestion.{CrossedQuestion}
use Rattle.promise.specs.Refusals.{standing, number_of}
use Rattle.promise.specs.Calls.{Call, Owed, crossing}
use Rattle.promise.specs.declared.Kind.{Kind}
use Rattle.promise.specs.Tell.{tell}

-- What next answers: the pair to ask about, that none is open, or a refusal with its number and place.
pub data Question : Type 0 where
  Ask : (lower upper : ℕ) → Question
  Done : Question
  Refused : (number place : ℕ) → Question

-- what an answer of the code asks, with place 0 where it is a refusal
abbrev pub question_of : Result (Option Asked) Refusal → Question
question_of (Ok (Some asked)) = Question.Ask asked.lower asked.upper
question_of (Ok None) = Question.Done
question_of (Err why) = Question.Refused (number_of why) 0

-- the refusal number of each answer
abbrev pub question_number : Question → ℕ
question_number (Question.Ask a b) = 0
question_number Question.Done = 0
question_number (Question.Refused number place) = number

-- "names the first open pair, rows in rising order and then columns"
pub record FirstOpen (n : ℕ) (t : List ℕ) (a b : ℕ) : Type 0 where
  pub lower_below : a < n
  pub upper_below : b < n
  pub is_open : mark n t a b ≡ 0
  pub first : (c d : ℕ) → c < n → d < n → Before (c, d) (a, b) → mark n t c d ≢ 0

-- "with none open it says done"
pub record NoneOpen (n : ℕ) (t : List ℕ) : Type 0 where
  pub at : (a b : ℕ) → a < n → b < n → mark n t a b ≢ 0

-- what an accepted question says of the table
abbrev pub Names : ℕ → List ℕ → Question → Type 0
Names n t (Question.Ask a b) = FirstOpen n t a b
Names n t Question.Done = NoneOpen n t
Names n t (Question.Refused number place) = ⊥

-- the next question of session s and table t
abbrev pub next : Session → List ℕ → Call Question
next s t =
    record {
      refusals = standing s t [];
      number = question_number;
      refused = λ k. Question.Refused k 0;
      Done = λ q. Names s.classes t q;
    }

-- the question that C gets: 01's number and place, and the values of each case, 0 where it has none
abbrev pub question_for : Question → CrossedQuestion
question_for (Question.Ask a b) = record { number = 0; place = 0; asks = true; lower = a; upper = b }
question_for Question.Done = record { number = 0; place = 0; asks = false; lower = 0; upper = 0 }
question_for (Question.Refused number place) =
    record { number = number; place = place; asks = false; lower = 0; upper = 0 }

abbrev pub next_for_c : Session → List ℕ → Call CrossedQuestion
next_for_c s t = crossing question_for (λ q. q.number) (next s t)

-- rounds of "asking and answering the pair asked", with these answers, lead from session s and table t to s' and t'
pub data Rounds : List Fact → Session → List ℕ → Session → List ℕ → Type 0 where
  none : {s : Session} {t : List ℕ} → Rounds [] s t s t
  round :
      {f : Fact} {later : List Fact} {s s' : Session} {t t₁ t' : List ℕ} {r : Reply}
      → Owed (next s t) (Question.Ask f.lower f.upper)
      → Owed (tell Kind.Answered s t f) (r, t₁) → Rounds later r.session t₁ s' t' → Rounds (f ∷ later) s t s' t'
