-- Sessions and replies, which nothing else builds; and what every call outside reading owes, in one form.
-- Assumes nothing.
use Rattle.std.specs.Prelude.{◌≡◌, ◌≢◌, List, [], ◌++◌, ℕ, ◌+◌, ◌<◌, length, drop, Result, Ok, Err}
use Rattle.order.specs.Tables.{SameRest, opens}
use Rattle.promise.specs.Refusals.{Condition, First, standing, number_of}
use Rattle.promise.specs.declared.Refusal.{Refusal}
use Rattle.promise.specs.declared.Session.{Session}
use Rattle.promise.specs.declared.Reply.{Reply}
use Rattle.promise.specs.declared.CrossedCount.{CrossedCount}

-- the session of a fresh table
abbrev pub started : ℕ → Session
started n = record { classes = n; tests = 0 }

-- "n 0 and tally 0": the session where no class count was accepted
abbrev pub no_session : Session
no_session = started 0

-- k tests more
abbrev pub tested : ℕ → Session → Session
tested k s = record { classes = s.classes; tests = s.tests + k }

-- a reply: the refusal number, its place, the session from now on
abbrev pub reply : ℕ → ℕ → Session → Reply
reply number place s = record { number = number; place = place; session = s }

-- "A refusal returns its number and a place, 0 outside books."
abbrev pub refusal : ℕ → Session → Reply
refusal number s = reply number 0 s

abbrev pub accepted : Session → Reply
accepted s = reply 0 0 s

-- what an answer of the code replies where a refusal gives this session back
abbrev pub reply_of : Session → Result Session Refusal → Reply
reply_of back (Ok s) = accepted s
reply_of back (Err why) = refusal (number_of why) back

-- A call: its refusals, in order; the number of an outcome, 0 where it is accepted; all that a refusal with a number
-- leaves; and what success leaves. An outcome is all that the caller sees afterwards: the answer and every lent byte.
pub record Call (Outcome : Type 0) : Type 1 where
  pub refusals : List Condition
  pub number : Outcome → ℕ
  pub refused : ℕ → Outcome
  pub Done : Outcome → Type 0

-- An outcome that a call owes. Its number is that of the first refusal that is due.
pub record Owed {Outcome : Type 0} (call : Call Outcome) (o : Outcome) : Type 0 where
  pub number : First call.refusals (call.number o)
  pub refused : call.number o ≢ 0 → o ≡ call.refused (call.number o)
  pub done : call.number o ≡ 0 → call.Done o

-- accepted: the new session, the n*n marks that there must be, and every byte from n*n on as it was
pub record Changed (new : Session) (n : ℕ) (Must : List ℕ → Type 0) (t t' : List ℕ) (r : Reply) : Type 0 where
  pub reply : r ≡ accepted new
  pub marks : Must t'
  pub rest : SameRest n t t'

-- A call that may change session and table. Refused, a session is given back, and no byte of the table t changes.
abbrev pub changes : List Condition → Session → Session → ℕ → (List ℕ → Type 0) → List ℕ → Call (Reply × List ℕ)
changes refusals back new n Must t =
    record {
      refusals = refusals;
      number = λ o. o.0.number;
      refused = λ k. (refusal k back, t);
      Done = λ o. Changed new n Must t o.1 o.0;
    }

-- A call whose outcomes cross to C: what C sees is the image of an outcome of the call.
abbrev pub crossing : {Outcome Image : Type 0} → (Outcome → Image) → (Image → ℕ) → Call Outcome → Call Image
crossing {Outcome} image number call =
    record {
      refusals = call.refusals;
      number = number;
      refused = λ k. image (call.refused k);
      Done = λ o. (before : Outcome) × call.Done before × (o ≡ image before);
    }

-- What the calls that count answer: how many pairs are open, how many steps, rungs or bytes were written, or a refusal
-- with its number and place.
pub data Counted : Type 0 where
  Count : (count : ℕ) → Counted
  Refused : (number place : ℕ) → Counted

-- the refusal number of each answer
abbrev pub count_number : Counted → ℕ
count_number (Counted.Count c) = 0
count_number (Counted.Refused number place) = number

-- what an answer of the code counts, with place 0 where it is a refusal
abbrev pub count_of : Result ℕ Refusal → Counted
count_of (Ok c) = Counted.Count c
count_of (Err why) = Counted.Refused (number_of why) 0

-- how many pairs are open, with session s and table t
abbrev pub open_pairs : Session → List ℕ → Call Counted
open_pairs s t =
    record {
      refusals = standing s t [];
      number = count_number;
      refused = λ k. Counted.Refused k 0;
      Done = λ r. r ≡ Counted.Count (opens s.classes t);
    }

-- the bytes w written to the front of out: "bytes past those written keep their values"
abbrev pub over : List ℕ → List ℕ → List ℕ
over w out = w ++ drop (length w) out

-- out is shorter than the bytes that are to be written there, which are those that P has
abbrev pub TooShort : (List ℕ → Type 0) → List ℕ → Type 0
TooShort P out = (w : List ℕ) × P w × (length out < length w)

-- A call with these refusals that writes the bytes that P has to the buffer out, and counts them.
abbrev pub writes : List Condition → (List ℕ → Type 0) → List ℕ → Call (Counted × List ℕ)
writes refusals P out =
    record {
      refusals = refusals;
      number = λ o. count_number o.0;
      refused = λ k. (Counted.Refused k 0, out);
      Done = λ o. (w : List ℕ) × P w × (o ≡ (Counted.Count (length w), over w out));
    }

-- the count that C gets: 01's number and place, and the count, 0 where there is none
abbrev pub count_for : Counted → CrossedCount
count_for (Counted.Count c) = record { number = 0; place = 0; count = c }
count_for (Counted.Refused number place) = record { number = number; place = place; count = 0 }

abbrev pub count_for_c : Call Counted → Call CrossedCount
count_for_c = crossing count_for (λ r. r.number)

abbrev pub writes_for_c : {Bytes : Type 0} → Call (Counted × Bytes) → Call (CrossedCount × Bytes)
writes_for_c = crossing (λ o. (count_for o.0, o.1)) (λ o. o.0.number)
