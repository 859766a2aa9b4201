-- The lines that the printing program writes: document 01, "What the printing program writes".
-- Assumes nothing.
use Rattle.std.specs.Prelude.{◌≡◌, ◌≢◌, List, [], ◌∷◌, ◌++◌, ℕ, suc, ◌+◌, ◌*◌, length, take}
use Rattle.order.specs.Tables.{opens, Pair}
use Rattle.promise.specs.Refusals.{First, too_long}
use Rattle.promise.specs.declared.Session.{Session}
use Rattle.promise.specs.declared.Reply.{Reply}
use Rattle.promise.specs.Next.{FirstOpen}
use Rattle.promise.specs.Hierarchy.{HeadsOf, StepsOf}
use Rattle.promise.specs.Book.{BookRead}
use Rattle.buffers.specs.Decimal.{decimal}

-- the bytes of the characters that are written
abbrev pub line_feed : ℕ
line_feed = 10

abbrev pub space : ℕ
space = 32

abbrev pub capital_c : ℕ
capital_c = 67

abbrev pub capital_e : ℕ
capital_e = 69

abbrev pub capital_n : ℕ
capital_n = 78

abbrev pub capital_o : ℕ
capital_o = 79

abbrev pub capital_q : ℕ
capital_q = 81

abbrev pub capital_r : ℕ
capital_r = 82

abbrev pub capital_t : ℕ
capital_t = 84

-- "one space between fields", "decimal without leading zeros"
abbrev pub spaced : ℕ → List ℕ
spaced x = space ∷ decimal x

-- a letter and a number
abbrev pub labelled : ℕ → ℕ → List ℕ
labelled letter x = letter ∷ spaced x

-- a letter and two numbers, "with one space between fields and a line feed after each line"
abbrev pub line : ℕ → ℕ → ℕ → List ℕ
line letter x y = labelled letter x ++ (spaced y ++ (line_feed ∷ []))

-- "`N n T t O o` (classes, tally, open pairs)"
abbrev pub counts_line : ℕ → ℕ → ℕ → List ℕ
counts_line n t o =
    labelled capital_n n ++ (space ∷ labelled capital_t t ++ (space ∷ labelled capital_o o ++ (line_feed ∷ [])))

-- "`Q a b`, the next question"
abbrev pub question_line : ℕ → ℕ → List ℕ
question_line a b = line capital_q a b

-- "one `C i h` per class (class, head)": the classes from i on, with their heads
abbrev pub class_lines : ℕ → List ℕ → List ℕ
class_lines i [] = []
class_lines i (h ∷ heads) = line capital_c i h ++ class_lines (suc i) heads

-- "one `E a b` per direct step"
abbrev pub step_lines : List Pair → List ℕ
step_lines [] = []
step_lines (p ∷ steps) = line capital_e p.0 p.1 ++ step_lines steps

-- "`R number place`"
abbrev pub refusal_line : ℕ → ℕ → List ℕ
refusal_line number place = line capital_r number place

-- what is written of a table of n classes and its tally: "If o is above 0, `Q a b`, the next question. Else one `C i
-- h` per class (class, head), then one `E a b` per direct step."
pub data Shows (n tests : ℕ) (t : List ℕ) : List ℕ → Type 0 where
  asks :
      {a b : ℕ} → FirstOpen n t a b → Shows n tests t (counts_line n tests (opens n t) ++ question_line a b)
  settled :
      {heads : List ℕ} {steps : List Pair} → opens n t ≡ 0 → HeadsOf n t heads → StepsOf n t steps
      → Shows n tests t (counts_line n tests 0 ++ (class_lines 0 heads ++ step_lines steps))

-- what is written of a book that was read, with the reply r and then the table t: "Refused: only `R number place`"
pub record Says (r : Reply) (t text : List ℕ) : Type 0 where
  pub refused : r.number ≢ 0 → text ≡ refusal_line r.number r.place
  pub accepted : r.number ≡ 0 → Shows r.session.classes r.session.tests t text

-- the first n*n bytes of a table: its marks
abbrev pub marks_of : Session → List ℕ → List ℕ
marks_of s t = take (s.classes * s.classes) t

-- what is written of a book: it was read onto the table t
pub record Printed (book t text : List ℕ) : Type 0 where
  pub reply : Reply
  pub table : List ℕ
  pub read : BookRead book t reply table
  pub says : Says reply (marks_of reply.session table) text

-- What is written of an input: the bytes that the program has read of it, and how many came behind them. "program only,
-- before all others: input above 32,768 bytes"; "for 15 the place is 32768". Any other input has been read whole.
pub record Output (held : List ℕ) (behind : ℕ) (t text : List ℕ) : Type 0 where
  pub number : ℕ
  pub first : First (too_long (length held + behind) ∷ []) number
  pub refused : number ≢ 0 → text ≡ refusal_line number 32768
  pub whole : number ≡ 0 → behind ≡ 0
  pub accepted : number ≡ 0 → Printed held t text
