-- What the functions that put lines into a buffer need, and what they leave.
-- Assumes nothing.
use Rattle.std.specs.Prelude.{◌≡◌, List, [], ◌∷◌, ◌++◌, ℕ, ◌+◌, ◌*◌, ◌≤◌, length}
use Rattle.order.specs.Tables.{opens, Pair}
use Rattle.promise.specs.Refusals.{First, standing}
use Rattle.promise.specs.declared.Session.{Session}
use Rattle.promise.specs.declared.Reply.{Reply}
use Rattle.promise.specs.Next.{FirstOpen}
use Rattle.promise.specs.Hierarchy.{HeadsOf, StepsOf}
use Rattle.buffers.specs.Placed.{Put}
use Rattle.lines.specs.Lines.{line, question_line, class_lines, step_lines, Says}

-- a line for each pair, behind its letter
abbrev pub lines : ℕ → List Pair → List ℕ
lines letter [] = []
lines letter (p ∷ pairs) = line letter p.0 p.1 ++ lines letter pairs

-- the next question was put
pub record QuestionPut (n : ℕ) (t : List ℕ) (at : ℕ) (text : List ℕ) (behind : ℕ) (text' : List ℕ) : Type 0 where
  pub lower : ℕ
  pub upper : ℕ
  pub first : FirstOpen n t lower upper
  pub put : Put (question_line lower upper) at text behind text'

-- the classes with their heads and the direct steps were put
pub record SettledPut (n : ℕ) (t : List ℕ) (at : ℕ) (text : List ℕ) (behind : ℕ) (text' : List ℕ) : Type 0 where
  pub heads : List ℕ
  pub steps : List Pair
  pub heads_of : HeadsOf n t heads
  pub steps_of : StepsOf n t steps
  pub put : Put (class_lines 0 heads ++ step_lines steps) at text behind text'

-- refusals 1 to 4 are not due, no pair is open, and there is room: "for 128 heads and 8,192 bytes of steps", and for
-- a line of each
pub record Settled (s : Session) (t heads steps text : List ℕ) (at : ℕ) : Type 0 where
  pub stands : First (standing s t []) 0
  pub none_open : opens s.classes t ≡ 0
  pub heads_room : 128 ≤ length heads
  pub steps_room : 8192 ≤ length steps
  pub text_room : at + 10 * 4224 ≤ length text

-- the table of an accepted book can be used, and there is room
pub record Reportable (r : Reply) (t heads steps text : List ℕ) : Type 0 where
  pub stands : r.number ≡ 0 → First (standing r.session t []) 0
  pub heads_room : 128 ≤ length heads
  pub steps_room : 8192 ≤ length steps
  pub text_room : 65536 ≤ length text

-- what is written of a book that was read stands at the front of the buffer
pub record Reported (r : Reply) (t text : List ℕ) (size : ℕ) (text' : List ℕ) : Type 0 where
  pub written : List ℕ
  pub says : Says r t written
  pub put : Put written 0 text size text'
