-- What the printing program keeps, what it has read, and what it writes.
-- Assumes nothing.
use Rattle.std.specs.Prelude.{◌≡◌, ◌≢◌, List, ℕ, ◌≤◌, length, take}
use Rattle.buffers.specs.Placed.{Put}
use Rattle.lines.specs.Lines.{Printed, Output}

-- "one table of 16,384 marks", "room for 128 heads and 8,192 bytes of steps", and room for the text
pub record Room (table heads steps text : List ℕ) : Type 0 where
  pub marks_room : 16384 ≤ length table
  pub heads_room : 128 ≤ length heads
  pub steps_room : 8192 ≤ length steps
  pub text_room : 65536 ≤ length text

-- what is written of a book stands at the front of the text
pub record Answered (book table text : List ℕ) (size : ℕ) (text' : List ℕ) : Type 0 where
  pub written : List ℕ
  pub printed : Printed book table written
  pub put : Put written 0 text size text'

-- the number of bytes that a buffer holds and of those that came behind them: none came behind a buffer that is not
-- full
pub record Held (buffer : List ℕ) (count behind : ℕ) : Type 0 where
  pub within : count ≤ length buffer
  pub full : behind ≢ 0 → count ≡ length buffer

-- "one input buffer of 32,768 bytes", with what was read of the input
pub record Input (buffer : List ℕ) (count behind : ℕ) : Type 0 where
  pub size : length buffer ≡ 32768
  pub held : Held buffer count behind

-- what is written of the input stands at the front of the text
pub record Decided (buffer : List ℕ) (count behind : ℕ) (table text : List ℕ) (size : ℕ) (text' : List ℕ) :
    Type 0 where
  pub written : List ℕ
  pub output : Output (take count buffer) behind table written
  pub put : Put written 0 text size text'
