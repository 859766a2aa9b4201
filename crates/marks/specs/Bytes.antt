-- The bytes that the marks are.
-- Assumes nothing.
use Rattle.std.specs.Prelude.{◌≡◌, ℕ, ◌<◌, Result, Ok, Err}
use Rattle.marks.specs.declared.Mark.{Mark}
use Rattle.marks.specs.declared.Mark.TheVariants.{Open, Yes, No}

-- the byte that each mark is
abbrev pub byte_of : Mark → ℕ
byte_of Open = 0
byte_of Yes = 1
byte_of No = 2

-- the mark that a byte is, or the byte where it is none
abbrev pub Decodes : ℕ → Result Mark ℕ → Type 0
Decodes byte (Ok mark) = byte_of mark ≡ byte
Decodes byte (Err none) = (none ≡ byte) × (2 < byte)
