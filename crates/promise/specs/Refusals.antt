-- Refusals in order, and document 01's refusal numbers, each with its "When, exactly": no other definition has one.
-- Assumes nothing.
use Rattle.std.specs.Prelude.{◌≡◌, ◌≢◌, ◌⊎◌, List, [], ◌∷◌, ℕ, ◌+◌, ◌*◌, ◌-◌, ◌<◌, length, Result, Ok, Err}
use Rattle.order.specs.Tables.{mark, Sound, opens}
use Rattle.promise.specs.declared.Session.{Session}
use Rattle.promise.specs.declared.Refusal.{Refusal}
use Rattle.promise.specs.declared.Refusal.TheVariants.{BadCount, ShortTable, NotSound, Overcounted as TooManyTests}
use Rattle.promise.specs.declared.Refusal.TheVariants.{NoSuchClass, Contradicted, StillOpen, NoRoom, NoLadder, CutShort}
use Rattle.promise.specs.declared.Refusal.TheVariants.{UnknownTag, MisplacedTag, BadLength, BadVerdict, TooLong}

-- a refusal number, and when it is given
pub record Condition : Type 1 where
  pub number : ℕ
  pub when : Type 0

-- the number of the first condition that holds, 0 where none does
abbrev pub First : List Condition → ℕ → Type 0
First [] k = k ≡ 0
First (c ∷ cs) k = (c.when × (k ≡ c.number)) ⊎ ((¬ c.when) × First cs k)

-- "n is 0 or above 128"
abbrev pub bad_count : ℕ → Condition
bad_count n = record { number = 1; when = (n ≡ 0) ⊎ (128 < n) }

-- "table shorter than n*n"
abbrev pub short_table : ℕ → List ℕ → Condition
short_table n t = record { number = 2; when = length t < n * n }

-- "table not sound"
abbrev pub not_sound : ℕ → List ℕ → Condition
not_sound n t = record { number = 3; when = ¬ Sound n t }

-- "tally plus open pairs exceeds n*n-n"
pub record Overcounted (s : Session) (t : List ℕ) : Type 0 where
  pub exceeds : s.classes * s.classes - s.classes < s.tests + opens s.classes t

abbrev pub overcounted : Session → List ℕ → Condition
overcounted s t = record { number = 4; when = Overcounted s t }

-- "a class number is n or more"
abbrev pub no_such_class : Type 0 → Condition
no_such_class beyond = record { number = 5; when = beyond }

-- "the fact contradicts"
abbrev pub contradicted : Type 0 → Condition
contradicted contradicts = record { number = 6; when = contradicts }

-- "a pair is still open"
abbrev pub still_open : ℕ → List ℕ → Condition
still_open n t = record { number = 7; when = 0 < opens n t }

-- "an output buffer is shorter than what is to be written there"
abbrev pub no_room : Type 0 → Condition
no_room shorter = record { number = 8; when = shorter }

-- "ladder: a isn't under b"
abbrev pub no_ladder : ℕ → List ℕ → ℕ → ℕ → Condition
no_ladder n t a b = record { number = 9; when = mark n t a b ≢ 1 }

-- "field's three head bytes or its contents run past the end"
abbrev pub cut_short : Type 0 → Condition
cut_short past = record { number = 10; when = past }

-- "tag not 1 to 4"
abbrev pub unknown_tag : Type 0 → Condition
unknown_tag unknown = record { number = 11; when = unknown }

-- "book empty, first field not tag 1, or tag 1 again"
abbrev pub misplaced_tag : Type 0 → Condition
misplaced_tag misplaced = record { number = 12; when = misplaced }

-- "length not allowed for the tag"
abbrev pub bad_length : Type 0 → Condition
bad_length forbidden = record { number = 13; when = forbidden }

-- "verdict neither 0 nor 1"
abbrev pub bad_verdict : ℕ → Condition
bad_verdict verdict = record { number = 14; when = 1 < verdict }

-- "program only, before all others: input above 32,768 bytes"
abbrev pub too_long : ℕ → Condition
too_long size = record { number = 15; when = 32768 < size }

-- "every other call except reading starts 1, 2, 3, 4", and goes on with refusals of its own
abbrev pub standing : Session → List ℕ → List Condition → List Condition
standing s t own =
    bad_count s.classes ∷ short_table s.classes t ∷ not_sound s.classes t ∷ overcounted s t ∷ own

-- the number of each refusal of the code is that of its condition
abbrev pub number_of : Refusal → ℕ
number_of BadCount = (bad_count 0).number
number_of ShortTable = (short_table 0 []).number
number_of NotSound = (not_sound 0 []).number
number_of TooManyTests = (overcounted (record { classes = 0; tests = 0 }) []).number
number_of NoSuchClass = (no_such_class (Unit {0})).number
number_of Contradicted = (contradicted (Unit {0})).number
number_of StillOpen = (still_open 0 []).number
number_of NoRoom = (no_room (Unit {0})).number
number_of NoLadder = (no_ladder 0 [] 0 0).number
number_of CutShort = (cut_short (Unit {0})).number
number_of UnknownTag = (unknown_tag (Unit {0})).number
number_of MisplacedTag = (misplaced_tag (Unit {0})).number
number_of BadLength = (bad_length (Unit {0})).number
number_of BadVerdict = (bad_verdict 0).number
number_of TooLong = (too_long 0).number

-- the number of an answer of the code, 0 where it is no refusal
abbrev pub number_by : {A : Type 0} → Result A Refusal → ℕ
number_by (Ok a) = 0
number_by (Err why) = number_of why
