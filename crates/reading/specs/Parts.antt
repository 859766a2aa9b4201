-- The parts of a book that are followed one by one, and what following one leaves.
-- Assumes nothing.
use Rattle.std.specs.Prelude.{◌≡◌, Bool, true, false, List, [], ◌∷◌, ℕ, ◌+◌, ◌/◌, ◌%◌, ◌≤◌, eqb, length, get_or}
use Rattle.std.specs.Prelude.{Result, Ok, Err}
use Rattle.promise.specs.Refusals.{First, standing}
use Rattle.promise.specs.declared.Refusal.{Refusal}
use Rattle.promise.specs.declared.RefusedBook.{RefusedBook}
use Rattle.promise.specs.declared.Stage.{Stage}
use Rattle.promise.specs.declared.Stage.TheVariants.{Start, Begun}
use Rattle.promise.specs.declared.Session.{Session}
use Rattle.promise.specs.declared.Reply.{Reply}
use Rattle.promise.specs.declared.Kind.{Kind}
use Rattle.promise.specs.Book.{count_row, facts_row, Lookup, row_of, length_of, field_refusals, Item, facts_from}
use Rattle.promise.specs.Book.{field_says, Follows}
use Rattle.reading.specs.declared.tags.Facts.{Facts}
use Rattle.reading.specs.declared.tags.Facts.TheVariants.{Told, Answered}
use Rattle.reading.specs.declared.tags.Contents.{Contents}

-- how many bytes a fact has, how it is taken in, and the verdict that its bytes give
abbrev pub width_of : Facts → ℕ
width_of (Told verdict) = 2
width_of Answered = 3

abbrev pub kind_of : Facts → Kind
kind_of (Told verdict) = Kind.Told
kind_of Answered = Kind.Answered

abbrev pub verdict_by : Facts → List ℕ → ℕ
verdict_by (Told verdict) bytes = verdict
verdict_by Answered bytes = get_or bytes 2 0

-- the row of a tag, from what the code keeps of it
abbrev pub row_for : ℕ → Contents → Lookup
row_for tag Contents.Classes = Lookup.row (count_row tag)
row_for tag (Contents.Facts facts) =
    Lookup.row (facts_row tag (width_of facts) (kind_of facts) (verdict_by facts))

-- where contents may stand, and which lengths they allow
abbrev pub stands_at : Contents → Stage → Bool
stands_at Contents.Classes Start = true
stands_at Contents.Classes Begun = false
stands_at (Contents.Facts facts) Start = false
stands_at (Contents.Facts facts) Begun = true

abbrev pub allows_length : Contents → ℕ → Bool
allows_length Contents.Classes size = eqb size 1
allows_length (Contents.Facts facts) size = eqb (size % width_of facts) 0

-- a field that is not refused, and what it contains
pub record FieldRight (stage : Stage) (bytes : List ℕ) (contents : Contents) : Type 0 where
  pub first : First (field_refusals stage bytes) 0
  pub row : row_of (get_or bytes 0 0) ≡ row_for (get_or bytes 0 0) contents
  pub stands : stands_at contents stage ≡ true
  pub allowed : allows_length contents (length_of bytes) ≡ true
  pub within : 3 + length_of bytes ≤ length bytes

-- the fact with which bytes begin that stand at a place, and the facts of so many bytes there
abbrev pub fact_at : Facts → ℕ → List ℕ → Item
fact_at facts place bytes =
    Item.said place (kind_of facts) (get_or bytes 0 0) (get_or bytes 1 0) (verdict_by facts bytes)

abbrev pub facts_at : Facts → ℕ → ℕ → List ℕ → List Item
facts_at facts size place bytes =
    facts_from (size / width_of facts) (width_of facts) (kind_of facts) (verdict_by facts) place bytes

-- what the field says whose bytes begin at a place, and the field with it
abbrev pub said_at : ℕ → List ℕ → List Item
said_at place bytes = field_says (row_of (get_or bytes 0 0)) place bytes

abbrev pub field_at : Stage → ℕ → List ℕ → List Item
field_at stage place bytes = Item.head place stage bytes ∷ said_at place bytes

-- an outcome with the place in the book where it was refused, and the session there
abbrev pub placed_at : {A : Type 0} → ℕ → Session → Result A Refusal → Result A RefusedBook
placed_at place s (Ok a) = Ok a
placed_at place s (Err why) = Err (record { why = why; place = place; session = s })

-- The items of a part were followed from session s and table t: the reply is r, and the table is then t'. Where none
-- was refused, the reading can go on with both.
pub record PartFollowed (items : List Item) (s : Session) (t : List ℕ) (r : Reply) (t' : List ℕ) : Type 0 where
  pub follows : Follows items s t r t'
  pub stands : r.number ≡ 0 → First (standing r.session t' []) 0
