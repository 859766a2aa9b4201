-- Fact books: what the bytes of one say, reading and writing. Document 01, "The fact book".
-- Assumes nothing.
use Rattle.std.specs.Prelude.{◌≡◌, ◌≢◌, ◌⊎◌, Bool, true, false, List, [], ◌∷◌, ◌++◌, ℕ, zero, suc, ◌+◌, ◌*◌, ◌-◌, ◌/◌}
use Rattle.std.specs.Prelude.{◌%◌, ◌<◌, eqb, length, get_or, drop, Result, Ok, Err, MatchResult}
use Rattle.promise.specs.Refusals.{Condition, First, cut_short, unknown_tag, misplaced_tag, bad_length, bad_verdict}
use Rattle.promise.specs.Refusals.{standing, no_room, number_of}
use Rattle.order.specs.Facts.{Fact, fact_on}
use Rattle.order.specs.Tables.{mark, Pair, Lists, bytes_of}
use Rattle.promise.specs.declared.Refusal.{Refusal}
use Rattle.promise.specs.declared.Refusal.TheVariants.{UnknownTag}
use Rattle.promise.specs.declared.Tag.{Tag}
use Rattle.promise.specs.declared.Tag.TheVariants.{ClassCount, YesFacts, NoFacts, Answers}
use Rattle.promise.specs.declared.Stage.{Stage}
use Rattle.promise.specs.declared.Stage.TheVariants.{Start, Begun}
use Rattle.promise.specs.declared.Session.{Session}
use Rattle.promise.specs.declared.RefusedBook.{RefusedBook}
use Rattle.promise.specs.declared.Reply.{Reply}
use Rattle.promise.specs.Calls.{Counted}
use Rattle.promise.specs.declared.Kind.{Kind}
use Rattle.promise.specs.Tell.{fresh, tell}
use Rattle.promise.specs.Calls.{no_session, accepted, reply, Owed, Call, TooShort, writes}
use Rattle.promise.specs.Clips.{truth_of}

-- a field's contents: a class count, or facts of one kind, so many bytes each, with the verdict that their bytes give
pub data Contents : Type 0 where
  classes : Contents
  facts : (width : ℕ) (kind : Kind) (verdict : List ℕ → ℕ) → Contents

-- a tag: at which stages of reading it may stand, the lengths it allows, its contents, and the stage behind it
pub record TagRow : Type 0 where
  pub tag : ℕ
  pub stands : Stage → Bool
  pub allows : ℕ → Bool
  pub contents : Contents
  pub behind : Stage

abbrev pub at_start : Stage → Bool
at_start Start = true
at_start Begun = false

abbrev pub once_begun : Stage → Bool
once_begun Start = false
once_begun Begun = true

-- a tag whose contents are the class count, one byte: "first field, once only"
abbrev pub count_row : ℕ → TagRow
count_row tag =
    record { tag = tag; stands = at_start; allows = λ len. eqb len 1; contents = Contents.classes; behind = Begun }

-- a tag whose contents are facts: any number of whole ones, once a class count is accepted
abbrev pub facts_row : ℕ → ℕ → Kind → (List ℕ → ℕ) → TagRow
facts_row tag width kind verdict =
    record {
      tag = tag;
      stands = once_begun;
      allows = λ len. eqb (len % width) 0;
      contents = Contents.facts width kind verdict;
      behind = Begun;
    }

-- "n", "yes facts, told: a, b", "no facts, told: a, b", "answers: a, b, verdict 1 yes or 0 no"
abbrev pub tags : List TagRow
tags =
    count_row 1
    ∷ facts_row 2 2 Kind.Told (λ bytes. 1)
    ∷ facts_row 3 2 Kind.Told (λ bytes. 0)
    ∷ facts_row 4 3 Kind.Answered (λ bytes. get_or bytes 2 0)
    ∷ []

-- the row of a tag, or that it has none
pub data Lookup : Type 0 where
  row : TagRow → Lookup
  none : Lookup

abbrev pub first_match : Bool → TagRow → Lookup → Lookup
first_match true here later = Lookup.row here
first_match false here later = later

abbrev pub lookup : ℕ → List TagRow → Lookup
lookup tag [] = Lookup.none
lookup tag (here ∷ later) = first_match (eqb tag here.tag) here (lookup tag later)

unfoldable pub row_of : ℕ → Lookup
row_of tag = lookup tag tags

-- the byte that each tag is
abbrev pub tag_byte : Tag → ℕ
tag_byte ClassCount = 1
tag_byte YesFacts = 2
tag_byte NoFacts = 3
tag_byte Answers = 4

-- what a byte is read as: the tag with that byte, or 11 where the byte has no row
abbrev pub Tagged : ℕ → Result Tag Refusal → Type 0
Tagged byte r = MatchResult r (λ tag. tag_byte tag ≡ byte) (λ why. (why ≡ UnknownTag) × (row_of byte ≡ Lookup.none))

-- the length that a field gives, "high byte first"
abbrev pub length_of : List ℕ → ℕ
length_of bytes = get_or bytes 1 0 * 256 + get_or bytes 2 0

-- the size of a field, its head and its contents
abbrev pub size_of : List ℕ → ℕ
size_of bytes = 3 + length_of bytes

-- "11, 12, 13, 10 (contents)", by the row of the tag; room bytes come after the head
abbrev pub row_refusals : Lookup → Stage → ℕ → ℕ → List Condition
row_refusals Lookup.none stage len room = unknown_tag (Unit {0}) ∷ []
row_refusals (Lookup.row tag) stage len room =
    misplaced_tag (tag.stands stage ≡ false) ∷ bad_length (tag.allows len ≡ false) ∷ cut_short (room < len) ∷ []

-- "In a book an empty one gives 12; a field gives 10 (head bytes), 11, 12, 13, 10 (contents)": the field with which
-- these bytes begin
abbrev pub field_refusals : Stage → List ℕ → List Condition
field_refusals stage bytes =
    misplaced_tag (length bytes ≡ 0)
    ∷ cut_short (length bytes < 3)
    ∷ row_refusals (row_of (get_or bytes 0 0)) stage (length_of bytes) (length bytes - 3)

-- What reading comes to, one after the other, each with its place: a field, at its tag byte, with the stage of reading
-- and all bytes from there on; a class count, at the tag byte; a fact, at its first byte.
pub data Item : Type 0 where
  head : (place : ℕ) (stage : Stage) (bytes : List ℕ) → Item
  begin : (place classes : ℕ) → Item
  said : (place : ℕ) (kind : Kind) (lower upper verdict : ℕ) → Item

-- so many facts of a field, the first of them at a place
unfoldable pub facts_from : ℕ → ℕ → Kind → (List ℕ → ℕ) → ℕ → List ℕ → List Item
facts_from zero width kind verdict at bytes = []
facts_from (suc count) width kind verdict at bytes =
    Item.said at kind (get_or bytes 0 0) (get_or bytes 1 0) (verdict bytes)
    ∷ facts_from count width kind verdict (at + width) (drop width bytes)

-- what a field says whose tag byte stands at place at, with these bytes from there on
abbrev pub said_in : Contents → ℕ → List ℕ → List Item
said_in Contents.classes at bytes = Item.begin at (get_or bytes 3 0) ∷ []
said_in (Contents.facts width kind verdict) at bytes =
    facts_from (length_of bytes / width) width kind verdict (at + 3) (drop 3 bytes)

abbrev pub field_says : Lookup → ℕ → List ℕ → List Item
field_says Lookup.none at bytes = []
field_says (Lookup.row tag) at bytes = said_in tag.contents at bytes

-- the stage behind a field
abbrev pub stage_behind : Lookup → Stage → Stage
stage_behind Lookup.none stage = stage
stage_behind (Lookup.row tag) stage = tag.behind

-- "A run of fields: one-byte tag, two-byte length (high byte first), that many bytes": what the bytes from place at on
-- come to, in at most fuel fields. What stands behind a field that is refused is never come to.
unfoldable pub items_from : ℕ → Stage → ℕ → List ℕ → List Item
items_from zero stage at bytes = []
items_from (suc fuel) stage at [] = []
items_from (suc fuel) stage at (tag ∷ bytes) =
    let field = tag ∷ bytes in
    Item.head at stage field
    ∷ field_says (row_of tag) at field
    ++ items_from fuel (stage_behind (row_of tag) stage) (at + size_of field) (drop (size_of field) field)

-- what a book comes to, an empty one to its missing first field; it has no more fields than bytes
abbrev pub items_of : List ℕ → List Item
items_of [] = Item.head 0 Start [] ∷ []
items_of (tag ∷ bytes) = items_from (suc (length bytes)) Start 0 (tag ∷ bytes)

-- the fact that three bytes make, "verdict 1 yes or 0 no"
abbrev pub fact_of : ℕ → ℕ → ℕ → Fact
fact_of a b v = fact_on a b (truth_of v)

-- the reading ends here with a number and a place; session and table are as they stand
abbrev pub Ends : ℕ → ℕ → Session → List ℕ → Reply → List ℕ → Type 0
Ends number place s t r t' = (r ≡ reply number place s) × (t' ≡ t)

-- what stands at a place was judged with a number: the reading ends there if it is refused, and goes on if not
abbrev pub GoesOn : ℕ → ℕ → Session → List ℕ → Reply → List ℕ → Type 0 → Type 0
GoesOn number place s t r t' later = ((number ≢ 0) × Ends number place s t r t') ⊎ ((number ≡ 0) × later)

-- From session s and table t the items are followed from the left, a class count by fresh and a fact by tell or answer:
-- "then tag 1 gives 1, 2, and each fact 14, 5, 6". The reply is r, and the table is then t'.
abbrev pub Follows : List Item → Session → List ℕ → Reply → List ℕ → Type 0
Follows [] s t r t' = Ends 0 0 s t r t'
Follows (Item.head place stage bytes ∷ items) s t r t' =
    (k : ℕ) × First (field_refusals stage bytes) k × GoesOn k place s t r t' (Follows items s t r t')
Follows (Item.begin place n ∷ items) s t r t' =
    (r₁ : Reply) × (t₁ : List ℕ) × Owed (fresh n t) (r₁, t₁)
    × GoesOn r₁.number place r₁.session t₁ r t' (Follows items r₁.session t₁ r t')
Follows (Item.said place kind a b v ∷ items) s t r t' =
    (k : ℕ) × First (bad_verdict v ∷ []) k
    × GoesOn k place s t r t'
    ((r₁ : Reply) × (t₁ : List ℕ) × Owed (tell kind s t (fact_of a b v)) (r₁, t₁)
    × GoesOn r₁.number place r₁.session t₁ r t' (Follows items r₁.session t₁ r t'))

-- what an answer of the code replies: a refusal has its place, and the session after the facts before it
abbrev pub reply_of_read : Result Session RefusedBook → Reply
reply_of_read (Ok s) = accepted s
reply_of_read (Err refused) = reply (number_of refused.why) refused.place refused.session

-- read, given a book and the table t, replies r, and the table is then t'
pub record BookRead (book t : List ℕ) (r : Reply) (t' : List ℕ) : Type 0 where
  pub followed : Follows (items_of book) no_session t r t'

-- "one-byte tag, two-byte length (high byte first), that many bytes"
abbrev pub field : ℕ → List ℕ → List ℕ
field tag bytes = tag ∷ length bytes / 256 ∷ length bytes % 256 ∷ bytes

-- the pairs off the diagonal that t marks m, "each in row order"
abbrev pub PairsMarked : ℕ → List ℕ → ℕ → List Pair → Type 0
PairsMarked n t m l = Lists n (λ a b. (a ≢ b) × (mark n t a b ≡ m)) l

-- "The writer gives tag 1, then one tag 2 with every yes pair and one tag 3 with every no pair off the diagonal"
pub record BookOf (n : ℕ) (t book : List ℕ) : Type 0 where
  pub yes_pairs : List Pair
  pub no_pairs : List Pair
  pub yes_listed : PairsMarked n t 1 yes_pairs
  pub no_listed : PairsMarked n t 2 no_pairs
  pub bytes : book ≡ field 1 (n ∷ []) ++ (field 2 (bytes_of yes_pairs) ++ field 3 (bytes_of no_pairs))

-- "writer 8"
abbrev pub write_refusals : Session → List ℕ → List ℕ → List Condition
write_refusals s t out = no_room (TooShort (BookOf s.classes t) out) ∷ []

-- write, with session s, table t and a buffer; it counts the bytes
abbrev pub write : Session → List ℕ → List ℕ → Call (Counted × List ℕ)
write s t out = writes (standing s t (write_refusals s t out)) (BookOf s.classes t) out
