-- Worked marks of document 01, by name: calls with all that goes in and all that comes out, to be met by the
-- definitions. P1 to P12 are the small proved set.
-- Assumes nothing.
use mathlib.Core.Bool.{Bool, true, false}
use mathlib.Core.List.{List, [], ◌∷◌}
use Prim.Native.Nat.{ℕ, zero, suc}
use Rattle.order.specs.Facts.{Fact, under, not_under}
use Rattle.promise.specs.declared.Session.{Session}
use Rattle.promise.specs.declared.Reply.{Reply}
use Rattle.promise.specs.Next.{Question}
use Rattle.promise.specs.Next.Question.{Ask, Done}
use Rattle.promise.specs.Calls.{Counted}
use Rattle.promise.specs.Calls.Counted.{Count, Refused}
use Rattle.promise.specs.declared.CrossedQuestion.{CrossedQuestion}
use Rattle.promise.specs.declared.CrossedCount.{CrossedCount}
use Rattle.promise.specs.Calls.{started}
use Rattle.promise.specs.declared.Kind.{Kind}

-- a call with all that goes in
pub data Input : Type 0 where
  fresh : (n : ℕ) (t : List ℕ) → Input
  tell : (kind : Kind) (s : Session) (t : List ℕ) (f : Fact) → Input
  clip : (s : Session) (t : List ℕ) (played : List Bool) → Input
  clip_bytes : (s : Session) (t bytes : List ℕ) → Input
  next next_for_c open_pairs open_pairs_for_c : (s : Session) (t : List ℕ) → Input
  hierarchy hierarchy_for_c : (s : Session) (t heads steps : List ℕ) → Input
  ladder ladder_for_c : (s : Session) (t : List ℕ) (a b : ℕ) (out : List ℕ) → Input
  read : (book t : List ℕ) → Input
  write write_for_c : (s : Session) (t out : List ℕ) → Input

-- all that comes out
abbrev pub Outcome : Input → Type 0
Outcome (Input.fresh n t) = Reply × List ℕ
Outcome (Input.tell kind s t f) = Reply × List ℕ
Outcome (Input.clip s t played) = Reply × List ℕ
Outcome (Input.clip_bytes s t bytes) = Reply × List ℕ
Outcome (Input.next s t) = Question
Outcome (Input.next_for_c s t) = CrossedQuestion
Outcome (Input.open_pairs s t) = Counted
Outcome (Input.open_pairs_for_c s t) = CrossedCount
Outcome (Input.hierarchy s t heads steps) = Counted × (List ℕ × List ℕ)
Outcome (Input.hierarchy_for_c s t heads steps) = CrossedCount × (List ℕ × List ℕ)
Outcome (Input.ladder s t a b out) = Counted × List ℕ
Outcome (Input.ladder_for_c s t a b out) = CrossedCount × List ℕ
Outcome (Input.read book t) = Reply × List ℕ
Outcome (Input.write s t out) = Counted × List ℕ
Outcome (Input.write_for_c s t out) = CrossedCount × List ℕ

-- a row of the table
pub record Row : Type 0 where
  pub input : Input
  pub outcome : Outcome input

infix 2 ◌gives◌
abbrev pub ◌gives◌ : (i : Input) → Outcome i → Row
i gives o = record { input = i; outcome = o }

-- What a call gives is written out, by no definition of what it owes: a reply, and the question and the count that C
-- gets.
abbrev pub replied : ℕ → ℕ → Session → Reply
replied number place s = record { number = number; place = place; session = s }

abbrev pub asked_for_c : ℕ → ℕ → Bool → ℕ → ℕ → CrossedQuestion
asked_for_c number place asks a b = record { number = number; place = place; asks = asks; lower = a; upper = b }

abbrev pub counted_for_c : ℕ → ℕ → ℕ → CrossedCount
counted_for_c number place count = record { number = number; place = place; count = count }

abbrev session_of : ℕ → ℕ → Session
session_of n tests = record { classes = n; tests = tests }

-- "n 0 and tally 0"
abbrev pub nothing : Session
nothing = session_of 0 0

-- three classes and the tests counted; four classes
abbrev pub three : ℕ → Session
three = session_of 3

abbrev pub four : Session
four = started 4

-- the marks after P2, P3, P4, P6, P7, P8 and P11
abbrev pub p2 : List ℕ
p2 = 1 ∷ 0 ∷ 0 ∷ 0 ∷ 1 ∷ 0 ∷ 0 ∷ 0 ∷ 1 ∷ []

abbrev pub p3 : List ℕ
p3 = 1 ∷ 0 ∷ 2 ∷ 0 ∷ 1 ∷ 0 ∷ 0 ∷ 0 ∷ 1 ∷ []

abbrev pub p4 : List ℕ
p4 = 1 ∷ 1 ∷ 2 ∷ 0 ∷ 1 ∷ 2 ∷ 0 ∷ 0 ∷ 1 ∷ []

abbrev pub p6 : List ℕ
p6 = 1 ∷ 1 ∷ 1 ∷ 0 ∷ 1 ∷ 1 ∷ 0 ∷ 0 ∷ 1 ∷ []

abbrev pub p7 : List ℕ
p7 = 1 ∷ 1 ∷ 1 ∷ 0 ∷ 1 ∷ 1 ∷ 2 ∷ 0 ∷ 1 ∷ []

abbrev pub p8 : List ℕ
p8 = 1 ∷ 1 ∷ 1 ∷ 2 ∷ 1 ∷ 1 ∷ 2 ∷ 1 ∷ 1 ∷ []

abbrev pub p11 : List ℕ
p11 = 1 ∷ 1 ∷ 1 ∷ 1 ∷ 2 ∷ 1 ∷ 2 ∷ 1 ∷ 2 ∷ 2 ∷ 1 ∷ 1 ∷ 2 ∷ 2 ∷ 2 ∷ 1 ∷ []

-- the fresh table after one fact, "0 not under 1", "0 under 1", "1 under 2"
abbrev pub after_no : List ℕ
after_no = 1 ∷ 2 ∷ 0 ∷ 0 ∷ 1 ∷ 0 ∷ 0 ∷ 0 ∷ 1 ∷ []

abbrev pub after_yes : List ℕ
after_yes = 1 ∷ 1 ∷ 0 ∷ 0 ∷ 1 ∷ 0 ∷ 0 ∷ 0 ∷ 1 ∷ []

abbrev pub one_under_two : List ℕ
one_under_two = 1 ∷ 0 ∷ 0 ∷ 0 ∷ 1 ∷ 1 ∷ 0 ∷ 0 ∷ 1 ∷ []

-- not sound: 0 under 1 and 1 under 2, but (0, 2) open
abbrev pub unsound : List ℕ
unsound = 1 ∷ 1 ∷ 0 ∷ 0 ∷ 1 ∷ 1 ∷ 0 ∷ 0 ∷ 1 ∷ []

-- the marks of 01's printed example without its last six bytes
abbrev pub printed : List ℕ
printed = 1 ∷ 1 ∷ 1 ∷ 0 ∷ 1 ∷ 1 ∷ 0 ∷ 1 ∷ 1 ∷ []

-- two classes with one pair open
abbrev pub one_open : List ℕ
one_open = 1 ∷ 2 ∷ 0 ∷ 1 ∷ []

-- two classes of three that played a clip, the first alone, and the first with a class of n or more
abbrev pub first_two : List Bool
first_two = true ∷ true ∷ false ∷ []

abbrev pub first_one : List Bool
first_one = true ∷ false ∷ false ∷ []

abbrev pub first_and_fourth : List Bool
first_and_fourth = true ∷ false ∷ false ∷ true ∷ []

-- k times one byte; buffers before a call
abbrev pub times : ℕ → ℕ → List ℕ
times zero byte = []
times (suc k) byte = byte ∷ times k byte

abbrev pub nines : ℕ → List ℕ
nines k = times k 9

-- k fields of tag 2 and length 0 before the rest of a book
abbrev pub empty_fields : ℕ → List ℕ → List ℕ
empty_fields zero rest = rest
empty_fields (suc k) rest = 2 ∷ 0 ∷ 0 ∷ empty_fields k rest

-- P12: P8's table as a book
abbrev pub p12 : List ℕ
p12 =
    1 ∷ 0 ∷ 1 ∷ 3 ∷ 2 ∷ 0 ∷ 8 ∷ 0 ∷ 1 ∷ 0 ∷ 2 ∷ 1 ∷ 2 ∷ 2 ∷ 1 ∷ 3
    ∷ 0 ∷ 4 ∷ 1 ∷ 0 ∷ 2 ∷ 0 ∷ []

-- 01's printed example
abbrev pub example : List ℕ
example = 1 ∷ 0 ∷ 1 ∷ 3 ∷ 2 ∷ 0 ∷ 6 ∷ 0 ∷ 1 ∷ 1 ∷ 2 ∷ 2 ∷ 1 ∷ 4 ∷ 0 ∷ 3 ∷ 1 ∷ 0 ∷ 0 ∷ []

-- a book read to nine bytes, and one that begins with three classes; no class count was accepted, and the bytes stay
abbrev pub book : List ℕ → Input
book bytes = Input.read bytes (nines 9)

abbrev pub book_of_three : List ℕ → Input
book_of_three bytes = book (1 ∷ 0 ∷ 1 ∷ 3 ∷ bytes)

abbrev pub unbegun : ℕ → Reply × List ℕ
unbegun number = (replied number 0 nothing, nines 9)

-- the names of the rows; where one ends in -first, a later refusal is due as well
pub data Mark : Type 0 where
  p1_fresh p1_done : Mark
  p2_fresh p2_open p2_asks : Mark
  p3_told p3_open : Mark
  p4_told p4_open : Mark
  p5_refused : Mark
  p6_first_told p6_told p6_open : Mark
  p7_told p7_open p7_asks : Mark
  p8_told p8_open p8_done p8_hierarchy : Mark
  p9_refused : Mark
  p10_answered : Mark
  p11_read p11_hierarchy p11_ladder p11_not_under : Mark
  p12_written p12_read : Mark
  answer_open answer_settled answer_draws answer_refused : Mark
  fresh_no_class fresh_129_classes fresh_short_table next_no_class next_short_table next_not_sound next_no_mark : Mark
  next_not_sound_first next_overcounted next_all_tested open_no_class open_short_table open_not_sound : Mark
  open_overcounted tell_129_classes tell_overcounted_first tell_lower_beyond tell_upper_beyond : Mark
  tell_contradicts_beyond : Mark
  hierarchy_short_steps hierarchy_short_heads hierarchy_open_first hierarchy_open ladder_short ladder_fits : Mark
  ladder_equal ladder_beyond_first ladder_upper_beyond ladder_open_first ladder_open_short ladder_open : Mark
  write_short write_one_class write_open : Mark
  example_read example_cut_read example_cut_open example_cut_asks : Mark
  book_empty book_cut_head book_cut_head_first book_unknown_tag book_tag_zero book_misplaced : Mark
  book_misplaced_first book_two_counts book_length_first book_no_count book_cut_contents book_no_class : Mark
  book_129_classes book_short_table : Mark
  book_count_alone later_cut_head later_cut_length later_unknown_tag later_tag_zero later_tag_five : Mark
  later_second_count later_yes_length later_no_length later_answers_length later_cut_contents later_long_length : Mark
  later_verdict later_verdict_first later_class_beyond later_second_verdict later_contradicts later_far : Mark
  book_no_answers book_answers : Mark
  clip_of_two clip_of_second clip_of_one clip_rest_kept : Mark
  clip_of_none clip_of_all : Mark
  clip_first_contradicts clip_later_contradicts : Mark
  clip_beyond clip_beyond_first clip_overcounted_first clip_not_sound_first clip_short_table clip_129_classes : Mark
  bytes_of_two bytes_more_flags bytes_too_few bytes_most_flags bytes_too_many bytes_beyond bytes_contradict : Mark
  bytes_overcounted_first : Mark
  c_asks c_done c_next_refused c_open c_open_refused c_hierarchy c_hierarchy_refused c_ladder : Mark
  c_ladder_refused c_write c_write_refused : Mark

abbrev pub row : Mark → Row
-- P1
row Mark.p1_fresh = Input.fresh 1 (nines 2) gives (replied 0 0 (started 1), 1 ∷ 9 ∷ [])
row Mark.p1_done = Input.next (started 1) (1 ∷ 9 ∷ []) gives Done
-- P2
row Mark.p2_fresh = Input.fresh 3 (nines 9) gives (replied 0 0 (three 0), p2)
row Mark.p2_open = Input.open_pairs (three 0) p2 gives Count 6
row Mark.p2_asks = Input.next (three 0) p2 gives Ask 0 1
-- P3
row Mark.p3_told = Input.tell Kind.Told (three 0) p2 (not_under 0 2) gives (replied 0 0 (three 0), p3)
row Mark.p3_open = Input.open_pairs (three 0) p3 gives Count 5
-- P4
row Mark.p4_told = Input.tell Kind.Told (three 0) p3 (under 0 1) gives (replied 0 0 (three 0), p4)
row Mark.p4_open = Input.open_pairs (three 0) p4 gives Count 3
-- P5
row Mark.p5_refused = Input.tell Kind.Told (three 0) p4 (under 1 2) gives (replied 6 0 (three 0), p4)
-- P6
row Mark.p6_first_told = Input.tell Kind.Told (three 0) p2 (under 0 1) gives (replied 0 0 (three 0), after_yes)
row Mark.p6_told = Input.tell Kind.Told (three 0) after_yes (under 1 2) gives (replied 0 0 (three 0), p6)
row Mark.p6_open = Input.open_pairs (three 0) p6 gives Count 3
-- P7
row Mark.p7_told = Input.tell Kind.Told (three 0) p6 (not_under 2 0) gives (replied 0 0 (three 0), p7)
row Mark.p7_open = Input.open_pairs (three 0) p7 gives Count 2
row Mark.p7_asks = Input.next (three 0) p7 gives Ask 1 0
-- P8
row Mark.p8_told = Input.tell Kind.Told (three 0) p7 (under 2 1) gives (replied 0 0 (three 0), p8)
row Mark.p8_open = Input.open_pairs (three 0) p8 gives Count 0
row Mark.p8_done = Input.next (three 0) p8 gives Done
row Mark.p8_hierarchy =
    Input.hierarchy (three 0) p8 (nines 4) (nines 3) gives (Count 1, (0 ∷ 1 ∷ 1 ∷ 9 ∷ [], 0 ∷ 1 ∷ 9 ∷ []))
-- P9
row Mark.p9_refused = Input.tell Kind.Told (three 0) p2 (not_under 1 1) gives (replied 6 0 (three 0), p2)
-- P10
row Mark.p10_answered = Input.tell Kind.Answered (three 0) p2 (under 1 1) gives (replied 0 0 (three 0), p2)
-- P11
row Mark.p11_read =
    Input.read (1 ∷ 0 ∷ 1 ∷ 4 ∷ 2 ∷ 0 ∷ 8 ∷ 0 ∷ 1 ∷ 0 ∷ 2 ∷ 1 ∷ 3 ∷ 2 ∷ 3 ∷ 3 ∷ 0 ∷ 4 ∷ 1 ∷ 2 ∷ 2 ∷ 1 ∷ []) (nines 16)
    gives (replied 0 0 four, p11)
row Mark.p11_hierarchy =
    Input.hierarchy four p11 (nines 4) (nines 8)
    gives (Count 4, (0 ∷ 1 ∷ 2 ∷ 3 ∷ [], 0 ∷ 1 ∷ 0 ∷ 2 ∷ 1 ∷ 3 ∷ 2 ∷ 3 ∷ []))
row Mark.p11_ladder = Input.ladder four p11 0 3 (nines 3) gives (Count 3, 0 ∷ 1 ∷ 3 ∷ [])
row Mark.p11_not_under = Input.ladder four p11 1 2 (nines 3) gives (Refused 9 0, nines 3)
-- P12
row Mark.p12_written = Input.write (three 0) p8 (nines 22) gives (Count 22, p12)
row Mark.p12_read = book p12 gives (replied 0 0 (three 0), p8)
-- an answer counts on an open pair, not on a settled one, nor where it is refused
row Mark.answer_open = Input.tell Kind.Answered (three 0) p7 (under 2 1) gives (replied 0 0 (three 1), p8)
row Mark.answer_settled = Input.tell Kind.Answered (three 1) p8 (under 0 2) gives (replied 0 0 (three 1), p8)
row Mark.answer_draws = Input.tell Kind.Answered (three 0) p3 (under 0 1) gives (replied 0 0 (three 1), p4)
row Mark.answer_refused = Input.tell Kind.Answered (three 0) p4 (under 1 2) gives (replied 6 0 (three 0), p4)
-- class counts, tables and tallies: refusals 1 to 4, each before those that follow
row Mark.fresh_no_class = Input.fresh 0 (nines 1) gives (replied 1 0 nothing, nines 1)
row Mark.fresh_129_classes = Input.fresh 129 (nines 1) gives (replied 1 0 nothing, nines 1)
row Mark.fresh_short_table = Input.fresh 3 (nines 8) gives (replied 2 0 nothing, nines 8)
row Mark.next_no_class = Input.next (started 0) [] gives Question.Refused 1 0
row Mark.next_short_table = Input.next (three 0) (nines 8) gives Question.Refused 2 0
row Mark.next_not_sound = Input.next (three 0) unsound gives Question.Refused 3 0
row Mark.next_no_mark = Input.next (three 0) (1 ∷ 3 ∷ 0 ∷ 0 ∷ 1 ∷ 0 ∷ 0 ∷ 0 ∷ 1 ∷ []) gives Question.Refused 3 0
row Mark.next_not_sound_first = Input.next (three 7) unsound gives Question.Refused 3 0
row Mark.next_overcounted = Input.next (three 1) p2 gives Question.Refused 4 0
row Mark.next_all_tested = Input.next (three 6) p8 gives Done
row Mark.open_no_class = Input.open_pairs (started 0) [] gives Refused 1 0
row Mark.open_short_table = Input.open_pairs (three 0) (nines 8) gives Refused 2 0
row Mark.open_not_sound = Input.open_pairs (three 0) unsound gives Refused 3 0
row Mark.open_overcounted = Input.open_pairs (three 1) p2 gives Refused 4 0
row Mark.tell_129_classes =
    Input.tell Kind.Told (session_of 129 5) [] (under 0 0) gives (replied 1 0 (session_of 129 5), [])
row Mark.tell_overcounted_first = Input.tell Kind.Told (three 1) p2 (under 0 3) gives (replied 4 0 (three 1), p2)
row Mark.tell_lower_beyond = Input.tell Kind.Told (three 0) p2 (under 3 0) gives (replied 5 0 (three 0), p2)
row Mark.tell_upper_beyond = Input.tell Kind.Told (three 0) p2 (under 0 3) gives (replied 5 0 (three 0), p2)
row Mark.tell_contradicts_beyond = Input.tell Kind.Told (three 0) p4 (under 0 5) gives (replied 5 0 (three 0), p4)
-- buffers that just fit, and one byte less; the order of refusals
row Mark.hierarchy_short_steps = Input.hierarchy four p11 (nines 4) (nines 7) gives (Refused 8 0, (nines 4, nines 7))
row Mark.hierarchy_short_heads = Input.hierarchy four p11 (nines 3) (nines 8) gives (Refused 8 0, (nines 3, nines 8))
row Mark.hierarchy_open_first = Input.hierarchy (three 0) p7 [] [] gives (Refused 7 0, ([], []))
row Mark.hierarchy_open =
    Input.hierarchy (started 2) one_open (nines 2) (nines 2) gives (Refused 7 0, (nines 2, nines 2))
row Mark.ladder_short = Input.ladder four p11 0 3 (nines 2) gives (Refused 8 0, nines 2)
row Mark.ladder_fits = Input.ladder four p11 0 2 (nines 2) gives (Count 2, 0 ∷ 2 ∷ [])
row Mark.ladder_equal = Input.ladder (three 0) p8 2 1 (nines 2) gives (Count 1, 1 ∷ 9 ∷ [])
row Mark.ladder_beyond_first = Input.ladder (three 0) p7 3 0 [] gives (Refused 5 0, [])
row Mark.ladder_upper_beyond = Input.ladder (three 0) p8 0 3 (nines 3) gives (Refused 5 0, nines 3)
row Mark.ladder_open_first = Input.ladder (three 0) p7 2 0 [] gives (Refused 7 0, [])
row Mark.ladder_open_short = Input.ladder (three 0) p7 0 1 [] gives (Refused 7 0, [])
row Mark.ladder_open = Input.ladder (started 2) one_open 0 0 (nines 2) gives (Refused 7 0, nines 2)
row Mark.write_short = Input.write (three 0) p8 (nines 21) gives (Refused 8 0, nines 21)
row Mark.write_one_class =
    Input.write (started 1) (1 ∷ []) (nines 11) gives (Count 10, 1 ∷ 0 ∷ 1 ∷ 1 ∷ 2 ∷ 0 ∷ 0 ∷ 3 ∷ 0 ∷ 0 ∷ 9 ∷ [])
-- pairs that are open are no refusal, and not in the book
row Mark.write_open =
    Input.write (three 0) p7 (nines 19)
    gives (Count 18, 1 ∷ 0 ∷ 1 ∷ 3 ∷ 2 ∷ 0 ∷ 6 ∷ 0 ∷ 1 ∷ 0 ∷ 2 ∷ 1 ∷ 2 ∷ 3 ∷ 0 ∷ 2 ∷ 2 ∷ 0 ∷ 9 ∷ [])
-- 01's printed example, whole and without its last six bytes
row Mark.example_read = book example gives (replied 0 0 (three 1), p8)
row Mark.example_cut_read = book_of_three (2 ∷ 0 ∷ 6 ∷ 0 ∷ 1 ∷ 1 ∷ 2 ∷ 2 ∷ 1 ∷ [])
    gives (replied 0 0 (three 0), printed)
row Mark.example_cut_open = Input.open_pairs (three 0) printed gives Count 2
row Mark.example_cut_asks = Input.next (three 0) printed gives Ask 1 0
-- books refused at their first field
row Mark.book_empty = book [] gives unbegun 12
row Mark.book_cut_head = book (1 ∷ 0 ∷ []) gives unbegun 10
row Mark.book_cut_head_first = book (7 ∷ []) gives unbegun 10
row Mark.book_unknown_tag = book (7 ∷ 0 ∷ 0 ∷ []) gives unbegun 11
row Mark.book_tag_zero = book (0 ∷ 0 ∷ 0 ∷ []) gives unbegun 11
row Mark.book_misplaced = book (2 ∷ 0 ∷ 0 ∷ []) gives unbegun 12
row Mark.book_misplaced_first = book (2 ∷ 0 ∷ 3 ∷ []) gives unbegun 12
row Mark.book_two_counts = book (1 ∷ 0 ∷ 2 ∷ 3 ∷ 3 ∷ []) gives unbegun 13
row Mark.book_length_first = book (1 ∷ 0 ∷ 5 ∷ []) gives unbegun 13
row Mark.book_no_count = book (1 ∷ 0 ∷ 0 ∷ []) gives unbegun 13
row Mark.book_cut_contents = book (1 ∷ 0 ∷ 1 ∷ []) gives unbegun 10
row Mark.book_no_class = book (1 ∷ 0 ∷ 1 ∷ 0 ∷ []) gives unbegun 1
row Mark.book_129_classes = book (1 ∷ 0 ∷ 1 ∷ 129 ∷ []) gives unbegun 1
row Mark.book_short_table = Input.read (1 ∷ 0 ∷ 1 ∷ 3 ∷ []) (nines 8) gives (replied 2 0 nothing, nines 8)
-- books refused later: what was read before the place stays
row Mark.book_count_alone = book_of_three [] gives (replied 0 0 (three 0), p2)
row Mark.later_cut_head = book_of_three (1 ∷ []) gives (replied 10 4 (three 0), p2)
row Mark.later_cut_length = book_of_three (2 ∷ 0 ∷ []) gives (replied 10 4 (three 0), p2)
row Mark.later_unknown_tag = book_of_three (9 ∷ 0 ∷ 0 ∷ []) gives (replied 11 4 (three 0), p2)
row Mark.later_tag_zero = book_of_three (0 ∷ 0 ∷ 0 ∷ []) gives (replied 11 4 (three 0), p2)
row Mark.later_tag_five = book_of_three (5 ∷ 0 ∷ 0 ∷ []) gives (replied 11 4 (three 0), p2)
row Mark.later_second_count = book_of_three (1 ∷ 0 ∷ 7 ∷ []) gives (replied 12 4 (three 0), p2)
row Mark.later_yes_length = book_of_three (2 ∷ 0 ∷ 5 ∷ 0 ∷ []) gives (replied 13 4 (three 0), p2)
row Mark.later_no_length = book_of_three (3 ∷ 0 ∷ 1 ∷ 0 ∷ []) gives (replied 13 4 (three 0), p2)
row Mark.later_answers_length = book_of_three (4 ∷ 0 ∷ 2 ∷ 0 ∷ 1 ∷ []) gives (replied 13 4 (three 0), p2)
row Mark.later_cut_contents = book_of_three (2 ∷ 0 ∷ 4 ∷ 0 ∷ 1 ∷ 1 ∷ []) gives (replied 10 4 (three 0), p2)
row Mark.later_long_length = book_of_three (2 ∷ 1 ∷ 0 ∷ []) gives (replied 10 4 (three 0), p2)
row Mark.later_verdict = book_of_three (4 ∷ 0 ∷ 3 ∷ 1 ∷ 0 ∷ 2 ∷ []) gives (replied 14 7 (three 0), p2)
row Mark.later_verdict_first = book_of_three (4 ∷ 0 ∷ 3 ∷ 3 ∷ 0 ∷ 2 ∷ []) gives (replied 14 7 (three 0), p2)
row Mark.later_class_beyond = book_of_three (4 ∷ 0 ∷ 6 ∷ 3 ∷ 0 ∷ 1 ∷ 0 ∷ 1 ∷ 2 ∷ []) gives (replied 5 7 (three 0), p2)
row Mark.later_second_verdict =
    book_of_three (4 ∷ 0 ∷ 6 ∷ 0 ∷ 1 ∷ 0 ∷ 0 ∷ 1 ∷ 2 ∷ []) gives (replied 14 10 (three 1), after_no)
row Mark.later_contradicts =
    book_of_three (3 ∷ 0 ∷ 2 ∷ 0 ∷ 1 ∷ 2 ∷ 0 ∷ 2 ∷ 0 ∷ 1 ∷ []) gives (replied 6 12 (three 0), after_no)
row Mark.later_far =
    Input.read (1 ∷ 0 ∷ 1 ∷ 1 ∷ empty_fields 21 (9 ∷ 0 ∷ 0 ∷ [])) (nines 1) gives (replied 11 67 (started 1), 1 ∷ [])
-- fields of answers: none, and three of which one is on a settled pair
row Mark.book_no_answers = book_of_three (4 ∷ 0 ∷ 0 ∷ []) gives (replied 0 0 (three 0), p2)
row Mark.book_answers =
    book_of_three (4 ∷ 0 ∷ 9 ∷ 0 ∷ 1 ∷ 1 ∷ 0 ∷ 2 ∷ 0 ∷ 1 ∷ 1 ∷ 1 ∷ []) gives (replied 0 0 (three 2), p4)
-- clips: the pairs of a member and a non-member, and no other; not counted
row Mark.clip_of_two = Input.clip (three 0) after_yes first_two gives (replied 0 0 (three 0), p4)
row Mark.clip_of_second =
    Input.clip (three 0) after_yes (false ∷ true ∷ [])
    gives (replied 0 0 (three 0), 1 ∷ 1 ∷ 0 ∷ 2 ∷ 1 ∷ 2 ∷ 0 ∷ 0 ∷ 1 ∷ [])
row Mark.clip_of_one =
    Input.clip (three 0) p2 first_one gives (replied 0 0 (three 0), 1 ∷ 2 ∷ 2 ∷ 0 ∷ 1 ∷ 0 ∷ 0 ∷ 0 ∷ 1 ∷ [])
row Mark.clip_rest_kept =
    Input.clip (three 0) (1 ∷ 0 ∷ 0 ∷ 0 ∷ 1 ∷ 0 ∷ 0 ∷ 0 ∷ 1 ∷ 9 ∷ []) first_two
    gives (replied 0 0 (three 0), 1 ∷ 0 ∷ 2 ∷ 0 ∷ 1 ∷ 2 ∷ 0 ∷ 0 ∷ 1 ∷ 9 ∷ [])
-- the clips of no class and of all
row Mark.clip_of_none = Input.clip (three 0) after_yes [] gives (replied 0 0 (three 0), after_yes)
row Mark.clip_of_all = Input.clip (three 0) after_yes (true ∷ true ∷ true ∷ []) gives (replied 0 0 (three 0), after_yes)
-- one no contradicts: the first, and a later one, when those before it are not written
row Mark.clip_first_contradicts = Input.clip (three 0) after_yes first_one gives (replied 6 0 (three 0), after_yes)
row Mark.clip_later_contradicts = Input.clip (three 0) one_under_two first_two
    gives (replied 6 0 (three 0), one_under_two)
-- a class of n or more, and the order of refusals
row Mark.clip_beyond =
    Input.clip (three 0) after_yes (true ∷ true ∷ false ∷ true ∷ []) gives (replied 5 0 (three 0), after_yes)
row Mark.clip_beyond_first = Input.clip (three 0) after_yes first_and_fourth gives (replied 5 0 (three 0), after_yes)
row Mark.clip_overcounted_first = Input.clip (three 1) p2 first_and_fourth gives (replied 4 0 (three 1), p2)
row Mark.clip_not_sound_first = Input.clip (three 1) unsound first_one gives (replied 3 0 (three 1), unsound)
row Mark.clip_short_table = Input.clip (three 1) (nines 8) first_one gives (replied 2 0 (three 1), nines 8)
row Mark.clip_129_classes = Input.clip (started 129) [] (true ∷ []) gives (replied 1 0 (started 129), [])
-- a clip with a byte a flag: a byte that is not 0 is a flag that is set; a flag for each class, and none of 128 or more
row Mark.bytes_of_two = Input.clip_bytes (three 0) after_yes (1 ∷ 7 ∷ 0 ∷ []) gives (replied 0 0 (three 0), p4)
row Mark.bytes_more_flags = Input.clip_bytes (three 0) after_yes (1 ∷ 7 ∷ 0 ∷ 0 ∷ []) gives (replied 0 0 (three 0), p4)
row Mark.bytes_too_few = Input.clip_bytes (three 0) after_yes (1 ∷ 1 ∷ []) gives (replied 5 0 (three 0), after_yes)
row Mark.bytes_most_flags = Input.clip_bytes (three 0) after_yes (1 ∷ 1 ∷ times 126 0) gives (replied 0 0 (three 0), p4)
row Mark.bytes_too_many =
    Input.clip_bytes (three 0) after_yes (1 ∷ 1 ∷ times 127 0) gives (replied 5 0 (three 0), after_yes)
row Mark.bytes_beyond = Input.clip_bytes (three 0) after_yes (1 ∷ 1 ∷ 0 ∷ 1 ∷ [])
    gives (replied 5 0 (three 0), after_yes)
row Mark.bytes_contradict = Input.clip_bytes (three 0) after_yes (1 ∷ 0 ∷ 0 ∷ [])
    gives (replied 6 0 (three 0), after_yes)
row Mark.bytes_overcounted_first = Input.clip_bytes (three 1) p2 (1 ∷ []) gives (replied 4 0 (three 1), p2)
-- what C sees
row Mark.c_asks = Input.next_for_c (three 0) p7 gives asked_for_c 0 0 true 1 0
row Mark.c_done = Input.next_for_c (three 0) p8 gives asked_for_c 0 0 false 0 0
row Mark.c_next_refused = Input.next_for_c (three 1) p2 gives asked_for_c 4 0 false 0 0
row Mark.c_open = Input.open_pairs_for_c (three 0) p7 gives counted_for_c 0 0 2
row Mark.c_open_refused = Input.open_pairs_for_c (three 0) unsound gives counted_for_c 3 0 0
row Mark.c_hierarchy =
    Input.hierarchy_for_c (three 0) p8 (nines 4) (nines 3)
    gives (counted_for_c 0 0 1, (0 ∷ 1 ∷ 1 ∷ 9 ∷ [], 0 ∷ 1 ∷ 9 ∷ []))
row Mark.c_hierarchy_refused =
    Input.hierarchy_for_c four p11 (nines 4) (nines 7) gives (counted_for_c 8 0 0, (nines 4, nines 7))
row Mark.c_ladder = Input.ladder_for_c four p11 0 3 (nines 4) gives (counted_for_c 0 0 3, 0 ∷ 1 ∷ 3 ∷ 9 ∷ [])
row Mark.c_ladder_refused = Input.ladder_for_c four p11 0 3 (nines 2) gives (counted_for_c 8 0 0, nines 2)
row Mark.c_write = Input.write_for_c (three 0) p8 (nines 22) gives (counted_for_c 0 0 22, p12)
row Mark.c_write_refused = Input.write_for_c (three 0) p8 (nines 21) gives (counted_for_c 8 0 0, nines 21)
