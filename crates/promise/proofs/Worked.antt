-- The table of worked marks is met: each row is what the definitions compute.
-- Assumes nothing.
use mathlib.Core.Path.{◌≡◌, refl, subst}
use native.Mathlib.Decide.{ℕ_discrete, dec_lt, dec_le}
use Rattle.order.specs.Tables.{mark, opens_to}
use Rattle.order.proofs.Decide.{both, either, implies, negated, as_well, all_below, some_below, all_pairs, least}
use Rattle.order.proofs.Decide.{least_from}
use Rattle.promise.proofs.Refusals.{stage, dec_too_short}
use Rattle.order.proofs.Sound.{is, dec_sound, dec_transitive, dec_pruned}
use Rattle.order.proofs.Taking.{dec_yes_after_yes, dec_no_after_yes, dec_no_after_no}
use Rattle.order.proofs.Pairs.{row_to, rows_to}
use Rattle.promise.specs.Calls.{Owed, open_pairs, count_for_c, writes_for_c}
use Rattle.promise.specs.Tell.{fresh, tell}
use Rattle.promise.specs.Clips.{clip, clip_bytes}
use Rattle.promise.specs.Next.{next, next_for_c}
use Rattle.promise.specs.Hierarchy.{hierarchy, ladder, Above, Number}
use Rattle.promise.specs.Book.{row_of, facts_from, items_from, BookRead, write}
use Rattle.promise.proofs.Flags.{dec_set, dec_flagged}
use Rattle.promise.proofs.Standing.{standing_there}
use Rattle.promise.proofs.Calls.{owed_there, changes_there, crossing_there}
use Rattle.promise.proofs.Fresh.{fresh_there}
use Rattle.promise.proofs.Tell.{tell_there}
use Rattle.promise.proofs.Clips.{dec_beyond, dec_clip_contradicts, dec_clipped_no, clip_there, dec_flags_fit}
use Rattle.promise.proofs.Clips.{bytes_there}
use Rattle.promise.proofs.Next.{first_of, next_there}
use Rattle.promise.proofs.Counts.{writes_there, open_pairs_there}
use Rattle.promise.proofs.Crossing.{next_for_c_there, open_pairs_for_c_there, writes_for_c_there}
use Rattle.promise.proofs.Crossing.{hierarchy_for_c_there, ladder_for_c_there, write_for_c_there}
use Rattle.promise.proofs.Hierarchy.{dec_under, dec_equal, dec_head_of, dec_head, dec_third, dec_direct, head_there}
use Rattle.promise.proofs.Hierarchy.{list_there}
use Rattle.promise.proofs.Hierarchy.{heads_there, hierarchy_there}
use Rattle.promise.proofs.Ladder.{number_there, dec_above, to_go, between, direct_there, rung_there, rungs_there}
use Rattle.promise.proofs.Ladder.{ladder_there, ladder_made, ladder_written_there}
use Rattle.promise.proofs.Tags.{row_there, field_there}
use Rattle.promise.proofs.Read.{goes_there, verdict_there, made_there, follows_there, read_there}
use Rattle.promise.proofs.Write.{dec_off, book_there, write_there}
use Rattle.promise.proofs.Table.{Input, Outcome, Row, Mark, row, p8, p11}

-- an outcome that a call owes
abbrev pub Owes : (i : Input) → Outcome i → Type 0
Owes (Input.fresh n t) = Owed (fresh n t)
Owes (Input.tell kind s t f) = Owed (tell kind s t f)
Owes (Input.clip s t played) = Owed (clip s t played)
Owes (Input.clip_bytes s t bytes) = Owed (clip_bytes s t bytes)
Owes (Input.next s t) = Owed (next s t)
Owes (Input.next_for_c s t) = Owed (next_for_c s t)
Owes (Input.open_pairs s t) = Owed (open_pairs s t)
Owes (Input.open_pairs_for_c s t) = Owed (count_for_c (open_pairs s t))
Owes (Input.hierarchy s t heads steps) = Owed (hierarchy s t heads steps)
Owes (Input.hierarchy_for_c s t heads steps) = Owed (writes_for_c (hierarchy s t heads steps))
Owes (Input.ladder s t a b out) = Owed (ladder s t a b out)
Owes (Input.ladder_for_c s t a b out) = Owed (writes_for_c (ladder s t a b out))
Owes (Input.read book t) = λ o. BookRead book t o.0 o.1
Owes (Input.write s t out) = Owed (write s t out)
Owes (Input.write_for_c s t out) = Owed (writes_for_c (write s t out))

abbrev pub Meets : Row → Type 0
Meets row = Owes row.input row.outcome

-- what is there for a call
abbrev there : (i : Input) → (o : Outcome i) × Owes i o
there (Input.fresh n t) = fresh_there n t
there (Input.tell kind s t f) = tell_there kind s t f
there (Input.clip s t played) = clip_there s t played
there (Input.clip_bytes s t bytes) = bytes_there s t bytes
there (Input.next s t) = next_there s t
there (Input.next_for_c s t) = next_for_c_there s t
there (Input.open_pairs s t) = open_pairs_there s t
there (Input.open_pairs_for_c s t) = open_pairs_for_c_there s t
there (Input.hierarchy s t heads steps) = hierarchy_there s t heads steps
there (Input.hierarchy_for_c s t heads steps) = hierarchy_for_c_there s t heads steps
there (Input.ladder s t a b out) = ladder_written_there s t a b out
there (Input.ladder_for_c s t a b out) = ladder_for_c_there s t a b out
there (Input.read book t) = let q = read_there book t in ((q.0, q.1), q.2)
there (Input.write s t out) = write_there s t out
there (Input.write_for_c s t out) = write_for_c_there s t out

-- it is the outcome that the row has
computed : (m : Mark) → (there (row m).input).0 ≡ (row m).outcome
unfolding mark opens_to dec_lt dec_le ℕ_discrete both either implies negated as_well all_below some_below all_pairs
    least least_from stage is dec_sound dec_transitive dec_pruned dec_yes_after_yes dec_no_after_yes dec_no_after_no
    row_to rows_to standing_there owed_there changes_there crossing_there fresh_there tell_there dec_set dec_flagged
    dec_beyond dec_clip_contradicts dec_clipped_no clip_there dec_flags_fit bytes_there first_of next_there
    next_for_c_there open_pairs_there open_pairs_for_c_there dec_under dec_equal dec_head_of dec_head dec_third
    dec_direct head_there list_there heads_there dec_too_short hierarchy_there number_there dec_above to_go between
    direct_there rung_there rungs_there ladder_there ladder_made writes_there ladder_written_there writes_for_c_there
    row_of facts_from items_from row_there field_there goes_there verdict_there made_there follows_there read_there
    dec_off book_there write_there hierarchy_for_c_there ladder_for_c_there write_for_c_there
computed Mark.p1_fresh = refl
computed Mark.p1_done = refl
computed Mark.p2_fresh = refl
computed Mark.p2_open = refl
computed Mark.p2_asks = refl
computed Mark.p3_told = refl
computed Mark.p3_open = refl
computed Mark.p4_told = refl
computed Mark.p4_open = refl
computed Mark.p5_refused = refl
computed Mark.p6_first_told = refl
computed Mark.p6_told = refl
computed Mark.p6_open = refl
computed Mark.p7_told = refl
computed Mark.p7_open = refl
computed Mark.p7_asks = refl
computed Mark.p8_told = refl
computed Mark.p8_open = refl
computed Mark.p8_done = refl
computed Mark.p8_hierarchy = refl
computed Mark.p9_refused = refl
computed Mark.p10_answered = refl
computed Mark.p11_read = refl
computed Mark.p11_hierarchy = refl
computed Mark.p11_ladder = refl
computed Mark.p11_not_under = refl
computed Mark.p12_written = refl
computed Mark.p12_read = refl
computed Mark.answer_open = refl
computed Mark.answer_settled = refl
computed Mark.answer_draws = refl
computed Mark.answer_refused = refl
computed Mark.fresh_no_class = refl
computed Mark.fresh_129_classes = refl
computed Mark.fresh_short_table = refl
computed Mark.next_no_class = refl
computed Mark.next_short_table = refl
computed Mark.next_not_sound = refl
computed Mark.next_no_mark = refl
computed Mark.next_not_sound_first = refl
computed Mark.next_overcounted = refl
computed Mark.next_all_tested = refl
computed Mark.open_no_class = refl
computed Mark.open_short_table = refl
computed Mark.open_not_sound = refl
computed Mark.open_overcounted = refl
computed Mark.tell_129_classes = refl
computed Mark.tell_overcounted_first = refl
computed Mark.tell_lower_beyond = refl
computed Mark.tell_upper_beyond = refl
computed Mark.tell_contradicts_beyond = refl
computed Mark.hierarchy_short_steps = refl
computed Mark.hierarchy_short_heads = refl
computed Mark.hierarchy_open_first = refl
computed Mark.hierarchy_open = refl
computed Mark.ladder_short = refl
computed Mark.ladder_fits = refl
computed Mark.ladder_equal = refl
computed Mark.ladder_beyond_first = refl
computed Mark.ladder_upper_beyond = refl
computed Mark.ladder_open_first = refl
computed Mark.ladder_open_short = refl
computed Mark.ladder_open = refl
computed Mark.write_short = refl
computed Mark.write_one_class = refl
computed Mark.write_open = refl
computed Mark.example_read = refl
computed Mark.example_cut_read = refl
computed Mark.example_cut_open = refl
computed Mark.example_cut_asks = refl
computed Mark.book_empty = refl
computed Mark.book_cut_head = refl
computed Mark.book_cut_head_first = refl
computed Mark.book_unknown_tag = refl
computed Mark.book_tag_zero = refl
computed Mark.book_misplaced = refl
computed Mark.book_misplaced_first = refl
computed Mark.book_two_counts = refl
computed Mark.book_length_first = refl
computed Mark.book_no_count = refl
computed Mark.book_cut_contents = refl
computed Mark.book_no_class = refl
computed Mark.book_129_classes = refl
computed Mark.book_short_table = refl
computed Mark.book_count_alone = refl
computed Mark.later_cut_head = refl
computed Mark.later_cut_length = refl
computed Mark.later_unknown_tag = refl
computed Mark.later_tag_zero = refl
computed Mark.later_tag_five = refl
computed Mark.later_second_count = refl
computed Mark.later_yes_length = refl
computed Mark.later_no_length = refl
computed Mark.later_answers_length = refl
computed Mark.later_cut_contents = refl
computed Mark.later_long_length = refl
computed Mark.later_verdict = refl
computed Mark.later_verdict_first = refl
computed Mark.later_class_beyond = refl
computed Mark.later_second_verdict = refl
computed Mark.later_contradicts = refl
computed Mark.later_far = refl
computed Mark.book_no_answers = refl
computed Mark.book_answers = refl
computed Mark.clip_of_two = refl
computed Mark.clip_of_second = refl
computed Mark.clip_of_one = refl
computed Mark.clip_rest_kept = refl
computed Mark.clip_of_none = refl
computed Mark.clip_of_all = refl
computed Mark.clip_first_contradicts = refl
computed Mark.clip_later_contradicts = refl
computed Mark.clip_beyond = refl
computed Mark.clip_beyond_first = refl
computed Mark.clip_overcounted_first = refl
computed Mark.clip_not_sound_first = refl
computed Mark.clip_short_table = refl
computed Mark.clip_129_classes = refl
computed Mark.bytes_of_two = refl
computed Mark.bytes_more_flags = refl
computed Mark.bytes_too_few = refl
computed Mark.bytes_most_flags = refl
computed Mark.bytes_too_many = refl
computed Mark.bytes_beyond = refl
computed Mark.bytes_contradict = refl
computed Mark.bytes_overcounted_first = refl
computed Mark.c_asks = refl
computed Mark.c_done = refl
computed Mark.c_next_refused = refl
computed Mark.c_open = refl
computed Mark.c_open_refused = refl
computed Mark.c_hierarchy = refl
computed Mark.c_hierarchy_refused = refl
computed Mark.c_ladder = refl
computed Mark.c_ladder_refused = refl
computed Mark.c_write = refl
computed Mark.c_write_refused = refl

-- P1 to P12, and the other worked marks that say something of the definitions
pub met : (m : Mark) → Meets (row m)
met m = subst (Owes (row m).input) (computed m) (there (row m).input).1

-- "the number of heads strictly above the rung and under the goal": of P8's table from 0 on to 1 it is 1, though 2 is
-- equal to 1; of P11's from 0 on to 1, though 2 and 3 are above 0 too, and from 1 on to 3, though 0 and 2 are under 3
pub above_worked : Number (Above 3 p8 1 0) 3 1 × Number (Above 4 p11 1 0) 4 1 × Number (Above 4 p11 3 1) 4 1
unfolding mark ℕ_discrete dec_lt dec_le both negated implies as_well all_below dec_under dec_equal dec_head_of dec_head
    dec_above number_there to_go
above_worked = ((to_go 3 p8 1 0).1, (to_go 4 p11 1 0).1, (to_go 4 p11 3 1).1)
