-- What next and hierarchy give where refusals 1 to 4 are not due, and what is then said of the table.
-- Assumes nothing.
use Rattle.std.proofs.Common.{◌≡◌, ℕ, ◌+◌, ◌/◌, ◌≤◌, ◌<◌, List, [], length, take, drop, map, refl, sym, ◌∙◌, ap}
use Rattle.std.proofs.Common.{Option, Some, None, IsSome, Result, Ok, Err, arith}
use Rattle.std.specs.List.{zip, range_with_len}
use Rattle.std.specs.Simd.{first_chunks}
use Rattle.order.specs.Tables.{opens, Pair, bytes_of}
use Rattle.promise.specs.declared.Asked.{Asked}
use Rattle.promise.specs.declared.Refusal.{Refusal}
use Rattle.promise.specs.declared.Session.{Session}
use Rattle.promise.specs.Refusals.{First, standing}
use Rattle.promise.specs.Calls.{Counted, Owed, accepted, count_of, over}
use Rattle.promise.specs.Next.{next, question_of}
use Rattle.promise.specs.Hierarchy.{HeadsOf, StepsOf, hierarchy}
use Rattle.promise.proofs.Answers.{number_positive}
use Rattle.promise.proofs.Standing.{standing_passed, square}
use Rattle.promise.proofs.Next.{done_exactly}
use Rattle.promise.proofs.Triangles.{steps_few, hierarchy_accepted}
use Rattle.buffers.specs.Placed.{Put}
use Rattle.buffers.specs.Decimal.{decimal}
use Rattle.buffers.proofs.Placing.{put_then}
use Rattle.buffers.proofs.Decimals.{decimal_written}
use Rattle.lines.specs.Lines.{line, capital_c, capital_e, capital_q, counts_line, Shows}
use Rattle.lines.specs.Put.{lines, QuestionPut, Settled, SettledPut, Reported}
use Rattle.lines.proofs.LineByLine.{byte_short, line_short, lines_of_classes, lines_of_steps, pair_of, pairs_back}

-- where a pair is open next asks
pub asks :
    (s : Session) (t : List ℕ) (o : Option Asked) → 0 < opens s.classes t → Owed (next s t) (question_of (Ok o))
    → IsSome o
asks s t (Some a) some h = refl
asks s t None some h = absurd (omega (arith, (done_exactly s t h refl).0 refl))

-- and the line of the pair asked about is short
pub question_short :
    (s : Session) (t : List ℕ) (a : Asked) → First (standing s t []) 0 → Owed (next s t) (question_of (Ok (Some a)))
    → length (line capital_q a.lower a.upper) ≤ 10
question_short s t a st h =
    let few = (standing_passed [] s st).0.few in
    let first = h.done refl in
    line_short capital_q a.lower a.upper (omega (arith, first.lower_below)) (omega (arith, first.upper_below))

-- what hierarchy gave: heads and steps, which it wrote, and how many steps
pub record Given (s : Session) (t heads steps : List ℕ) (r : Result ℕ Refusal) (heads' steps' : List ℕ) : Type 0 where
  pub hs : List ℕ
  pub l : List Pair
  pub heads_of : HeadsOf s.classes t hs
  pub steps_of : StepsOf s.classes t l
  pub counted : r ≡ Ok (length l)
  pub classes_few : s.classes ≤ 128
  pub steps_few : length l ≤ 4096
  pub heads_there : heads' ≡ over hs heads
  pub steps_there : steps' ≡ over (bytes_of l) steps

-- where no pair is open and there is room hierarchy refuses nothing
pub given :
    {s : Session} {t heads steps text : List ℕ} {at : ℕ} {heads' steps' : List ℕ} (r : Result ℕ Refusal)
    → Settled s t heads steps text at → Owed (hierarchy s t heads steps) (count_of r, (heads', steps'))
    → Given s t heads steps r heads' steps'
given {s} (Ok count) ready h =
    let (hs, l, found, listed, same) = h.done refl in
    let st = (standing_passed [] s ready.stands).0 in
    let counted = ap (λ (o : Counted × (List ℕ × List ℕ)). o.0) same in
    record {
      hs = hs;
      l = l;
      heads_of = found;
      steps_of = listed;
      counted = cc;
      classes_few = st.few;
      steps_few = omega (arith, steps_few st.sound listed, square s.classes st.few);
      heads_there = ap (λ (o : Counted × (List ℕ × List ℕ)). o.1.0) same;
      steps_there = ap (λ (o : Counted × (List ℕ × List ℕ)). o.1.1) same;
    }
given {s} {t} {heads} {steps} (Err why) ready h =
    let st = (standing_passed [] s ready.stands).0 in
    let none =
    hierarchy_accepted s t heads steps st ready.none_open (omega (arith, st.few, ready.heads_room))
    (omega (arith, square s.classes st.few, ready.steps_room)) h
    in
    absurd (omega (arith, number_positive why, none))

-- the lines of what was given say what they should
pub settled_put :
    {s : Session} {t heads steps : List ℕ} {r : Result ℕ Refusal} {heads' steps' : List ℕ}
    (g : Given s t heads steps r heads' steps') {come come₂ : List Pair} {at : ℕ} {text : List ℕ} {behind : ℕ}
    {text₁ : List ℕ} {end : ℕ} {text₂ : List ℕ} → 8192 ≤ length steps' → come ≡ zip (range_with_len 0 s.classes) heads'
    → come₂ ≡ map pair_of (take (length g.l) (first_chunks 2 (length steps' / 2) steps'))
    → Put (lines capital_c come) at text behind text₁ → Put (lines capital_e come₂) behind text₁ end text₂
    → SettledPut s.classes t at text end text₂
settled_put {steps = steps} g {come₂ = come₂} room classes pairs put put₂ =
    let back : come₂ ≡ g.l =
    rw (pairs, g.steps_there)
    (pairs_back g.l (drop (length (bytes_of g.l)) steps) _
    (omega (arith, g.steps_few, room, ap length g.steps_there)))
    in
    record {
      heads = g.hs;
      steps = g.l;
      heads_of = g.heads_of;
      steps_of = g.steps_of;
      put =
          put_then (rw (classes, g.heads_there, ← g.heads_of.size, lines_of_classes 0 g.hs) at put)
          (rw (back, lines_of_steps g.l) at put₂);
    }

-- the counts of a table that stands are short, for they are below 100,000
pub counts_short :
    (s : Session) (t : List ℕ) (count : ℕ) → First (standing s t []) 0 → count ≡ opens s.classes t
    → length (decimal s.classes) + length (decimal s.tests) + length (decimal count) ≤ 13
counts_short s t count st same =
    let stands = (standing_passed [] s st).0 in
    let few = square s.classes stands.few in
    omega (
      arith,
      byte_short s.classes (omega (arith, stands.few)),
      (decimal_written s.tests).short 5 (omega arith) (omega (arith, stands.count)),
      (decimal_written count).short 5 (omega arith) (omega (arith, stands.count)),
    )

-- the lines of an accepted book whose table has no open pair, and of one whose table has one
module _
    {s : Session} {t text : List ℕ} {count behind : ℕ} {text₁ : List ℕ} {end : ℕ} {text₂ : List ℕ}
    (same : count ≡ opens s.classes t) (counts : Put (counts_line s.classes s.tests count) 0 text behind text₁)
  where
    pub reported_settled :
        count ≡ 0 → SettledPut s.classes t behind text₁ end text₂ → Reported (accepted s) t text end text₂
    reported_settled none settled =
        record {
          written = _;
          says =
              record {
                refused = λ ne. absurd (ne refl);
                accepted = λ _. Shows.settled (sym same ∙ none) settled.heads_of settled.steps_of;
              };
          put = put_then (rw none at counts) settled.put;
        }

    pub reported_open : QuestionPut s.classes t behind text₁ end text₂ → Reported (accepted s) t text end text₂
    reported_open question =
        record {
          written = _;
          says = record { refused = λ ne. absurd (ne refl); accepted = λ _. Shows.asks question.first };
          put = put_then (rw same at counts) question.put;
        }
