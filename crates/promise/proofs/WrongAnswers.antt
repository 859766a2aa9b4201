-- Wrong programs do not meet what the calls owe: one that refuses everything, one with a constant answer, one that does
-- nothing, a tell that draws what follows from one fact and merely stores later ones, a tally always 0 or made up.
-- Assumes nothing.
use mathlib.Core.Path.{◌≡◌, refl, sym, ◌∙◌, ap, ap₂, subst}
use mathlib.Core.Logic.{◌≢◌, ◌⊎◌, inl, ⊎_elim}
use mathlib.Core.Bool.{Bool, true, false}
use mathlib.Core.List.{List, [], ◌∷◌}
use Prim.Native.Nat.{ℕ, zero, suc, ◌+◌, ◌*◌}
use native.Mathlib.Omega.{arith}
use lib.ListN.{get_or, set}
use Rattle.order.specs.Facts.{Fact, fact_on, under, not_under}
use Rattle.order.specs.Tables.{mark, Marks, Contradicts, Fresh, mark_for, mark_against, Before}
use Rattle.order.proofs.Sets.{yes_not_no}
use Rattle.promise.specs.declared.Session.{Session}
use Rattle.promise.specs.declared.Reply.{Reply}
use Rattle.promise.specs.Next.Question.{Ask, Done}
use Rattle.promise.specs.Calls.Counted.{Count}
use Rattle.promise.specs.declared.CrossedQuestion.{CrossedQuestion}
use Rattle.promise.specs.declared.CrossedCount.{CrossedCount}
use Rattle.promise.specs.Calls.{Call, Owed, count_number, open_pairs, count_for_c, writes_for_c}
use Rattle.promise.specs.declared.Kind.{Kind}
use Rattle.promise.specs.Tell.{fresh, tell}
use Rattle.promise.specs.Clips.{ClipNo, clip, clip_bytes}
use Rattle.promise.specs.Next.{next, next_for_c}
use Rattle.promise.specs.Hierarchy.{hierarchy, ladder}
use Rattle.promise.specs.Book.{BookRead, write}
use Rattle.promise.proofs.Fresh.{fresh_unique}
use Rattle.promise.proofs.Tell.{tell_unique}
use Rattle.promise.proofs.Clips.{clip_unique, bytes_unique}
use Rattle.promise.proofs.Next.{next_unique}
use Rattle.promise.proofs.Counts.{open_pairs_unique}
use Rattle.promise.proofs.Hierarchy.{hierarchy_unique}
use Rattle.promise.proofs.Ladder.{ladder_written_unique}
use Rattle.promise.proofs.Read.{read_unique}
use Rattle.promise.proofs.Write.{write_unique}
use Rattle.promise.proofs.Crossing.{next_for_c_unique, open_pairs_for_c_unique, hierarchy_for_c_unique}
use Rattle.promise.proofs.Crossing.{ladder_for_c_unique, write_for_c_unique}
use Rattle.promise.proofs.Table.{Mark, p2, p3, p4, p7, p8, p11, p12, after_yes, one_under_two, first_two, first_one}
use Rattle.promise.proofs.Table.{unsound, three, four, nines, example}
use Rattle.promise.proofs.Worked.{met}

-- A contract: what goes in, what comes out, what is owed, the refusal number, and that what is owed fixes the outcome.
pub record Contract : Type 1 where
  pub Input : Type 0
  pub Output : Type 0
  pub Owes : Input → Output → Type 0
  pub number : Input → Output → ℕ
  pub only : (i : Input) (o o₂ : Output) → Owes i o → Owes i o₂ → o ≡ o₂

-- that of a call
abbrev pub of_call :
    {I O : Type 0} → (call : I → Call O) → ((i : I) (o o₂ : O) → Owed (call i) o → Owed (call i) o₂ → o ≡ o₂) → Contract
of_call {I} {O} call only =
    record { Input = I; Output = O; Owes = λ i. Owed (call i); number = λ i. (call i).number; only = only }

-- a program that meets what is owed on every input
pub record Program (c : Contract) : Type 0 where
  pub run : c.Input → c.Output
  pub meets : (i : c.Input) → c.Owes i (run i)

-- no such program has a property everywhere
abbrev pub Never : (c : Contract) → (c.Input → c.Output → Type 0) → Type 0
Never c Q = (p : Program c) → ¬ ((i : c.Input) → Q i (p.run i))

-- one outcome that is owed and does not have it shows this
never :
    (c : Contract) (Q : c.Input → c.Output → Type 0) (i : c.Input) {o : c.Output} → c.Owes i o → ¬ Q i o
    → Never c Q
never c Q i {o} owed fails p all = fails (subst (Q i) (c.only i (p.run i) o (p.meets i) owed) (all i))

-- No program refuses everything, gives a constant answer, or is idle.
pub record Rejected (c : Contract) {A : Type 0} (answer : c.Output → A) (Idle : c.Input → c.Output → Type 0)
    : Type 0 where
  pub refuses_all : Never c (λ i o. c.number i o ≢ 0)
  pub constant : (a : A) → Never c (λ i o. answer o ≡ a)
  pub idle : Never c Idle

-- one outcome that is accepted and not idle, and another with another answer, show it
rejected :
    {A : Type 0} (c : Contract) {answer : c.Output → A} {Idle : c.Input → c.Output → Type 0} (i j : c.Input)
    {o o₂ : c.Output} → c.Owes i o → c.number i o ≡ 0 → ¬ Idle i o → c.Owes j o₂ → answer o ≢ answer o₂
    → Rejected c answer Idle
rejected {A} c {answer} {Idle} i j {o} {o₂} owed fine busy owed₂ differ =
    record {
      refuses_all = never c (λ i o. c.number i o ≢ 0) i owed (λ z. z fine);
      constant = λ a p all.
          let same = ap answer (c.only i (p.run i) o (p.meets i) owed) in
          let same₂ = ap answer (c.only j (p.run j) o₂ (p.meets j) owed₂) in
          differ (sym same ∙ all i ∙ sym (all j) ∙ same₂);
      idle = never c Idle i owed busy;
    }

-- what two outcomes differ in: the number of a reply, a byte of a list
abbrev number_of : Reply → ℕ
number_of r = r.number

abbrev byte : ℕ → List ℕ → ℕ
byte k l = get_or l k 0

-- fresh

abbrev pub fresh_contract : Contract
fresh_contract = of_call {I = ℕ × List ℕ} (λ i. fresh i.0 i.1) (λ i o o₂. fresh_unique)

pub fresh_rejects : Rejected fresh_contract (λ o. o.0) (λ i o. o.1 ≡ i.1)
fresh_rejects =
    rejected fresh_contract (1, nines 2) (0, nines 1) (met Mark.p1_fresh) refl (λ e. omega (arith, ap (byte 0) e))
    (met Mark.fresh_no_class) (λ e. omega (arith, ap number_of e))

-- tell and answer

abbrev pub tell_contract : Kind → Contract
tell_contract kind =
    of_call {I = Session × List ℕ × Fact} (λ i. tell kind i.0 i.1 i.2) (λ i o o₂. tell_unique kind)

pub tell_rejects : Rejected (tell_contract Kind.Told) (λ o. o.0) (λ i o. o.1 ≡ i.1)
tell_rejects =
    rejected (tell_contract Kind.Told) (three 0, p3, under 0 1) (three 0, p4, under 1 2) (met Mark.p4_told) refl
    (λ e. omega (arith, ap (byte 1) e)) (met Mark.p5_refused) (λ e. omega (arith, ap number_of e))

-- Storing a fact on a table that is not fresh, and nothing more.
abbrev pub MerelyStores : Session × List ℕ × Fact → Reply × List ℕ → Type 0
MerelyStores i o =
    ¬ Fresh i.0.classes i.1 → o.0.number ≡ 0
    → o.1 ≡ set i.1 (i.2.lower * i.0.classes + i.2.upper) (mark_for i.2.holds)

not_fresh : ¬ Fresh 3 p3
unfolding mark
not_fresh h = omega (arith, h.elsewhere 0 2 (omega arith) (omega arith) (λ z. omega arith))

-- at P4: the mark of (1, 2) becomes no
not_stores :
    (kind : Kind) {r : Reply} → Owed (tell kind (three 0) p3 (under 0 1)) (r, p4) → r.number ≡ 0
    → Never (tell_contract kind) MerelyStores
not_stores kind owed e =
    never (tell_contract kind) MerelyStores (three 0, p3, under 0 1) owed (λ stores.
    omega (arith, ap (byte 5) (stores not_fresh e)))

pub tell_not_stores : Never (tell_contract Kind.Told) MerelyStores
tell_not_stores = not_stores Kind.Told (met Mark.p4_told) refl

pub answer_not_stores : Never (tell_contract Kind.Answered) MerelyStores
answer_not_stores = not_stores Kind.Answered (met Mark.answer_draws) refl

-- an answer on an open pair, and one on a settled pair: the tally is no constant, 0 or any other
pub answer_rejects : Rejected (tell_contract Kind.Answered) (λ o. o.0.session.tests) (λ i o. o.1 ≡ i.1)
answer_rejects =
    rejected (tell_contract Kind.Answered) (three 0, p7, under 2 1) (three 0, p2, under 1 1) (met Mark.answer_open) refl
    (λ e. omega (arith, ap (byte 3) e)) (met Mark.p10_answered) (λ e. omega arith)

-- an answer that never counts, one that counts every accepted fact, one that counts refused ones
pub answer_counts : Never (tell_contract Kind.Answered) (λ i o. o.0.session.tests ≡ i.0.tests)
answer_counts =
    never (tell_contract Kind.Answered) (λ i o. o.0.session.tests ≡ i.0.tests) (three 0, p7, under 2 1)
    (met Mark.answer_open) (λ e. omega arith)

-- the tally grows by one where the number is k
abbrev pub CountsAt : ℕ → Session × List ℕ × Fact → Reply × List ℕ → Type 0
CountsAt k i o = o.0.number ≡ k → o.0.session.tests ≡ i.0.tests + 1

pub answer_counts_open : Never (tell_contract Kind.Answered) (CountsAt 0)
answer_counts_open =
    never (tell_contract Kind.Answered) (CountsAt 0) (three 0, p2, under 1 1) (met Mark.p10_answered)
    (λ e. omega (arith, e refl))

pub answer_counts_accepted : Never (tell_contract Kind.Answered) (CountsAt 6)
answer_counts_accepted =
    never (tell_contract Kind.Answered) (CountsAt 6) (three 0, p4, under 1 2) (met Mark.answer_refused)
    (λ e. omega (arith, e refl))

-- clip

abbrev pub clip_contract : Contract
clip_contract = of_call {I = Session × List ℕ × List Bool} (λ i. clip i.0 i.1 i.2) (λ i o o₂. clip_unique)

pub clip_rejects : Rejected clip_contract (λ o. o.0) (λ i o. o.1 ≡ i.1)
clip_rejects =
    rejected clip_contract (three 0, after_yes, first_two) (three 0, after_yes, first_one) (met Mark.clip_of_two) refl
    (λ e. omega (arith, ap (byte 2) e)) (met Mark.clip_first_contradicts) (λ e. omega (arith, ap number_of e))

-- Noes told one by one in row order up to the first that contradicts, and left written.
abbrev pub TakesInPart : Session × List ℕ × List Bool → Reply × List ℕ → Type 0
TakesInPart i o =
    o.0.number ≡ 6 → (f : Fact) → ClipNo i.0.classes i.2 f
    → ((g : Fact) → ClipNo i.0.classes i.2 g → Contradicts i.0.classes i.1 g
    → Before (f.lower, f.upper) (g.lower, g.upper))
    → Marks i.0.classes o.1 f

-- where 1 is under 2 and 0 and 1 played: the no on (0, 2) comes before that on (1, 2)
pub clip_not_in_part : Never clip_contract TakesInPart
unfolding mark
clip_not_in_part =
    never clip_contract TakesInPart (three 0, one_under_two, first_two) (met Mark.clip_later_contradicts) (λ h.
    omega (arith, (h refl (not_under 0 2) said (λ g. later g.lower g.upper g.holds)).settled))
  where
    said : ClipNo 3 first_two (not_under 0 2)
    said =
        record {
          below = record { lower_below = omega arith; upper_below = omega arith };
          member = refl;
          non_member = λ e. yes_not_no (sym e);
          is_no = refl;
        }

    later :
        (a b : ℕ) (v : Bool) → ClipNo 3 first_two (fact_on a b v) → mark 3 one_under_two a b ≡ mark_against v
        → Before (0, 2) (a, b)
    later (suc a) b v h m = inl (omega arith)
    later zero zero v h m = absurd (h.non_member refl)
    later zero (suc zero) v h m = absurd (h.non_member refl)
    later zero (suc (suc zero)) true h m = absurd (yes_not_no h.is_no)
    later zero (suc (suc zero)) false h m = let e : ◌≡◌ {A = ℕ} 0 1 = m in absurd (omega arith)
    later zero (suc (suc (suc b))) v h m = absurd (omega (arith, h.below.upper_below))

-- a clip whose flags are bytes

abbrev pub bytes_contract : Contract
bytes_contract = of_call {I = Session × List ℕ × List ℕ} (λ i. clip_bytes i.0 i.1 i.2) (λ i o o₂. bytes_unique)

pub bytes_rejects : Rejected bytes_contract (λ o. o.0) (λ i o. o.1 ≡ i.1)
bytes_rejects =
    rejected bytes_contract (three 0, after_yes, 1 ∷ 7 ∷ 0 ∷ []) (three 0, after_yes, 1 ∷ 0 ∷ 0 ∷ [])
    (met Mark.bytes_of_two) refl (λ e. omega (arith, ap (byte 2) e)) (met Mark.bytes_contradict)
    (λ e. omega (arith, ap number_of e))

-- next: one that always says done is idle

abbrev pub next_contract : Contract
next_contract = of_call {I = Session × List ℕ} (λ i. next i.0 i.1) (λ i o o₂. next_unique i.0 i.1)

pub next_rejects : Rejected next_contract (λ q. q) (λ i q. q ≡ Done)
next_rejects = rejected next_contract (three 0, p2) (three 0, p8) (met Mark.p2_asks) refl asks (met Mark.p8_done) asks
  where
    asks : Ask 0 1 ≢ Done
    asks e = let z : ◌≡◌ {A = ℕ} 0 1 = cc in omega arith

-- open_pairs: one that always says that none is open is idle

abbrev pub open_pairs_contract : Contract
open_pairs_contract =
    of_call {I = Session × List ℕ} (λ i. open_pairs i.0 i.1) (λ i o o₂. open_pairs_unique i.0 i.1)

pub open_pairs_rejects : Rejected open_pairs_contract (λ r. r) (λ i r. r ≡ Count 0)
open_pairs_rejects =
    rejected open_pairs_contract (three 0, p2) (three 0, p8) (met Mark.p2_open) refl some (met Mark.p8_open) some
  where
    some : Count 6 ≢ Count 0
    some e = let z : ◌≡◌ {A = ℕ} 6 0 = cc in omega arith

-- hierarchy

abbrev pub hierarchy_contract : Contract
hierarchy_contract =
    of_call {I = Session × List ℕ × List ℕ × List ℕ} (λ i. hierarchy i.0 i.1 i.2 i.3)
    (λ i o o₂. hierarchy_unique i.0 i.1 i.2 i.3)

pub hierarchy_rejects : Rejected hierarchy_contract (λ o. o.0) (λ i o. (o.1.0 ≡ i.2) ⊎ (o.1.1 ≡ i.3))
hierarchy_rejects =
    rejected hierarchy_contract (three 0, p8, nines 4, nines 3) (four, p11, nines 4, nines 7) (met Mark.p8_hierarchy)
    refl (⊎_elim (λ e. omega (arith, ap (byte 0) e)) (λ e. omega (arith, ap (byte 0) e)))
    (met Mark.hierarchy_short_steps)
    (λ e. omega (arith, ap count_number e))

-- ladder

abbrev pub ladder_contract : Contract
ladder_contract =
    of_call {I = Session × List ℕ × ℕ × ℕ × List ℕ} (λ i. ladder i.0 i.1 i.2 i.3 i.4)
    (λ i o o₂. ladder_written_unique i.0 i.1 i.2 i.3 i.4)

pub ladder_rejects : Rejected ladder_contract (λ o. o.0) (λ i o. o.1 ≡ i.4)
ladder_rejects =
    rejected ladder_contract (four, p11, 0, 3, nines 3) (four, p11, 1, 2, nines 3) (met Mark.p11_ladder) refl
    (λ e. omega (arith, ap (byte 0) e)) (met Mark.p11_not_under) (λ e. omega (arith, ap count_number e))

-- read

abbrev pub read_contract : Contract
read_contract =
    record {
      Input = List ℕ × List ℕ;
      Output = Reply × List ℕ;
      Owes = λ i o. BookRead i.0 i.1 o.0 o.1;
      number = λ i o. o.0.number;
      only = λ i o o₂ h h₂. let q = read_unique h h₂ in ap₂ (λ r t. (r, t)) q.0 q.1;
    }

pub read_rejects : Rejected read_contract (λ o. o.0) (λ i o. o.1 ≡ i.1)
read_rejects =
    rejected read_contract (p12, nines 9) ([], nines 9) (met Mark.p12_read) refl (λ e. omega (arith, ap (byte 0) e))
    (met Mark.book_empty) (λ e. omega (arith, ap number_of e))

-- a reading that keeps the tally at 0, at 01's printed example
pub read_counts : Never read_contract (λ i o. o.0.session.tests ≡ 0)
read_counts =
    never read_contract (λ i o. o.0.session.tests ≡ 0) (example, nines 9) (met Mark.example_read) (λ e. omega arith)

-- write

abbrev pub write_contract : Contract
write_contract =
    of_call {I = Session × List ℕ × List ℕ} (λ i. write i.0 i.1 i.2)
    (λ i o o₂. write_unique i.0 i.1 i.2)

pub write_rejects : Rejected write_contract (λ o. o.0) (λ i o. o.1 ≡ i.2)
write_rejects =
    rejected write_contract (three 0, p8, nines 22) (three 0, p8, nines 21) (met Mark.p12_written) refl
    (λ e. omega (arith, ap (byte 0) e)) (met Mark.write_short) (λ e. omega (arith, ap count_number e))

-- The calls whose answers cross to C. One that never asks is idle, and so is one that always counts no open pair.

abbrev number_for_c : CrossedCount → ℕ
number_for_c r = r.number

abbrev pub next_for_c_contract : Contract
next_for_c_contract =
    of_call {I = Session × List ℕ} (λ i. next_for_c i.0 i.1) (λ i o o₂. next_for_c_unique i.0 i.1)

pub next_for_c_rejects : Rejected next_for_c_contract (λ q. q) (λ i q. q.asks ≡ false)
next_for_c_rejects =
    rejected next_for_c_contract (three 0, p7) (three 0, p8) (met Mark.c_asks) refl yes_not_no (met Mark.c_done)
    (λ e. yes_not_no (ap (λ (q : CrossedQuestion). q.asks) e))

abbrev pub open_pairs_for_c_contract : Contract
open_pairs_for_c_contract =
    of_call {I = Session × List ℕ} (λ i. count_for_c (open_pairs i.0 i.1))
    (λ i o o₂. open_pairs_for_c_unique i.0 i.1)

pub open_pairs_for_c_rejects : Rejected open_pairs_for_c_contract (λ r. r) (λ i r. r.count ≡ 0)
open_pairs_for_c_rejects =
    rejected open_pairs_for_c_contract (three 0, p7) (three 0, unsound) (met Mark.c_open) refl (λ e. omega arith)
    (met Mark.c_open_refused) (λ e. omega (arith, ap number_for_c e))

abbrev pub hierarchy_for_c_contract : Contract
hierarchy_for_c_contract =
    of_call {I = Session × List ℕ × List ℕ × List ℕ} (λ i. writes_for_c (hierarchy i.0 i.1 i.2 i.3))
    (λ i o o₂. hierarchy_for_c_unique i.0 i.1 i.2 i.3)

pub hierarchy_for_c_rejects :
    Rejected hierarchy_for_c_contract (λ o. o.0) (λ i o. (o.1.0 ≡ i.2) ⊎ (o.1.1 ≡ i.3))
hierarchy_for_c_rejects =
    rejected hierarchy_for_c_contract (three 0, p8, nines 4, nines 3) (four, p11, nines 4, nines 7)
    (met Mark.c_hierarchy)
    refl (⊎_elim (λ e. omega (arith, ap (byte 0) e)) (λ e. omega (arith, ap (byte 0) e)))
    (met Mark.c_hierarchy_refused)
    (λ e. omega (arith, ap number_for_c e))

abbrev pub ladder_for_c_contract : Contract
ladder_for_c_contract =
    of_call {I = Session × List ℕ × ℕ × ℕ × List ℕ} (λ i. writes_for_c (ladder i.0 i.1 i.2 i.3 i.4))
    (λ i o o₂. ladder_for_c_unique i.0 i.1 i.2 i.3 i.4)

pub ladder_for_c_rejects : Rejected ladder_for_c_contract (λ o. o.0) (λ i o. o.1 ≡ i.4)
ladder_for_c_rejects =
    rejected ladder_for_c_contract (four, p11, 0, 3, nines 4) (four, p11, 0, 3, nines 2) (met Mark.c_ladder) refl
    (λ e. omega (arith, ap (byte 0) e)) (met Mark.c_ladder_refused) (λ e. omega (arith, ap number_for_c e))

abbrev pub write_for_c_contract : Contract
write_for_c_contract =
    of_call {I = Session × List ℕ × List ℕ} (λ i. writes_for_c (write i.0 i.1 i.2))
    (λ i o o₂. write_for_c_unique i.0 i.1 i.2)

pub write_for_c_rejects : Rejected write_for_c_contract (λ o. o.0) (λ i o. o.1 ≡ i.2)
write_for_c_rejects =
    rejected write_for_c_contract (three 0, p8, nines 22) (three 0, p8, nines 21) (met Mark.c_write) refl
    (λ e. omega (arith, ap (byte 0) e)) (met Mark.c_write_refused) (λ e. omega (arith, ap number_for_c e))
