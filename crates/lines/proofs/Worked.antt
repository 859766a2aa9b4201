-- Document 01's printed examples, byte by byte: a settled book, one with open pairs, one that is refused, and an input
-- that is too long.
-- Assumes nothing.
use mathlib.Core.Path.{◌≡◌, refl, sym, ◌∙◌, ap, ap₂, subst}
use mathlib.Core.List.{List, [], ◌∷◌, ◌++◌}
use Prim.Native.Nat.{ℕ}
use native.Mathlib.Omega.{arith}
use lib.ListN.{length, get_or, take, drop}
use lib.Seq.{take_at}
use Rattle.order.specs.Tables.{opens_to, Pair, bytes_of}
use Rattle.promise.specs.declared.Reply.{Reply}
use Rattle.promise.specs.Calls.{Counted}
use Rattle.promise.specs.Calls.{count_for}
use Rattle.promise.specs.Book.{BookRead}
use Rattle.promise.proofs.Read.{read_unique}
use Rattle.promise.proofs.Table.{Mark, example, nines}
use Rattle.promise.proofs.Worked.{met}
use Rattle.buffers.specs.Decimal.{digits, decimal}
use Rattle.lines.specs.Lines.{Shows, Says, marks_of, Printed, Output}
use Rattle.lines.proofs.Only.{shows_unique, output_too_long}

-- what is written of a book is said of the reply and the table that reading it gives
read_says :
    {book t text : List ℕ} {r : Reply} {t' : List ℕ} → BookRead book t r t' → Printed book t text
    → Says r (marks_of r.session t') text
read_says {text = text} h p =
    let same = read_unique p.read h in
    subst (λ (o : Reply × List ℕ). Says o.0 (marks_of o.0.session o.1) text)
    (ap₂ (λ r t. (r, t)) same.0 same.1) p.says

-- the one step that two bytes make
one_step :
    (l : List Pair) (behind : List ℕ) → 1 ≡ length l → 0 ∷ 1 ∷ [] ≡ take 2 (bytes_of l ++ behind) → l ≡ (0, 1) ∷ []
one_step [] behind e f = absurd (omega arith)
one_step (p ∷ []) behind e f =
    let at : (k : ℕ) → get_or (p.0 ∷ p.1 ∷ []) k 0 ≡ get_or (0 ∷ 1 ∷ []) k 0 = λ k.
    sym (ap (λ (w : List ℕ). get_or w k 0) f)
    in
    ap (λ (q : Pair). q ∷ []) (ap₂ (λ a b. (a, b)) (at 0) (at 1))
one_step (p ∷ q ∷ l) behind e f = absurd (omega arith)

-- N 3 T 1 O 0, C 0 0, C 1 1, C 2 1, E 0 1
pub example_printed :
    {text : List ℕ} → Printed example (nines 9) text
    → text ≡ 78 ∷ 32 ∷ 51 ∷ 32 ∷ 84 ∷ 32 ∷ 49 ∷ 32 ∷ 79 ∷ 32 ∷ 48 ∷ 10
    ∷ 67 ∷ 32 ∷ 48 ∷ 32 ∷ 48 ∷ 10
    ∷ 67 ∷ 32 ∷ 49 ∷ 32 ∷ 49 ∷ 10
    ∷ 67 ∷ 32 ∷ 50 ∷ 32 ∷ 49 ∷ 10
    ∷ 69 ∷ 32 ∷ 48 ∷ 32 ∷ 49 ∷ 10 ∷ []
unfolding opens_to decimal digits
example_printed p =
    let d = (met Mark.p8_hierarchy).done refl in
    let heads : d.0 ≡ 0 ∷ 1 ∷ 1 ∷ [] =
    sym
    (ap (λ (o : Counted × (List ℕ × List ℕ)). take 3 o.1.0) d.4
    ∙ take_at d.0 (drop (length d.0) (nines 4)) 3 d.2.size)
    in
    let steps =
    one_step d.1 (drop (length (bytes_of d.1)) (nines 3))
    (ap (λ (o : Counted × (List ℕ × List ℕ)). (count_for o.0).count) d.4)
    (ap (λ (o : Counted × (List ℕ × List ℕ)). take 2 o.1.1) d.4)
    in
    rw (heads, steps) at
    (shows_unique ((read_says (met Mark.example_read) p).accepted refl)
    (Shows.settled refl d.2 d.3))

-- "Without the last six bytes": N 3 T 0 O 2, Q 1 0
pub example_cut_printed :
    {text : List ℕ} → Printed (take 13 example) (nines 9) text
    → text ≡ 78 ∷ 32 ∷ 51 ∷ 32 ∷ 84 ∷ 32 ∷ 48 ∷ 32 ∷ 79 ∷ 32 ∷ 50 ∷ 10
    ∷ 81 ∷ 32 ∷ 49 ∷ 32 ∷ 48 ∷ 10 ∷ []
unfolding opens_to decimal digits
example_cut_printed p =
    shows_unique ((read_says (met Mark.example_cut_read) p).accepted refl)
    (Shows.asks ((met Mark.example_cut_asks).done refl))

-- R 14 7
pub refused_printed :
    {text : List ℕ} → Printed (1 ∷ 0 ∷ 1 ∷ 3 ∷ 4 ∷ 0 ∷ 3 ∷ 1 ∷ 0 ∷ 2 ∷ []) (nines 9) text
    → text ≡ 82 ∷ 32 ∷ 49 ∷ 52 ∷ 32 ∷ 55 ∷ 10 ∷ []
unfolding decimal digits
refused_printed p = (read_says (met Mark.later_verdict) p).refused (λ e. omega (arith, e))

-- R 15 32768, whatever the bytes are
pub too_long_printed :
    {held t text : List ℕ} → length held ≡ 32768 → Output held 1 t text
    → text ≡ 82 ∷ 32 ∷ 49 ∷ 53 ∷ 32 ∷ 51 ∷ 50 ∷ 55 ∷ 54 ∷ 56 ∷ 10 ∷ []
unfolding decimal digits
too_long_printed full h = output_too_long h (omega arith)
