-- Lines put one behind the other: those of pairs of bytes, which are those of the classes and of the direct steps.
-- Assumes nothing.
use Rattle.std.proofs.Common.{◌≡◌, ℕ, zero, suc, ◌≤◌, ◌<◌, List, [], ◌∷◌, ◌++◌, length, get_or, take, map, Option, None}
use Rattle.std.proofs.Common.{refl, sym, ◌∙◌, ap, append_assoc, append-nil, add-one, arith, length-append}
use Rattle.std.specs.Iterator.{Drains}
use Rattle.std.specs.List.{zip, range_with_len}
use Rattle.std.specs.Simd.{first_chunks}
use Rattle.std.proofs.lemmas.Iterator.{YieldsList}
use Rattle.std.proofs.lemmas.Iterator.Consumers.{YieldsList-end}
use Rattle.std.proofs.lemmas.List.{map-id}
use Rattle.order.specs.Tables.{Pair, bytes_of}
use Rattle.buffers.specs.Placed.{Put}
use Rattle.buffers.specs.Decimal.{decimal}
use Rattle.buffers.proofs.Placing.{put_then}
use Rattle.buffers.proofs.Decimals.{decimal_written}
use Rattle.lines.specs.Lines.{line, capital_c, capital_e, class_lines, step_lines}
use Rattle.lines.specs.Put.{lines}

-- a byte has at most three digits
pub byte_short : (x : ℕ) → x < 256 → length (decimal x) ≤ 3
byte_short x h = (decimal_written x).short 3 (omega arith) (omega arith)

-- the line of two bytes
pub line_short : (letter x y : ℕ) → x < 256 → y < 256 → length (line letter x y) ≤ 10
line_short letter x y h k = simp length-append (omega (arith, byte_short x h, byte_short y k))

lines_push :
    (letter : ℕ) (l : List Pair) (p : Pair) → lines letter (l ++ p ∷ []) ≡ lines letter l ++ line letter p.0 p.1
lines_push letter [] p = append-nil (line letter p.0 p.1)
lines_push letter (q ∷ l) p = rw (lines_push letter l p, append_assoc) refl

-- the line of one pair more was put
pub line_more :
    {letter : ℕ} (come : List Pair) (p : Pair) {at : ℕ} {text : List ℕ} {behind : ℕ} {text₁ : List ℕ} {end : ℕ}
    {text₂ : List ℕ} → Put (lines letter come) at text behind text₁ → Put (line letter p.0 p.1) behind text₁ end text₂
    → Put (lines letter (come ++ p ∷ [])) at text end text₂
line_more {letter} come p put next = rw (lines_push letter come p) (put_then put next)

-- what came of a chain is the list that it gives
pub drained :
    {S A : Type 0} {steps : S → Option A → S → Type 0} {s : S} (come : List A) → Drains steps s come
    → {all : List A} → YieldsList steps (λ x. x) s all → come ≡ all
drained come d road = sym (map-id come) ∙ (YieldsList-end road come d.1.0 d.1.1 None d.0 refl d.1.2).0

-- the lines of the classes from i on, each with its head
pub lines_of_classes :
    (i : ℕ) (hs behind : List ℕ)
    → lines capital_c (zip (range_with_len i (length hs)) (hs ++ behind)) ≡ class_lines i hs
lines_of_classes i [] behind = refl
lines_of_classes i (h ∷ hs) behind =
    rw add-one (ap (λ (u : List ℕ). line capital_c i h ++ u) (lines_of_classes (suc i) hs behind))

-- the lines of the steps
pub lines_of_steps : (l : List Pair) → lines capital_e l ≡ step_lines l
lines_of_steps [] = refl
lines_of_steps (p ∷ l) = ap (λ (u : List ℕ). line capital_e p.0 p.1 ++ u) (lines_of_steps l)

-- the pair that two bytes make
abbrev pub pair_of : List ℕ → Pair
pair_of w = (get_or w 0 0, get_or w 1 0)

-- the pairs that were written are read back
pub pairs_back :
    (l : List Pair) (behind : List ℕ) (k : ℕ) → length l ≤ k
    → map pair_of (take (length l) (first_chunks 2 k (bytes_of l ++ behind))) ≡ l
pairs_back [] behind k h = refl
pairs_back (p ∷ l) behind zero h = absurd (omega arith)
pairs_back (p ∷ l) behind (suc k) h = ap (λ (u : List Pair). p ∷ u) (pairs_back l behind k (omega arith))
