-- The table of tags by the numbers of document 01: which row a tag has, and a field's refusals in its words.
-- Assumes nothing.
use mathlib.Core.Path.{◌≡◌, refl}
use mathlib.Core.Logic.{◌↔◌, ◌≢◌, ◌⊎◌, inl, inr, ⊎_elim}
use mathlib.Core.Bool.{false, true≢false, Bool-discrete}
use mathlib.Core.List.{List, [], ◌∷◌}
use Prim.Native.Nat.{ℕ, zero, suc, ◌*◌, ◌-◌, ◌/◌, ◌%◌, ◌≤◌, ◌<◌}
use native.Mathlib.Nat.{div-add-mod'}
use native.Mathlib.Decide.{ℕ_discrete, dec_lt}
use native.Mathlib.Omega.{arith}
use borrow.Author.Tests.{eqb-false, ne_eqb}
use lib.Dec.{eqb}
use lib.ListN.{length, get_or}
use Rattle.promise.specs.Refusals.{Condition, First, cut_short, unknown_tag, misplaced_tag, bad_length}
use Rattle.order.proofs.Decide.{stable}
use Rattle.promise.proofs.Refusals.{stage as judge}
use Rattle.promise.specs.declared.Stage.{Stage}
use Rattle.promise.specs.declared.Stage.TheVariants.{Start, Begun}
use Rattle.promise.specs.declared.Kind.{Kind}
use Rattle.promise.specs.Book.{at_start, once_begun, count_row, facts_row, Lookup, row_of, length_of, size_of}
use Rattle.promise.specs.Book.{row_refusals, field_refusals}

-- the tags of facts: how many bytes a fact has, how it is taken, and its verdict
pub data FactsTag : ℕ → ℕ → Kind → (List ℕ → ℕ) → Type 0 where
  yes_facts : FactsTag 2 2 Kind.Told (λ bytes. 1)
  no_facts : FactsTag 3 2 Kind.Told (λ bytes. 0)
  answers : FactsTag 4 3 Kind.Answered (λ bytes. get_or bytes 2 0)

-- 1 is the tag of the class count, 2 to 4 are the tags of facts, and there is no other
pub data RowIs (tag : ℕ) : Lookup → Type 0 where
  count : tag ≡ 1 → RowIs tag (Lookup.row (count_row 1))
  facts :
      {width : ℕ} {kind : Kind} {verdict : List ℕ → ℕ} → FactsTag tag width kind verdict
      → RowIs tag (Lookup.row (facts_row tag width kind verdict))
  unknown : (tag ≡ 0) ⊎ (4 < tag) → RowIs tag Lookup.none

pub row_is : (tag : ℕ) → RowIs tag (row_of tag)
unfolding row_of
row_is zero = RowIs.unknown (inl refl)
row_is (suc zero) = RowIs.count refl
row_is (suc (suc zero)) = RowIs.facts FactsTag.yes_facts
row_is (suc (suc (suc zero))) = RowIs.facts FactsTag.no_facts
row_is (suc (suc (suc (suc zero)))) = RowIs.facts FactsTag.answers
row_is (suc (suc (suc (suc (suc k))))) =
    let tag = suc (suc (suc (suc (suc k)))) in
    rw (
      ne_eqb tag 1 (λ e. omega arith),
      ne_eqb tag 2 (λ e. omega arith),
      ne_eqb tag 3 (λ e. omega arith),
      ne_eqb tag 4 (λ e. omega arith),
    )
    (RowIs.unknown (inr (omega arith)))

-- "first field not tag 1, or tag 1 again"
abbrev pub Misplaced : Stage → ℕ → Type 0
Misplaced Start tag = tag ≢ 1
Misplaced Begun tag = tag ≡ 1

-- "length not allowed for the tag"
abbrev pub NotAllowed : ℕ → ℕ → Type 0
NotAllowed tag len =
    ((tag ≡ 1) × (len ≢ 1)) ⊎ (((tag ≡ 2) ⊎ (tag ≡ 3)) × (len % 2 ≢ 0)) ⊎ ((tag ≡ 4) × (len % 3 ≢ 0))

-- the refusals of a field in the words of document 01
abbrev pub in_words : Stage → List ℕ → List Condition
in_words stage bytes =
    misplaced_tag (length bytes ≡ 0)
    ∷ cut_short (length bytes < 3)
    ∷ unknown_tag ((get_or bytes 0 0 ≡ 0) ⊎ (4 < get_or bytes 0 0))
    ∷ misplaced_tag (Misplaced stage (get_or bytes 0 0))
    ∷ bad_length (NotAllowed (get_or bytes 0 0) (length_of bytes))
    ∷ cut_short (length bytes - 3 < length_of bytes)
    ∷ []

-- two lists of conditions that begin alike
first_map :
    (m : ℕ) {A B : Type 0} (cs ds : List Condition) {k : ℕ} → A ↔ B → (First cs k → First ds k)
    → First (record { number = m; when = A } ∷ cs) k → First (record { number = m; when = B } ∷ ds) k
first_map m cs ds e later (inl (a, n)) = inl (e.0 a, n)
first_map m cs ds e later (inr (no-a, f)) = inr (λ b. no-a (e.1 b), later f)

misplaced_count : (stage : Stage) {tag : ℕ} → tag ≡ 1 → (at_start stage ≡ false) ↔ Misplaced stage tag
misplaced_count Start e = (λ z. absurd (true≢false z), λ ne. absurd (ne e))
misplaced_count Begun e = (λ _. e, λ _. refl)

misplaced_facts : (stage : Stage) {tag : ℕ} → tag ≢ 1 → (once_begun stage ≡ false) ↔ Misplaced stage tag
misplaced_facts Start ne = (λ _. ne, λ _. refl)
misplaced_facts Begun ne = (λ z. absurd (true≢false z), λ e. absurd (ne e))

-- which of the three parts of NotAllowed a tag can have
not_allowed :
    (tag len : ℕ) {P : Type 0} → (tag ≡ 1 → len ≢ 1 → P) → (tag ≡ 2 → len % 2 ≢ 0 → P) → (tag ≡ 3 → len % 2 ≢ 0 → P)
    → (tag ≡ 4 → len % 3 ≢ 0 → P) → NotAllowed tag len → P
not_allowed tag len f g h i (inl (e, n)) = f e n
not_allowed tag len f g h i (inr (inl (inl e, n))) = g e n
not_allowed tag len f g h i (inr (inl (inr e, n))) = h e n
not_allowed tag len f g h i (inr (inr (e, n))) = i e n

count_length : (tag len : ℕ) → tag ≡ 1 → (eqb len 1 ≡ false) ↔ NotAllowed tag len
count_length tag len e = (
  λ z. inl (e, eqb-false len 1 z),
  not_allowed tag len (λ _ n. ne_eqb len 1 n) (λ z _. absurd (omega arith)) (λ z _. absurd (omega arith))
      (λ z _. absurd (omega arith)),
)

facts_length :
    (len : ℕ) {tag width : ℕ} {kind : Kind} {verdict : List ℕ → ℕ} → FactsTag tag width kind verdict
    → (eqb (len % width) 0 ≡ false) ↔ NotAllowed tag len
facts_length len FactsTag.yes_facts = (
  λ z. inr (inl (inl refl, eqb-false (len % 2) 0 z)),
  not_allowed 2 len (λ z _. absurd (omega arith)) (λ _ n. ne_eqb (len % 2) 0 n) (λ z _. absurd (omega arith))
      (λ z _. absurd (omega arith)),
)
facts_length len FactsTag.no_facts = (
  λ z. inr (inl (inr refl, eqb-false (len % 2) 0 z)),
  not_allowed 3 len (λ z _. absurd (omega arith)) (λ z _. absurd (omega arith)) (λ _ n. ne_eqb (len % 2) 0 n)
      (λ z _. absurd (omega arith)),
)
facts_length len FactsTag.answers = (
  λ z. inr (inr (refl, eqb-false (len % 3) 0 z)),
  not_allowed 4 len (λ z _. absurd (omega arith)) (λ z _. absurd (omega arith)) (λ z _. absurd (omega arith))
      (λ _ n. ne_eqb (len % 3) 0 n),
)

facts_tag : {tag width : ℕ} {kind : Kind} {verdict : List ℕ → ℕ} → FactsTag tag width kind verdict
    → (2 ≤ tag) × (tag ≤ 4)
facts_tag FactsTag.yes_facts = omega arith
facts_tag FactsTag.no_facts = omega arith
facts_tag FactsTag.answers = omega arith

row_first :
    (tag : ℕ) {l : Lookup} → RowIs tag l → (stage : Stage) (len room : ℕ) {k : ℕ}
    → First (row_refusals l stage len room) k
    → First
    (unknown_tag ((tag ≡ 0) ⊎ (4 < tag))
    ∷ misplaced_tag (Misplaced stage tag)
    ∷ bad_length (NotAllowed tag len)
    ∷ cut_short (room < len)
    ∷ [])
    k
row_first tag (RowIs.unknown u) stage len room (inl (_, e)) = inl (u, e)
row_first tag (RowIs.unknown u) stage len room (inr (z, _)) = absurd (z tt)
row_first tag (RowIs.count e) stage len room {k} f =
    inr (
      ⊎_elim (λ z. omega arith) (λ z. omega arith),
      first_map 12 (bad_length (eqb len 1 ≡ false) ∷ cut) (bad_length (NotAllowed tag len) ∷ cut)
          (misplaced_count stage e)
          (first_map 13 cut cut (count_length tag len e) (λ g. g)) f,
    )
  where
    cut : List Condition
    cut = cut_short (room < len) ∷ []
row_first tag (RowIs.facts {width} h) stage len room {k} f =
    let at = facts_tag h in
    inr (
      ⊎_elim (λ z. omega (arith, at)) (λ z. omega (arith, at)),
      first_map 12 (bad_length (eqb (len % width) 0 ≡ false) ∷ cut) (bad_length (NotAllowed tag len) ∷ cut)
          (misplaced_facts stage (λ z. omega (arith, at))) (first_map 13 cut cut (facts_length len h) (λ g. g)) f,
    )
  where
    cut : List Condition
    cut = cut_short (room < len) ∷ []

-- "an empty one gives 12; a field gives 10 (head bytes), 11, 12, 13, 10 (contents)": the refusal of a field is the
-- first of those that document 01 gives for its bytes
pub field_first : (stage : Stage) (bytes : List ℕ) (k : ℕ) → First (field_refusals stage bytes) k
    → First (in_words stage bytes) k
field_first stage bytes k (inl h) = inl h
field_first stage bytes k (inr (some, inl h)) = inr (some, inl h)
field_first stage bytes k (inr (some, inr (head, h))) =
    inr (
      some,
      inr (
        head,
        row_first (get_or bytes 0 0) (row_is (get_or bytes 0 0)) stage (length_of bytes) (length bytes - 3)
            h,
      ),
    )

-- a field is judged
unfoldable pub row_there : (l : Lookup) (stage : Stage) (len room : ℕ)
    → (k : ℕ) × First (row_refusals l stage len room) k
row_there Lookup.none stage len room = (11, inl (tt, refl))
row_there (Lookup.row tag) stage len room =
    judge 12 (Bool-discrete (tag.stands stage) false) (λ placed.
    judge 13 (Bool-discrete (tag.allows len) false) (λ allowed.
    judge 10 (dec_lt room len) (λ whole. (0, refl))))

unfoldable pub field_there : (stage : Stage) (bytes : List ℕ) → (k : ℕ) × First (field_refusals stage bytes) k
field_there stage bytes =
    judge 12 (ℕ_discrete (length bytes) 0) (λ some.
    judge 10 (dec_lt (length bytes) 3) (λ head.
    row_there (row_of (get_or bytes 0 0)) stage (length_of bytes) (length bytes - 3)))

-- What a field has that is not refused: a class count at the start, or whole facts once it has begun.
pub data Right (stage : Stage) (tag len : ℕ) : Lookup → Type 0 where
  count : stage ≡ Start → tag ≡ 1 → len ≡ 1 → Right stage tag len (Lookup.row (count_row 1))
  facts :
      {width : ℕ} {kind : Kind} {verdict : List ℕ → ℕ} → stage ≡ Begun → FactsTag tag width kind verdict
      → len % width ≡ 0
      → Right stage tag len (Lookup.row (facts_row tag width kind verdict))

start_where_allowed : (stage : Stage) → ¬ (at_start stage ≡ false) → stage ≡ Start
start_where_allowed Start h = refl
start_where_allowed Begun h = absurd (h refl)

begun_where_allowed : (stage : Stage) → ¬ (once_begun stage ≡ false) → stage ≡ Begun
begun_where_allowed Start h = absurd (h refl)
begun_where_allowed Begun h = refl

row_right :
    (tag : ℕ) {l : Lookup} → RowIs tag l → (stage : Stage) (len room : ℕ) → First (row_refusals l stage len room) 0
    → Right stage tag len l × (len ≤ room)
row_right tag (RowIs.unknown u) stage len room (inl (_, e)) = absurd (omega arith)
row_right tag (RowIs.unknown u) stage len room (inr (z, _)) = absurd (z tt)
row_right tag (RowIs.count e) stage len room (inl h) = absurd (omega (arith, h.1))
row_right tag (RowIs.count e) stage len room (inr (p, inl h)) = absurd (omega (arith, h.1))
row_right tag (RowIs.count e) stage len room (inr (p, inr (a, inl h))) = absurd (omega (arith, h.1))
row_right tag (RowIs.count e) stage len room (inr (p, inr (a, inr (c, _)))) = (
  Right.count (start_where_allowed stage p) e (stable (ℕ_discrete len 1) (λ ne. a (ne_eqb len 1 ne))),
  omega arith,
)
row_right tag (RowIs.facts t) stage len room (inl h) = absurd (omega (arith, h.1))
row_right tag (RowIs.facts t) stage len room (inr (p, inl h)) = absurd (omega (arith, h.1))
row_right tag (RowIs.facts t) stage len room (inr (p, inr (a, inl h))) = absurd (omega (arith, h.1))
row_right tag (RowIs.facts {width} t) stage len room (inr (p, inr (a, inr (c, _)))) = (
  Right.facts (begun_where_allowed stage p) t
      (stable (ℕ_discrete (len % width) 0) (λ ne. a (ne_eqb (len % width) 0 ne))),
  omega arith,
)

pub field_right :
    (stage : Stage) (bytes : List ℕ) → First (field_refusals stage bytes) 0
    → Right stage (get_or bytes 0 0) (length_of bytes) (row_of (get_or bytes 0 0)) × (size_of bytes ≤ length bytes)
field_right stage bytes (inl h) = absurd (omega (arith, h.1))
field_right stage bytes (inr (some, inl h)) = absurd (omega (arith, h.1))
field_right stage bytes (inr (some, inr (head, h))) =
    let r = row_right (get_or bytes 0 0) (row_is (get_or bytes 0 0)) stage (length_of bytes) (length bytes - 3) h in
    (r.0, omega (arith, r.1))

-- a field is refused with a number from 10 to 13
pub field_numbers : (stage : Stage) (bytes : List ℕ) (k : ℕ) → First (field_refusals stage bytes) k → k ≢ 0
    → (10 ≤ k) × (k ≤ 13)
field_numbers stage bytes k f ne = go (field_first stage bytes k f)
  where
    go : First (in_words stage bytes) k → (10 ≤ k) × (k ≤ 13)
    go (inl h) = omega (arith, h.1)
    go (inr (_, inl h)) = omega (arith, h.1)
    go (inr (_, inr (_, inl h))) = omega (arith, h.1)
    go (inr (_, inr (_, inr (_, inl h)))) = omega (arith, h.1)
    go (inr (_, inr (_, inr (_, inr (_, inl h))))) = omega (arith, h.1)
    go (inr (_, inr (_, inr (_, inr (_, inr (_, inl h)))))) = omega (arith, h.1)
    go (inr (_, inr (_, inr (_, inr (_, inr (_, inr (_, e))))))) = absurd (ne e)

-- where one or two bytes are left
pub items_short : (stage : Stage) (bytes : List ℕ) → 0 < length bytes → length bytes < 3
    → First (field_refusals stage bytes) 10
items_short stage bytes some short = inr (λ e. omega arith, inl (short, refl))

-- a fact has at least two bytes
pub facts_width : {tag width : ℕ} {kind : Kind} {verdict : List ℕ → ℕ} → FactsTag tag width kind verdict → 2 ≤ width
facts_width FactsTag.yes_facts = omega arith
facts_width FactsTag.no_facts = omega arith
facts_width FactsTag.answers = omega arith

-- the facts that a length gives room for
pub facts_fit : (len width : ℕ) → len / width * width ≤ len
facts_fit len width = omega (arith, div-add-mod' len width)
