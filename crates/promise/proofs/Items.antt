-- The items of a book from any place on, in terms of the bytes there, with nothing left out: one field after the other,
-- and in a field one fact after the other.
-- Assumes nothing.
use mathlib.Core.Path.{◌≡◌, refl}
use mathlib.Core.Logic.{◌≢◌}
use mathlib.Core.List.{List, [], ◌∷◌, ◌++◌}
use Prim.Native.Nat.{ℕ, zero, suc, ◌+◌, ◌≤◌, ◌<◌}
use native.Mathlib.Nat.{add-zero}
use native.Mathlib.Omega.{arith}
use lib.ListN.{length, get_or, drop, length-drop, drop_of_length-le}
use lib.Seq.{get_or-drop, drop-drop}
use Rattle.promise.proofs.Refusals.{stage}
use Rattle.promise.specs.declared.Stage.{Stage}
use Rattle.promise.specs.declared.Stage.TheVariants.{Start}
use Rattle.promise.specs.declared.Kind.{Kind}
use Rattle.promise.specs.Book.{row_of, size_of, Item, facts_from, field_says, stage_behind, items_from, items_of}

-- as many fields as there are bytes are enough
items_fuel :
    (k k₂ : ℕ) (stage : Stage) (at : ℕ) (bytes : List ℕ) → length bytes ≤ k → length bytes ≤ k₂
    → items_from k stage at bytes ≡ items_from k₂ stage at bytes
unfolding items_from
items_fuel zero zero stage at bytes h h₂ = refl
items_fuel zero (suc k₂) stage at [] h h₂ = refl
items_fuel zero (suc k₂) stage at (x ∷ bytes) h h₂ = absurd (omega arith)
items_fuel (suc k) zero stage at [] h h₂ = refl
items_fuel (suc k) zero stage at (x ∷ bytes) h h₂ = absurd (omega arith)
items_fuel (suc k) (suc k₂) stage at [] h h₂ = refl
items_fuel (suc k) (suc k₂) stage at (tag ∷ bytes) h h₂ =
    let field = tag ∷ bytes in
    let l = length-drop (size_of field) field in
    rw
    (items_fuel k k₂ (stage_behind (row_of tag) stage) (at + size_of field) (drop (size_of field) field) (omega arith)
    (omega arith))
    refl

-- the items of these bytes, of which the first stands at place at
step :
    (k : ℕ) (stage : Stage) (at : ℕ) (bytes : List ℕ) → 0 < length bytes → length bytes ≤ k
    → items_from k stage at bytes
    ≡ Item.head at stage bytes ∷ field_says (row_of (get_or bytes 0 0)) at bytes
    ++ items_from k (stage_behind (row_of (get_or bytes 0 0)) stage) (at + size_of bytes) (drop (size_of bytes) bytes)
unfolding items_from
step k stage at [] some h = absurd (omega arith)
step zero stage at (tag ∷ bytes) some h = absurd (omega arith)
step (suc k) stage at (tag ∷ bytes) some h =
    let field = tag ∷ bytes in
    let l = length-drop (size_of field) field in
    rw
    (items_fuel k (suc k) (stage_behind (row_of tag) stage) (at + size_of field) (drop (size_of field) field)
    (omega arith)
    (omega arith))
    refl

-- the items from place at on
abbrev pub items_at : List ℕ → Stage → ℕ → List Item
items_at book stage at = items_from (length book) stage at (drop at book)

-- a book that is not empty, from its start on
pub items_start : (book : List ℕ) → length book ≢ 0 → items_of book ≡ items_at book Start 0
items_start [] some = absurd (some refl)
items_start (tag ∷ bytes) some = refl

-- at the end of the book
pub items_end : (book : List ℕ) (stage : Stage) → items_at book stage (length book) ≡ []
unfolding items_from
items_end book stage = rw (drop_of_length-le book {i = length book} (omega arith)) (go (length book))
  where
    go : (k : ℕ) → items_from k stage (length book) [] ≡ []
    go zero = refl
    go (suc k) = refl

-- one field, what it says, and the items behind it
pub items_field :
    (book : List ℕ) (stage : Stage) (at : ℕ) → at < length book
    → items_at book stage at
    ≡ Item.head at stage (drop at book) ∷ field_says (row_of (get_or (drop at book) 0 0)) at (drop at book)
    ++ items_at book (stage_behind (row_of (get_or (drop at book) 0 0)) stage) (at + size_of (drop at book))
items_field book stage at h =
    let l = length-drop at book in
    rw (← drop-drop (size_of (drop at book)) at book)
    (step (length book) stage at (drop at book) (omega arith) (omega arith))

-- one fact, and those behind it
pub facts_step :
    (count width : ℕ) (kind : Kind) (verdict : List ℕ → ℕ) (p : ℕ) (book : List ℕ)
    → facts_from (suc count) width kind verdict p (drop p book)
    ≡ Item.said p kind (get_or book p 0) (get_or book (p + 1) 0) (verdict (drop p book))
    ∷ facts_from count width kind verdict (p + width) (drop (p + width) book)
unfolding facts_from
facts_step count width kind verdict p book = rw
    (get_or-drop p book 0 0, add-zero p, get_or-drop p book 1 0, drop-drop width p book) refl

pub facts_end : (width : ℕ) (kind : Kind) (verdict : List ℕ → ℕ) (p : ℕ) (bytes : List ℕ)
    → facts_from 0 width kind verdict p bytes ≡ []
unfolding facts_from
facts_end width kind verdict p bytes = refl
