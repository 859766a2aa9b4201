-- What a book comes to, tied to its bytes: each fact is what the bytes at its place say, in a field that is not
-- refused; the class count comes first and once; ranks rise; every field stands behind fields that are not refused.
-- Assumes nothing.
use mathlib.Core.Path.{◌≡◌, refl, sym, ◌∙◌, ap, subst}
use mathlib.Core.Bool.{false≢true}
use mathlib.Core.List.Memᴰ
use mathlib.Core.List.{List, [], ◌∷◌, ◌++◌, Memᴰ}
use Prim.Native.Nat.{ℕ, zero, suc, ◌+◌, ◌*◌, ◌/◌, ◌≤◌, ◌<◌}
use native.Mathlib.Nat.{suc-mul}
use native.Mathlib.Omega.{arith}
use lib.ListN.{length, get_or, drop, length-drop}
use lib.Seq.{drop-drop}
use Rattle.promise.specs.Refusals.{First}
use Rattle.promise.specs.declared.Stage.{Stage}
use Rattle.promise.specs.declared.Stage.TheVariants.{Start, Begun}
use Rattle.promise.specs.declared.Kind.{Kind}
use Rattle.promise.specs.Book.{at_start, Lookup, row_of, length_of, size_of, field_refusals, Item, facts_from}
use Rattle.promise.specs.Book.{field_says, stage_behind, items_from, items_of}
use Rattle.promise.proofs.Tags.{FactsTag, RowIs, row_is, Right, field_right, facts_width, facts_fit}
use Rattle.promise.proofs.Items.{facts_step}

-- q is the index of the tag byte of a field, at a stage of reading: the first byte of the book, or the one behind a
-- field that is not refused
pub data FieldAt (book : List ℕ) : ℕ → Stage → Type 0 where
  start : 0 < length book → FieldAt book 0 Start
  behind :
      {q : ℕ} {stage : Stage} → FieldAt book q stage → First (field_refusals stage (drop q book)) 0
      → q + size_of (drop q book) < length book → FieldAt book (q + size_of (drop q book)) Begun

-- a field that is not refused ends within the book
pub ends_within :
    (book : List ℕ) (q : ℕ) (stage : Stage) → First (field_refusals stage (drop q book)) 0
    → q + size_of (drop q book) ≤ length book
ends_within book q stage right = omega (arith, (field_right stage (drop q book) right).1, length-drop q book)

pub field_within : {book : List ℕ} {q : ℕ} {stage : Stage} → FieldAt book q stage → q < length book
field_within (FieldAt.start some) = some
field_within (FieldAt.behind at right more) = more

-- the fact whose first byte stands at place p: its two classes are the bytes there, and whole facts lie between it and
-- the head of its field, which is not refused, and whose tag says how it is taken and what its verdict is
pub record SaidAt (book : List ℕ) (p : ℕ) (kind : Kind) (a b v : ℕ) : Type 0 where
  pub lower : a ≡ get_or book p 0
  pub upper : b ≡ get_or book (p + 1) 0
  pub field : ℕ
  pub is_field : FieldAt book field Begun
  pub right : First (field_refusals Begun (drop field book)) 0
  pub width : ℕ
  pub verdict : List ℕ → ℕ
  pub tag : FactsTag (get_or (drop field book) 0 0) width kind verdict
  pub before : ℕ
  pub from : p ≡ field + 3 + before * width
  pub to : p + width ≤ field + size_of (drop field book)
  pub says : v ≡ verdict (drop p book)

-- where an item stands among others: by its place, and a class count behind the field that says it
abbrev pub rank : Item → ℕ
rank (Item.head p stage bytes) = 2 * p
rank (Item.begin p n) = 1 + 2 * p
rank (Item.said p kind a b v) = 2 * p

-- ranks rise, from at on
abbrev pub Rises : ℕ → List Item → Type 0
Rises at [] = Unit {0}
Rises at (item ∷ items) = (at ≤ rank item) × Rises (suc (rank item)) items

-- fields behind the first, and their facts; of a field that is refused nothing more is said
abbrev pub Later : List ℕ → List Item → Type 0
Later book [] = Unit {0}
Later book (Item.head p stage bytes ∷ items) =
    (stage ≡ Begun) × (bytes ≡ drop p book) × FieldAt book p Begun
    × (First (field_refusals stage bytes) 0 → Later book items)
Later book (Item.begin p n ∷ items) = ⊥
Later book (Item.said p kind a b v ∷ items) = SaidAt book p kind a b v × Later book items

-- the class count, and then the fields behind the first
abbrev pub CountFirst : List ℕ → List Item → Type 0
CountFirst book [] = ⊥
CountFirst book (Item.head p stage bytes ∷ items) = ⊥
CountFirst book (Item.begin p n ∷ items) = (p ≡ 0) × (n ≡ get_or book 3 0) × Rises 2 items × Later book items
CountFirst book (Item.said p kind a b v ∷ items) = ⊥

-- the first field, and where it is not refused, what it says and what stands behind it
abbrev pub Whole : List ℕ → List Item → Type 0
Whole book [] = ⊥
Whole book (Item.head p stage bytes ∷ items) =
    (p ≡ 0) × (stage ≡ Start) × (bytes ≡ book) × (First (field_refusals stage bytes) 0 → CountFirst book items)
Whole book (Item.begin p n ∷ items) = ⊥
Whole book (Item.said p kind a b v ∷ items) = ⊥

rise_from : (at e : ℕ) (items : List Item) → at ≤ e → Rises e items → Rises at items
rise_from at e [] h l = tt
rise_from at e (item ∷ items) h l = (omega (arith, l.0), l.1)

facts_rise :
    (count width : ℕ) (kind : Kind) (verdict : List ℕ → ℕ) (at p e : ℕ) (bytes : List ℕ) (items : List Item)
    → 2 ≤ width → at ≤ 2 * p → p + count * width ≤ e → Rises (2 * e) items
    → Rises at (facts_from count width kind verdict p bytes ++ items)
unfolding facts_from
facts_rise zero width kind verdict at p e bytes items wide from h l = rise_from at (2 * e) items (omega arith) l
facts_rise (suc count) width kind verdict at p e bytes items wide from h l = (
  from,
  facts_rise count width kind verdict (suc (2 * p)) (p + width) e (drop width bytes) items wide (omega arith)
      (omega (arith, suc-mul count width)) l,
)

says_rise :
    {tag : ℕ} {l : Lookup} → RowIs tag l → (at : ℕ) (bytes : List ℕ) (items : List Item)
    → Rises (2 * (at + size_of bytes)) items → Rises (suc (2 * at)) (field_says l at bytes ++ items)
says_rise (RowIs.unknown u) at bytes items h =
    rise_from (suc (2 * at)) (2 * (at + size_of bytes)) items (omega arith) h
says_rise (RowIs.count e) at bytes items h =
    (omega arith, rise_from (suc (1 + 2 * at)) (2 * (at + size_of bytes)) items (omega arith) h)
says_rise (RowIs.facts {width} {kind} {verdict} t) at bytes items h =
    facts_rise (length_of bytes / width) width kind verdict (suc (2 * at)) (at + 3) (at + size_of bytes) (drop 3 bytes)
    items (facts_width t) (omega arith) (omega (arith, facts_fit (length_of bytes) width)) h

-- ranks rise, whatever the bytes are
items_rise : (fuel : ℕ) (stage : Stage) (at : ℕ) (bytes : List ℕ) → Rises (2 * at) (items_from fuel stage at bytes)
unfolding items_from
items_rise zero stage at bytes = tt
items_rise (suc fuel) stage at [] = tt
items_rise (suc fuel) stage at (tag ∷ bytes) =
    let field = tag ∷ bytes in (
      omega arith,
      says_rise (row_is tag) at field
          (items_from fuel (stage_behind (row_of tag) stage) (at + size_of field) (drop (size_of field) field))
          (items_rise fuel (stage_behind (row_of tag) stage) (at + size_of field) (drop (size_of field) field)),
    )

pub book_rises : (book : List ℕ) → Rises 0 (items_of book)
book_rises [] = (omega arith, tt)
book_rises (tag ∷ bytes) = items_rise (suc (length bytes)) Start 0 (tag ∷ bytes)

-- where ranks rise, no two items have the same

rank_from : (at : ℕ) (items : List Item) → Rises at items → (item : Item) → Memᴰ item items → at ≤ rank item
rank_from at [] l item i = absurd (Memᴰ.not-nil i)
rank_from at (first ∷ items) l item (Memᴰ.head e) = rw e l.0
rank_from at (first ∷ items) l item (Memᴰ.tail i) =
    omega (arith, l.0, rank_from (suc (rank first)) items l.1 item i)

pub rank_once :
    (at : ℕ) (items : List Item) → Rises at items → (x y : Item) → Memᴰ x items → Memᴰ y items
    → rank x ≡ rank y → x ≡ y
rank_once at [] l x y i j same = absurd (Memᴰ.not-nil i)
rank_once at (first ∷ items) l x y (Memᴰ.head e) (Memᴰ.head e₂) same = e ∙ sym e₂
rank_once at (first ∷ items) l x y (Memᴰ.head e) (Memᴰ.tail j) same =
    absurd (omega (arith, rank_from (suc (rank first)) items l.1 y j, ap rank e, same))
rank_once at (first ∷ items) l x y (Memᴰ.tail i) (Memᴰ.head e) same =
    absurd (omega (arith, rank_from (suc (rank first)) items l.1 x i, ap rank e, same))
rank_once at (first ∷ items) l x y (Memᴰ.tail i) (Memᴰ.tail j) same =
    rank_once (suc (rank first)) items l.1 x y i j same

-- the facts of a field that is not refused, and what stands behind it
module _
    (book : List ℕ) (q : ℕ) (is_field : FieldAt book q Begun) (right : First (field_refusals Begun (drop q book)) 0)
    {width : ℕ} {kind : Kind} {verdict : List ℕ → ℕ} (tag : FactsTag (get_or (drop q book) 0 0) width kind verdict)
    (items : List Item) (after : Later book items)
  where
    facts_later :
        (count before p : ℕ) → p ≡ q + 3 + before * width → p + count * width ≤ q + size_of (drop q book)
        → Later book (facts_from count width kind verdict p (drop p book) ++ items)
    unfolding facts_from
    facts_later zero before p from to = after
    facts_later (suc count) before p from to =
        subst (λ (l : List Item). Later book (l ++ items)) (sym (facts_step count width kind verdict p book)) (
          record {
            lower = refl;
            upper = refl;
            field = q;
            is_field = is_field;
            right = right;
            width = width;
            verdict = verdict;
            tag = tag;
            before = before;
            from = from;
            to = omega (arith, suc-mul count width);
            says = refl;
          },
          facts_later count (suc before) (p + width) (omega (arith, suc-mul before width))
              (omega (arith, suc-mul count width)),
        )

not_start : {stage : Stage} → stage ≡ Begun → stage ≡ Start → ⊥
not_start e z = false≢true (ap at_start (sym e ∙ z))

-- a field behind the first that is not refused says facts
field_later :
    (book : List ℕ) (at : ℕ) (bytes : List ℕ) (items : List Item) → bytes ≡ drop at book → FieldAt book at Begun
    → First (field_refusals Begun bytes) 0 → Later book items
    → Later book (field_says (row_of (get_or bytes 0 0)) at bytes ++ items)
field_later book at bytes items e is_field right after =
    subst (λ (f : List ℕ). Later book (field_says (row_of (get_or f 0 0)) at f ++ items)) (sym e)
    (go (row_of (get_or f 0 0)) (field_right Begun f here).0)
  where
    f : List ℕ
    f = drop at book

    here : First (field_refusals Begun f) 0
    here = subst (λ (l : List ℕ). First (field_refusals Begun l) 0) e right

    go : (l : Lookup) → Right Begun (get_or f 0 0) (length_of f) l → Later book (field_says l at f ++ items)
    go l (Right.count z _ _) = absurd (not_start refl z)
    go l (Right.facts {width} {kind} {verdict} _ t _) =
        subst (λ (k : List ℕ). Later book (facts_from (length_of f / width) width kind verdict (at + 3) k ++ items))
        (sym (drop-drop 3 at book))
        (facts_later book at is_field here t items after (length_of f / width) 0 (at + 3) (omega arith)
        (omega (arith, facts_fit (length_of f) width)))

-- what stands behind a field is at the stage Begun
pub stage_behind_field : (stage : Stage) (bytes : List ℕ) → First (field_refusals stage bytes) 0
    → stage_behind (row_of (get_or bytes 0 0)) stage ≡ Begun
stage_behind_field stage bytes right = go (field_right stage bytes right).0
  where
    go : {l : Lookup} → Right stage (get_or bytes 0 0) (length_of bytes) l → stage_behind l stage ≡ Begun
    go (Right.count _ _ _) = refl
    go (Right.facts _ _ _) = refl

field_behind :
    (book : List ℕ) (at : ℕ) (stage : Stage) (bytes : List ℕ) → bytes ≡ drop at book → FieldAt book at stage
    → First (field_refusals stage bytes) 0 → at + size_of bytes < length book → FieldAt book (at + size_of bytes) Begun
field_behind book at stage bytes e is_field =
    subst
    (λ (f : List ℕ).
    First (field_refusals stage f) 0 → at + size_of f < length book → FieldAt book (at + size_of f) Begun)
    (sym e)
    (FieldAt.behind is_field)

-- the fields behind the first
items_later :
    (fuel at : ℕ) (book bytes : List ℕ) → bytes ≡ drop at book → (at < length book → FieldAt book at Begun)
    → Later book (items_from fuel Begun at bytes)
unfolding items_from
items_later zero at book bytes e here = tt
items_later (suc fuel) at book [] e here = tt
items_later (suc fuel) at book (tag ∷ bytes) e here =
    let field = tag ∷ bytes in
    let is_field = here (omega (arith, length-drop at book, ap (λ (l : List ℕ). length l) e)) in (
      refl,
      e,
      is_field,
      λ right.
          field_later book at field _ e is_field right
          (subst
          (λ (stage : Stage). Later book (items_from fuel stage (at + size_of field) (drop (size_of field) field)))
          (sym (stage_behind_field Begun field right))
          (items_later fuel (at + size_of field) book (drop (size_of field) field)
          (ap (drop (size_of field)) e ∙ drop-drop (size_of field) at book)
          (field_behind book at Begun field e is_field right))),
    )

-- what a book comes to
pub items_whole : (book : List ℕ) → Whole book (items_of book)
unfolding items_from
items_whole [] = (refl, refl, refl, λ right. absurd (omega (arith, (field_right Start [] right).1)))
items_whole (tag ∷ bytes)
    = (
      refl,
      refl,
      refl,
      λ right. says (row_of tag) (field_right Start book right).0 (stage_behind_field Start book right)
          right,
    )
  where
    book : List ℕ
    book = tag ∷ bytes

    says :
        (l : Lookup) → Right Start tag (length_of book) l → stage_behind l Start ≡ Begun
        → First (field_refusals Start book) 0
        → CountFirst book
        (field_says l 0 book
        ++ items_from (length bytes) (stage_behind l Start) (0 + size_of book) (drop (size_of book) book))
    says l (Right.facts z _ _) e right = absurd (not_start z refl)
    says l (Right.count _ _ _) e right = (
      refl,
      refl,
      rise_from 2 (2 * (0 + size_of book))
          (items_from (length bytes) Begun (0 + size_of book) (drop (size_of book) book))
          (omega arith)
          (items_rise (length bytes) Begun (0 + size_of book) (drop (size_of book) book)),
      items_later (length bytes) (0 + size_of book) book (drop (size_of book) book) (drop-drop (size_of book) 0 book)
          (FieldAt.behind (FieldAt.start (omega arith)) right),
    )
