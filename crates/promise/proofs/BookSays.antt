-- What the book of a table says: the settled marks off the diagonal, and nothing else; so two tables have equal books
-- exactly when their marks are equal.
-- Assumes nothing.
use mathlib.Core.Path.{◌≡◌, refl, sym, ◌∙◌, ap, ap₂, subst}
use mathlib.Core.Logic.{◌↔◌, ◌≢◌, ◌⊎◌, inl, inr}
use mathlib.Core.Bool.{Bool, true, false, true≢false}
use mathlib.Core.List.Memᴰ
use mathlib.Core.List.{List, [], ◌∷◌, ◌++◌, append-nil, Memᴰ}
use Prim.Native.Nat.{ℕ, suc, ◌+◌, ◌/◌, ◌%◌, ◌<◌}
use native.Mathlib.Nat.{div-add-mod', mul-mod_right}
use native.Mathlib.Decide.{ℕ_discrete}
use native.Mathlib.Omega.{arith}
use borrow.Author.Tests.{eq-eqb}
use lib.Dec.{eqb}
use lib.ListN.{length, drop, length-append}
use lib.Seq.{drop_at}
use Rattle.order.specs.Facts.{Fact, fact_on, under, not_under}
use Rattle.order.specs.Tables.{mark, Sound, Marks, SameMarks, mark_for, Pair, bytes_of}
use Rattle.promise.specs.Refusals.{First}
use Rattle.order.proofs.Tables.{which, verdict_of}
use Rattle.order.proofs.Pairs.{length_bytes}
use Rattle.order.proofs.Sound.{is}
use Rattle.promise.specs.declared.Stage.{Stage}
use Rattle.promise.specs.declared.Stage.TheVariants.{Start, Begun}
use Rattle.promise.specs.declared.Kind.{Kind}
use Rattle.promise.specs.Clips.{truth_of}
use Rattle.promise.specs.Runs.{Accepted}
use Rattle.promise.specs.Book.{TagRow, count_row, facts_row, Lookup, row_of, length_of, size_of, field_refusals, Item}
use Rattle.promise.specs.Book.{facts_from, field_says, items_from, items_of, fact_of, field, PairsMarked, BookOf}
use Rattle.promise.proofs.Read.{calls_said}
use Rattle.promise.proofs.Write.{book_unique, book_by_marks}

-- the length that a written field gives is that of its contents
pub given_length : (tag : ℕ) (bytes rest : List ℕ) → length_of (field tag bytes ++ rest) ≡ length bytes
given_length tag bytes rest = div-add-mod' (length bytes) 256

-- a written field is not refused where its tag may stand and allows the length
module _ (stage : Stage) (tag : ℕ) (row : TagRow) (known : row_of tag ≡ Lookup.row row)
    (placed : row.stands stage ≡ true) where
  pub field_fine :
      (bytes rest : List ℕ) → row.allows (length bytes) ≡ true
      → First (field_refusals stage (field tag bytes ++ rest)) 0
  field_fine bytes rest allowed =
      let size = length-append bytes rest in
      inr (
        λ e. omega arith,
        inr (
          λ e. omega arith,
          rw (known, given_length tag bytes rest)
              (inr (
                λ e. true≢false (sym placed ∙ e),
                inr (λ e. true≢false (sym allowed ∙ e), inr (λ e. omega arith, refl)),
              )),
        ),
      )

  -- it says its contents, and then come the items behind it
  field_items :
      (fuel at : ℕ) (bytes rest : List ℕ)
      → items_from (suc fuel) stage at (field tag bytes ++ rest)
      ≡ Item.head at stage (field tag bytes ++ rest) ∷ field_says (Lookup.row row) at (field tag bytes ++ rest)
      ++ items_from fuel row.behind (at + (3 + length bytes)) rest
  unfolding items_from
  field_items fuel at bytes rest =
      let all = field tag bytes ++ rest in
      let size : size_of all ≡ 3 + length bytes = ap (λ (k : ℕ). 3 + k) (given_length tag bytes rest) in
      let behind : drop (size_of all) all ≡ rest = drop_at (field tag bytes) rest (size_of all) (omega arith) in
      rw (known, behind, given_length tag bytes rest) refl

-- the facts told by a list of pairs, the first of them at place at
abbrev pub tells_of : ℕ → ℕ → List Pair → List Item
tells_of v at [] = []
tells_of v at (p ∷ l) = Item.said at Kind.Told p.0 p.1 v ∷ tells_of v (at + 2) l

pairs_told :
    (v at : ℕ) (l : List Pair) (rest : List ℕ)
    → facts_from (length l) 2 Kind.Told (λ bytes. v) at (bytes_of l ++ rest) ≡ tells_of v at l
unfolding facts_from
pairs_told v at [] rest = refl
pairs_told v at (p ∷ l) rest =
    ap (λ (items : List Item). Item.said at Kind.Told p.0 p.1 v ∷ items) (pairs_told v (at + 2) l rest)

-- a written field of pairs tells them
pairs_said :
    (tag v at : ℕ) (l : List Pair) (rest : List ℕ)
    → field_says (Lookup.row (facts_row tag 2 Kind.Told (λ bytes. v))) at (field tag (bytes_of l) ++ rest)
    ≡ tells_of v (at + 3) l
pairs_said tag v at l rest =
    let count : length_of (field tag (bytes_of l) ++ rest) / 2 ≡ length l =
    ap (λ (k : ℕ). k / 2) (given_length tag (bytes_of l) rest) ∙ omega (arith, length_bytes l)
    in
    rw count (pairs_told v (at + 3) l rest)

-- the fields of the pairs, and where the second of them stands
abbrev pub pair_fields : List Pair → List Pair → List ℕ
pair_fields ys zs = field 2 (bytes_of ys) ++ field 3 (bytes_of zs)

abbrev pub second_at : List Pair → ℕ
second_at ys = 4 + (3 + length (bytes_of ys))

-- what the book of these pairs comes to behind its class count
abbrev pub pair_items : List Pair → List Pair → List Item
pair_items ys zs =
    Item.head 4 Begun (pair_fields ys zs) ∷ tells_of 1 (4 + 3) ys
    ++ Item.head (second_at ys) Begun (field 3 (bytes_of zs)) ∷ tells_of 0 (second_at ys + 3) zs

known_count : row_of 1 ≡ Lookup.row (count_row 1)
unfolding row_of
known_count = refl

known_yes : row_of 2 ≡ Lookup.row (facts_row 2 2 Kind.Told (λ bytes. 1))
unfolding row_of
known_yes = refl

known_no : row_of 3 ≡ Lookup.row (facts_row 3 2 Kind.Told (λ bytes. 0))
unfolding row_of
known_no = refl

-- two bytes a pair are whole facts
even : (l : List Pair) → eqb (length (bytes_of l) % 2) 0 ≡ true
even l = eq-eqb (length (bytes_of l) % 2) 0 (rw (length_bytes l) (mul-mod_right 2 (length l)))

pub book_items :
    {n : ℕ} {t book : List ℕ} (h : BookOf n t book)
    → items_of book ≡ Item.head 0 Start book ∷ Item.begin 0 n ∷ pair_items h.yes_pairs h.no_pairs
unfolding items_from
book_items {n} h =
    ap items_of h.bytes ∙ said
    ∙ ap (λ (l : List ℕ). Item.head 0 Start l ∷ Item.begin 0 n ∷ pair_items ys zs) (sym h.bytes)
  where
    ys : List Pair
    ys = h.yes_pairs

    zs : List Pair
    zs = h.no_pairs

    last :
        (fuel at : ℕ)
        → items_from (suc (suc fuel)) Begun at (field 3 (bytes_of zs))
        ≡ Item.head at Begun (field 3 (bytes_of zs)) ∷ tells_of 0 (at + 3) zs
    last fuel at =
        let whole = append-nil (field 3 (bytes_of zs)) in
        ap (items_from (suc (suc fuel)) Begun at) (sym whole)
        ∙ field_items Begun 3 (facts_row 3 2 Kind.Told (λ bytes. 0)) known_no refl (suc fuel) at (bytes_of zs) []
        ∙ ap₂ (λ (l : List ℕ) (items : List Item). Item.head at Begun l ∷ items) whole
        (append-nil (field_says (Lookup.row (facts_row 3 2 Kind.Told (λ bytes. 0))) at (field 3 (bytes_of zs) ++ []))
        ∙ pairs_said 3 0 at zs [])

    said :
        items_of (field 1 (n ∷ []) ++ pair_fields ys zs)
        ≡ Item.head 0 Start (field 1 (n ∷ []) ++ pair_fields ys zs) ∷ Item.begin 0 n ∷ pair_items ys zs
    said =
        let L = length (bytes_of ys ++ field 3 (bytes_of zs)) in
        field_items Start 1 (count_row 1) known_count refl (suc (suc (suc (suc (suc (suc L)))))) 0 (n ∷ [])
        (pair_fields ys zs)
        ∙ ap
        (λ (items : List Item). Item.head 0 Start (field 1 (n ∷ []) ++ pair_fields ys zs) ∷ Item.begin 0 n ∷ items)
        (field_items Begun 2 (facts_row 2 2 Kind.Told (λ bytes. 1)) known_yes refl (suc (suc (suc (suc (suc L))))) 4
        (bytes_of ys)
        (field 3 (bytes_of zs))
        ∙ ap₂ (λ (told items : List Item). Item.head 4 Begun (pair_fields ys zs) ∷ told ++ items)
        (pairs_said 2 1 4 ys (field 3 (bytes_of zs))) (last (suc (suc (suc L))) (second_at ys)))

-- none of its fields is refused
pub fields_fine :
    {n : ℕ} {t book : List ℕ} (h : BookOf n t book)
    → First (field_refusals Start book) 0
    × First (field_refusals Begun (pair_fields h.yes_pairs h.no_pairs)) 0
    × First (field_refusals Begun (field 3 (bytes_of h.no_pairs))) 0
fields_fine {n} h = (
  rw h.bytes
      (field_fine Start 1 (count_row 1) known_count refl (n ∷ []) (pair_fields h.yes_pairs h.no_pairs) refl),
  field_fine Begun 2 (facts_row 2 2 Kind.Told (λ bytes. 1)) known_yes refl (bytes_of h.yes_pairs)
      (field 3 (bytes_of h.no_pairs))
      (even h.yes_pairs),
  subst (λ (l : List ℕ). First (field_refusals Begun l) 0) (append-nil (field 3 (bytes_of h.no_pairs)))
      (field_fine Begun 3 (facts_row 3 2 Kind.Told (λ bytes. 0)) known_no refl (bytes_of h.no_pairs) []
      (even h.no_pairs)),
)

-- the facts that items say
abbrev pub facts_said : List Item → List Fact
facts_said [] = []
facts_said (Item.head p stage bytes ∷ items) = facts_said items
facts_said (Item.begin p n ∷ items) = facts_said items
facts_said (Item.said p kind a b v ∷ items) = fact_of a b v ∷ facts_said items

-- they are the facts accepted where all that they say is
pub said_accepted : (n : ℕ) (items : List Item) (f : Fact)
    → Accepted n (calls_said items) f ↔ Memᴰ f (facts_said items)
said_accepted n [] f = (λ i. absurd i, λ i. absurd (Memᴰ.not-nil i))
said_accepted n (Item.head p stage bytes ∷ items) f = said_accepted n items f
said_accepted n (Item.begin p m ∷ items) f = said_accepted n items f
said_accepted n (Item.said p kind a b v ∷ items) f =
    let later = said_accepted n items f in (λ i. there later i, λ i. back later (Memᴰ.cases_cons i))
  where
    g : Fact
    g = fact_of a b v

    Both : Type 0
    Both = Accepted n (calls_said items) f ↔ Memᴰ f (facts_said items)

    there : Both → (f ≡ g) ⊎ Accepted n (calls_said items) f → Memᴰ f (g ∷ facts_said items)
    there later (inl e) = Memᴰ.head e
    there later (inr i) = Memᴰ.tail (later.0 i)

    back : Both → (f ≡ g) ⊎ Memᴰ f (facts_said items) → (f ≡ g) ⊎ Accepted n (calls_said items) f
    back later (inl e) = inl e
    back later (inr i) = inr (later.1 i)

said_append : (xs ys : List Item) → facts_said (xs ++ ys) ≡ facts_said xs ++ facts_said ys
said_append [] ys = refl
said_append (Item.head p stage bytes ∷ xs) ys = said_append xs ys
said_append (Item.begin p n ∷ xs) ys = said_append xs ys
said_append (Item.said p kind a b v ∷ xs) ys = ap (λ (l : List Fact). fact_of a b v ∷ l) (said_append xs ys)

-- the pairs of a list, as facts with verdict v, are what it tells
tells_mem :
    (v at : ℕ) (l : List Pair) (f : Fact)
    → Memᴰ f (facts_said (tells_of v at l)) ↔ (Memᴰ (f.lower, f.upper) l × (f.holds ≡ truth_of v))
tells_mem v at [] f = (λ i. absurd (Memᴰ.not-nil i), λ h. absurd (Memᴰ.not-nil h.0))
tells_mem v at (p ∷ l) f =
    let later = tells_mem v (at + 2) l f in
    (λ i. there later (Memᴰ.cases_cons i), λ h. back later (Memᴰ.cases_cons h.0) h.1)
  where
    Both : Type 0
    Both = Memᴰ f (facts_said (tells_of v (at + 2) l)) ↔ (Memᴰ (f.lower, f.upper) l × (f.holds ≡ truth_of v))

    there :
        Both → (f ≡ fact_of p.0 p.1 v) ⊎ Memᴰ f (facts_said (tells_of v (at + 2) l))
        → Memᴰ (f.lower, f.upper) (p ∷ l) × (f.holds ≡ truth_of v)
    there later (inl e) = (Memᴰ.head (ap (λ (g : Fact). (g.lower, g.upper)) e), ap (λ (g : Fact). g.holds) e)
    there later (inr j) = let r = later.0 j in (Memᴰ.tail r.0, r.1)

    back :
        Both → ((f.lower, f.upper) ≡ p) ⊎ Memᴰ (f.lower, f.upper) l → f.holds ≡ truth_of v
        → Memᴰ f (facts_said (tells_of v at (p ∷ l)))
    back later (inl e) z =
        Memᴰ.head
        (ap (λ (b : Bool). fact_on f.lower f.upper b) z
        ∙ ap (λ (q : Pair). fact_of q.0 q.1 v) e)
    back later (inr j) z = Memᴰ.tail (later.1 (j, z))

-- a book says the settled marks off the diagonal, and nothing else
pub book_says :
    {n : ℕ} {t book : List ℕ} → BookOf n t book → (f : Fact)
    → Memᴰ f (facts_said (items_of book)) ↔ (Marks n t f × (f.lower ≢ f.upper))
book_says {n} {t} {book} h f = (
  λ i. there (Memᴰ.append_cases (facts_said yes_items) (rw said at i)),
  λ k. rw said (back f.lower f.upper f.holds k),
)
  where
    yes_items : List Item
    yes_items = tells_of 1 (4 + 3) h.yes_pairs

    no_items : List Item
    no_items = tells_of 0 (second_at h.yes_pairs + 3) h.no_pairs

    said : facts_said (items_of book) ≡ facts_said yes_items ++ facts_said no_items
    said =
        ap facts_said (book_items h)
        ∙ said_append yes_items
        (Item.head (second_at h.yes_pairs) Begun (field 3 (bytes_of h.no_pairs)) ∷ no_items)

    marked :
        (v : ℕ) {l : List Pair} → PairsMarked n t (mark_for (truth_of v)) l
        → Memᴰ (f.lower, f.upper) l × (f.holds ≡ truth_of v) → Marks n t f × (f.lower ≢ f.upper)
    marked v k r =
        let q = (k.exact f.lower f.upper).0 r.0 in
        (record { lower_below = q.0; upper_below = q.1; settled = rw r.1 q.2.1 }, q.2.0)

    there : Memᴰ f (facts_said yes_items) ⊎ Memᴰ f (facts_said no_items) → Marks n t f × (f.lower ≢ f.upper)
    there (inl i) = marked 1 h.yes_listed ((tells_mem 1 (4 + 3) h.yes_pairs f).0 i)
    there (inr i) = marked 0 h.no_listed ((tells_mem 0 (second_at h.yes_pairs + 3) h.no_pairs f).0 i)

    back :
        (a b : ℕ) (v : Bool) → Marks n t (fact_on a b v) × (a ≢ b)
        → Memᴰ (fact_on a b v) (facts_said yes_items ++ facts_said no_items)
    back a b true (m, ne) =
        Memᴰ.append_left (facts_said no_items)
        ((tells_mem 1 (4 + 3) h.yes_pairs (under a b)).1
        ((h.yes_listed.exact a b).1 (m.lower_below, m.upper_below, (ne, m.settled)), refl))
    back a b false (m, ne) =
        Memᴰ.append_right (facts_said yes_items)
        ((tells_mem 0 (second_at h.yes_pairs + 3) h.no_pairs (not_under a b)).1
        ((h.no_listed.exact a b).1 (m.lower_below, m.upper_below, (ne, m.settled)), refl))

-- "Two tables of the same n give equal books exactly when their marks are equal."
pub books_equal :
    {n : ℕ} {t u book book₂ : List ℕ} → Sound n t → Sound n u → BookOf n t book → BookOf n u book₂
    → (book ≡ book₂) ↔ SameMarks n t u
books_equal {n} {t} {u} {book} {book₂} ht hu k k₂ =
    (λ e. record { at = same e }, λ m. book_unique book book₂ (book_by_marks m k) k₂)
  where
    -- a mark of one is a mark of the other
    mark_moved :
        {x y b₁ b₂ : List ℕ} → BookOf n x b₁ → BookOf n y b₂ → b₁ ≡ b₂ → (a b : ℕ) (v : Bool) → a < n → b < n → a ≢ b
        → mark n x a b ≡ mark_for v → mark n y a b ≡ mark_for v
    mark_moved kx ky e a b v ha hb ne m =
        let f : Fact = fact_on a b v in
        let in-x = (book_says kx f).1 (record { lower_below = ha; upper_below = hb; settled = m }, ne) in
        ((book_says ky f).0 (subst (λ (l : List ℕ). Memᴰ f (facts_said (items_of l))) e in-x)).0.settled

    same : book ≡ book₂ → (a b : ℕ) → a < n → b < n → mark n t a b ≡ mark n u a b
    same e a b ha hb = pick (ℕ_discrete a b)
      where
        settled :
            a ≢ b → Dec (mark n t a b ≡ 0) → Dec (mark n u a b ≡ 0) → mark n t a b ≡ mark n u a b
        settled ne (yes z) (yes z₂) = z ∙ sym z₂
        settled ne (no z) d =
            let v = verdict_of (which (mark n t a b) (ht.small a b ha hb)) z in
            v.1 ∙ sym (mark_moved k k₂ e a b v.0 ha hb ne v.1)
        settled ne (yes z) (no z₂) =
            let v = verdict_of (which (mark n u a b) (hu.small a b ha hb)) z₂ in
            mark_moved k₂ k (sym e) a b v.0 ha hb ne v.1 ∙ sym v.1

        pick : Dec (a ≡ b) → mark n t a b ≡ mark n u a b
        pick (yes q) = rw (← q) (ht.diagonal a ha ∙ sym (hu.diagonal a ha))
        pick (no q) = settled q (is n t 0 a b) (is n u 0 a b)
