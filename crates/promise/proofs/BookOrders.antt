-- Demand 3 of books, refused ones among them: the table left is that of the facts taken in; a fact is refused as
-- contradictory exactly when no order agrees with it and those before; and a book is accepted whole exactly when some
-- order agrees with all that it says.
-- Assumes nothing.
use mathlib.Core.Path.{◌≡◌, refl, sym, ap, subst}
use mathlib.Core.Logic.{◌↔◌, ◌≢◌, ◌⊎◌, inl, inr}
use mathlib.Core.List.Memᴰ
use mathlib.Core.List.{List, [], ◌∷◌, Memᴰ}
use Prim.Native.Nat.{ℕ, zero, suc, ◌*◌, ◌≤◌, ◌<◌}
use native.Mathlib.Decide.{ℕ_discrete, dec_lt}
use native.Mathlib.Omega.{arith}
use lib.ListN.{get_or, drop}
use Rattle.order.specs.Facts.{Fact, Facts, Listed, ◌with◌, ◌⊆◌, Below, Within}
use Rattle.order.specs.Tables.{TableOf}
use Rattle.order.specs.Orders.{Impossible, Possible, Exact}
use Rattle.order.proofs.Decide.{stable}
use Rattle.order.proofs.Exactness.{possible_subset, possible_not, exact, contradicts_exact, table_possible}
use Rattle.promise.specs.Refusals.{First}
use Rattle.promise.proofs.Refusals.{first_unique}
use Rattle.promise.specs.declared.Stage.{Stage}
use Rattle.promise.specs.declared.Stage.TheVariants.{Start, Begun}
use Rattle.promise.specs.declared.Session.{Session}
use Rattle.promise.specs.declared.Reply.{Reply}
use Rattle.promise.specs.declared.Kind.{Kind}
use Rattle.promise.specs.Runs.{StandsFor, FromFresh}
use Rattle.promise.specs.Book.{field_refusals, Item, items_of, fact_of, BookRead}
use Rattle.promise.proofs.Standing.{below_of}
use Rattle.promise.proofs.Fresh.{fresh_numbers}
use Rattle.promise.proofs.Tags.{field_numbers}
use Rattle.promise.proofs.Runs.{stands_equal, fresh_run_stands}
use Rattle.promise.proofs.Book.{SaidAt, rank, book_rises, rank_once}
use Rattle.promise.proofs.Read.{calls_said, place_of, if_before, items_before, none_before, fact_refusals, Stopped}
use Rattle.promise.proofs.Read.{NoCount, ReadAs, read_run}
use Rattle.promise.proofs.Places.{CountAccepted, no_count, read_count}
use Rattle.promise.proofs.BookSays.{facts_said, said_accepted}

-- of these items those that a reading took in: all of them, or where it is refused those before the place
abbrev pub taken : ℕ → ℕ → List Item → List Item
taken zero place items = items
taken (suc k) place items = items_before place items

abbrev pub FactsTaken : List ℕ → Reply → Facts
FactsTaken book r = Listed (facts_said (taken r.number r.place (items_of book)))

taken_some : (k place : ℕ) (items : List Item) → k ≢ 0 → taken k place items ≡ items_before place items
taken_some zero place items ne = absurd (ne refl)
taken_some (suc k) place items ne = refl

-- the table that is left is that of the facts taken in
pub read_table :
    {book t : List ℕ} {r : Reply} {t' : List ℕ} → BookRead book t r t'
    → Within r.session.classes (FactsTaken book r) × TableOf r.session.classes (FactsTaken book r) t'
read_table {book} {t} {r} {t'} h = go (read_run h)
  where
    Left : List Item → Type 0
    Left items =
        Within r.session.classes (Listed (facts_said items))
        × TableOf r.session.classes (Listed (facts_said items)) t'

    from_run : {n : ℕ} (items : List Item) → FromFresh n t (calls_said items) r.session t' → Left items
    from_run {n} items run =
        let st : StandsFor (Listed (facts_said items)) r.session t' =
        stands_equal (λ f i. (said_accepted n items f).0 i) (λ f i. (said_accepted n items f).1 i)
        (fresh_run_stands run)
        in
        (st.within, st.table)

    before : r.number ≢ 0 → Left (items_before r.place (items_of book))
        → Left (taken r.number r.place (items_of book))
    before ne = subst Left (sym (taken_some r.number r.place (items_of book) ne))

    go : ReadAs book t r t' → Left (taken r.number r.place (items_of book))
    go (ReadAs.not_begun ne p s u why) =
        before ne
        (subst Left (sym (none_before r.place 0 (items_of book) (omega arith) (book_rises book)))
        (λ f i. absurd (Memᴰ.not-nil i), rw s (record { at = λ a b ha. absurd (omega arith) })))
    go (ReadAs.whole e p right run) = rw e (from_run (items_of book) run)
    go (ReadAs.cut ne right run stop) = before ne (from_run (items_before r.place (items_of book)) run)

-- "a pair is yes exactly when every order agreeing with all accepted facts has it, no exactly when none has it, open
-- otherwise"
pub read_exact :
    {book t : List ℕ} {r : Reply} {t' : List ℕ} → BookRead book t r t' → (a b : ℕ) → a < r.session.classes
    → b < r.session.classes → Exact r.session.classes (FactsTaken book r) t' a b
read_exact h = let q = read_table h in exact q.0 q.1

-- some order agrees with all facts taken in
pub read_possible :
    {book t : List ℕ} {r : Reply} {t' : List ℕ} → BookRead book t r t'
    → Possible r.session.classes (FactsTaken book r)
read_possible h = let q = read_table h in table_possible q.0 q.1

-- Which items stand before a place, and which facts items say.

before_there : (p : ℕ) (items : List Item) (x : Item) → Memᴰ x (items_before p items)
    → Memᴰ x items × (place_of x < p)
before_there p [] x i = absurd (Memᴰ.not-nil i)
before_there p (item ∷ items) x i = go (dec_lt (place_of item) p) i (before_there p items x)
  where
    later : Memᴰ x items × (place_of x < p) → Memᴰ x (item ∷ items) × (place_of x < p)
    later (j, l) = (Memᴰ.tail j, l)

    go :
        (d : Dec (place_of item < p)) → Memᴰ x (if_before d item (items_before p items))
        → (Memᴰ x (items_before p items) → Memᴰ x items × (place_of x < p))
        → Memᴰ x (item ∷ items) × (place_of x < p)
    go (yes z) (Memᴰ.head e) rest = (Memᴰ.head e, rw e z)
    go (yes z) (Memᴰ.tail j) rest = later (rest j)
    go (no z) j rest = later (rest j)

before_here : (p : ℕ) (items : List Item) (x : Item) → Memᴰ x items → place_of x < p
    → Memᴰ x (items_before p items)
before_here p [] x i l = absurd (Memᴰ.not-nil i)
before_here p (item ∷ items) x i l = go (dec_lt (place_of item) p) i (λ j. before_here p items x j l)
  where
    go :
        (d : Dec (place_of item < p)) → Memᴰ x (item ∷ items)
        → (Memᴰ x items → Memᴰ x (items_before p items))
        → Memᴰ x (if_before d item (items_before p items))
    go (yes z) (Memᴰ.head e) rest = Memᴰ.head e
    go (yes z) (Memᴰ.tail j) rest = Memᴰ.tail (rest j)
    go (no z) (Memᴰ.head e) rest = absurd (z (rw e at l))
    go (no z) (Memᴰ.tail j) rest = rest j

-- an item says a fact
abbrev Says : Item → Fact → Type 0
Says (Item.head p stage bytes) f = ⊥
Says (Item.begin p n) f = ⊥
Says (Item.said p kind a b v) f = f ≡ fact_of a b v

said_by : (items : List Item) (f : Fact) → Memᴰ f (facts_said items)
    → (x : Item) × Memᴰ x items × Says x f
said_by [] f i = absurd (Memᴰ.not-nil i)
said_by (Item.head p stage bytes ∷ items) f i =
    let q = said_by items f i in (q.0, Memᴰ.tail q.1, q.2)
said_by (Item.begin p n ∷ items) f i = let q = said_by items f i in (q.0, Memᴰ.tail q.1, q.2)
said_by (Item.said p kind a b v ∷ items) f (Memᴰ.head e) = (Item.said p kind a b v, Memᴰ.head refl, e)
said_by (Item.said p kind a b v ∷ items) f (Memᴰ.tail i) =
    let q = said_by items f i in (q.0, Memᴰ.tail q.1, q.2)

says_fact : (items : List Item) (f : Fact) (x : Item) → Memᴰ x items → Says x f → Memᴰ f (facts_said items)
says_fact [] f x i s = absurd (Memᴰ.not-nil i)
says_fact (Item.head p stage bytes ∷ items) f x (Memᴰ.head e) s = absurd (rw e at s)
says_fact (Item.head p stage bytes ∷ items) f x (Memᴰ.tail i) s = says_fact items f x i s
says_fact (Item.begin p n ∷ items) f x (Memᴰ.head e) s = absurd (rw e at s)
says_fact (Item.begin p n ∷ items) f x (Memᴰ.tail i) s = says_fact items f x i s
says_fact (Item.said p kind a b v ∷ items) f x (Memᴰ.head e) s = Memᴰ.head (rw e at s)
says_fact (Item.said p kind a b v ∷ items) f x (Memᴰ.tail i) s = Memᴰ.tail (says_fact items f x i s)

-- where a reading went past a place, it took in all that stands there or before
past_taken :
    (k place p : ℕ) (items : List Item) → (k ≡ 0) ⊎ (p < place) → (x : Item) → Memᴰ x items → place_of x ≤ p
    → Memᴰ x (taken k place items)
past_taken zero place p items past x i l = i
past_taken (suc k) place p items (inl e) x i l = absurd (omega arith)
past_taken (suc k) place p items (inr h) x i l = before_here place items x i (omega arith)

-- the facts said before a place
abbrev pub SaidBefore : List ℕ → ℕ → Facts
SaidBefore book place = Listed (facts_said (items_before place (items_of book)))

-- how the fact of an item is judged
abbrev Judged : Session → List ℕ → ℕ → Item → Type 0
Judged s t k (Item.head p stage bytes) = ⊥
Judged s t k (Item.begin p n) = ⊥
Judged s t k (Item.said p kind a b v) = First (fact_refusals s t a b v) k

-- a fact with a right verdict on classes below the count is refused with 6 alone, and then no order agrees
module _
    {book t : List ℕ} {r : Reply} {t' : List ℕ} (h : BookRead book t r t') {a b v : ℕ} (right : v ≤ 1)
    (below : Below r.session.classes (fact_of a b v)) where
  stands_against :
      First (fact_refusals r.session t' a b v) r.number → r.number ≢ 0
      → (r.number ≡ 6) × Impossible r.session.classes (SaidBefore book r.place with fact_of a b v)
  stands_against (inl (z, e)) ne = absurd (omega arith)
  stands_against (inr (_, inl (inl z, e))) ne = absurd (omega (arith, below.lower_below))
  stands_against (inr (_, inl (inr z, e))) ne = absurd (omega (arith, below.upper_below))
  stands_against (inr (_, inr (_, inl (z, e)))) ne =
      let q = read_table h in (
        e,
        subst
            (λ (items : List Item). Impossible r.session.classes (Listed (facts_said items) with fact_of a b v))
            (taken_some r.number r.place (items_of book) ne)
            ((contradicts_exact q.0 q.1 (fact_of a b v) below).0 z),
      )
  stands_against (inr (_, inr (_, inr (_, e)))) ne = absurd (ne e)

-- a fact at a place of the book, with a right verdict and on classes below n, that no order agrees with beside those
-- said before
pub record Contradicted (book : List ℕ) (n place : ℕ) : Type 1 where
  pub kind : Kind
  pub lower : ℕ
  pub upper : ℕ
  pub verdict : ℕ
  pub said : SaidAt book place kind lower upper verdict
  pub right : verdict ≤ 1
  pub below : Below n (fact_of lower upper verdict)
  pub against : Impossible n (SaidBefore book place with fact_of lower upper verdict)

-- where a book is refused with 6, such a fact stands at the place
pub read_contradicts :
    {book t : List ℕ} {r : Reply} {t' : List ℕ} → BookRead book t r t' → r.number ≡ 6
    → Contradicted book r.session.classes r.place
read_contradicts {book} {t} {r} {t'} h six = go (read_run h)
  where
    ne : r.number ≢ 0
    ne z = omega arith

    no_field : (stage : Stage) (bytes : List ℕ) → First (field_refusals stage bytes) r.number → ⊥
    no_field stage bytes first = omega (arith, field_numbers stage bytes r.number first ne)

    no_fresh : (r.number ≡ 1) ⊎ (r.number ≡ 2) → ⊥
    no_fresh (inl e) = omega arith
    no_fresh (inr e) = omega arith

    fact :
        {kind : Kind} {a b v : ℕ} → SaidAt book r.place kind a b v
        → First (fact_refusals r.session t' a b v) r.number → Contradicted book r.session.classes r.place
    fact said (inl (z, e)) = absurd (omega arith)
    fact said (inr (_, inl (z, e))) = absurd (omega arith)
    fact said (inr (_, inr (_, inr (_, e)))) = absurd (ne e)
    fact {kind} {a} {b} {v} said (inr (small, inr (fits, inl (z, e)))) =
        let q = below_of r.session.classes a b fits in
        let below : Below r.session.classes (fact_of a b v) = record { lower_below = q.0; upper_below = q.1 } in
        record {
          kind = kind;
          lower = a;
          upper = b;
          verdict = v;
          said = said;
          right = omega arith;
          below = below;
          against = (stands_against h (omega arith) below (inr (small, inr (fits, inl (z, e)))) ne).1;
        }

    stopped :
        Stopped book (items_of book) r.number r.place r.session t'
        → Contradicted book r.session.classes r.place
    stopped (Stopped.at_field _ q first) = absurd (no_field Begun (drop r.place book) first)
    stopped (Stopped.at_fact _ said first) = fact said first

    go : ReadAs book t r t' → Contradicted book r.session.classes r.place
    go (ReadAs.not_begun _ p s u (NoCount.at_field first)) = absurd (no_field Start book first)
    go (ReadAs.not_begun _ p s u (NoCount.at_count _ first)) =
        absurd (no_fresh (fresh_numbers (get_or book 3 0) t r.number first ne))
    go (ReadAs.whole e p right run) = absurd (ne e)
    go (ReadAs.cut _ right run stop) = stopped stop

-- "A fact on two classes below the count is refused as contradictory exactly when no order agrees with it and those
-- accepted before": a fact of the book that the reading came to, with a right verdict, and it is refused for no other
-- reason. It came to it where the book is accepted, or refused there or later.
pub read_refused :
    {book t : List ℕ} {r : Reply} {t' : List ℕ} → BookRead book t r t' → {p : ℕ} {kind : Kind} {a b v : ℕ}
    → Memᴰ (Item.said p kind a b v) (items_of book) → (r.number ≡ 0) ⊎ (p ≤ r.place) → v ≤ 1
    → Below r.session.classes (fact_of a b v)
    → (((r.number ≢ 0) × (r.place ≡ p)) ↔ Impossible r.session.classes (SaidBefore book p with fact_of a b v))
    × (r.number ≢ 0 → r.place ≡ p → r.number ≡ 6)
read_refused {book} {t} {r} {t'} h {p} {kind} {a} {b} {v} i came right below =
    ((λ z. (there z.0 z.1).1, back), λ ne e. (there ne e).0)
  where
    n : ℕ
    n = r.session.classes

    f : Fact
    f = fact_of a b v

    items : List Item
    items = items_of book

    same : (x : Item) → Memᴰ x items → rank x ≡ 2 * p → x ≡ Item.said p kind a b v
    same x j e = rank_once 0 items (book_rises book) x (Item.said p kind a b v) j i e

    stopped :
        r.place ≡ p → Stopped book items r.number r.place r.session t'
        → First (fact_refusals r.session t' a b v) r.number
    stopped e (Stopped.at_field j _ _) =
        absurd
        (subst (λ (x : Item). Says x f) (sym (same (Item.head r.place Begun (drop r.place book)) j (omega arith)))
        refl)
    stopped e (Stopped.at_fact {kind = k} {a = a₁} {b = b₁} {v = v₁} j _ first) =
        subst (Judged r.session t' r.number) (same (Item.said r.place k a₁ b₁ v₁) j (omega arith)) first

    judged : r.number ≢ 0 → r.place ≡ p → ReadAs book t r t' → First (fact_refusals r.session t' a b v) r.number
    judged ne e (ReadAs.not_begun _ _ s _ _) =
        absurd (omega (arith, below.lower_below, ap (λ (x : Session). x.classes) s))
    judged ne e (ReadAs.whole z _ _ _) = absurd (ne z)
    judged ne e (ReadAs.cut _ _ _ stop) = stopped e stop

    there : r.number ≢ 0 → r.place ≡ p → (r.number ≡ 6) × Impossible n (SaidBefore book p with f)
    there ne e =
        let q = stands_against h right below (judged ne e (read_run h)) ne in
        (q.0, subst (λ (place : ℕ). Impossible n (SaidBefore book place with f)) e q.1)

    past : (r.number ≡ 0) ⊎ (p < r.place) → (SaidBefore book p with f) ⊆ FactsTaken book r
    past z g (inl j) =
        let q = said_by (items_before p items) g j in
        let x = before_there p items q.0 q.1 in
        says_fact (taken r.number r.place items) g q.0
        (past_taken r.number r.place p items z q.0 x.0 (omega (arith, x.1))) q.2
    past z g (inr e) =
        says_fact (taken r.number r.place items) g (Item.said p kind a b v)
        (past_taken r.number r.place p items z (Item.said p kind a b v) i (omega arith)) e

    not_past : Impossible n (SaidBefore book p with f) → (r.number ≡ 0) ⊎ (p < r.place) → ⊥
    not_past x z = possible_not (possible_subset (past z) (read_possible h)) x

    back : Impossible n (SaidBefore book p with f) → (r.number ≢ 0) × (r.place ≡ p)
    back x = (λ z. not_past x (inl z), stable (ℕ_discrete r.place p) (λ z. not_past x (later came z)))
      where
        later : (r.number ≡ 0) ⊎ (p ≤ r.place) → r.place ≢ p → (r.number ≡ 0) ⊎ (p < r.place)
        later (inl e) z = inl e
        later (inr l) z = inr (omega arith)

-- a field that is not refused; a fact with a right verdict on classes below n
abbrev pub RightItem : ℕ → Item → Type 0
RightItem n (Item.head p stage bytes) = First (field_refusals stage bytes) 0
RightItem n (Item.begin p count) = Unit {0}
RightItem n (Item.said p kind a b v) = (v ≤ 1) × Below n (fact_of a b v)

-- a book with a right class count, right fields and verdicts, and classes below the count is accepted whole exactly
-- when some order agrees with all the facts that it says
pub read_whole :
    {book t : List ℕ} {r : Reply} {t' : List ℕ} → BookRead book t r t' → CountAccepted book t
    → ((x : Item) → Memᴰ x (items_of book) → RightItem (get_or book 3 0) x)
    → (r.number ≡ 0) ↔ Possible (get_or book 3 0) (Listed (facts_said (items_of book)))
read_whole {book} {t} {r} {t'} h begun fine =
    (λ e. subst All count (rw e at (read_possible h)), λ x. go (subst All (sym count) x) (read_run h))
  where
    items : List Item
    items = items_of book

    count : r.session.classes ≡ get_or book 3 0
    count = read_count h begun

    All : ℕ → Type 1
    All n = Possible n (Listed (facts_said items))

    stopped :
        All r.session.classes → r.number ≢ 0 → Stopped book items r.number r.place r.session t'
        → ⊥
    stopped x ne (Stopped.at_field i q first) =
        ne
        (first_unique (field_refusals Begun (drop r.place book)) r.number 0 first
        (fine (Item.head r.place Begun (drop r.place book)) i))
    stopped x ne (Stopped.at_fact {kind = kind} {a = a} {b = b} {v = v} i q first) =
        let ok = fine (Item.said r.place kind a b v) i in
        possible_not (possible_subset all x)
        (stands_against h ok.0 (subst (λ (n : ℕ). Below n (fact_of a b v)) (sym count) ok.1) first ne).1
      where
        all : (SaidBefore book r.place with fact_of a b v) ⊆ Listed (facts_said items)
        all g (inl j) =
            let y = said_by (items_before r.place items) g j in
            says_fact items g y.0 (before_there r.place items y.0 y.1).0 y.2
        all g (inr e) = says_fact items g (Item.said r.place kind a b v) i e

    go : All r.session.classes → ReadAs book t r t' → r.number ≡ 0
    go x (ReadAs.not_begun _ _ _ _ why) = no_count begun why
    go x (ReadAs.whole e _ _ _) = e
    go x (ReadAs.cut ne _ _ stop) = absurd (stopped x ne stop)
