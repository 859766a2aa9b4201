-- Reading a book: one outcome for each input, and what two readings on two tables have in common; what was read is a
-- run from fresh of the facts said, all of them or those before the place; a refusal says where and why.
-- Assumes nothing.
use mathlib.Core.Path.{◌≡◌, refl, sym, ◌∙◌, ap, subst}
use mathlib.Core.Logic.{◌≢◌, inl, inr}
use mathlib.Core.List.{List, [], ◌∷◌, Memᴰ}
use Prim.Native.Nat.{ℕ, suc, ◌+◌, ◌*◌, ◌≤◌, ◌<◌}
use native.Mathlib.Decide.{ℕ_discrete, dec_lt}
use native.Mathlib.Omega.{arith}
use lib.ListN.{get_or, drop}
use Rattle.order.specs.Facts.{Fact}
use Rattle.promise.specs.Refusals.{Condition, First, bad_verdict}
use Rattle.promise.proofs.Refusals.{first_unique, stage as judge}
use Rattle.promise.specs.declared.Stage.{Stage}
use Rattle.promise.specs.declared.Stage.TheVariants.{Start, Begun}
use Rattle.promise.specs.declared.Session.{Session}
use Rattle.promise.specs.declared.Reply.{Reply}
use Rattle.promise.specs.Calls.{no_session, reply, Owed}
use Rattle.promise.specs.declared.Kind.{Kind}
use Rattle.promise.specs.Tell.{fresh_refusals, fresh, tell_refusals, tell}
use Rattle.promise.specs.Runs.{Intake, Made, Run, FromFresh}
use Rattle.promise.specs.Book.{field_refusals, Item, items_of, fact_of, Ends, GoesOn, Follows, BookRead}
use Rattle.promise.proofs.Standing.{Stands, stands_first}
use Rattle.promise.proofs.Calls.{Keeps, unique_keeps, changes_kept}
use Rattle.promise.proofs.Fresh.{fresh_unique, fresh_there, fresh_stands}
use Rattle.promise.proofs.Taking.{stands_of, leaves_keeps}
use Rattle.promise.proofs.Tell.{tell_unique, tell_there, tell_leaves}
use Rattle.promise.proofs.Tags.{field_there}
use Rattle.promise.proofs.Book.{FieldAt, SaidAt, rank, Rises, Later, CountFirst}
use Rattle.promise.proofs.Book.{Whole, items_whole}

-- Two readings of one book on two tables: what fresh, tell and answer keep, replying the same on both, holds in the end
-- if it held at the start, and the replies are equal.
module _ (Kept : Session → List ℕ → List ℕ → Type 0) where
  ends_both :
      {r r₂ : Reply} {u u₂ : List ℕ} {k p : ℕ} {s : Session} {t t₂ : List ℕ} → Kept s t t₂ → Ends k p s t r u
      → Ends k p s t₂ r₂ u₂ → (r ≡ r₂) × Kept r.session u u₂
  ends_both kept e e₂ = (e.0 ∙ sym e₂.0, rw (e.0, e.1, e₂.1) kept)

  -- judged with one number
  goes_both :
      (k p : ℕ) {s : Session} {t t₂ u u₂ : List ℕ} {r r₂ : Reply} {L L₂ : Type 0} → Kept s t t₂
      → (L → L₂ → (r ≡ r₂) × Kept r.session u u₂) → GoesOn k p s t r u L → GoesOn k p s t₂ r₂ u₂ L₂
      → (r ≡ r₂) × Kept r.session u u₂
  goes_both k p kept later (inl h) (inl h₂) = ends_both kept h.1 h₂.1
  goes_both k p kept later (inl h) (inr h₂) = absurd (h.0 h₂.0)
  goes_both k p kept later (inr h) (inl h₂) = absurd (h₂.0 h.0)
  goes_both k p kept later (inr h) (inr h₂) = later h.1 h₂.1

  -- after a call, which replies the same
  made_both :
      (p : ℕ) {q q₂ r r₂ : Reply} {v v₂ u u₂ : List ℕ} (L : Session → List ℕ → Reply → List ℕ → Type 0)
      → (q ≡ q₂) × Kept q.session v v₂
      → (Kept q.session v v₂ → L q.session v r u → L q.session v₂ r₂ u₂ → (r ≡ r₂) × Kept r.session u u₂)
      → GoesOn q.number p q.session v r u (L q.session v r u)
      → GoesOn q₂.number p q₂.session v₂ r₂ u₂ (L q₂.session v₂ r₂ u₂) → (r ≡ r₂) × Kept r.session u u₂
  made_both p {q} {r₂ = r₂} {v₂ = v₂} {u₂ = u₂} L (e, kept) later h h₂ =
      goes_both q.number p kept (later kept) h
      (subst (λ (x : Reply). GoesOn x.number p x.session v₂ r₂ u₂ (L x.session v₂ r₂ u₂)) (sym e) h₂)

  module _
      (fresh_keeps : (n : ℕ) → Keeps Kept (λ _ t. fresh n t))
      (tell_keeps : (kind : Kind) (f : Fact) → Keeps Kept (λ s t. tell kind s t f)) where
    follows_both :
        (items : List Item) (s : Session) (t t₂ : List ℕ) {r r₂ : Reply} {u u₂ : List ℕ} → Kept s t t₂
        → Follows items s t r u → Follows items s t₂ r₂ u₂ → (r ≡ r₂) × Kept r.session u u₂
    follows_both [] s t t₂ kept h h₂ = ends_both kept h h₂
    follows_both (Item.head p stage bytes ∷ items) s t t₂ {r₂ = r₂} {u₂ = u₂} kept h h₂ =
        goes_both h.0 p kept (follows_both items s t t₂ kept) h.2
        (subst (λ (k : ℕ). GoesOn k p s t₂ r₂ u₂ (Follows items s t₂ r₂ u₂))
        (first_unique (field_refusals stage bytes) h₂.0 h.0 h₂.1 h.1) h₂.2)
    follows_both (Item.begin p n ∷ items) s t t₂ kept h h₂ =
        made_both p (Follows items) ((fresh_keeps n).both s t t₂ kept h.2 h₂.2)
        (follows_both items h.0.session h.1 h₂.1) h.3 h₂.3
    follows_both (Item.said p kind a b v ∷ items) s t t₂ {r₂ = r₂} {u₂ = u₂} kept h h₂ =
        goes_both h.0 p kept
        (λ l l₂.
        made_both p (Follows items) ((tell_keeps kind (fact_of a b v)).both s t t₂ kept l.2 l₂.2)
        (follows_both items l.0.session l.1 l₂.1) l.3 l₂.3)
        h.2
        (subst
        (λ (k : ℕ).
        GoesOn k p s t₂ r₂ u₂
        ((r₁ : Reply) × (t₁ : List ℕ) × Owed (tell kind s t₂ (fact_of a b v)) (r₁, t₁)
        × GoesOn r₁.number p r₁.session t₁ r₂ u₂ (Follows items r₁.session t₁ r₂ u₂)))
        (first_unique (bad_verdict v ∷ []) h₂.0 h.0 h₂.1 h.1) h₂.2)

    pub read_both :
        {book t t₂ : List ℕ} {r r₂ : Reply} {u u₂ : List ℕ} → Kept no_session t t₂ → BookRead book t r u
        → BookRead book t₂ r₂ u₂ → (r ≡ r₂) × Kept r.session u u₂
    read_both {book} {t} {t₂} kept h h₂ =
        follows_both (items_of book) no_session t t₂ kept h.followed h₂.followed

-- one outcome at most
pub read_unique :
    {book t : List ℕ} {r r₂ : Reply} {t' t₂ : List ℕ} → BookRead book t r t' → BookRead book t r₂ t₂
    → (r ≡ r₂) × (t' ≡ t₂)
read_unique =
    read_both (λ s t t₂. t ≡ t₂) (λ n. unique_keeps (λ _ t. fresh n t) (λ s t o o₂. fresh_unique))
    (λ kind f. unique_keeps (λ s t. tell kind s t f) (λ s t o o₂. tell_unique kind))
    refl

-- one at least

abbrev Following : List Item → Type 0
Following items = (s : Session) (t : List ℕ) → (r : Reply) × (t' : List ℕ) × Follows items s t r t'

-- judged with a number
unfoldable pub goes_there :
    (k p : ℕ) (s : Session) (t : List ℕ) (L : Reply → List ℕ → Type 0)
    → (k ≡ 0 → (r : Reply) × (t' : List ℕ) × L r t') → (r : Reply) × (t' : List ℕ) × GoesOn k p s t r t' (L r t')
goes_there k p s t L later = go (ℕ_discrete k 0)
  where
    go : Dec (k ≡ 0) → (r : Reply) × (t' : List ℕ) × GoesOn k p s t r t' (L r t')
    go (yes e) = let x = later e in (x.0, x.1, inr (e, x.2))
    go (no e) = (reply k p s, t, inl (e, (refl, refl)))

-- a verdict is judged
unfoldable pub verdict_there : (v : ℕ) → (k : ℕ) × First (bad_verdict v ∷ []) k
verdict_there v = judge 14 (dec_lt 1 v) (λ _. (0, refl))

-- after a call that has an outcome
unfoldable pub made_there :
    (C : Reply × List ℕ → Type 0) (o : Reply × List ℕ) → C o → (p : ℕ) (L : Session → List ℕ → Reply → List ℕ → Type 0)
    → ((s : Session) (t : List ℕ) → (r : Reply) × (t' : List ℕ) × L s t r t')
    → (r : Reply) × (t' : List ℕ) × ((r₁ : Reply) × (t₁ : List ℕ) × C (r₁, t₁)
    × GoesOn r₁.number p r₁.session t₁ r t' (L r₁.session t₁ r t'))
made_there C (q, u) h p L later =
    let x = goes_there q.number p q.session u (L q.session u) (λ _. later q.session u) in
    (x.0, x.1, (q, u, h, x.2))

unfoldable pub follows_there : (items : List Item) → Following items
follows_there [] s t = (reply 0 0 s, t, (refl, refl))
follows_there (Item.head p stage bytes ∷ items) s t =
    let k = field_there stage bytes in
    let x = goes_there k.0 p s t (Follows items s t) (λ _. follows_there items s t) in
    (x.0, x.1, (k.0, k.1, x.2))
follows_there (Item.begin p n ∷ items) s t =
    let q = fresh_there n t in made_there (Owed (fresh n t)) q.0 q.1 p (Follows items) (follows_there items)
follows_there (Item.said p kind a b v ∷ items) s t =
    let k = verdict_there v in
    let q = tell_there kind s t (fact_of a b v) in
    let x =
    goes_there k.0 p s t
    (λ r t'.
    (r₁ : Reply) × (t₁ : List ℕ) × Owed (tell kind s t (fact_of a b v)) (r₁, t₁)
    × GoesOn r₁.number p r₁.session t₁ r t' (Follows items r₁.session t₁ r t'))
    (λ _. made_there (Owed (tell kind s t (fact_of a b v))) q.0 q.1 p (Follows items) (follows_there items))
    in
    (x.0, x.1, (k.0, k.1, x.2))

unfoldable pub read_there : (book t : List ℕ) → (r : Reply) × (t' : List ℕ) × BookRead book t r t'
read_there book t = let q = follows_there (items_of book) no_session t in (q.0, q.1, record { followed = q.2 })

-- What was read is a run.

-- the facts said, as calls that were accepted
abbrev pub calls_said : List Item → List Made
calls_said [] = []
calls_said (Item.head p stage bytes ∷ items) = calls_said items
calls_said (Item.begin p n ∷ items) = calls_said items
calls_said (Item.said p kind a b v ∷ items) =
    record { call = Intake.fact kind (fact_of a b v); number = 0 } ∷ calls_said items

abbrev pub place_of : Item → ℕ
place_of (Item.head p stage bytes) = p
place_of (Item.begin p n) = p
place_of (Item.said p kind a b v) = p

abbrev pub if_before : {A : Type 0} → Dec A → Item → List Item → List Item
if_before (yes h) item items = item ∷ items
if_before (no h) item items = items

-- the items before a place
abbrev pub items_before : ℕ → List Item → List Item
items_before place [] = []
items_before place (item ∷ items) = if_before (dec_lt (place_of item) place) item (items_before place items)

-- "each fact 14, 5, 6": its verdict, and then as tell and answer refuse it, with session s and table t
abbrev pub fact_refusals : Session → List ℕ → ℕ → ℕ → ℕ → List Condition
fact_refusals s t a b v = bad_verdict v ∷ tell_refusals s t (fact_of a b v)

-- Where a book is refused behind its class count, and why: at one of these items, a field at its tag byte, by its
-- bytes; or a fact at its first byte, by that fact and the session s and the table t that are left, those before it.
pub data Stopped (book : List ℕ) (items : List Item) (number place : ℕ) (s : Session) (t : List ℕ) : Type 0 where
  at_field :
      Memᴰ (Item.head place Begun (drop place book)) items → FieldAt book place Begun
      → First (field_refusals Begun (drop place book)) number → Stopped book items number place s t
  at_fact :
      {kind : Kind} {a b v : ℕ} → Memᴰ (Item.said place kind a b v) items → SaidAt book place kind a b v
      → First (fact_refusals s t a b v) number → Stopped book items number place s t

-- The items were followed from session s and table t: all, or those before the place.
pub data Followed (book : List ℕ) (items : List Item) (s : Session) (t : List ℕ) (r : Reply) (t' : List ℕ) : Type 0
  where
    all : r.number ≡ 0 → r.place ≡ 0 → Run s t (calls_said items) r.session t' → Followed book items s t r t'
    some :
        r.number ≢ 0 → Run s t (calls_said (items_before r.place items)) r.session t'
        → Stopped book items r.number r.place r.session t' → Followed book items s t r t'

-- one item more before it
stopped_later :
    {book : List ℕ} {items : List Item} {k p : ℕ} {s : Session} {t : List ℕ} (item : Item) → Stopped book items k p s t
    → Stopped book (item ∷ items) k p s t
stopped_later item (Stopped.at_field i q first) = Stopped.at_field (Memᴰ.tail i) q first
stopped_later item (Stopped.at_fact i q first) = Stopped.at_fact (Memᴰ.tail i) q first

-- an item that is not before the place
passed_over :
    (item : Item) (place : ℕ) (items : List Item) → place ≤ place_of item
    → items_before place (item ∷ items) ≡ items_before place items
passed_over item place items h = go (dec_lt (place_of item) place)
  where
    go : (d : Dec (place_of item < place)) → if_before d item (items_before place items) ≡ items_before place items
    go (yes z) = absurd (omega arith)
    go (no z) = refl

-- an item stands no earlier than its rank says
rank_place : (item : Item) → rank item ≤ 1 + 2 * place_of item
rank_place (Item.head p stage bytes) = omega arith
rank_place (Item.begin p n) = omega arith
rank_place (Item.said p kind a b v) = omega arith

pub none_before : (place at : ℕ) (items : List Item) → 2 * place ≤ at → Rises at items → items_before place items ≡ []
none_before place at [] h l = refl
none_before place at (item ∷ items) h l =
    passed_over item place items (omega (arith, l.0, rank_place item))
    ∙ none_before place (suc (rank item)) items (omega (arith, l.0)) l.1

-- the calls said by an item that is before the place, and by a field or a class count anywhere

one_before :
    (item : Item) (place : ℕ) (items : List Item) → place_of item < place
    → items_before place (item ∷ items) ≡ item ∷ items_before place items
one_before item place items h = go (dec_lt (place_of item) place)
  where
    go : (d : Dec (place_of item < place))
        → if_before d item (items_before place items) ≡ item ∷ items_before place items
    go (yes z) = refl
    go (no z) = absurd (z h)

field_calls :
    (p : ℕ) (stage : Stage) (bytes : List ℕ) (place : ℕ) (items : List Item)
    → calls_said (items_before place (Item.head p stage bytes ∷ items)) ≡ calls_said (items_before place items)
field_calls p stage bytes place items = go (dec_lt p place)
  where
    go :
        (d : Dec (p < place))
        → calls_said (if_before d (Item.head p stage bytes) (items_before place items))
        ≡ calls_said (items_before place items)
    go (yes z) = refl
    go (no z) = refl

count_calls :
    (p n place : ℕ) (items : List Item)
    → calls_said (items_before place (Item.begin p n ∷ items)) ≡ calls_said (items_before place items)
count_calls p n place items = go (dec_lt p place)
  where
    go :
        (d : Dec (p < place))
        → calls_said (if_before d (Item.begin p n) (items_before place items)) ≡ calls_said (items_before place items)
    go (yes z) = refl
    go (no z) = refl

-- the book stops at the first of these items, so that none of them was taken
stops_here :
    (book : List ℕ) (k p : ℕ) (items : List Item) {s : Session} {t : List ℕ} {r : Reply} {t' : List ℕ}
    → Rises (2 * p) items → k ≢ 0 → Stopped book items k p s t → Ends k p s t r t' → Followed book items s t r t'
stops_here book k p items {s} {t} l ne stop e =
    rw (e.0, e.1)
    (Followed.some ne
    (subst (λ (l : List Item). Run s t (calls_said l) s t) (sym (none_before p (2 * p) items (omega arith) l)) Run.stop)
    stop)

-- a verdict that is refused, and one that is not
verdict_refused : {v k : ℕ} → First (bad_verdict v ∷ []) k → k ≢ 0 → (1 < v) × (k ≡ 14)
verdict_refused (inl h) ne = h
verdict_refused (inr h) ne = absurd (ne h.1)

verdict_right : {v k : ℕ} → First (bad_verdict v ∷ []) k → k ≡ 0 → ¬ (1 < v)
verdict_right (inl h) e = absurd (omega (arith, h.1))
verdict_right (inr h) e = h.0

-- what follows an item, where the reading goes on
abbrev Onward : List ℕ → ℕ → List Item → Session → List ℕ → Reply → List ℕ → Type 0
Onward book at items s t r t' = (r.number ≢ 0 → at ≤ 2 * r.place) × Followed book items s t r t'

module _ (book : List ℕ) where
  field_run :
      (at p : ℕ) (stage : Stage) (bytes : List ℕ) (items : List Item) (s : Session) (t : List ℕ) {r : Reply}
      {t' : List ℕ} → at ≤ 2 * p
      → Onward book (suc (2 * p)) items s t r t' → Onward book at (Item.head p stage bytes ∷ items) s t r t'
  field_run at p stage bytes items s t {r} {t'} h (le, f) = (λ ne. omega (arith, le ne), go f)
    where
      go : Followed book items s t r t' → Followed book (Item.head p stage bytes ∷ items) s t r t'
      go (Followed.all z place run) = Followed.all z place run
      go (Followed.some z run stop) =
          Followed.some z
          (subst (λ (l : List Made). Run s t l r.session t') (sym (field_calls p stage bytes r.place items)) run)
          (stopped_later (Item.head p stage bytes) stop)

  fact_run :
      (at p : ℕ) (kind : Kind) (a b v : ℕ) (items : List Item) (s : Session) (t : List ℕ) {q r : Reply} {u t' : List ℕ}
      → at ≤ 2 * p → Owed (tell kind s t (fact_of a b v)) (q, u) → q.number ≡ 0
      → Onward book (suc (2 * p)) items q.session u r t'
      → Onward book at (Item.said p kind a b v ∷ items) s t r t'
  fact_run at p kind a b v items s t {q} {r} {u} {t'} h told k (le, f) = (λ ne. omega (arith, le ne), go f)
    where
      item : Item
      item = Item.said p kind a b v

      go : Followed book items q.session u r t' → Followed book (item ∷ items) s t r t'
      go (Followed.all z place run) = Followed.all z place (Run.call told k run)
      go (Followed.some z run stop) =
          Followed.some z
          (subst (λ (l : List Item). Run s t (calls_said l) r.session t')
          (sym (one_before item r.place items (omega (arith, le z))))
          (Run.call told k run))
          (stopped_later item stop)

  follows_run :
      (at : ℕ) (items : List Item) (s : Session) (t : List ℕ) {r : Reply} {t' : List ℕ} → Rises at items
      → Later book items → Stands s t → Follows items s t r t' → Onward book at items s t r t'
  follows_run at [] s t rise l st h = rw (h.0, h.1) (λ z. absurd (z refl), Followed.all refl refl Run.stop)
  follows_run at (Item.begin p n ∷ items) s t rise l st h = absurd l
  follows_run at (Item.head p stage bytes ∷ items) s t rise l st (k, first, inl (ne, e)) = (
    λ _. rw e.0 rise.0,
    stops_here book k p (Item.head p stage bytes ∷ items) (omega arith, rise.1) ne
        (Stopped.at_field (rw (← l.0, ← l.1) (Memᴰ.head refl)) l.2
        (rw (← l.0, ← l.1) first)) e,
  )
  follows_run at (Item.head p stage bytes ∷ items) s t rise l st (k, first, inr (z, later)) =
      field_run at p stage bytes items s t rise.0
      (follows_run (suc (2 * p)) items s t rise.1 (l.3 (rw z at first)) st later)
  follows_run at (Item.said p kind a b v ∷ items) s t rise l st (k, first, inl (ne, e)) = (
    λ _. rw e.0 rise.0,
    stops_here book k p (Item.said p kind a b v ∷ items) (omega arith, rise.1) ne
        (Stopped.at_fact (Memᴰ.head refl) l.0 (inl (verdict_refused first ne))) e,
  )
  follows_run at (Item.said p kind a b v ∷ items) s t rise l st (k, first, inr (z, (q, u, told, inl (ne, e)))) =
      let kept = changes_kept told ne in (
        λ _. rw e.0 rise.0,
        stops_here book q.number p (Item.said p kind a b v ∷ items) (omega arith, rise.1) ne
            (Stopped.at_fact (Memᴰ.head refl) l.0
            (inr (verdict_right first z, stands_first (tell_refusals s t (fact_of a b v)) st told.number)))
            (rw (kept.0, kept.1) at e),
      )
  follows_run at (Item.said p kind a b v ∷ items) s t rise l st (k, first, inr (z, (q, u, told, inr (y, later)))) =
      fact_run at p kind a b v items s t rise.0 told y
      (follows_run (suc (2 * p)) items q.session u rise.1 l.1
      (leaves_keeps (tell_leaves kind told y) st) later)

-- Why no class count was accepted: the first field is refused, or it is not and fresh refuses the class count.
pub data NoCount (book t : List ℕ) (number : ℕ) : Type 0 where
  at_field : First (field_refusals Start book) number → NoCount book t number
  at_count :
      First (field_refusals Start book) 0 → First (fresh_refusals (get_or book 3 0) t) number → NoCount book t number

-- What a reading comes to. No class count was accepted, and table and session show it; or a run from fresh for the
-- book's class count, with all the facts said, in order; or with those before the place.
pub data ReadAs (book t : List ℕ) (r : Reply) (t' : List ℕ) : Type 0 where
  not_begun :
      r.number ≢ 0 → r.place ≡ 0 → r.session ≡ no_session → t' ≡ t → NoCount book t r.number → ReadAs book t r t'
  whole :
      r.number ≡ 0 → r.place ≡ 0 → First (field_refusals Start book) 0
      → FromFresh (get_or book 3 0) t (calls_said (items_of book)) r.session t' → ReadAs book t r t'
  cut :
      r.number ≢ 0 → First (field_refusals Start book) 0
      → FromFresh (get_or book 3 0) t (calls_said (items_before r.place (items_of book))) r.session t'
      → Stopped book (items_of book) r.number r.place r.session t' → ReadAs book t r t'

pub read_run : {book t : List ℕ} {r : Reply} {t' : List ℕ} → BookRead book t r t' → ReadAs book t r t'
read_run {book} {t} {r} {t'} h = go (items_of book) (items_whole book) h.followed refl
  where
    -- behind the first field, which is right
    counted :
        (p₀ : ℕ) (stage : Stage) (bytes : List ℕ) (items : List Item) → First (field_refusals Start book) 0
        → CountFirst book items → Follows items no_session t r t'
        → items_of book ≡ Item.head p₀ stage bytes ∷ items → ReadAs book t r t'
    counted p₀ stage bytes [] right c f e = absurd c
    counted p₀ stage bytes (Item.head p st b ∷ items) right c f e = absurd c
    counted p₀ stage bytes (Item.said p kind a b v ∷ items) right c f e = absurd c
    counted p₀ stage bytes (Item.begin p n ∷ items) right c (q, u, begun, inl (k, x)) e =
        let kept = changes_kept begun k in
        rw x.0
        (ReadAs.not_begun k c.0 kept.0 (x.1 ∙ kept.1) (NoCount.at_count right (rw c.1 at begun.number)))
    counted p₀ stage bytes (Item.begin p n ∷ items) right c (q, u, begun, inr (k, x)) e =
        let stands = stands_of (fresh_stands begun k) in
        came (follows_run book 2 items q.session u c.2 c.3 stands x).1
      where
        from_fresh :
            {calls : List Made} → Run q.session u calls r.session t'
            → FromFresh (get_or book 3 0) t calls r.session t'
        from_fresh run = record { reply = q; table = u; began = rw c.1 at begun; accepted = k; run = run }

        came : Followed book items q.session u r t' → ReadAs book t r t'
        came (Followed.all z place run) = ReadAs.whole z place right (from_fresh (rw e run))
        came (Followed.some z run stop) =
            ReadAs.cut z right
            (from_fresh
            (subst (λ (l : List Made). Run q.session u l r.session t')
            (sym
            (ap (λ (l : List Item). calls_said (items_before r.place l)) e
            ∙ field_calls p₀ stage bytes r.place (Item.begin p n ∷ items) ∙ count_calls p n r.place items))
            run))
            (subst (λ (l : List Item). Stopped book l r.number r.place r.session t') (sym e)
            (stopped_later (Item.head p₀ stage bytes) (stopped_later (Item.begin p n) stop)))

    go : (items : List Item) → Whole book items → Follows items no_session t r t' → items_of book ≡ items
        → ReadAs book t r t'
    go [] w f e = absurd w
    go (Item.begin p n ∷ items) w f e = absurd w
    go (Item.said p kind a b v ∷ items) w f e = absurd w
    go (Item.head p stage bytes ∷ items) w (k, first, inl (ne, x)) e =
        rw x.0 (ReadAs.not_begun ne w.0 refl x.1 (NoCount.at_field (rw (w.1, w.2) at first)))
    go (Item.head p stage bytes ∷ items) w (k, first, inr (z, later)) e =
        let right = rw z at first in
        counted p stage bytes items (rw (w.1, w.2) at right) (w.3 right) later e
