-- Refused books in the words of document 01: where each number stands, that 3 and 4 never come up, and what is left
-- where no class count was accepted; and that reading writes the n*n marks alone.
-- Assumes nothing.
use mathlib.Core.Path.{◌≡◌, refl}
use mathlib.Core.Logic.{◌≢◌, ◌⊎◌, inl, inr, ⊎_elim}
use mathlib.Core.List.{List, [], ◌∷◌}
use Prim.Native.Nat.{ℕ, ◌≤◌, ◌<◌}
use native.Mathlib.Omega.{arith}
use lib.ListN.{length, get_or, drop}
use Rattle.order.specs.Tables.{SameRest}
use Rattle.order.proofs.Bytes.{rest_refl}
use Rattle.promise.specs.Refusals.{First}
use Rattle.promise.proofs.Refusals.{first_unique}
use Rattle.promise.specs.declared.Stage.{Stage}
use Rattle.promise.specs.declared.Stage.TheVariants.{Start, Begun}
use Rattle.promise.specs.declared.Session.{Session}
use Rattle.promise.specs.declared.Reply.{Reply}
use Rattle.promise.specs.Calls.{no_session}
use Rattle.promise.specs.declared.Kind.{Kind}
use Rattle.promise.specs.Tell.{fresh_refusals}
use Rattle.promise.specs.Book.{field_refusals, items_of, BookRead}
use Rattle.promise.proofs.Fresh.{fresh_numbers}
use Rattle.promise.proofs.Runs.{fresh_run_classes, fresh_run_rest}
use Rattle.promise.proofs.Tags.{field_numbers, facts_width}
use Rattle.promise.proofs.Book.{FieldAt, field_within, ends_within, SaidAt}
use Rattle.promise.proofs.Read.{fact_refusals, Stopped, NoCount, ReadAs, read_run}

-- "the place (the tag byte's index for 1, 2 and 10 to 13, the fact's first byte for 5, 6, 14; 0 when empty)"
pub data PlaceOf (book : List ℕ) (number place : ℕ) : Type 0 where
  tag_byte :
      {stage : Stage} → (number ≡ 1) ⊎ (number ≡ 2) ⊎ ((10 ≤ number) × (number ≤ 13)) → FieldAt book place stage
      → PlaceOf book number place
  first_byte :
      {kind : Kind} {a b v : ℕ} → (number ≡ 5) ⊎ (number ≡ 6) ⊎ (number ≡ 14) → SaidAt book place kind a b v
      → PlaceOf book number place
  empty : book ≡ [] → number ≡ 12 → place ≡ 0 → PlaceOf book number place

fact_numbers :
    (s : Session) (t : List ℕ) (a b v k : ℕ) → First (fact_refusals s t a b v) k → k ≢ 0
    → (k ≡ 5) ⊎ (k ≡ 6) ⊎ (k ≡ 14)
fact_numbers s t a b v k (inl (_, e)) ne = inr (inr e)
fact_numbers s t a b v k (inr (_, inl (_, e))) ne = inl e
fact_numbers s t a b v k (inr (_, inr (_, inl (_, e)))) ne = inr (inl e)
fact_numbers s t a b v k (inr (_, inr (_, inr (_, e)))) ne = absurd (ne e)

-- at the first field
first_place : (book t : List ℕ) (k : ℕ) → k ≢ 0 → NoCount book t k → PlaceOf book k 0
first_place [] t k ne (NoCount.at_field (inl h)) = PlaceOf.empty refl h.1 refl
first_place [] t k ne (NoCount.at_field (inr h)) = absurd (h.0 refl)
first_place [] t k ne (NoCount.at_count (inl h) c) = absurd (omega (arith, h.1))
first_place [] t k ne (NoCount.at_count (inr h) c) = absurd (h.0 refl)
first_place (tag ∷ bytes) t k ne (NoCount.at_field first) =
    PlaceOf.tag_byte (inr (inr (field_numbers Start (tag ∷ bytes) k first ne))) (FieldAt.start (omega arith))
first_place (tag ∷ bytes) t k ne (NoCount.at_count right first) =
    PlaceOf.tag_byte
    (⊎_elim (λ e. inl e) (λ e. inr (inl e)) (fresh_numbers (get_or (tag ∷ bytes) 3 0) t k first ne))
    (FieldAt.start (omega arith))

pub read_places :
    {book t : List ℕ} {r : Reply} {t' : List ℕ} → BookRead book t r t' → r.number ≢ 0
    → PlaceOf book r.number r.place
read_places {book} {t} {r} {t'} h ne = go (read_run h)
  where
    stopped : Stopped book (items_of book) r.number r.place r.session t' → PlaceOf book r.number r.place
    stopped (Stopped.at_field _ q first) =
        PlaceOf.tag_byte (inr (inr (field_numbers Begun (drop r.place book) r.number first ne))) q
    stopped (Stopped.at_fact {a = a} {b = b} {v = v} _ q first) =
        PlaceOf.first_byte (fact_numbers r.session t' a b v r.number first ne) q

    go : ReadAs book t r t' → PlaceOf book r.number r.place
    go (ReadAs.not_begun _ p s u why) = rw p (first_place book t r.number ne why)
    go (ReadAs.whole e p right run) = absurd (ne e)
    go (ReadAs.cut _ right run stop) = stopped stop

-- the place of a refusal is an index into the book, or 0 where it is empty
pub read_place :
    {book t : List ℕ} {r : Reply} {t' : List ℕ} → BookRead book t r t' → r.number ≢ 0
    → (r.place < length book) ⊎ ((book ≡ []) × (r.place ≡ 0))
read_place {book} h ne = go (read_places h ne)
  where
    go : {k p : ℕ} → PlaceOf book k p → (p < length book) ⊎ ((book ≡ []) × (p ≡ 0))
    go (PlaceOf.tag_byte k q) = inl (field_within q)
    go (PlaceOf.first_byte k q) =
        inl (omega (arith, q.to, facts_width q.tag, ends_within book q.field Begun q.right))
    go (PlaceOf.empty e k p) = inr (e, p)

-- "Numbers 3 and 4 can't come up in reading."
pub read_numbers : {book t : List ℕ} {r : Reply} {t' : List ℕ} → BookRead book t r t'
    → (r.number ≢ 3) × (r.number ≢ 4)
read_numbers {book} {r = r} h = (λ e. (at 3 e (omega arith)).0 e, λ e. (at 4 e (omega arith)).1 e)
  where
    go : {k p : ℕ} → PlaceOf book k p → (k ≢ 3) × (k ≢ 4)
    go (PlaceOf.tag_byte (inl k) q) = omega arith
    go (PlaceOf.tag_byte (inr (inl k)) q) = omega arith
    go (PlaceOf.tag_byte (inr (inr k)) q) = (λ e. omega arith, λ e. omega arith)
    go (PlaceOf.first_byte (inl k) q) = omega arith
    go (PlaceOf.first_byte (inr (inl k)) q) = omega arith
    go (PlaceOf.first_byte (inr (inr k)) q) = omega arith
    go (PlaceOf.empty e k p) = omega arith

    at : (k : ℕ) → r.number ≡ k → 0 < k → (r.number ≢ 3) × (r.number ≢ 4)
    at k e some = go (read_places h (λ z. omega arith))

-- "Bytes from n*n on are never … written", and the length stays: no byte is written where no class count was accepted
pub read_rest : {book t : List ℕ} {r : Reply} {t' : List ℕ} → BookRead book t r t' → SameRest r.session.classes t t'
read_rest {book} {t} {r} {t'} h = go (read_run h)
  where
    go : ReadAs book t r t' → SameRest r.session.classes t t'
    go (ReadAs.not_begun _ p s u _) = rw u (rest_refl t)
    go (ReadAs.whole _ _ _ run) = rw (fresh_run_classes run) (fresh_run_rest run)
    go (ReadAs.cut _ _ run _) = rw (fresh_run_classes run) (fresh_run_rest run)

-- a class count is accepted: the first field is right, and fresh does not refuse the count
abbrev pub CountAccepted : List ℕ → List ℕ → Type 0
CountAccepted book t = First (field_refusals Start book) 0 × First (fresh_refusals (get_or book 3 0) t) 0

pub no_count : {book t : List ℕ} {k : ℕ} → CountAccepted book t → NoCount book t k → k ≡ 0
no_count {book} {t} {k} (right, begun) (NoCount.at_field f) = first_unique (field_refusals Start book) k 0 f right
no_count {book} {t} {k} (right, begun) (NoCount.at_count _ f) =
    first_unique (fresh_refusals (get_or book 3 0) t) k 0 f begun

-- then it is that of the session, whatever else is refused
pub read_count :
    {book t : List ℕ} {r : Reply} {t' : List ℕ} → BookRead book t r t' → CountAccepted book t
    → r.session.classes ≡ get_or book 3 0
read_count {book} {t} {r} {t'} h begun = go (read_run h)
  where
    go : ReadAs book t r t' → r.session.classes ≡ get_or book 3 0
    go (ReadAs.not_begun ne p s u why) = absurd (ne (no_count begun why))
    go (ReadAs.whole _ _ _ run) = fresh_run_classes run
    go (ReadAs.cut _ _ run _) = fresh_run_classes run

-- "If no class count was accepted the table is untouched and the session is n 0, tally 0."
pub read_no_count :
    {book t : List ℕ} {r : Reply} {t' : List ℕ} → BookRead book t r t' → ¬ CountAccepted book t
    → (r.session ≡ no_session) × (t' ≡ t)
read_no_count {book} {t} {r} {t'} h none = go (read_run h)
  where
    go : ReadAs book t r t' → (r.session ≡ no_session) × (t' ≡ t)
    go (ReadAs.not_begun _ p s u _) = (s, u)
    go (ReadAs.whole _ _ right run) = absurd (none (right, rw run.accepted at run.began.number))
    go (ReadAs.cut _ right run _) = absurd (none (right, rw run.accepted at run.began.number))
