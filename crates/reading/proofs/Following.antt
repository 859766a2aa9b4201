-- Items followed one part after the other: a part that was refused ends the reading, and one that was not leads on to
-- the rest.
-- Assumes nothing.
use mathlib.Core.Path.{◌≡◌, refl, sym, ◌∙◌, ap, subst}
use mathlib.Core.Logic.{◌≢◌, inl, inr}
use mathlib.Core.Bool.{Bool, true}
use mathlib.Core.List.{List, [], ◌∷◌, ◌++◌}
use Prim.Native.Nat.{ℕ, zero, suc, ◌+◌, ◌%◌, ◌≤◌, ◌<◌}
use native.Mathlib.Omega.{arith}
use borrow.Author.Tests.{eqb-true}
use lib.Dec.{eqb}
use lib.ListN.{get_or, drop}
use Rattle.std.proofs.Common.{Result, Ok, Err, MatchResult}
use Rattle.order.specs.Facts.{fact_on}
use Rattle.promise.specs.Refusals.{First, number_of, standing}
use Rattle.promise.specs.declared.Refusal.{Refusal}
use Rattle.promise.specs.declared.RefusedBook.{RefusedBook}
use Rattle.promise.specs.declared.Stage.{Stage}
use Rattle.promise.specs.declared.Stage.TheVariants.{Start, Begun}
use Rattle.promise.specs.declared.Session.{Session}
use Rattle.promise.specs.declared.Reply.{Reply}
use Rattle.promise.specs.declared.Kind.{Kind}
use Rattle.promise.specs.Calls.{no_session, reply, reply_of, Owed}
use Rattle.promise.specs.Clips.{truth_of}
use Rattle.promise.specs.Tell.{fresh, tell}
use Rattle.promise.specs.Book.{length_of, field_refusals, Item, fact_of, Follows, reply_of_read}
use Rattle.promise.proofs.Answers.{number_positive}
use Rattle.promise.proofs.Standing.{stood, first_stands}
use Rattle.promise.proofs.Fresh.{fresh_stands}
use Rattle.promise.proofs.Taking.{leaves_keeps}
use Rattle.promise.proofs.Tell.{tell_leaves}
use Rattle.reading.specs.declared.tags.Facts.{Facts}
use Rattle.reading.specs.declared.tags.Contents.{Contents}
use Rattle.reading.specs.Parts.{width_of, FieldRight, stands_at, facts_at, said_at, field_at, placed_at, PartFollowed}

-- a refusal's number is not 0
pub some_number : (why : Refusal) → number_of why ≢ 0
some_number why = λ e. omega (arith, number_positive why)

-- a reply that a refusal gave has no number 0
refused_not : {k p : ℕ} {s : Session} {r : Reply} → k ≢ 0 → r ≡ reply k p s → r.number ≡ 0 → ⊥
refused_not ne e z = ne (sym (ap (λ (x : Reply). x.number) e) ∙ z)

module _ (rest : List Item) (r₁ r : Reply) (t₁ t' : List ℕ) (z : r₁.number ≡ 0) where
  pub follows_on :
      (items : List Item) (s : Session) (t : List ℕ) → Follows items s t r₁ t₁ → Follows rest r₁.session t₁ r t'
      → Follows (items ++ rest) s t r t'
  follows_on [] s t (e, u) h = rw (e, u) at h
  follows_on (Item.head p stage bytes ∷ items) s t (k, first, inl (ne, e)) h = absurd (refused_not ne e.0 z)
  follows_on (Item.head p stage bytes ∷ items) s t (k, first, inr (y, f)) h =
      (k, first, inr (y, follows_on items s t f h))
  follows_on (Item.begin p n ∷ items) s t (q, u, begun, inl (ne, e)) h = absurd (refused_not ne e.0 z)
  follows_on (Item.begin p n ∷ items) s t (q, u, begun, inr (y, f)) h =
      (q, u, begun, inr (y, follows_on items q.session u f h))
  follows_on (Item.said p kind a b v ∷ items) s t (k, first, inl (ne, e)) h = absurd (refused_not ne e.0 z)
  follows_on (Item.said p kind a b v ∷ items) s t (k, first, inr (y, (q, u, told, inl (ne, e)))) h =
      absurd (refused_not ne e.0 z)
  follows_on (Item.said p kind a b v ∷ items) s t (k, first, inr (y, (q, u, told, inr (x, f)))) h =
      (k, first, inr (y, (q, u, told, inr (x, follows_on items q.session u f h))))

module _ (rest : List Item) (r : Reply) (t' : List ℕ) (ne : r.number ≢ 0) where
  pub follows_stop :
      (items : List Item) (s : Session) (t : List ℕ) → Follows items s t r t' → Follows (items ++ rest) s t r t'
  follows_stop [] s t (e, u) = absurd (ne (ap (λ (x : Reply). x.number) e))
  follows_stop (Item.head p stage bytes ∷ items) s t (k, first, inl e) = (k, first, inl e)
  follows_stop (Item.head p stage bytes ∷ items) s t (k, first, inr (y, f)) =
      (k, first, inr (y, follows_stop items s t f))
  follows_stop (Item.begin p n ∷ items) s t (q, u, begun, inl e) = (q, u, begun, inl e)
  follows_stop (Item.begin p n ∷ items) s t (q, u, begun, inr (y, f)) =
      (q, u, begun, inr (y, follows_stop items q.session u f))
  follows_stop (Item.said p kind a b v ∷ items) s t (k, first, inl e) = (k, first, inl e)
  follows_stop (Item.said p kind a b v ∷ items) s t (k, first, inr (y, (q, u, told, inl e))) =
      (k, first, inr (y, (q, u, told, inl e)))
  follows_stop (Item.said p kind a b v ∷ items) s t (k, first, inr (y, (q, u, told, inr (x, f)))) =
      (k, first, inr (y, (q, u, told, inr (x, follows_stop items q.session u f))))

-- one item

pub bad_verdict_ends :
    {p a b v : ℕ} {kind : Kind} {s : Session} {t : List ℕ} → 1 < v
    → PartFollowed (Item.said p kind a b v ∷ []) s t (reply 14 p s) t
bad_verdict_ends l =
    record {
      follows = (14, inl (l, refl), inl (λ e. omega arith, (refl, refl)));
      stands = λ e. absurd (omega arith);
    }

-- a fact is taken as the code takes it: 1 is yes
pub fact_taken :
    {p a b v : ℕ} {kind : Kind} {s : Session} {t t' : List ℕ} (outcome : Result Session Refusal)
    → First (standing s t []) 0 → v ≤ 1
    → Owed (tell kind s t (fact_on a b (eqb v 1))) (reply_of s outcome, t')
    → PartFollowed (Item.said p kind a b v ∷ []) s t (reply_of_read (placed_at p s outcome)) t'
fact_taken {p} {a} {b} {v} {kind} {s} {t} {t'} outcome stands l h = go outcome told
  where
    yes_one : (v : ℕ) → v ≤ 1 → eqb v 1 ≡ truth_of v
    yes_one zero h = refl
    yes_one (suc zero) h = refl
    yes_one (suc (suc v)) h = absurd (omega arith)

    told : Owed (tell kind s t (fact_of a b v)) (reply_of s outcome, t')
    told =
        subst (λ (holds : Bool). Owed (tell kind s t (fact_on a b holds)) (reply_of s outcome, t')) (yes_one v l) h

    go :
        (outcome : Result Session Refusal) → Owed (tell kind s t (fact_of a b v)) (reply_of s outcome, t')
        → PartFollowed (Item.said p kind a b v ∷ []) s t (reply_of_read (placed_at p s outcome)) t'
    go (Ok new) told =
        record {
          follows = (0, inr (λ z. omega arith, refl), inr (refl, (_, t', told, inr (refl, (refl, refl)))));
          stands = λ _. first_stands [] (leaves_keeps (tell_leaves kind told refl) (stood s t 0 stands refl)) refl;
        }
    go (Err why) told =
        record {
          follows = (
            0,
            inr (λ z. omega arith, refl),
            inr (refl, (_, t', told, inl (some_number why, (refl, refl)))),
          );
          stands = λ z. absurd (some_number why z);
        }

pub count_taken :
    {p n : ℕ} {s : Session} {t t' : List ℕ} (outcome : Result Session Refusal)
    → Owed (fresh n t) (reply_of no_session outcome, t')
    → PartFollowed (Item.begin p n ∷ []) s t (reply_of_read (placed_at p no_session outcome)) t'
count_taken {t' = t'} (Ok new) h =
    record { follows = (_, t', h, inr (refl, (refl, refl))); stands = λ _. (fresh_stands h refl).stands }
count_taken {t' = t'} (Err why) h =
    record {
      follows = (_, t', h, inl (some_number why, (refl, refl)));
      stands = λ z. absurd (some_number why z);
    }

-- one field, by the outcome of what its head was read for

-- what the outcome gives
abbrev HeadOutcome : Stage → List ℕ → Result Contents Refusal → Type 0
HeadOutcome stage bytes outcome =
    MatchResult outcome (FieldRight stage bytes) (λ why. First (field_refusals stage bytes) (number_of why))

pub field_refused :
    {stage : Stage} {bytes : List ℕ} {refused : RefusedBook} (p : ℕ) (s : Session) (t : List ℕ)
    (outcome : Result Contents Refusal) → Err refused ≡ placed_at p s outcome → HeadOutcome stage bytes outcome
    → PartFollowed (field_at stage p bytes) s t (reply_of_read (Err refused)) t
field_refused p s t (Ok contents) e first = absurd cc
field_refused {refused = refused} p s t (Err why) e first =
    let same : refused ≡ record { why = why; place = p; session = s } = cc in
    rw same
    (record {
      follows = (number_of why, first, inl (some_number why, (refl, refl)));
      stands = λ z. absurd (some_number why z);
    })

pub field_right :
    {stage : Stage} {bytes : List ℕ} {contents : Contents} (p : ℕ) (s : Session)
    (outcome : Result Contents Refusal) → Ok contents ≡ placed_at p s outcome → HeadOutcome stage bytes outcome
    → FieldRight stage bytes contents
field_right {stage} {bytes} {contents} p s (Ok x) e right =
    let same : contents ≡ x = cc in rw same right
field_right p s (Err why) e first = absurd cc

-- facts stand once a class count is accepted, and are whole
module _ {stage : Stage} {bytes : List ℕ} {facts : Facts} (right : FieldRight stage bytes (Contents.Facts facts)) where
  pub facts_begun : stage ≡ Begun
  facts_begun = go stage right.stands
    where
      go : (stage : Stage) → stands_at (Contents.Facts facts) stage ≡ true → stage ≡ Begun
      go Start e = absurd cc
      go Begun e = refl

  pub facts_whole : length_of bytes % width_of facts ≡ 0
  facts_whole = eqb-true _ _ right.allowed

module _ {stage : Stage} {p : ℕ} {bytes : List ℕ} {s : Session} {t : List ℕ} {r : Reply} {t' : List ℕ} where
  followed :
      {items : List Item} → First (field_refusals stage bytes) 0 → said_at p bytes ≡ items → PartFollowed items s t r t'
      → PartFollowed (field_at stage p bytes) s t r t'
  followed first says part =
      record { follows = (0, first, inr (refl, rw says part.follows)); stands = part.stands }

  pub count_followed :
      {classes : ℕ} → FieldRight stage bytes Contents.Classes → classes ≡ get_or bytes 3 0
      → PartFollowed (Item.begin p classes ∷ []) s t r t' → PartFollowed (field_at stage p bytes) s t r t'
  count_followed right e part = followed right.first (rw (right.row, e) refl) part

  pub facts_followed :
      {facts : Facts} → FieldRight stage bytes (Contents.Facts facts)
      → PartFollowed (facts_at facts (length_of bytes) (p + 3) (drop 3 bytes)) s t r t'
      → PartFollowed (field_at stage p bytes) s t r t'
  facts_followed right part = followed right.first (rw right.row refl) part
