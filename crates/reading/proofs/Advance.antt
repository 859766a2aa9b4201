-- Facts followed one by one, and fields one by one: what is followed from here on gives what was to be followed from
-- the start.
-- Assumes nothing.
use mathlib.Core.Path.{◌≡◌, refl, sym, ◌∙◌, ap, subst}
use mathlib.Core.Logic.{◌≢◌, inl, inr}
use mathlib.Core.List.{List, [], ◌∷◌, ◌++◌}
use Prim.Native.Nat.{ℕ, zero, suc, ◌+◌, ◌*◌, ◌/◌, ◌%◌, ◌≤◌, ◌<◌}
use native.Mathlib.Nat.{suc-mul, add_assoc, div-add-mod'}
use native.Mathlib.Omega.{arith}
use lib.ListN.{length, get_or, drop}
use lib.Seq.{drop-drop}
use Rattle.promise.specs.Refusals.{First, standing}
use Rattle.promise.specs.declared.Stage.{Stage}
use Rattle.promise.specs.declared.Stage.TheVariants.{Begun}
use Rattle.promise.specs.declared.Session.{Session}
use Rattle.promise.specs.declared.Reply.{Reply}
use Rattle.promise.specs.Calls.{no_session, reply, accepted}
use Rattle.promise.specs.Book.{row_of, size_of, field_refusals, Item, facts_from, stage_behind}
use Rattle.promise.specs.Book.{items_of, Follows, BookRead}
use Rattle.promise.proofs.Items.{items_at, items_end, items_field}
use Rattle.promise.proofs.Book.{ends_within, stage_behind_field}
use Rattle.reading.specs.declared.tags.Facts.{Facts}
use Rattle.reading.specs.declared.tags.Facts.TheVariants.{Told, Answered}
use Rattle.reading.specs.Parts.{width_of, kind_of, verdict_by, fact_at, facts_at, field_at, PartFollowed}
use Rattle.reading.proofs.Following.{follows_on, follows_stop}

-- the facts of a field

-- two bytes, or three
pub wide_most : (facts : Facts) → (2 ≤ width_of facts) × (width_of facts ≤ 3)
wide_most (Told verdict) = omega arith
wide_most Answered = omega arith

-- so many facts from an index on, in a field that stands at a place
abbrev rest_of : Facts → ℕ → List ℕ → ℕ → ℕ → List Item
rest_of facts place bytes at count =
    facts_from count (width_of facts) (kind_of facts) (verdict_by facts) (place + at) (drop at bytes)

none_left : (facts : Facts) (place : ℕ) (bytes : List ℕ) (at : ℕ) → rest_of facts place bytes at 0 ≡ []
unfolding facts_from
none_left facts place bytes at = refl

one_more :
    (facts : Facts) (place : ℕ) (bytes : List ℕ) (at k : ℕ)
    → rest_of facts place bytes at (suc k)
    ≡ fact_at facts (place + at) (drop at bytes) ∷ rest_of facts place bytes (at + width_of facts) k
unfolding facts_from
one_more facts place bytes at k =
    rw (← drop-drop (width_of facts) at bytes, ← add_assoc place at (width_of facts)) refl

-- the facts from index at on may be followed, and following them follows all
pub record FactsLeft
    (facts : Facts) (place : ℕ) (bytes : List ℕ) (size : ℕ) (s₀ : Session) (t₀ : List ℕ) (at : ℕ) (s : Session)
    (t : List ℕ) : Type 0 where
  pub count : ℕ
  pub whole : 3 + size ≡ at + count * width_of facts
  pub within : 3 + size ≤ length bytes
  pub stands : First (standing s t []) 0
  pub all : (r : Reply) (t' : List ℕ) → Follows (rest_of facts place bytes at count) s t r t'
      → Follows (facts_at facts size (place + 3) (drop 3 bytes)) s₀ t₀ r t'

pub facts_left :
    {facts : Facts} {place : ℕ} {bytes : List ℕ} {size : ℕ} {s : Session} {t : List ℕ} → size % width_of facts ≡ 0
    → 3 + size ≤ length bytes → First (standing s t []) 0 → FactsLeft facts place bytes size s t 3 s t
facts_left {facts} {size = size} whole within stands =
    record {
      count = size / width_of facts;
      whole = omega (arith, div-add-mod' size (width_of facts));
      within = within;
      stands = stands;
      all = λ r t' f. f;
    }

module _
    {facts : Facts} {place : ℕ} {bytes : List ℕ} {size : ℕ} {s₀ : Session} {t₀ : List ℕ} {at : ℕ} {s : Session}
    {t : List ℕ} (h : FactsLeft facts place bytes size s₀ t₀ at s t)
  where
    -- a fact is left, and it is whole
    one_left : at < 3 + size → (k : ℕ) × (h.count ≡ suc k)
    one_left l = go h.count h.whole
      where
        go : (k : ℕ) → 3 + size ≡ at + k * width_of facts → (j : ℕ) × (k ≡ suc j)
        go zero w = absurd (omega arith)
        go (suc k) w = (k, refl)

    pub fits : at < 3 + size → at + width_of facts ≤ 3 + size
    fits l =
        let left = one_left l in
        let w = rw left.1 at h.whole in omega (arith, suc-mul left.0 (width_of facts))

    module _ (l : at < 3 + size) {r : Reply} {t₁ : List ℕ}
        (part : PartFollowed (fact_at facts (place + at) (drop at bytes) ∷ []) s t r t₁)
      where
        abbrev facts_behind : List Item
        facts_behind = rest_of facts place bytes (at + width_of facts) (one_left l).0

        from_here : {q : Reply} {t' : List ℕ}
            → Follows (fact_at facts (place + at) (drop at bytes) ∷ facts_behind) s t q t'
            → Follows (facts_at facts size (place + 3) (drop 3 bytes)) s₀ t₀ q t'
        from_here {q} {t'} f =
            h.all q t'
            (subst (λ (items : List Item). Follows items s t q t')
            (sym (ap (rest_of facts place bytes at) (one_left l).1 ∙ one_more facts place bytes at (one_left l).0))
            f)

        pub refused_here : r.number ≢ 0 → PartFollowed (facts_at facts size (place + 3) (drop 3 bytes)) s₀ t₀ r t₁
        refused_here ne =
            record {
              follows =
                  from_here
                  (follows_stop facts_behind r t₁ ne (fact_at facts (place + at) (drop at bytes) ∷ []) s t
                  part.follows);
              stands = λ z. absurd (ne z);
            }

        pub facts_next :
            (next : ℕ) → next ≡ at + width_of facts → r.number ≡ 0
            → FactsLeft facts place bytes size s₀ t₀ next r.session t₁
        facts_next next e z =
            let left = one_left l in
            let w = rw left.1 at h.whole in
            rw e
            (record {
              count = left.0;
              whole = omega (arith, suc-mul left.0 (width_of facts));
              within = h.within;
              stands = part.stands z;
              all = λ q t' f. from_here
                  (follows_on facts_behind r q t₁ t' z (fact_at facts (place + at) (drop at bytes) ∷ []) s t
                  part.follows f);
            })

    pub all_followed :
        3 + size ≤ at → PartFollowed (facts_at facts size (place + 3) (drop 3 bytes)) s₀ t₀ (accepted s) t
    all_followed l =
        record {
          follows =
              h.all (accepted s) t
              (subst (λ (items : List Item). Follows items s t (accepted s) t)
              (sym (ap (rest_of facts place bytes at) (none h.count h.whole) ∙ none_left facts place bytes at))
              (refl, refl));
          stands = λ _. h.stands;
        }
      where
        none : (k : ℕ) → 3 + size ≡ at + k * width_of facts → k ≡ 0
        none zero w = refl
        none (suc k) w = absurd (omega (arith, wide_most facts, suc-mul k (width_of facts)))

-- the fields of a book

-- the book from index at on may be read, and following its items follows all
pub record FieldsLeft (book t₀ : List ℕ) (at : ℕ) (stage : Stage) (s : Session) (t : List ℕ) : Type 0 where
  pub within : at ≤ length book
  pub stands : stage ≡ Begun → First (standing s t []) 0
  pub all : (r : Reply) (t' : List ℕ) → Follows (items_at book stage at) s t r t'
      → Follows (items_of book) no_session t₀ r t'

-- "book empty"
pub read_empty : (book t : List ℕ) → length book ≡ 0 → BookRead book t (reply 12 0 no_session) t
read_empty [] t e = record { followed = (12, inl (refl, refl), inl (λ z. omega arith, (refl, refl))) }
read_empty (x ∷ book) t e = absurd (omega arith)

module _ {book t₀ : List ℕ} {at : ℕ} {stage : Stage} {s : Session} {t : List ℕ} (h : FieldsLeft book t₀ at stage s t)
  where
    module _
        (l : at < length book) {r : Reply} {t₁ : List ℕ}
        (part : PartFollowed (field_at stage at (drop at book)) s t r t₁)
      where
        abbrev items_behind : List Item
        items_behind = items_at book (stage_behind (row_of (get_or (drop at book) 0 0)) stage)
            (at + size_of (drop at book))

        whole :
            (q : Reply) (t' : List ℕ)
            → Follows (field_at stage at (drop at book) ++ items_behind) s t q t'
            → Follows (items_of book) no_session t₀ q t'
        whole q t' f =
            h.all q t' (subst (λ (items : List Item). Follows items s t q t') (sym (items_field book stage at l)) f)

        pub book_refused : r.number ≢ 0 → BookRead book t₀ r t₁
        book_refused ne =
            record {
              followed =
                  whole r t₁ (follows_stop items_behind r t₁ ne (field_at stage at (drop at book)) s t part.follows);
            }

        right_here : r.number ≡ 0 → First (field_refusals stage (drop at book)) 0
        right_here z = go part.follows
          where
            go : Follows (field_at stage at (drop at book)) s t r t₁ → First (field_refusals stage (drop at book)) 0
            go (k, first, inl (ne, e)) = absurd (ne (sym (ap (λ (x : Reply). x.number) e.0) ∙ z))
            go (k, first, inr (e, _)) = subst (First (field_refusals stage (drop at book))) e first

        -- where the next field stands
        next_within : r.number ≡ 0 → at + size_of (drop at book) ≤ length book
        next_within z = ends_within book at stage (right_here z)

        pub fields_next :
            (next : ℕ) → next ≡ at + size_of (drop at book) → r.number ≡ 0
            → FieldsLeft book t₀ next Begun r.session t₁
        fields_next next e z =
            rw e
            (record {
              within = next_within z;
              stands = λ _. part.stands z;
              all = λ q t' f.
                  whole q t'
                  (follows_on items_behind r q t₁ t' z (field_at stage at (drop at book)) s t part.follows
                  (subst
                  (λ (stage₁ : Stage). Follows (items_at book stage₁ (at + size_of (drop at book))) r.session t₁ q t')
                  (sym (stage_behind_field stage (drop at book) (right_here z))) f));
            })

    pub book_read : length book ≤ at → BookRead book t₀ (accepted s) t
    book_read l =
        let end : at ≡ length book = omega (arith, h.within) in
        record {
          followed =
              h.all (accepted s) t
              (subst (λ (items : List Item). Follows items s t (accepted s) t)
              (sym (ap (items_at book stage) end ∙ items_end book stage)) (refl, refl));
        }
