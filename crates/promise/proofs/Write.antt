-- The book of a table: one and only one, and the marks alone decide it; and one outcome of the call for each input.
-- Assumes nothing.
use mathlib.Core.Path.{◌≡◌, refl, sym, ◌∙◌, ap₂}
use mathlib.Core.Logic.{◌≢◌, inl, inr}
use mathlib.Core.List.{List, [], ◌∷◌, ◌++◌}
use Prim.Native.Nat.{ℕ}
use native.Mathlib.Decide.{ℕ_discrete}
use native.Mathlib.Omega.{arith}
use lib.ListN.{length}
use Rattle.order.specs.Tables.{mark, SameMarks, Pair, bytes_of}
use Rattle.promise.specs.Refusals.{First, standing}
use Rattle.order.proofs.Decide.{both, negated}
use Rattle.promise.proofs.Refusals.{stage, dec_too_short}
use Rattle.order.proofs.Pairs.{lists_unique, lists_map, pairs_of, pairs_listed}
use Rattle.order.proofs.Sound.{is}
use Rattle.promise.specs.declared.Session.{Session}
use Rattle.promise.specs.Calls.{Counted}
use Rattle.promise.specs.Calls.{Owed, TooShort}
use Rattle.promise.specs.Book.{field, PairsMarked, BookOf, write_refusals, write}
use Rattle.promise.proofs.Standing.{standing_passed, standing_there}
use Rattle.promise.proofs.Calls.{Fixed, owed_unique}
use Rattle.promise.proofs.Counts.{writes_fixed, writes_there, writes_length}

pub book_unique : {n : ℕ} {t : List ℕ} (book book₂ : List ℕ) → BookOf n t book → BookOf n t book₂ → book ≡ book₂
book_unique {n} book book₂ h k =
    h.bytes
    ∙ ap₂ (λ (x y : List Pair). field 1 (n ∷ []) ++ (field 2 (bytes_of x) ++ field 3 (bytes_of y)))
    (lists_unique h.yes_listed k.yes_listed) (lists_unique h.no_listed k.no_listed)
    ∙ sym k.bytes

pub book_by_marks : {n : ℕ} {t t₂ book : List ℕ} → SameMarks n t t₂ → BookOf n t book → BookOf n t₂ book
book_by_marks {n} {t} {t₂} same k =
    record {
      yes_pairs = k.yes_pairs;
      no_pairs = k.no_pairs;
      yes_listed = moved k.yes_listed;
      no_listed = moved k.no_listed;
      bytes = k.bytes;
    }
  where
    moved : {m : ℕ} {l : List Pair} → PairsMarked n t m l → PairsMarked n t₂ m l
    moved =
        lists_map (λ a b ha hb.
        let e = same.at a b ha hb in
        (λ p. (p.0, sym e ∙ p.1), λ p. (p.0, e ∙ p.1)))

abbrev pub Off : ℕ → List ℕ → ℕ → ℕ → ℕ → Type 0
Off n t m a b = (a ≢ b) × (mark n t a b ≡ m)

unfoldable pub dec_off : (n : ℕ) (t : List ℕ) (m a b : ℕ) → Dec (Off n t m a b)
dec_off n t m a b = both (negated (ℕ_discrete a b)) (is n t m a b)

unfoldable pub book_there : (n : ℕ) (t : List ℕ) → (book : List ℕ) × BookOf n t book
book_there n t = (
  field 1 (n ∷ [])
      ++ (field 2 (bytes_of (pairs_of (Off n t 1) (dec_off n t 1) n))
      ++ field 3 (bytes_of (pairs_of (Off n t 2) (dec_off n t 2) n))),
  record {
    yes_pairs = pairs_of (Off n t 1) (dec_off n t 1) n;
    no_pairs = pairs_of (Off n t 2) (dec_off n t 2) n;
    yes_listed = pairs_listed (Off n t 1) (dec_off n t 1) n;
    no_listed = pairs_listed (Off n t 2) (dec_off n t 2) n;
    bytes = refl;
  },
)

-- the call

module _ (s : Session) (t out : List ℕ) where
  unfoldable pub write_there : (o : Counted × List ℕ) × Owed (write s t out) o
  write_there =
      let book = book_there s.classes t in
      writes_there (standing s t (write_refusals s t out)) (BookOf s.classes t) out
      (standing_there (write_refusals s t out) s t (λ st.
      stage 8 (dec_too_short (BookOf s.classes t) book.0 book.1 book_unique out) (λ p₈. (0, refl))))
      (λ f. book)

  pub write_fixed : Fixed (write s t out)
  write_fixed = writes_fixed (standing s t (write_refusals s t out)) (BookOf s.classes t) out (λ f. book_unique)

  pub write_unique : {o o₂ : Counted × List ℕ} → Owed (write s t out) o → Owed (write s t out) o₂ → o ≡ o₂
  write_unique = owed_unique (write s t out) write_fixed

  -- what is known where a book is written
  pub write_passed : First (write_refusals s t out) 0 → ¬ TooShort (BookOf s.classes t) out
  write_passed (inl z) = absurd (omega (arith, z.1))
  write_passed (inr z) = z.0

  -- the length of the buffer stays
  pub write_length : {o : Counted × List ℕ} → Owed (write s t out) o → length o.1 ≡ length out
  write_length =
      writes_length (standing s t (write_refusals s t out)) (BookOf s.classes t) out (λ f.
      write_passed (standing_passed (write_refusals s t out) s f).1)
