-- The fields that are placed make the book, and what each way out of write owes.
-- Assumes nothing.
use Rattle.std.proofs.Common.{◌≡◌, refl, sym, ap, inl, inr, List, [], ◌∷◌, ◌++◌, length, Err}
use Rattle.std.proofs.Common.{ℕ, ◌+◌, ◌*◌, ◌/◌, ◌%◌, ◌<◌, arith}
use Rattle.order.specs.Tables.{Pair, bytes_of}
use Rattle.order.proofs.Pairs.{lists_unique, length_bytes}
use Rattle.promise.specs.declared.Refusal.{Refusal}
use Rattle.promise.specs.declared.Session.{Session}
use Rattle.promise.specs.Refusals.{First, standing, number_of}
use Rattle.promise.specs.Calls.{Counted, Owed, TooShort, count_of}
use Rattle.promise.specs.Calls.Counted.{Count, Refused}
use Rattle.promise.specs.Book.{field, PairsMarked, BookOf, write_refusals, write}
use Rattle.promise.proofs.Answers.{number_positive}
use Rattle.promise.proofs.Standing.{stood, standing_refused, first_stands}
use Rattle.promise.proofs.Calls.{owed_refused, owed_done}
use Rattle.promise.proofs.Write.{book_unique}
use Rattle.promise.proofs.Lengths.{book_length}
use Rattle.buffers.specs.Placed.{Put}
use Rattle.buffers.proofs.Placing.{put_then, put_before}
use Rattle.buffers.proofs.Parts.{part, replaced, part_length, part_placed}
use Rattle.standing.proofs.Left.{left_owed}
use Rattle.book.specs.Fields.{PairsNoted, FieldFits, FieldPut, BookPut, write_left}

-- the pairs with one mark are always as many
same_length :
    {n : ℕ} (t : List ℕ) {m : ℕ} {l k : List Pair} → PairsMarked n t m l → PairsMarked n t m k → length l ≡ length k
same_length t p q = ap (λ (u : List Pair). length u) (lists_unique p q)

-- the head of a field is put before its pairs
pub field_put :
    {n : ℕ} {t : List ℕ} {tag m : ℕ} {out : List ℕ} {at : ℕ} {u out₂ : List ℕ} {count start : ℕ}
    → FieldFits n t m out at → PairsNoted n t m (part (at + 3) out) count u
    → Put (tag ∷ 2 * count / 256 ∷ 2 * count % 256 ∷ []) at (replaced (at + 3) out u) start out₂
    → FieldPut n t tag m out at (at + 3 + 2 * count) out₂
field_put {out = out} {at = at} {u = u} {count = count} fits h head =
    let size : 2 * count ≡ length (bytes_of h.pairs) = omega (arith, h.noted.counted, length_bytes h.pairs) in
    let room = same_length _ h.listed fits.listed in
    let contents : Put (bytes_of h.pairs) (at + 3) out (at + 3 + 2 * count) (replaced (at + 3) out u) =
    record {
      placed = part_placed (at + 3) out (h.noted.written (omega (arith, part_length (at + 3) out)));
      ends = omega arith;
      fits = omega arith;
    }
    in
    record { pairs = h.pairs; listed = h.listed; put = put_before contents (rw (head.ends, size) at head) }

-- a field ends behind its head and two bytes for each pair
pub field_end :
    {n : ℕ} {t : List ℕ} {tag m : ℕ} {out : List ℕ} {at behind : ℕ} {out' : List ℕ} {l : List Pair}
    → FieldPut n t tag m out at behind out' → PairsMarked n t m l → behind ≡ at + 3 + 2 * length l
field_end {t = t} h listed = omega (arith, h.put.ends, length_bytes h.pairs, same_length t h.listed listed)

-- the three fields are the book
abbrev book_of :
    {n : ℕ} {t : List ℕ} {ys zs : List Pair} → PairsMarked n t 1 ys → PairsMarked n t 2 zs
    → BookOf n t (field 1 (n ∷ []) ++ (field 2 (bytes_of ys) ++ field 3 (bytes_of zs)))
book_of p q = record { yes_pairs = _; no_pairs = _; yes_listed = p; no_listed = q; bytes = refl }

pub book_put :
    {n : ℕ} {t out out₁ out₂ out₃ out₄ : List ℕ} {contents facts behind size : ℕ}
    → Put (1 ∷ 0 ∷ 1 ∷ []) 0 out contents out₁ → Put (n ∷ []) contents out₁ facts out₂
    → FieldPut n t 2 1 out₂ facts behind out₃ → FieldPut n t 3 2 out₃ behind size out₄ → BookPut n t out size out₄
book_put head classes h k =
    record {
      book = _;
      is = book_of h.listed k.listed;
      put = put_then head (put_then classes (put_then h.put k.put));
    }

-- the whole call

module _ {n : ℕ} {t out : List ℕ} where
  pub book_short :
      {out₁ out₂ out₃ out₄ : List ℕ} {yes no : ℕ} → PairsNoted n t 1 out₁ yes out₂ → PairsNoted n t 2 out₃ no out₄
      → length out < 10 + 2 * (yes + no) → Owed (write_left n t out) (Refused 8 0, out)
  book_short ys zs short =
      let book = book_of ys.listed zs.listed in
      let size : 10 + 2 * (length ys.pairs + length zs.pairs) ≡ _ = sym (book_length book) in
      owed_refused (write_left n t out) (λ k. refl)
      (inl ((_, book, omega (arith, ys.noted.counted, zs.noted.counted, size)), refl)) (λ e. omega arith)

  pub book_done : {size : ℕ} {out' : List ℕ} → BookPut n t out size out' → Owed (write_left n t out) (Count size, out')
  book_done {size = size₀} h =
      let size : size₀ ≡ length h.book = omega (arith, h.put.ends) in
      let fits : ¬ TooShort (BookOf n t) out =
      λ z. omega (arith, z.2, h.put.fits, size, ap (λ (w : List ℕ). length w) (book_unique z.0 h.book z.1 h.is)) in
      owed_done (write_left n t out) (inr (fits, refl)) refl (h.book, h.is, rw (h.put.placed.bytes, size))

module _ (s : Session) (t out : List ℕ) where
  pub write_refused :
      (why : Refusal) → First (standing s t []) (number_of why) → Owed (write s t out) (count_of (Err why), out)
  write_refused why f =
      let due : number_of why ≡ 0 → ⊥ = λ e. omega (arith, number_positive why) in
      owed_refused (write s t out) (λ k. refl) (standing_refused (write_refusals s t out) s t (number_of why) f due) due

  pub write_left_owed :
      {o : Counted × List ℕ} → First (standing s t []) 0 → Owed (write_left s.classes t out) o → Owed (write s t out) o
  write_left_owed f =
      left_owed (write_left s.classes t out).refusals (write s t out)
      (first_stands (write_refusals s t out) (stood s t 0 f refl))
