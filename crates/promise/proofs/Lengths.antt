-- How long the book of a table is, that it is written exactly where it fits, that the longest one is written, and that
-- each byte of a book is below 256.
-- Assumes nothing.
use mathlib.Core.Path.{◌≡◌, refl, sym, ◌∙◌, ap}
use mathlib.Core.Logic.Iff
use mathlib.Core.Logic.{◌↔◌, ◌≢◌, inr}
use mathlib.Core.List.{List, [], ◌∷◌, ◌++◌, Memᴰ}
use Prim.Native.Nat.{ℕ, zero, suc, ◌+◌, ◌*◌, ◌≤◌, ◌<◌}
use native.Mathlib.Nat.{suc-mul, mul-le-mul}
use native.Mathlib.Decide.{ℕ_discrete}
use native.Mathlib.Omega.{arith}
use lib.ListN.{length, length-append, replicate, length-replicate, get_or-replicate}
use Rattle.order.specs.Tables.{mark, Sound, open_count, opens, Pair, bytes_of}
use Rattle.order.proofs.Bytes.{pair_below}
use Rattle.order.proofs.Tables.{Mark, which}
use Rattle.order.proofs.Pairs.{length_bytes}
use Rattle.order.proofs.Counting.{bit, bit_one, bit_none, bit_two, sum_add, sum_off, sum_off_most, pairs_length}
use Rattle.order.proofs.Counts.{open_settled, opens_none, opens_sum}
use Rattle.promise.specs.Refusals.{First, standing}
use Rattle.promise.specs.declared.Session.{Session}
use Rattle.promise.specs.Calls.{Counted}
use Rattle.promise.specs.Calls.Counted.{Count}
use Rattle.promise.specs.Calls.{started, Owed, count_number, over, TooShort}
use Rattle.promise.specs.Book.{field, PairsMarked, BookOf, write_refusals, write}
use Rattle.promise.proofs.Standing.{Stands, square_above, standing_own, standing_passed, stands_first}
use Rattle.promise.proofs.Standing.{first_stands}
use Rattle.promise.proofs.Calls.{owed_accepted, owed_done}
use Rattle.promise.proofs.Counts.{writes_wrote}
use Rattle.promise.proofs.Write.{Off, dec_off, book_there, write_passed}

-- "10 + 2 times the count of both in bytes"
pub book_length :
    {n : ℕ} {t book : List ℕ} (h : BookOf n t book)
    → length book ≡ 10 + 2 * (length h.yes_pairs + length h.no_pairs)
book_length h =
    let ys = bytes_of h.yes_pairs in
    let zs = bytes_of h.no_pairs in
    ap (λ (l : List ℕ). length l) h.bytes
    ∙ omega (arith, length-append (field 2 ys) (field 3 zs), length_bytes h.yes_pairs, length_bytes h.no_pairs)

-- of a pair with mark m: it is written once at most, and on the diagonal never
module _ {m a b : ℕ} (p : Dec ((a ≢ b) × (m ≡ 1))) (q : Dec ((a ≢ b) × (m ≡ 2))) where
  once : (d : Dec (a ≡ b)) → bit p + bit q + bit d ≤ 1
  once (yes e) = omega (arith, bit_none p (λ z. z.0 e), bit_none q (λ z. z.0 e))
  once (no e) = omega (arith, bit_two p q (λ x y. omega (arith, x.1, y.1)))

  -- in a sound table it is written, open, or on the diagonal
  written_or_open : m ≤ 2 → (a ≡ b → m ≡ 1) → (d : Dec (a ≡ b)) → bit p + bit q + open_count m + bit d ≡ 1
  written_or_open small diagonal (yes e) =
      omega (arith, once (yes e), open_settled m (λ z. omega (arith, diagonal e)))
  written_or_open small diagonal (no e) = go (which m small)
    where
      go : Mark m → bit p + bit q + open_count m + 0 ≡ 1
      go (Mark.is_open z) =
          omega (arith, bit_none p (λ x. omega (arith, x.1)), bit_none q (λ x. omega (arith, x.1)), ap open_count z)
      go (Mark.is_yes z) = omega (arith, once (no e), bit_one p (e, z), open_settled m (λ x. omega arith))
      go (Mark.is_no z) = omega (arith, once (no e), bit_one q (e, z), open_settled m (λ x. omega arith))

module _ {n : ℕ} {t book : List ℕ} (h : BookOf n t book) where
  -- the pairs written are at most n * n - n
  book_pairs : length h.yes_pairs + length h.no_pairs + n ≤ n * n
  book_pairs =
      omega (
        arith,
        pairs_length (Off n t 1) (dec_off n t 1) h.yes_listed,
        pairs_length (Off n t 2) (dec_off n t 2) h.no_listed,
        simp sum_add at
            (sum_off_most n (λ a b. bit (dec_off n t 1 a b) + bit (dec_off n t 2 a b)) (λ a b ha hb.
            once (dec_off n t 1 a b) (dec_off n t 2 a b) (ℕ_discrete a b))),
      )

  -- each pair off the diagonal that is not open takes two bytes: a full book has 10 + 2 * (n * n - n)
  pub book_opens : Sound n t → length book + 2 * (opens n t + n) ≡ 10 + 2 * (n * n)
  book_opens sound =
      omega (
        arith,
        book_length h,
        opens_sum n t,
        pairs_length (Off n t 1) (dec_off n t 1) h.yes_listed,
        pairs_length (Off n t 2) (dec_off n t 2) h.no_listed,
        simp sum_add at
            (sum_off n (λ a b. bit (dec_off n t 1 a b) + bit (dec_off n t 2 a b) + open_count (mark n t a b))
            (λ a b ha hb.
            written_or_open (dec_off n t 1 a b) (dec_off n t 2 a b) (sound.small a b ha hb)
            (λ e. rw (← e) (sound.diagonal a ha)) (ℕ_discrete a b))),
      )

square_less : (n : ℕ) → n ≤ 128 → n * n ≤ 16256 + n
square_less zero h = omega arith
square_less (suc m) h =
    omega (arith, suc-mul m (suc m), mul-le-mul {n₁ = m} {m₁ = suc m} {n₂ = 127} {m₂ = 128} (omega arith) h)

-- "the longest full book has 32,522": no book has more, and write_longest has one
pub book_longest : {n : ℕ} {t book : List ℕ} → BookOf n t book → n ≤ 128 → length book ≤ 32522
book_longest {n} h few = omega (arith, book_length h, book_pairs h, square_less n few)

-- and so many bytes write counts
pub write_count :
    (s : Session) (t out : List ℕ) {c : ℕ} {out' : List ℕ} → Owed (write s t out) (Count c, out')
    → c + 2 * (opens s.classes t + s.classes) ≡ 10 + 2 * (s.classes * s.classes)
write_count s t out h =
    let w = writes_wrote (standing s t (write_refusals s t out)) (BookOf s.classes t) out h in
    rw w.2 (book_opens w.1 (standing_passed (write_refusals s t out) s h.number).0.sound)

-- a buffer is too short for the book where it has less
book_short :
    (n : ℕ) (t out : List ℕ) → Sound n t
    → TooShort (BookOf n t) out ↔ (length out + 2 * (opens n t + n) < 10 + 2 * (n * n))
book_short n t out sound =
    let (book, is) = book_there n t in
    (λ z. omega (arith, z.2, book_opens z.1 sound), λ short. (book, is, omega (arith, book_opens is sound)))

-- otherwise nothing is due: pairs that are open are no refusal
write_none_due :
    (s : Session) (t out : List ℕ) → Stands s t
    → 10 + 2 * (s.classes * s.classes) ≤ length out + 2 * (opens s.classes t + s.classes)
    → First (standing s t (write_refusals s t out)) 0
write_none_due s t out st room =
    first_stands (write_refusals s t out) st
    (inr (λ z. omega (arith, (book_short s.classes t out st.sound).0 z), refl))

-- "writer 8": where none of 1 to 4 is due, a table is written exactly where its book fits, open pairs or none
pub write_accepted :
    (s : Session) (t out : List ℕ) {o : Counted × List ℕ} → Stands s t → Owed (write s t out) o
    → (count_number o.0 ≡ 0)
    ↔ (10 + 2 * (s.classes * s.classes) ≤ length out + 2 * (opens s.classes t + s.classes))
write_accepted s t out st h = (
  λ e.
      let fits = write_passed s t out (stands_first (write_refusals s t out) st (rw e at h.number)) in
      let long = (Iff.not (book_short s.classes t out st.sound)).0 fits in omega (arith, long),
  λ room. owed_accepted (write s t out) (write_none_due s t out st room) h,
)

-- with room for the longest book 8 never comes up
pub write_room :
    (s : Session) (t out : List ℕ) {o : Counted × List ℕ} → 32522 ≤ length out → Owed (write s t out) o
    → count_number o.0 ≢ 8
write_room s t out room h e =
    let st = (standing_own (write_refusals s t out) s (inr (omega arith)) h.number).0 in
    omega (arith, e, (write_accepted s t out st h).1 (omega (arith, square_less s.classes st.few)))

-- a table of n classes that are all equal: each of its marks is yes
unfoldable pub all_yes : ℕ → List ℕ
all_yes n = replicate (n * n) 1

mark_all_yes : (n a b : ℕ) → a < n → b < n → mark n (all_yes n) a b ≡ 1
unfolding mark all_yes
mark_all_yes n a b ha hb = get_or-replicate (n * n) (a * n + b) 1 0 (pair_below n a b ha hb)

pub all_yes_full : (n : ℕ) → opens n (all_yes n) ≡ 0
all_yes_full n = (opens_none n (all_yes n)).1 (λ a b ha hb z. omega (arith, mark_all_yes n a b ha hb))

pub all_yes_stands : (n : ℕ) → 1 ≤ n → n ≤ 128 → Stands (started n) (all_yes n)
unfolding all_yes
all_yes_stands n some few =
    record {
      some = some;
      few = few;
      room = omega (arith, length-replicate {A = ℕ} (n * n) 1);
      sound =
          record {
            small = λ a b ha hb. omega (arith, mark_all_yes n a b ha hb);
            diagonal = λ a ha. mark_all_yes n a a ha ha;
            transitive = λ a b c ha hb hc _ _. mark_all_yes n a c ha hc;
            pruned = λ a b c d ha hb hc hd e _ _. absurd (omega (arith, mark_all_yes n c d hc hd));
          };
      count = omega (arith, all_yes_full n, square_above n some);
    }

-- its book, which is full, is the longest, and it is written
pub write_longest :
    (out : List ℕ) → 32522 ≤ length out
    → (out' : List ℕ) × Owed (write (started 128) (all_yes 128) out) (Count 32522, out')
write_longest out room =
    let t = all_yes 128 in
    let st = all_yes_stands 128 (omega arith) (omega arith) in
    let (book, is) = book_there 128 t in
    let size : length book ≡ 32522 = omega (arith, book_opens is st.sound, all_yes_full 128) in (
      over book out,
      owed_done (write (started 128) t out) (write_none_due (started 128) t out st (omega (arith, all_yes_full 128)))
          refl
          (book, is, ap (λ (k : ℕ). (Count k, over book out)) (sym size)),
    )

-- each of its bytes is below 256

abbrev pub Small : List ℕ → Type 0
Small [] = Unit {0}
Small (x ∷ l) = (x < 256) × Small l

small_append : (l m : List ℕ) → Small l → Small m → Small (l ++ m)
small_append [] m h k = k
small_append (x ∷ l) m h k = (h.0, small_append l m h.1 k)

small_bytes : (l : List Pair) → ((a b : ℕ) → Memᴰ (a, b) l → (a < 256) × (b < 256)) → Small (bytes_of l)
small_bytes [] h = tt
small_bytes (p ∷ l) h =
    let r = h p.0 p.1 (Memᴰ.head refl) in
    (r.0, (r.1, small_bytes l (λ a b i. h a b (Memᴰ.tail i))))

-- "two-byte length": every length up to 65,535 can be written
pub field_bytes :
    (tag : ℕ) (bytes : List ℕ) → tag < 256 → length bytes ≤ 65535 → Small bytes → Small (field tag bytes)
field_bytes tag bytes ht hl h = (ht, (omega arith, (omega arith, h)))

pub book_bytes : {n : ℕ} {t book : List ℕ} → BookOf n t book → n ≤ 128 → Small book
book_bytes {n} {t} h few =
    rw h.bytes
    (small_append (field 1 (n ∷ [])) (field 2 (bytes_of h.yes_pairs) ++ field 3 (bytes_of h.no_pairs)) (omega arith)
    (small_append (field 2 (bytes_of h.yes_pairs)) (field 3 (bytes_of h.no_pairs))
    (field_bytes 2 (bytes_of h.yes_pairs) (omega arith) (omega (arith, pairs, length_bytes h.yes_pairs))
    (each h.yes_listed))
    (field_bytes 3 (bytes_of h.no_pairs) (omega arith) (omega (arith, pairs, length_bytes h.no_pairs))
    (each h.no_listed))))
  where
    pairs : length h.yes_pairs + length h.no_pairs ≤ 16256
    pairs = omega (arith, book_pairs h, square_less n few)

    each : {m : ℕ} {l : List Pair} → PairsMarked n t m l → Small (bytes_of l)
    each {m} {l} k =
        small_bytes l (λ a b i. let r = (k.exact a b).0 i in (omega (arith, r.0), omega (arith, r.1)))
