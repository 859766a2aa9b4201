-- Two answers of the code that stand for one are one, so that what a call gives is as fixed as its outcome: `*_unique`
-- of an outcome and `*_fixed` here leave one value.
-- Assumes nothing.
use mathlib.Core.Path.{◌≡◌, refl, sym, ap, ap₂, ◌∙◌}
use mathlib.Core.Bool.{true, false, false≢true}
use Prim.Native.Nat.{ℕ, zero, suc, ◌<◌}
use native.Mathlib.Omega.{arith}
use Rattle.std.specs.Prelude.{Option, Some, None, Result, Ok, Err}
use Rattle.promise.specs.declared.Asked.{Asked}
use Rattle.promise.specs.declared.CrossedCount.{CrossedCount}
use Rattle.promise.specs.declared.CrossedQuestion.{CrossedQuestion}
use Rattle.promise.specs.declared.Reply.{Reply}
use Rattle.promise.specs.declared.Session.{Session}
use Rattle.promise.specs.declared.Refusal.{Refusal}
use Rattle.promise.specs.declared.Refusal.TheVariants.{BadCount, ShortTable, NotSound, Overcounted, NoSuchClass}
use Rattle.promise.specs.declared.Refusal.TheVariants.{Contradicted, StillOpen, NoRoom, NoLadder, CutShort, UnknownTag}
use Rattle.promise.specs.declared.Refusal.TheVariants.{MisplacedTag, BadLength, BadVerdict, TooLong}
use Rattle.promise.specs.declared.RefusedBook.{RefusedBook}
use Rattle.promise.specs.Refusals.{number_of}
use Rattle.promise.specs.Calls.{count_for, count_of, reply_of}
use Rattle.promise.specs.Next.{question_of, question_for}
use Rattle.promise.specs.Book.{reply_of_read}

-- the refusal of a number
by_number : ℕ → Refusal
by_number (suc zero) = BadCount
by_number (suc (suc zero)) = ShortTable
by_number (suc (suc (suc zero))) = NotSound
by_number (suc (suc (suc (suc zero)))) = Overcounted
by_number (suc (suc (suc (suc (suc zero))))) = NoSuchClass
by_number (suc (suc (suc (suc (suc (suc zero)))))) = Contradicted
by_number (suc (suc (suc (suc (suc (suc (suc zero))))))) = StillOpen
by_number (suc (suc (suc (suc (suc (suc (suc (suc zero)))))))) = NoRoom
by_number (suc (suc (suc (suc (suc (suc (suc (suc (suc zero))))))))) = NoLadder
by_number (suc (suc (suc (suc (suc (suc (suc (suc (suc (suc zero)))))))))) = CutShort
by_number (suc (suc (suc (suc (suc (suc (suc (suc (suc (suc (suc zero))))))))))) = UnknownTag
by_number (suc (suc (suc (suc (suc (suc (suc (suc (suc (suc (suc (suc zero)))))))))))) = MisplacedTag
by_number (suc (suc (suc (suc (suc (suc (suc (suc (suc (suc (suc (suc (suc zero))))))))))))) = BadLength
by_number (suc (suc (suc (suc (suc (suc (suc (suc (suc (suc (suc (suc (suc (suc zero)))))))))))))) = BadVerdict
by_number k = TooLong

by_its_number : (why : Refusal) → by_number (number_of why) ≡ why
unfolding by_number
by_its_number BadCount = refl
by_its_number ShortTable = refl
by_its_number NotSound = refl
by_its_number Overcounted = refl
by_its_number NoSuchClass = refl
by_its_number Contradicted = refl
by_its_number StillOpen = refl
by_its_number NoRoom = refl
by_its_number NoLadder = refl
by_its_number CutShort = refl
by_its_number UnknownTag = refl
by_its_number MisplacedTag = refl
by_its_number BadLength = refl
by_its_number BadVerdict = refl
by_its_number TooLong = refl

-- no refusal has the number 0
pub number_positive : (why : Refusal) → 0 < number_of why
number_positive BadCount = omega arith
number_positive ShortTable = omega arith
number_positive NotSound = omega arith
number_positive Overcounted = omega arith
number_positive NoSuchClass = omega arith
number_positive Contradicted = omega arith
number_positive StillOpen = omega arith
number_positive NoRoom = omega arith
number_positive NoLadder = omega arith
number_positive CutShort = omega arith
number_positive UnknownTag = omega arith
number_positive MisplacedTag = omega arith
number_positive BadLength = omega arith
number_positive BadVerdict = omega arith
number_positive TooLong = omega arith

-- each refusal has a number of its own
pub number_fixed : (why other : Refusal) → number_of why ≡ number_of other → why ≡ other
number_fixed why other e = sym (by_its_number why) ∙ ap by_number e ∙ by_its_number other

pub reply_fixed : (back : Session) (x y : Result Session Refusal) → reply_of back x ≡ reply_of back y → x ≡ y
reply_fixed back (Ok s) (Ok r) e = ap Ok (ap (λ (reply : Reply). reply.session) e)
reply_fixed back (Ok s) (Err why) e =
    absurd (omega (arith, number_positive why, ap (λ (reply : Reply). reply.number) e))
reply_fixed back (Err why) (Ok r) e =
    absurd (omega (arith, number_positive why, ap (λ (reply : Reply). reply.number) e))
reply_fixed back (Err why) (Err other) e = ap Err (number_fixed why other (ap (λ (reply : Reply). reply.number) e))

-- records with the same fields are one
asked_fixed : {a b : Asked} → a.lower ≡ b.lower → a.upper ≡ b.upper → a ≡ b
asked_fixed e f = ap₂ (λ (l u : ℕ). record { lower = l; upper = u }) e f

book_fixed : {a b : RefusedBook} → a.why ≡ b.why → a.place ≡ b.place → a.session ≡ b.session → a ≡ b
book_fixed {a} {b} e f g =
    ap₂ (λ (w : Refusal) (p : ℕ). record { why = w; place = p; session = a.session }) e f
    ∙ ap (λ (s : Session). record { why = b.why; place = b.place; session = s }) g

pub read_fixed : (x y : Result Session RefusedBook) → reply_of_read x ≡ reply_of_read y → x ≡ y
read_fixed (Ok s) (Ok r) e = ap Ok (ap (λ (reply : Reply). reply.session) e)
read_fixed (Ok s) (Err refused) e =
    absurd (omega (arith, number_positive refused.why, ap (λ (reply : Reply). reply.number) e))
read_fixed (Err refused) (Ok r) e =
    absurd (omega (arith, number_positive refused.why, ap (λ (reply : Reply). reply.number) e))
read_fixed (Err refused) (Err other) e =
    let why = number_fixed refused.why other.why (ap (λ (reply : Reply). reply.number) e) in
    let place : refused.place ≡ other.place = ap (λ (reply : Reply). reply.place) e in
    let session : refused.session ≡ other.session = ap (λ (reply : Reply). reply.session) e in
    ap Err (book_fixed why place session)

-- a question that asks is none that does not
unlike : {A : Type 0} → true ≡ false → A
unlike e = absurd (false≢true (sym e))

-- as C gets the question and the count, where the cases of one number differ in their other values
pub question_fixed :
    (x y : Result (Option Asked) Refusal) → question_for (question_of x) ≡ question_for (question_of y) → x ≡ y
question_fixed (Ok (Some a)) (Ok (Some b)) e =
    let lower : a.lower ≡ b.lower = ap (λ (q : CrossedQuestion). q.lower) e in
    let upper : a.upper ≡ b.upper = ap (λ (q : CrossedQuestion). q.upper) e in
    ap (λ (asked : Asked). Ok (Some asked)) (asked_fixed lower upper)
question_fixed (Ok (Some a)) (Ok None) e = unlike (ap (λ (q : CrossedQuestion). q.asks) e)
question_fixed (Ok (Some a)) (Err why) e = unlike (ap (λ (q : CrossedQuestion). q.asks) e)
question_fixed (Ok None) (Ok (Some b)) e = unlike (sym (ap (λ (q : CrossedQuestion). q.asks) e))
question_fixed (Ok None) (Ok None) e = refl
question_fixed (Ok None) (Err why) e =
    absurd (omega (arith, number_positive why, ap (λ (q : CrossedQuestion). q.number) e))
question_fixed (Err why) (Ok (Some b)) e = unlike (sym (ap (λ (q : CrossedQuestion). q.asks) e))
question_fixed (Err why) (Ok None) e =
    absurd (omega (arith, number_positive why, ap (λ (q : CrossedQuestion). q.number) e))
question_fixed (Err why) (Err other) e = ap Err (number_fixed why other (ap (λ (q : CrossedQuestion). q.number) e))

pub count_fixed : (x y : Result ℕ Refusal) → count_for (count_of x) ≡ count_for (count_of y) → x ≡ y
count_fixed (Ok c) (Ok d) e = ap Ok (ap (λ (r : CrossedCount). r.count) e)
count_fixed (Ok c) (Err why) e =
    absurd (omega (arith, number_positive why, ap (λ (r : CrossedCount). r.number) e))
count_fixed (Err why) (Ok d) e =
    absurd (omega (arith, number_positive why, ap (λ (r : CrossedCount). r.number) e))
count_fixed (Err why) (Err other) e = ap Err (number_fixed why other (ap (λ (r : CrossedCount). r.number) e))
