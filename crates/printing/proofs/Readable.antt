-- What reading leaves can be used: its class count is at most 128, and its marks alone stand for its table.
-- Assumes nothing.
use Rattle.std.proofs.Common.{◌≡◌, ℕ, ◌*◌, ◌≤◌, List, [], take, Result, Ok, Err, MatchResult, refl, arith}
use Rattle.std.proofs.Common.{length-take-le}
use Rattle.order.proofs.Bytes.{front_marks}
use Rattle.promise.specs.declared.Reply.{Reply}
use Rattle.promise.specs.declared.Session.{Session}
use Rattle.promise.specs.declared.RefusedBook.{RefusedBook}
use Rattle.promise.specs.Refusals.{First, standing}
use Rattle.promise.specs.Calls.{accepted}
use Rattle.promise.specs.Book.{BookRead, reply_of_read}
use Rattle.promise.proofs.Answers.{number_positive}
use Rattle.promise.proofs.Standing.{Stands, first_stands, stands_by_marks, square}
use Rattle.promise.proofs.Taking.{stands_of}
use Rattle.promise.proofs.Runs.{fresh_run_stands}
use Rattle.promise.proofs.Read.{ReadAs, read_run}

-- the class count is at most 128, of a refused book too
pub few_classes : {book t : List ℕ} {r : Reply} {t' : List ℕ} → BookRead book t r t' → r.session.classes ≤ 128
few_classes {book} {t} {r} {t'} h = go (read_run h)
  where
    go : ReadAs book t r t' → r.session.classes ≤ 128
    go (ReadAs.not_begun k p none same why) = rw none (omega arith)
    go (ReadAs.whole k p right run) = (stands_of (fresh_run_stands run)).few
    go (ReadAs.cut k right run stop) = (stands_of (fresh_run_stands run)).few

-- the table of an accepted book stands
accepted_stands : {book t : List ℕ} {s : Session} {t' : List ℕ} → BookRead book t (accepted s) t' → Stands s t'
accepted_stands {book} {t} {s} {t'} h = go (read_run h)
  where
    go : ReadAs book t (accepted s) t' → Stands s t'
    go (ReadAs.not_begun k p none same why) = absurd (k refl)
    go (ReadAs.whole k p right run) = stands_of (fresh_run_stands run)
    go (ReadAs.cut k right run stop) = absurd (k refl)

-- so many classes are lent: as many as there are, and none where the book is refused
abbrev pub Lent : Result Session RefusedBook → ℕ → Type 0
Lent r n = MatchResult r (λ s. n ≡ s.classes) (λ _. n ≡ 0)

module _ {book t t' : List ℕ} (n : ℕ) where
  pub few_marks : (r : Result Session RefusedBook) → Lent r n → BookRead book t (reply_of_read r) t' → n * n ≤ 16384
  few_marks (Ok s) e h = square n (omega (arith, e, few_classes h))
  few_marks (Err refused) e h = rw e (omega arith)

  -- the marks of an accepted book's table can be used
  pub marks_ready :
      (r : Result Session RefusedBook) → Lent r n → BookRead book t (reply_of_read r) t' → (reply_of_read r).number ≡ 0
      → First (standing (reply_of_read r).session (take (n * n) t') []) 0
  marks_ready (Ok s) e h z =
      let st = accepted_stands h in
      rw e
      (first_stands []
      (stands_by_marks (front_marks s.classes t') (omega (arith, length-take-le (s.classes * s.classes) t' st.room)) st)
      refl)
  marks_ready (Err refused) e h z = absurd (omega (arith, number_positive refused.why, z))
