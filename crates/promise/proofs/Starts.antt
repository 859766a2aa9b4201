-- "every other call except reading starts 1, 2, 3, 4": where one of these is due, it is the number of the outcome,
-- whatever else is due.
-- Assumes nothing.
use mathlib.Core.Path.{◌≡◌}
use mathlib.Core.Logic.{◌≢◌}
use mathlib.Core.Bool.{Bool}
use mathlib.Core.List.{List, []}
use Prim.Native.Nat.{ℕ}
use Rattle.order.specs.Facts.{Fact}
use Rattle.promise.specs.declared.Session.{Session}
use Rattle.promise.specs.declared.Reply.{Reply}
use Rattle.promise.specs.Next.{Question}
use Rattle.promise.specs.Calls.{Counted}
use Rattle.promise.specs.Refusals.{Condition, First, standing}
use Rattle.promise.specs.Calls.{Owed, count_number, open_pairs}
use Rattle.promise.specs.declared.Kind.{Kind}
use Rattle.promise.specs.Tell.{tell_refusals, tell}
use Rattle.promise.specs.Clips.{clip_refusals, clip, bytes_refusals, clip_bytes}
use Rattle.promise.specs.Next.{question_number, next}
use Rattle.promise.specs.Hierarchy.{hierarchy_refusals, hierarchy, ladder_refusals, ladder}
use Rattle.promise.specs.Book.{write_refusals, write}
use Rattle.promise.proofs.Refusals.{first_unique}
use Rattle.promise.proofs.Standing.{standing_refused}

module _ (s : Session) (t : List ℕ) (k : ℕ) (due : First (standing s t []) k) (some : k ≢ 0) where
  starts : (own : List Condition) (number : ℕ) → First (standing s t own) number → number ≡ k
  starts own number first =
      first_unique (standing s t own) number k first (standing_refused own s t k due some)

  pub tell_starts : (kind : Kind) (f : Fact) {o : Reply × List ℕ} → Owed (tell kind s t f) o → o.0.number ≡ k
  tell_starts kind f h = starts (tell_refusals s t f) _ h.number

  pub clip_starts : (played : List Bool) {o : Reply × List ℕ} → Owed (clip s t played) o → o.0.number ≡ k
  clip_starts played h = starts (clip_refusals s t played) _ h.number

  pub bytes_starts : (bytes : List ℕ) {o : Reply × List ℕ} → Owed (clip_bytes s t bytes) o → o.0.number ≡ k
  bytes_starts bytes h = starts (bytes_refusals s t bytes) _ h.number

  pub next_starts : {q : Question} → Owed (next s t) q → question_number q ≡ k
  next_starts h = starts [] _ h.number

  pub open_pairs_starts : {r : Counted} → Owed (open_pairs s t) r → count_number r ≡ k
  open_pairs_starts h = starts [] _ h.number

  pub hierarchy_starts :
      (heads steps : List ℕ) {o : Counted × (List ℕ × List ℕ)} → Owed (hierarchy s t heads steps) o
      → count_number o.0 ≡ k
  hierarchy_starts heads steps h = starts (hierarchy_refusals s t heads steps) _ h.number

  pub ladder_starts :
      (a b : ℕ) (out : List ℕ) {o : Counted × List ℕ} → Owed (ladder s t a b out) o → count_number o.0 ≡ k
  ladder_starts a b out h = starts (ladder_refusals s t a b out) _ h.number

  pub write_starts : (out : List ℕ) {o : Counted × List ℕ} → Owed (write s t out) o → count_number o.0 ≡ k
  write_starts out h = starts (write_refusals s t out) _ h.number
