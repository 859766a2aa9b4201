-- The calls as C sees them: two outcomes for one input are equal, and there is one, the image of what the call itself
-- owes.
-- Assumes nothing.
use mathlib.Core.Path.{◌≡◌, refl, ◌∙◌}
use mathlib.Core.List.{List}
use Prim.Native.Nat.{ℕ}
use Rattle.promise.specs.declared.Session.{Session}
use Rattle.promise.specs.Next.{Question}
use Rattle.promise.specs.Next.Question.{Ask, Done, Refused}
use Rattle.promise.specs.Calls.{Counted}
use Rattle.promise.specs.Calls.Counted.{Count}
use Rattle.promise.specs.declared.CrossedQuestion.{CrossedQuestion}
use Rattle.promise.specs.declared.CrossedCount.{CrossedCount}
use Rattle.promise.specs.Calls.{Call, Owed, count_number, open_pairs, count_for, count_for_c, writes_for_c}
use Rattle.promise.specs.Next.{question_number, next, question_for, next_for_c}
use Rattle.promise.specs.Hierarchy.{hierarchy, ladder}
use Rattle.promise.specs.Book.{write}
use Rattle.promise.proofs.Calls.{Fixed, crossing_owed, crossing_there, crossing_unique}
use Rattle.promise.proofs.Next.{next_fixed, next_there}
use Rattle.promise.proofs.Counts.{open_pairs_fixed, open_pairs_there}
use Rattle.promise.proofs.Hierarchy.{hierarchy_fixed, hierarchy_there}
use Rattle.promise.proofs.Ladder.{ladder_fixed, ladder_written_there}
use Rattle.promise.proofs.Write.{write_fixed, write_there}

-- the number that C gets is that of the answer

pub same_question : (q : Question) → (question_for q).number ≡ question_number q
same_question (Ask a b) = refl
same_question Done = refl
same_question (Refused number place) = refl

pub same_count : (r : Counted) → (count_for r).number ≡ count_number r
same_count (Count c) = refl
same_count (Counted.Refused number place) = refl

module _ (s : Session) (t : List ℕ) where
  pub next_crosses : {q : Question} → Owed (next s t) q → Owed (next_for_c s t) (question_for q)
  next_crosses = crossing_owed question_for (λ q. q.number) (next s t) same_question

  pub next_for_c_unique : {q q₂ : CrossedQuestion} → Owed (next_for_c s t) q → Owed (next_for_c s t) q₂ → q ≡ q₂
  next_for_c_unique = crossing_unique question_for (λ q. q.number) (next s t) same_question (next_fixed s t)

  unfoldable pub next_for_c_there : (q : CrossedQuestion) × Owed (next_for_c s t) q
  next_for_c_there = crossing_there question_for (λ q. q.number) (next s t) same_question (next_there s t)

  pub open_pairs_crosses : {r : Counted} → Owed (open_pairs s t) r → Owed (count_for_c (open_pairs s t)) (count_for r)
  open_pairs_crosses = crossing_owed count_for (λ r. r.number) (open_pairs s t) same_count

  pub open_pairs_for_c_unique :
      {r r₂ : CrossedCount} → Owed (count_for_c (open_pairs s t)) r → Owed (count_for_c (open_pairs s t)) r₂ → r ≡ r₂
  open_pairs_for_c_unique =
      crossing_unique count_for (λ r. r.number) (open_pairs s t) same_count (open_pairs_fixed s t)

  unfoldable pub open_pairs_for_c_there : (r : CrossedCount) × Owed (count_for_c (open_pairs s t)) r
  open_pairs_for_c_there = crossing_there count_for (λ r. r.number) (open_pairs s t) same_count (open_pairs_there s t)

-- any call that writes and counts, and then each: hierarchy, ladder, write
module _
    {Bytes : Type 0} (c : Call (Counted × Bytes))
    (numbered : (o : Counted × Bytes) → count_number o.0 ≡ c.number o) where
  abbrev image : Counted × Bytes → CrossedCount × Bytes
  image o = (count_for o.0, o.1)

  abbrev same : (o : Counted × Bytes) → (image o).0.number ≡ c.number o
  same o = same_count o.0 ∙ numbered o

  pub writes_crosses : {o : Counted × Bytes} → Owed c o → Owed (writes_for_c c) (count_for o.0, o.1)
  writes_crosses = crossing_owed image (λ o. o.0.number) c same

  pub writes_for_c_unique :
      Fixed c → {o o₂ : CrossedCount × Bytes} → Owed (writes_for_c c) o → Owed (writes_for_c c) o₂ → o ≡ o₂
  writes_for_c_unique = crossing_unique image (λ o. o.0.number) c same

  unfoldable pub writes_for_c_there : (o : Counted × Bytes) × Owed c o → (i : CrossedCount × Bytes)
      × Owed (writes_for_c c) i
  writes_for_c_there = crossing_there image (λ o. o.0.number) c same

module _ (s : Session) (t heads steps : List ℕ) where
  pub hierarchy_for_c_unique :
      {o o₂ : CrossedCount × (List ℕ × List ℕ)} → Owed (writes_for_c (hierarchy s t heads steps)) o
      → Owed (writes_for_c (hierarchy s t heads steps)) o₂ → o ≡ o₂
  hierarchy_for_c_unique = writes_for_c_unique (hierarchy s t heads steps) (λ _. refl) (hierarchy_fixed s t heads steps)

  unfoldable pub hierarchy_for_c_there :
      (o : CrossedCount × (List ℕ × List ℕ)) × Owed (writes_for_c (hierarchy s t heads steps)) o
  hierarchy_for_c_there = writes_for_c_there (hierarchy s t heads steps) (λ _. refl) (hierarchy_there s t heads steps)

module _ (s : Session) (t : List ℕ) (a b : ℕ) (out : List ℕ) where
  pub ladder_for_c_unique :
      {o o₂ : CrossedCount × List ℕ} → Owed (writes_for_c (ladder s t a b out)) o
      → Owed (writes_for_c (ladder s t a b out)) o₂ → o ≡ o₂
  ladder_for_c_unique = writes_for_c_unique (ladder s t a b out) (λ _. refl) (ladder_fixed s t a b out)

  unfoldable pub ladder_for_c_there : (o : CrossedCount × List ℕ) × Owed (writes_for_c (ladder s t a b out)) o
  ladder_for_c_there = writes_for_c_there (ladder s t a b out) (λ _. refl) (ladder_written_there s t a b out)

module _ (s : Session) (t out : List ℕ) where
  pub write_for_c_unique :
      {o o₂ : CrossedCount × List ℕ} → Owed (writes_for_c (write s t out)) o → Owed (writes_for_c (write s t out)) o₂
      → o ≡ o₂
  write_for_c_unique = writes_for_c_unique (write s t out) (λ _. refl) (write_fixed s t out)

  unfoldable pub write_for_c_there : (o : CrossedCount × List ℕ) × Owed (writes_for_c (write s t out)) o
  write_for_c_there = writes_for_c_there (write s t out) (λ _. refl) (write_there s t out)
