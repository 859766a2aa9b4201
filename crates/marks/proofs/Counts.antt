-- The open marks of a table, counted in the list of its marks.
-- Assumes nothing.
use mathlib.Core.Path.{◌≡◌, refl, ap}
use mathlib.Core.Bool.{cond, false}
use mathlib.Core.List.{List}
use Prim.Native.Nat.{ℕ, zero, suc, ◌*◌, ◌≤◌, ◌<◌}
use native.Mathlib.Numerals.{add-one}
use native.Mathlib.Omega.{arith}
use borrow.Author.Tests.{ne_eqb}
use lib.Dec.{eqb}
use lib.ListN.{length, get_or, take}
use Rattle.std.specs.List.{count_by}
use Rattle.std.proofs.lemmas.List.{take_all}
use Rattle.std.proofs.lemmas.List.Sums.{sum_by_more}
use Rattle.order.specs.Tables.{open_count, opens_to, opens}
use Rattle.marks.specs.Shape.{AllOf}

counts_one : (m : ℕ) → open_count m ≡ cond (eqb m 0) 1 0
counts_one zero = refl
counts_one (suc m) = let ne : eqb (suc m) 0 ≡ false = ne_eqb (suc m) 0 (λ e. omega arith) in rw ne refl

counts_first : (t marks : List ℕ) (k : ℕ) → k ≤ length marks
    → ((i : ℕ) → i < k → get_or marks i 0 ≡ get_or t i 0) → count_by (λ m. eqb m 0) (take k marks) ≡ opens_to k t
unfolding opens_to
counts_first t marks zero h same = refl
counts_first t marks (suc k) h same =
    omega (
      arith,
      rw (add-one k) at (sum_by_more (λ m. cond (eqb m 0) 1 0) marks k 0 (omega arith)),
      counts_first t marks k (omega arith) (λ i l. same i (omega arith)),
      counts_one (get_or marks k 0),
      ap open_count (same k (omega arith)),
    )

-- all marks are counted
pub counts_open : {n : ℕ} {t marks : List ℕ} → AllOf n t marks → count_by (λ m. eqb m 0) marks ≡ opens n t
counts_open {n} {t} {marks} h =
    let whole : take (n * n) marks ≡ marks = take_all (n * n) marks (omega (arith, h.size)) in
    rw whole at (counts_first t marks (n * n) (omega (arith, h.size)) h.at)
