-- A row of a table written anew.
-- Assumes nothing.
use mathlib.Core.Path.{◌≡◌, sym, ◌∙◌}
use mathlib.Core.Logic.{◌≢◌, ◌⊎◌, inl, inr}
use mathlib.Core.Bool.{Bool}
use mathlib.Core.List.{List}
use Prim.Native.Nat.{ℕ, ◌+◌, ◌*◌, ◌≤◌, ◌<◌}
use native.Mathlib.Decide.{dec_lt}
use native.Mathlib.Omega.{arith}
use borrow.Rule.Slice.PartMut.{put_mid}
use lib.ListN.{length, get_or, take, drop, length-take, length-drop}
use lib.Seq.{get_or-take, get_or-drop}
use Rattle.std.proofs.lemmas.List.{places}
use Rattle.std.proofs.lemmas.Nat.{row_fits}
use Rattle.order.specs.Tables.{mark, SameRest}
use Rattle.promise.specs.Clips.{Flagged}
use Rattle.passes.specs.Spread.{Becomes, RowMarked}

-- one part of a list is replaced
module _ (t row : List ℕ) (i k : ℕ) (fits : i + k ≤ length t) (size : length row ≡ k) where
  replaced : (j : ℕ) → j < k → get_or (put_mid i k t row) (i + j) 0 ≡ get_or row j 0
  replaced j l = grind (arith, places)

  kept : (j : ℕ) → (j < i) ⊎ (i + k ≤ j) → get_or (put_mid i k t row) j 0 ≡ get_or t j 0
  kept j l = grind (arith, places)

  same_length : length t ≡ length (put_mid i k t row)
  same_length = grind (arith, places)

-- row x is marked at the flagged columns, and nothing else is changed
pub record RowChanged (n x : ℕ) (ys : List Bool) (v : ℕ) (t u : List ℕ) : Type 0 where
  pub row : (y : ℕ) → y < n → Becomes (Flagged ys y) v (mark n t x y) (mark n u x y)
  pub other : (a y : ℕ) → y < n → a ≢ x → mark n u a y ≡ mark n t a y
  pub rest : SameRest n t u

-- what stands outside row x
outside : (n x a y : ℕ) → y < n → a ≢ x → (a * n + y < x * n) ⊎ (x * n + n ≤ a * n + y)
outside n x a y hy ne = go (dec_lt a x)
  where
    go : Dec (a < x) → (a * n + y < x * n) ⊎ (x * n + n ≤ a * n + y)
    go (yes l) = inl (omega (arith, row_fits a n x n l (omega arith)))
    go (no l) = inr (omega (arith, row_fits x n a n (omega arith) (omega arith)))

-- row x is marked
pub row_changed :
    {n x k : ℕ} {ys : List Bool} {v : ℕ} {t row : List ℕ} → n * n ≤ length t → x < n → k ≡ n
    → RowMarked ys v (take k (drop (x * n) t)) row → RowChanged n x ys v t (put_mid (x * n) k t row)
unfolding mark
row_changed {n} {x} {k} {ys} {v} {t} {row} room hx wide h =
    let within : x * n + n ≤ n * n = row_fits x n n n hx (omega arith) in
    let fits : x * n + k ≤ length t = omega arith in
    let size : length row ≡ k = omega (arith, h.size, length-take {A = ℕ}, length-drop {A = ℕ}) in
    record {
      row = λ y hy.
          let was : get_or (take k (drop (x * n) t)) y 0 ≡ get_or t (x * n + y) 0 =
          get_or-take k (drop (x * n) t) y 0 (omega arith) ∙ get_or-drop (x * n) t y 0
          in
          rw (replaced t row (x * n) k fits size y (omega arith), ← was) (h.each y (omega (arith, h.size)));
      other = λ a y hy ne. kept t row (x * n) k fits size (a * n + y) (rw wide (outside n x a y hy ne));
      rest =
          record {
            size = same_length t row (x * n) k fits size;
            rest = λ i l. sym (kept t row (x * n) k fits size i (inr (omega arith)));
          };
    }
