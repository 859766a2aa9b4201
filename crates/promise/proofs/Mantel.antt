-- Mantel's theorem: a graph on the numbers below n that has no triangle has at most n * n / 4 edges. Near a number
-- are those that an edge joins to it; the others are far. The ends a and b of an edge have no neighbour in common, so
-- each number is far from one of them: n ≤ far a + far b. Sum that over the edges. Each number u is an end of near u
-- edges, so n * edges ≤ the sum of far u * near u. As far u + near u is n, no far u * near u is above n * n / 4.
-- Assumes nothing.
use mathlib.Core.Logic.{◌⊎◌, inl, inr}
use mathlib.Core.List.{List}
use Prim.Native.Nat.{ℕ, zero, suc, ◌+◌, ◌*◌, ◌-◌, ◌≤◌}
use native.Mathlib.Nat.{mul-suc, suc-mul, mul_left_comm, le_of_mul-le-mul_left}
use native.Mathlib.Omega.{arith}
use lib.ListN.{length}
use Rattle.order.specs.Tables.{Pair, Lists}
use Rattle.order.proofs.Decide.{either}
use Rattle.order.proofs.Counting.{
  sum,
  sum_le,
  sum_bound,
  sum_add,
  sum_times,
  sum_ends,
  bit,
  bit_small,
  bit_either,
  bit_two,
  pairs_length,
}

-- the product of two numbers that are n or less together
product_small : (n x y : ℕ) → x + y ≤ n → 4 * (x * y) ≤ n * n
product_small n zero y h = omega arith
product_small n (suc x) zero h = omega arith
product_small zero (suc x) (suc y) h = absurd (omega arith)
product_small (suc zero) (suc x) (suc y) h = absurd (omega arith)
product_small (suc (suc n)) (suc x) (suc y) h =
    simp (suc-mul, mul-suc) (omega (arith, product_small n x y (omega arith)))

-- No edge goes both ways, and no three make a triangle: neither two in a row and one past them, nor three in a round.
pub record NoTriangle (E : ℕ → ℕ → Type 0) : Type 0 where
  pub one_way : {a b : ℕ} → E a b → E b a → ⊥
  pub no_shortcut : {a b c : ℕ} → E a b → E b c → E a c → ⊥
  pub no_round : {a b c : ℕ} → E a b → E b c → E c a → ⊥

module _ (E : ℕ → ℕ → Type 0) (dec : (a b : ℕ) → Dec (E a b)) where
  -- whether an edge joins a and b, one way or the other
  dec_joined : (a b : ℕ) → Dec (E a b ⊎ E b a)
  dec_joined a b = either (dec a b) (dec b a)

  module _ (n : ℕ) where
    -- how many are near a, and how many far
    near : ℕ → ℕ
    near a = sum n (λ v. bit (dec_joined a v))

    far : ℕ → ℕ
    far a = n - near a

    -- how many edges there are, and how many from u or to u
    edges : ℕ
    edges = sum n (λ a. sum n (λ b. bit (dec a b)))

    edges_at : ℕ → ℕ
    edges_at u = sum n (λ v. bit (dec u v)) + sum n (λ v. bit (dec v u))

    module _ (free : NoTriangle E) where
      -- the ends of an edge have no neighbour in common
      apart : {a b v : ℕ} → E a b → E a v ⊎ E v a → E b v ⊎ E v b → ⊥
      apart e (inl p) (inl q) = free.no_shortcut e q p
      apart e (inl p) (inr q) = free.no_shortcut p q e
      apart e (inr p) (inl q) = free.no_round e q p
      apart e (inr p) (inr q) = free.no_shortcut p e q

      -- so that each number is far from one of them
      far_ends : {a b : ℕ} → E a b → n ≤ far a + far b
      unfolding near far
      far_ends {a} {b} e =
          omega (arith, simp sum_add at (sum_bound n (λ v. bit_two (dec_joined a v) (dec_joined b v) (apart e))))

      -- the same, of a pair that may be no edge and then counts for nothing
      far_pair : {a b : ℕ} (d : Dec (E a b)) → n * bit d ≤ (far a + far b) * bit d
      far_pair (yes e) = omega (arith, far_ends e)
      far_pair (no e) = omega arith

      -- and no number has more edges than neighbours
      far_rest : (u : ℕ) → far u + edges_at u ≤ n
      unfolding dec_joined near far edges_at
      far_rest u =
          omega (
            arith,
            simp sum_add at (sum_le n (λ v. bit_either (dec u v) (dec v u) free.one_way)),
            sum_bound n (λ v. bit_small (dec_joined u v)),
          )

      -- the theorem, n times
      edges_times : n * (4 * edges) ≤ n * (n * n)
      unfolding edges edges_at
      edges_times =
          omega (
            arith,
            mul_left_comm n 4 edges,
            simp sum_times at (sum_le n (λ a. sum_le n (λ b. far_pair (dec a b)))),
            sum_ends n far (λ a b. bit (dec a b)),
            simp sum_times at (sum_bound n (λ u. product_small n (far u) (edges_at u) (far_rest u))),
          )

  -- the theorem: l lists the edges
  pub few_edges : NoTriangle E → (n : ℕ) {l : List Pair} → Lists n E l → 4 * length l ≤ n * n
  unfolding sum edges
  few_edges free zero h = omega (arith, pairs_length E dec h)
  few_edges free (suc n) h = rw (pairs_length E dec h) (le_of_mul-le-mul_left (edges_times (suc n) free) (omega arith))
