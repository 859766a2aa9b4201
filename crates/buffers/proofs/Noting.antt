-- Pairs counted and written one after the other, row by row.
-- Assumes nothing.
use mathlib.Core.Path.{◌≡◌, refl, ◌∙◌, ap}
use mathlib.Core.List.{List, [], ◌∷◌, ◌++◌}
use Prim.Native.Nat.{ℕ, ◌+◌, ◌*◌, ◌≤◌, ◌<◌}
use native.Mathlib.Nat.{mul-le-mul}
use native.Mathlib.Omega.{arith}
use lib.ListN.{length, length-append}
use Rattle.order.specs.Tables.{Pair, Lists, bytes_of}
use Rattle.order.proofs.Pairs.{pairs_of, pairs_before, before_none, before_hit, before_miss, before_row, before_all}
use Rattle.order.proofs.Pairs.{pairs_listed, bytes_append, length_bytes}
use Rattle.order.proofs.Counting.{before_length}
use Rattle.buffers.specs.Noted.{PairPut, Noted}
use Rattle.buffers.proofs.Placing.{placed_behind}

noted_none : (out : List ℕ) → Noted out [] 0 out
noted_none out = record { counted = refl; size = refl; written = λ _. record { bytes = refl } }

-- two bytes behind those written are one pair more
noted_more :
    {out out₁ out₂ : List ℕ} {l : List Pair} {count : ℕ} (a b : ℕ) → Noted out l count out₁ → length out₂ ≡ length out₁
    → PairPut (2 * count) a b out₁ out₂ → Noted out (l ++ (a, b) ∷ []) (count + 1) out₂
noted_more {out} {out₁} {out₂} {l} {count} a b h e put =
    let more = bytes_append l ((a, b) ∷ []) in
    let many : 2 * count ≡ 0 + length (bytes_of l) = omega (arith, h.counted, length_bytes l) in
    record {
      counted = omega (arith, h.counted, length-append l ((a, b) ∷ []));
      size = e ∙ h.size;
      written = λ room.
          let all = ap (λ (u : List ℕ). length u) more ∙ length-append (bytes_of l) (a ∷ b ∷ []) in
          rw more (placed_behind many (omega arith) (h.written (omega arith)) (put.put (omega (arith, h.size))));
    }

-- the pairs that P has before (a, b) are noted
pub record SoFar
    (P : ℕ → ℕ → Type 0) (dec : (a b : ℕ) → Dec (P a b)) (n : ℕ) (out : List ℕ) (count : ℕ) (out₁ : List ℕ) (a b : ℕ)
    : Type 0 where
  pub noted : Noted out (pairs_before P dec n a b) count out₁

module _ {P : ℕ → ℕ → Type 0} {dec : (a b : ℕ) → Dec (P a b)} {n : ℕ} where
  pub so_far_none : (out : List ℕ) → SoFar P dec n out 0 out 0 0
  so_far_none out = record { noted = rw (before_none P dec n) (noted_none out) }

  module _ {out : List ℕ} {count : ℕ} {out₁ : List ℕ} {a b : ℕ} (h : SoFar P dec n out count out₁ a b) where
    pub few : n ≤ 128 → a < n → b < n → count < 16384
    few small la lb =
        omega (
          arith,
          h.noted.counted,
          before_length P dec n a b,
          mul-le-mul {n₁ = a} {m₁ = n} {n₂ = 127} {m₂ = 128} (omega arith) small,
        )

    pub hit :
        {out₂ : List ℕ} → P a b → length out₂ ≡ length out₁ → PairPut (2 * count) a b out₁ out₂
        → SoFar P dec n out (count + 1) out₂ a (b + 1)
    hit p e put = record { noted = rw (before_hit P dec n a b p) (noted_more a b h.noted e put) }

    pub miss : ¬ P a b → SoFar P dec n out count out₁ a (b + 1)
    miss p = record { noted = rw (before_miss P dec n a b p) h.noted }

    pub row_end : b ≡ n → SoFar P dec n out count out₁ (a + 1) 0
    row_end e = record { noted = rw (before_row P dec n a) (rw e at h.noted) }

  pub all_few :
      {out : List ℕ} {count : ℕ} {out₁ : List ℕ} {a : ℕ} → n ≤ 128 → a ≡ n → SoFar P dec n out count out₁ a 0
      → count ≤ 128 * 128
  all_few {a = a} small e h =
      let square = mul-le-mul {n₁ = a} {m₁ = n} {n₂ = 128} {m₂ = 128} (omega arith) small in
      omega (arith, h.noted.counted, before_length P dec n a 0, square)

  pub all_noted :
      {out : List ℕ} {count : ℕ} {out₁ : List ℕ} {a : ℕ} → a ≡ n → SoFar P dec n out count out₁ a 0
      → (l : List Pair) × Lists n P l × Noted out l count out₁
  all_noted e h = (pairs_of P dec n, pairs_listed P dec n, rw (← before_all P dec n) (rw e at h.noted))
