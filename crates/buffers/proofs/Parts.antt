-- A buffer of which the part from an index on was lent.
-- Assumes nothing.
use mathlib.Core.Path.{◌≡◌}
use mathlib.Core.List.{List, ◌++◌}
use Prim.Native.Nat.{ℕ, ◌-◌}
use native.Mathlib.Omega.{arith}
use Rattle.std.proofs.Common.{rules}
use Rattle.std.proofs.lemmas.List.{same_lists, places}
use lib.ListN.{length, take, drop}
use Rattle.buffers.specs.Placed.{Placed}

module _ (start : ℕ) (out : List ℕ) where
  -- the part of the buffer from start on
  abbrev pub part : List ℕ
  part = take (length out - start) (drop start out)

  -- the buffer with that part replaced
  abbrev pub replaced : List ℕ → List ℕ
  replaced u = take start out ++ (u ++ drop (length out - start) (drop start out))

  pub part_length : length part ≡ length out - start
  part_length = search (rules, places)

  -- what stands at the front of the part stands from start on
  pub part_placed : {w u : List ℕ} → Placed w 0 part u → Placed w start out (replaced u)
  part_placed {w} {u} h =
      record {
        bytes = rw h.bytes (same_lists _ _ (search (rules, places)) (λ k d l. grind (arith, places)));
      }
