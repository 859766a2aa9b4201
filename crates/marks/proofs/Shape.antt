-- Where the mark of (a, b) stands, and what a store there does.
-- Assumes nothing.
use mathlib.Core.Path.{◌≡◌, sym, ◌∙◌}
use mathlib.Core.List.{List}
use Prim.Native.Nat.{ℕ, ◌+◌, ◌*◌, ◌≤◌, ◌<◌}
use native.Mathlib.Omega.{arith}
use lib.ListN.{length, set, length-set}
use lib.Seq.{get_or-set_same, get_or-set_other}
use Rattle.std.proofs.lemmas.Nat.{same_from_place}
use Rattle.order.specs.Tables.{mark, SameRest}
use Rattle.marks.specs.Shape.{IndexOf}

-- what a store at (a, b) does: the mark there is the byte, and every other is as before
module _ {n a b i : ℕ} (v : ℕ) (t : List ℕ) (at : IndexOf n a b i) where
  pub stored : n * n ≤ length t → mark n (set t i v) a b ≡ v
  unfolding mark
  stored room = rw (← at.is) (get_or-set_same t i v 0 (omega (arith, at.below)))

  pub elsewhere :
      (x y : ℕ) → b < n → y < n → (x ≡ a → y ≡ b → ⊥) → mark n (set t i v) x y ≡ mark n t x y
  unfolding mark
  elsewhere x y hb hy other =
      get_or-set_other t i (x * n + y) v 0 (λ e.
      let p = same_from_place x y a b n hy hb (e ∙ at.is) in
      other p.0 p.1)

  pub rest_store : SameRest n t (set t i v)
  rest_store =
      record {
        size = sym (length-set t i v);
        rest = λ k l. sym (get_or-set_other t i k v 0 (λ e. omega (arith, at.below, e)));
      }
