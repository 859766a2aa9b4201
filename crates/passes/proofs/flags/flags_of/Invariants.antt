-- `passes::flags::flags_of` meets its contract: each flag that the loop has passed is what the test said.
-- Assumes nothing.
use mathlib.Core.Path.{◌≡◌}
use mathlib.Core.Bool.{false}
use Prim.Native.Nat.{ℕ, ◌<◌}
use lib.ListN.{length, get_or}
use Rattle.passes.proofs.flags.flags_of.Given as goal

abbrev pub invariant-loop-x : goal.invariant-loop-x
invariant-loop-x g l = (length l.flags ≡ 128) × ((x : ℕ) → x < l.x → goal.F-post g l.test x (get_or l.flags x false))
