-- `Marks::first_open` meets its contract: no pair passed is open.
-- Assumes nothing.
use mathlib.Core.Path.{◌≡◌}
use Prim.Native.Nat.{ℕ, ◌<◌}
use Rattle.std.proofs.Common.{None}
use Rattle.order.specs.Tables.{mark}
use Rattle.marks.specs.declared.lent.Marks.{Marks}
use Rattle.marks.proofs.lent.Marks.first_open.Given as goal

-- no mark of the rows before a is open
abbrev RowsPassed : Marks → ℕ → Type 0
RowsPassed m a = (x : ℕ) → x < a → (y : ℕ) → y < m.classes → mark m.classes m.bytes.now x y ≡ 0 → ⊥

-- no mark of row a before (a, b) is open
abbrev ColumnsPassed : Marks → ℕ → ℕ → Type 0
ColumnsPassed m a b = (y : ℕ) → y < b → mark m.classes m.bytes.now a y ≡ 0 → ⊥

abbrev pub invariant-loop-b : goal.invariant-loop-b
invariant-loop-b l = (l.found ≡ None) × RowsPassed l.self l.a × ColumnsPassed l.self l.a l.b

abbrev pub invariant-rows : goal.invariant-rows
invariant-rows l = (l.found ≡ None) × RowsPassed l.self l.a
