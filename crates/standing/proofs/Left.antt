-- What is still owed is owed by the call itself, where the refusals before are not due.
-- Assumes nothing.
use mathlib.Core.List.{List}
use Rattle.promise.specs.Refusals.{Condition, First}
use Rattle.promise.specs.Calls.{Call, Owed}
use Rattle.standing.specs.Left.{left}

pub left_owed :
    {O : Type 0} (own : List Condition) (c : Call O) {o : O}
    → (First own (c.number o) → First c.refusals (c.number o))
    → Owed (left own c) o → Owed c o
left_owed own c due h = record { number = due h.number; refused = h.refused; done = h.done }
