-- What a call still owes where only some of its refusals may be due.
-- Assumes nothing.
use Rattle.std.specs.Prelude.{List}
use Rattle.promise.specs.Refusals.{Condition}
use Rattle.promise.specs.Calls.{Call}

-- the same call with these refusals
abbrev pub left : {Outcome : Type 0} → List Condition → Call Outcome → Call Outcome
left own call = record { refusals = own; number = call.number; refused = call.refused; Done = call.Done }
