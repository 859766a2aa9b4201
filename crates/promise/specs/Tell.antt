-- Fresh, tell and answer: a new table, and a fact taken in.
-- Assumes nothing.
use Rattle.std.specs.Prelude.{◌⊎◌, List, [], ◌∷◌, ℕ, zero, suc, ◌≤◌}
use Rattle.order.specs.Facts.{Fact, ◌with◌}
use Rattle.order.specs.Tables.{mark, TableOf, Marks, Contradicts, Fresh}
use Rattle.promise.specs.Refusals.{Condition, standing, no_such_class, contradicted, bad_count, short_table}
use Rattle.promise.specs.declared.Kind.{Kind}
use Rattle.promise.specs.declared.Session.{Session}
use Rattle.promise.specs.declared.Reply.{Reply}
use Rattle.promise.specs.Calls.{tested, no_session, started, Call, changes}

-- "fresh 1, 2"
abbrev pub fresh_refusals : ℕ → List ℕ → List Condition
fresh_refusals n t = bad_count n ∷ short_table n t ∷ []

-- Fresh for n classes on the table t: "yes on the diagonal, open elsewhere, tally 0"; refused, "n 0 and tally 0".
abbrev pub fresh : ℕ → List ℕ → Call (Reply × List ℕ)
fresh n t = changes (fresh_refusals n t) no_session (started n) n (Fresh n) t

-- "Tell takes a fact and never counts. Answer takes a fact and adds one to the tally exactly when that pair was open
-- before the call and the fact is accepted": what a call adds, by its refusal number and the mark of its pair before
abbrev pub adds : Kind → ℕ → ℕ → ℕ
adds Kind.Told number m = 0
adds Kind.Answered zero zero = 1
adds Kind.Answered zero (suc m) = 0
adds Kind.Answered (suc k) m = 0

-- "tell and answer 5, 6"
abbrev pub tell_refusals : Session → List ℕ → Fact → List Condition
tell_refusals s t f =
    no_such_class ((s.classes ≤ f.lower) ⊎ (s.classes ≤ f.upper)) ∷ contradicted (Contradicts s.classes t f) ∷ []

-- With session s and table t the fact f is told, or given as an answer; accepted, the marks are those of t and of f.
abbrev pub tell : Kind → Session → List ℕ → Fact → Call (Reply × List ℕ)
tell kind s t f =
    changes (standing s t (tell_refusals s t f)) s (tested (adds kind 0 (mark s.classes t f.lower f.upper)) s)
    s.classes (TableOf s.classes (Marks s.classes t with f)) t
