-- Runs: "any run of tells and answers from a fresh table, refused ones among them, table and tally passed on
-- untouched"; "Demand 3 reads a clip as its noes, accepted or refused as one".
-- Assumes nothing.
use Rattle.std.specs.Prelude.{◌≡◌, ◌⊎◌, Bool, List, [], ◌∷◌, ℕ, zero, suc, ◌+◌}
use Rattle.order.specs.Facts.{Fact, Facts, Only, Below, Within}
use Rattle.order.specs.Tables.{mark, TableOf}
use Rattle.promise.specs.Refusals.{First, standing}
use Rattle.promise.specs.declared.Session.{Session}
use Rattle.promise.specs.declared.Reply.{Reply}
use Rattle.promise.specs.Calls.{Call, Owed}
use Rattle.promise.specs.declared.Kind.{Kind}
use Rattle.promise.specs.Tell.{adds, fresh, tell}
use Rattle.promise.specs.Clips.{ClipNo, MemberBeyond, clip}

-- The table t is that of the facts of S, with a session that it can be used with: refusals 1 to 4 are not due.
pub record StandsFor (S : Facts) (s : Session) (t : List ℕ) : Type 0 where
  pub within : Within s.classes S
  pub table : TableOf s.classes S t
  pub stands : First (standing s t []) 0

-- what a call takes in: a fact told or given as an answer, or a clip
pub data Intake : Type 0 where
  fact : Kind → Fact → Intake
  clipped : List Bool → Intake

-- the call that takes it in, with session s and table t
abbrev pub taking : Intake → Session → List ℕ → Call (Reply × List ℕ)
taking (Intake.fact kind f) s t = tell kind s t f
taking (Intake.clipped played) s t = clip s t played

-- the facts that a call says, for n classes
abbrev pub SaidBy : ℕ → Intake → Facts
SaidBy n (Intake.fact kind f) = Only f
SaidBy n (Intake.clipped played) = ClipNo n played

-- the facts that the calls of a list say
abbrev pub Said : ℕ → List Intake → Facts
Said n [] f = ⊥
Said n (c ∷ later) f = SaidBy n c f ⊎ Said n later f

-- every class that a call names is below n; and so for the calls of a list
abbrev pub Fits : ℕ → Intake → Type 0
Fits n (Intake.fact kind f) = Below n f
Fits n (Intake.clipped played) = ¬ MemberBeyond n played

abbrev pub AllFit : ℕ → List Intake → Type 0
AllFit n [] = Unit {0}
AllFit n (c ∷ later) = Fits n c × AllFit n later

-- what a call adds to the tally, by its refusal number and the session and the table before it
abbrev pub added_by : Intake → ℕ → Session → List ℕ → ℕ
added_by (Intake.fact kind f) number s t = adds kind number (mark s.classes t f.lower f.upper)
added_by (Intake.clipped played) number s t = 0

-- a call that was made, and the refusal number that it got
pub record Made : Type 0 where
  pub call : Intake
  pub number : ℕ

-- The calls of a list, the first first, lead from session s and table t to s' and t'.
pub data Run : Session → List ℕ → List Made → Session → List ℕ → Type 0 where
  stop : {s : Session} {t : List ℕ} → Run s t [] s t
  call :
      {m : Made} {later : List Made} {s s' : Session} {t t₁ t' : List ℕ} {r : Reply}
      → Owed (taking m.call s t) (r, t₁) → r.number ≡ m.number → Run r.session t₁ later s' t'
      → Run s t (m ∷ later) s' t'

-- fresh is accepted for n classes on the table t, and the calls of a list follow
pub record FromFresh (n : ℕ) (t : List ℕ) (made : List Made) (s' : Session) (t' : List ℕ) : Type 0 where
  pub reply : Reply
  pub table : List ℕ
  pub began : Owed (fresh n t) (reply, table)
  pub accepted : reply.number ≡ 0
  pub run : Run reply.session table made s' t'

-- the calls, without the refusal numbers that they got
abbrev pub calls_of : List Made → List Intake
calls_of [] = []
calls_of (m ∷ later) = m.call ∷ calls_of later

-- the facts of S where the number is 0, and none where the call was refused
abbrev pub UnlessRefused : ℕ → Facts → Facts
UnlessRefused zero S f = S f
UnlessRefused (suc k) S f = ⊥

-- the facts accepted, for n classes
abbrev pub Accepted : ℕ → List Made → Facts
Accepted n [] f = ⊥
Accepted n (m ∷ later) f = UnlessRefused m.number (SaidBy n m.call) f ⊎ Accepted n later f

-- every call of a list was accepted
abbrev pub AllAccepted : List Made → Type 0
AllAccepted [] = Unit {0}
AllAccepted (m ∷ later) = (m.number ≡ 0) × AllAccepted later

-- "a number read off the history": how many of the calls were answers accepted on pairs open before them
unfoldable pub tests_in : {s s' : Session} {t t' : List ℕ} {made : List Made} → Run s t made s' t' → ℕ
tests_in Run.stop = 0
tests_in (Run.call {m = m} {s = s} {t = t} makes same later) = added_by m.call m.number s t + tests_in later
