-- Groups, direct steps and ladders: document 01, "Groups, direct steps, ladders".
-- Assumes nothing.
use Rattle.std.specs.Prelude.{◌≡◌, ◌≢◌, ◌⊎◌, List, [], ◌∷◌, ℕ, ◌≤◌, ◌<◌, suc, length, get_or}
use Rattle.order.specs.Tables.{mark, Pair, Lists, bytes_of}
use Rattle.promise.specs.Refusals.{Condition, standing, still_open, no_room, no_such_class, no_ladder}
use Rattle.promise.specs.declared.Session.{Session}
use Rattle.promise.specs.Calls.{Counted}
use Rattle.promise.specs.Calls.Counted.{Count, Refused}
use Rattle.promise.specs.Calls.{Call, count_number, over, TooShort, writes}

-- a is under b
abbrev pub Under : ℕ → List ℕ → ℕ → ℕ → Type 0
Under n t a b = mark n t a b ≡ 1

-- "under each other both ways"
abbrev pub Equal : ℕ → List ℕ → ℕ → ℕ → Type 0
Equal n t a b = Under n t a b × Under n t b a

-- "The head of a class is the lowest number equal to it"
pub record HeadOf (n : ℕ) (t : List ℕ) (a h : ℕ) : Type 0 where
  pub below : h < n
  pub equal : Equal n t a h
  pub lowest : (c : ℕ) → c < n → Equal n t a c → h ≤ c

-- h is a head
abbrev pub Head : ℕ → List ℕ → ℕ → Type 0
Head n t h = HeadOf n t h h

-- "third head c has a under c and c under b"
pub record Third (n : ℕ) (t : List ℕ) (a b c : ℕ) : Type 0 where
  pub head : Head n t c
  pub not_lower : c ≢ a
  pub not_upper : c ≢ b
  pub above : Under n t a c
  pub under : Under n t c b

-- "A direct step from head a to head b: a is under b, they differ, and no third head c has a under c and c under b."
pub record Direct (n : ℕ) (t : List ℕ) (a b : ℕ) : Type 0 where
  pub from : Head n t a
  pub to : Head n t b
  pub under : Under n t a b
  pub differ : a ≢ b
  pub alone : (c : ℕ) → ¬ Third n t a b c

-- "n heads, a byte each in class order"
pub record HeadsOf (n : ℕ) (t hs : List ℕ) : Type 0 where
  pub size : length hs ≡ n
  pub at : (a : ℕ) → a < n → HeadOf n t a (get_or hs a 0)

-- the direct steps, "ordered by a and then b"
abbrev pub StepsOf : ℕ → List ℕ → List Pair → Type 0
StepsOf n t l = Lists n (Direct n t) l

-- "two bytes each"
abbrev pub StepBytes : ℕ → List ℕ → List ℕ → Type 0
StepBytes n t w = (l : List Pair) × StepsOf n t l × (w ≡ bytes_of l)

-- "hierarchy 7, 8"
abbrev pub hierarchy_refusals : Session → List ℕ → List ℕ → List ℕ → List Condition
hierarchy_refusals s t heads steps =
    still_open s.classes t
    ∷ no_room (TooShort (HeadsOf s.classes t) heads ⊎ TooShort (StepBytes s.classes t) steps)
    ∷ []

-- hierarchy, with session s, table t and two buffers; it counts the steps
abbrev pub hierarchy : Session → List ℕ → List ℕ → List ℕ → Call (Counted × (List ℕ × List ℕ))
hierarchy s t heads steps =
    record {
      refusals = standing s t (hierarchy_refusals s t heads steps);
      number = λ o. count_number o.0;
      refused = λ k. (Refused k 0, (heads, steps));
      Done = λ o.
          (hs : List ℕ) × (l : List Pair) × HeadsOf s.classes t hs × StepsOf s.classes t l
          × (o ≡ (Count (length l), (over hs heads, over (bytes_of l) steps)));
    }

-- "Each next rung is the lowest-numbered head directly above the last rung and under b"
pub record NextRung (n : ℕ) (t : List ℕ) (b rung next : ℕ) : Type 0 where
  pub direct : Direct n t rung next
  pub under : Under n t next b
  pub lowest : (c : ℕ) → Direct n t rung c → Under n t c b → next ≤ c

-- "what remains is the ladder from that rung on. It ends at the head of b. One byte a rung": from a rung on to b
pub data Ladder (n : ℕ) (t : List ℕ) (b : ℕ) : ℕ → List ℕ → Type 0 where
  end : {rung : ℕ} → HeadOf n t b rung → Ladder n t b rung (rung ∷ [])
  rung :
      {rung next : ℕ} {l : List ℕ} → NextRung n t b rung next → Ladder n t b next l → Ladder n t b rung (rung ∷ l)

-- "The ladder from a to b starts at the head of a."
pub record LadderOf (n : ℕ) (t : List ℕ) (a b : ℕ) (l : List ℕ) : Type 0 where
  pub start : ℕ
  pub head : HeadOf n t a start
  pub rungs : Ladder n t b start l

-- "heads strictly above the rung and under the goal", the goal being b
pub record Above (n : ℕ) (t : List ℕ) (b rung h : ℕ) : Type 0 where
  pub head : Head n t h
  pub differ : h ≢ rung
  pub above : Under n t rung h
  pub under : Under n t h b

-- m of the numbers below k have P
pub data Number (P : ℕ → Type 0) : ℕ → ℕ → Type 0 where
  none : Number P 0 0
  counted : {k m : ℕ} → P k → Number P k m → Number P (suc k) (suc m)
  passed : {k m : ℕ} → ¬ P k → Number P k m → Number P (suc k) m

-- "ladder 5, 7, 9, 8"
abbrev pub ladder_refusals : Session → List ℕ → ℕ → ℕ → List ℕ → List Condition
ladder_refusals s t a b out =
    no_such_class ((s.classes ≤ a) ⊎ (s.classes ≤ b))
    ∷ still_open s.classes t
    ∷ no_ladder s.classes t a b
    ∷ no_room (TooShort (LadderOf s.classes t a b) out)
    ∷ []

-- ladder, from a to b with session s, table t and a buffer; it counts the rungs
abbrev pub ladder : Session → List ℕ → ℕ → ℕ → List ℕ → Call (Counted × List ℕ)
ladder s t a b out = writes (standing s t (ladder_refusals s t a b out)) (LadderOf s.classes t a b) out
