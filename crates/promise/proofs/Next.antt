-- Next: one answer for each input; asking and answering the pair asked ends.
-- Assumes nothing.
use mathlib.Core.Path.{◌≡◌, refl, sym, ◌∙◌, ap, ap₂, subst}
use mathlib.Core.Logic.{◌↔◌, ◌⊎◌, inl, inr}
use mathlib.Core.Bool.{Bool}
use mathlib.Core.List.Memᴰ
use mathlib.Core.List.{List, [], ◌∷◌, ◌++◌, Memᴰ}
use mathlib.Core.List.{head-eq_of_cons-eq, tail-eq_of_cons-eq}
use Prim.Native.Nat.{ℕ, zero, suc, ◌+◌, ◌≤◌, ◌<◌}
use native.Mathlib.Decide.{ℕ_discrete, dec_lt}
use native.Mathlib.Omega.{arith}
use lib.ListN.{length, length-append}
use Rattle.order.specs.Facts.{Fact, fact_on}
use Rattle.order.specs.Tables.{mark, opens, Pair, Before, Lists}
use Rattle.promise.specs.Refusals.{First, standing}
use Rattle.order.proofs.Counts.{opens_none}
use Rattle.order.proofs.Pairs.{before_not, pairs_of, pairs_listed}
use Rattle.order.proofs.Sound.{is}
use Rattle.order.proofs.Tables.{mark_against_settled}
use Rattle.promise.specs.declared.Session.{Session}
use Rattle.promise.specs.declared.Reply.{Reply}
use Rattle.promise.specs.Next.{Question}
use Rattle.promise.specs.Next.Question.{Ask, Done, Refused}
use Rattle.promise.specs.Calls.{Owed}
use Rattle.promise.specs.declared.Kind.{Kind}
use Rattle.promise.specs.Tell.{adds, tell_refusals, tell}
use Rattle.promise.specs.Next.{question_number, FirstOpen, NoneOpen, Names, next, Rounds}
use Rattle.promise.proofs.Standing.{Stands, standing_passed, stands_first, standing_there}
use Rattle.promise.proofs.Calls.{Fixed, owed_unique, owed_there}
use Rattle.promise.proofs.Taking.{leaves_keeps}
use Rattle.promise.proofs.Tell.{tell_there, tell_opens, tell_leaves}

in_order : (a b c d : ℕ) → Before (a, b) (c, d) ⊎ Before (c, d) (a, b) ⊎ ((a ≡ c) × (b ≡ d))
in_order a b c d = rows (dec_lt a c) (dec_lt c a) (dec_lt b d) (dec_lt d b)
  where
    rows :
        Dec (a < c) → Dec (c < a) → Dec (b < d) → Dec (d < b)
        → Before (a, b) (c, d) ⊎ Before (c, d) (a, b) ⊎ ((a ≡ c) × (b ≡ d))
    rows (yes x) y z w = inl (inl x)
    rows (no x) (yes y) z w = inr (inl (inl y))
    rows (no x) (no y) (yes z) w = inl (inr (omega arith))
    rows (no x) (no y) (no z) (yes w) = inr (inl (inr (omega arith)))
    rows (no x) (no y) (no z) (no w) = inr (inr (omega arith))

pub first_open_unique :
    {n : ℕ} {t : List ℕ} {a b c d : ℕ} → FirstOpen n t a b → FirstOpen n t c d → (a ≡ c) × (b ≡ d)
first_open_unique {n} {t} {a} {b} {c} {d} p q = go (in_order a b c d)
  where
    go : Before (a, b) (c, d) ⊎ Before (c, d) (a, b) ⊎ ((a ≡ c) × (b ≡ d)) → (a ≡ c) × (b ≡ d)
    go (inl e) = absurd (q.first a b p.lower_below p.upper_below e p.is_open)
    go (inr (inl e)) = absurd (p.first c d q.lower_below q.upper_below e q.is_open)
    go (inr (inr e)) = e

pub next_fixed : (s : Session) (t : List ℕ) → Fixed (next s t)
next_fixed s t f q q₂ = go q q₂
  where
    go : (q q₂ : Question) → Names s.classes t q → Names s.classes t q₂ → q ≡ q₂
    go (Ask a b) (Ask c d) x y = let r = first_open_unique x y in ap₂ Ask r.0 r.1
    go (Ask a b) Done x y = absurd (y.at a b x.lower_below x.upper_below x.is_open)
    go (Ask a b) (Refused k p) x y = absurd y
    go Done (Ask a b) x y = absurd (x.at a b y.lower_below y.upper_below y.is_open)
    go Done Done x y = refl
    go Done (Refused k p) x y = absurd y
    go (Refused k p) q x y = absurd x

pub next_unique : (s : Session) (t : List ℕ) {q q₂ : Question} → Owed (next s t) q → Owed (next s t) q₂ → q ≡ q₂
next_unique s t = owed_unique (next s t) (next_fixed s t)

-- the first pair of a list of the open ones is the first open pair
unfoldable pub first_of :
    (n : ℕ) (t : List ℕ) (l : List Pair) → Lists n (λ a b. mark n t a b ≡ 0) l
    → NoneOpen n t ⊎ ((a : ℕ) × (b : ℕ) × FirstOpen n t a b)
first_of n t [] h = inl (record { at = λ a b ha hb e. Memᴰ.not-nil ((h.exact a b).1 (ha, hb, e)) })
first_of n t (p ∷ l) h =
    let q = (h.exact p.0 p.1).0 (Memᴰ.head refl) in
    inr (
      p.0,
      p.1,
      record {
        lower_below = q.0;
        upper_below = q.1;
        is_open = q.2;
        first = λ c d hc hd before e. after c d before (Memᴰ.cases_cons ((h.exact c d).1 (hc, hd, e)));
      },
    )
  where
    after : (c d : ℕ) → Before (c, d) p → ((c, d) ≡ p) ⊎ Memᴰ (c, d) l → ⊥
    after c d b (inl e) = let z : Before p p = subst (λ (x : Pair). Before x p) e b in before_not p p z z
    after c d b (inr i) = before_not (c, d) p b (h.rising.0 (c, d) i)

unfoldable pub next_there : (s : Session) (t : List ℕ) → (q : Question) × Owed (next s t) q
next_there s t =
    owed_there (next s t) (λ k. refl) (standing_there [] s t (λ st. (0, refl))) (λ f.
    pick
    (first_of s.classes t (pairs_of Open (is s.classes t 0) s.classes)
    (pairs_listed Open (is s.classes t 0) s.classes)))
  where
    Open : ℕ → ℕ → Type 0
    Open a b = mark s.classes t a b ≡ 0

    pick :
        NoneOpen s.classes t ⊎ ((a : ℕ) × (b : ℕ) × FirstOpen s.classes t a b)
        → (q : Question) × (question_number q ≡ 0) × Names s.classes t q
    pick (inl o) = (Done, refl, o)
    pick (inr (a, b, o)) = (Ask a b, refl, o)

-- Asking and answering.

-- the answer to the pair asked is accepted, whatever its verdict
pub asked_accepted :
    {a b : ℕ} {v : Bool} {s : Session} {t : List ℕ} {r : Reply} {t' : List ℕ} → Owed (next s t) (Ask a b)
    → Owed (tell Kind.Answered s t (fact_on a b v)) (r, t') → r.number ≡ 0
asked_accepted {a} {b} {v} {s} {t} {r} {t'} q h =
    go (stands_first (tell_refusals s t f) (standing_passed [] s q.number).0 h.number)
  where
    f : Fact
    f = fact_on a b v

    go : First (tell_refusals s t f) r.number → r.number ≡ 0
    go (inl (inl z, e)) = absurd (omega (arith, (q.done refl).lower_below))
    go (inl (inr z, e)) = absurd (omega (arith, (q.done refl).upper_below))
    go (inr (_, inl (z, e))) = absurd (mark_against_settled v (sym z ∙ (q.done refl).is_open))
    go (inr (_, inr (_, e))) = e

-- One round: it counts one test, settles an open pair at least, and leaves what can be asked of again.
module _
    {s : Session} {t : List ℕ} {f : Fact} {r : Reply} {t₁ : List ℕ} (q : Owed (next s t) (Ask f.lower f.upper))
    (h : Owed (tell Kind.Answered s t f) (r, t₁)) where
  round_opens :
      (r.session.classes ≡ s.classes) × (r.session.tests ≡ s.tests + 1)
      × (1 + opens s.classes t₁ ≤ opens s.classes t)
  round_opens =
      let one = ap (adds Kind.Answered 0) (q.done refl).is_open in
      rw one at (tell_opens Kind.Answered h 0 (asked_accepted q h))

  round_stands : Stands s t → Stands r.session t₁
  round_stands = leaves_keeps (tell_leaves Kind.Answered h (asked_accepted q h))

-- and so for rounds
rounds_bounded :
    {l : List Fact} {s s' : Session} {t t' : List ℕ} → Stands s t → Rounds l s t s' t'
    → Stands s' t' × (s'.classes ≡ s.classes) × (length l + opens s.classes t' ≤ opens s.classes t)
rounds_bounded st Rounds.none = (st, refl, omega arith)
rounds_bounded {s = s} {t' = t'} st (Rounds.round {later = later} {t₁ = t₁} q h rounds) =
    let i = rounds_bounded (round_stands q h st) rounds in
    let o = round_opens q h in
    let le : length later + opens s.classes t' ≤ opens s.classes t₁ =
    subst (λ (n : ℕ). length later + opens n t' ≤ opens n t₁) o.0 i.2
    in
    (i.0, i.1 ∙ o.0, omega (arith, le, o.2))

-- each round counts one test
pub rounds_tests :
    {l : List Fact} {s s' : Session} {t t' : List ℕ} → Rounds l s t s' t' → s'.tests ≡ s.tests + length l
rounds_tests Rounds.none = omega arith
rounds_tests (Rounds.round q h later) = omega (arith, rounds_tests later, (round_opens q h).1)

-- as long as next asks, there is one round more, whatever the verdict
pub rounds_then :
    {l : List Fact} {a b : ℕ} {v : Bool} {s s₁ : Session} {t t₁ t₂ : List ℕ} {r : Reply} → Rounds l s t s₁ t₁
    → Owed (next s₁ t₁) (Ask a b) → Owed (tell Kind.Answered s₁ t₁ (fact_on a b v)) (r, t₂)
    → Rounds (l ++ fact_on a b v ∷ []) s t r.session t₂
rounds_then Rounds.none q h = Rounds.round q h Rounds.none
rounds_then (Rounds.round q₀ h₀ later) q h = Rounds.round q₀ h₀ (rounds_then later q h)

-- after any rounds next says done, or the answers are still fewer than the pairs open at the start
pub rounds_end :
    {l : List Fact} {s s' : Session} {t t' : List ℕ} {q : Question} → First (standing s t []) 0 → Rounds l s t s' t'
    → Owed (next s' t') q → (q ≡ Done) ⊎ (length l < opens s.classes t)
rounds_end {l} {s} {s'} {t} {t'} {q} st rounds h = go q h.number h.done
  where
    i : Stands s' t' × (s'.classes ≡ s.classes) × (length l + opens s.classes t' ≤ opens s.classes t)
    i = rounds_bounded (standing_passed [] s st).0 rounds

    go :
        (q : Question) → First (standing s' t' []) (question_number q)
        → (question_number q ≡ 0 → Names s'.classes t' q)
        → (q ≡ Done) ⊎ (length l < opens s.classes t)
    go (Ask a b) f y = inr (some (y refl) (ℕ_discrete (opens s.classes t') 0))
      where
        some : FirstOpen s'.classes t' a b → Dec (opens s.classes t' ≡ 0) → length l < opens s.classes t
        some o (yes e) =
            absurd
            ((opens_none s'.classes t').0 (rw i.1 e) a b o.lower_below o.upper_below o.is_open)
        some o (no e) = omega (arith, i.2)
    go Done f y = inl refl
    go (Refused number place) f y = absurd (y (stands_first [] i.0 f))

-- Asking ends: answers, each with the verdict that its pair gets after the answers before it, lead to where next says
-- done, and there are at most as many as there were open pairs.
pub record AskingEnds (verdict : List Fact → ℕ → ℕ → Bool) (s : Session) (t : List ℕ) : Type 0 where
  pub answers : List Fact
  pub session : Session
  pub table : List ℕ
  pub rounds : Rounds answers s t session table
  pub given :
      (before later : List Fact) (f : Fact) → answers ≡ before ++ f ∷ later
      → f.holds ≡ verdict before f.lower f.upper
  pub done : Owed (next session table) Done
  pub few : length answers ≤ opens s.classes t

-- A pair is asked and gets its verdict: asking ends if it ends after that answer.
module _
    (verdict : List Fact → ℕ → ℕ → Bool) {a b : ℕ} {s : Session} {t : List ℕ} {r : Reply} {t₁ : List ℕ}
    (q : Owed (next s t) (Ask a b)) (h : Owed (tell Kind.Answered s t (fact_on a b (verdict [] a b))) (r, t₁)) where
  abbrev answer : Fact
  answer = fact_on a b (verdict [] a b)

  ends_later : AskingEnds (λ l. verdict (answer ∷ l)) r.session t₁ → AskingEnds verdict s t
  ends_later e =
      record {
        answers = answer ∷ e.answers;
        session = e.session;
        table = e.table;
        rounds = Rounds.round q h e.rounds;
        given = given;
        done = e.done;
        few = let o = round_opens q h in omega (arith, rw o.0 at e.few, o.2);
      }
    where
      given :
          (before later : List Fact) (f : Fact) → answer ∷ e.answers ≡ before ++ f ∷ later
          → f.holds ≡ verdict before f.lower f.upper
      given [] later f same =
          subst (λ (g : Fact). g.holds ≡ verdict [] g.lower g.upper) (head-eq_of_cons-eq same) refl
      given (g ∷ before) later f same =
          subst (λ (g : Fact). f.holds ≡ verdict (g ∷ before) f.lower f.upper) (head-eq_of_cons-eq same)
          (e.given before later f (tail-eq_of_cons-eq same))

-- asking ends if it ends wherever fewer pairs are open
ends_if :
    (verdict : List Fact → ℕ → ℕ → Bool) (s : Session) (t : List ℕ) → Stands s t
    → ((verdict₁ : List Fact → ℕ → ℕ → Bool) (s₁ : Session) (t₁ : List ℕ) → Stands s₁ t₁
    → opens s₁.classes t₁ < opens s.classes t → AskingEnds verdict₁ s₁ t₁)
    → AskingEnds verdict s t
ends_if verdict s t st fewer = let q = next_there s t in go q.0 q.1
  where
    go : (q : Question) → Owed (next s t) q → AskingEnds verdict s t
    go (Ask a b) q =
        let x = tell_there Kind.Answered s t (fact_on a b (verdict [] a b)) in
        let o = round_opens q x.1 in
        ends_later verdict q x.1 (fewer _ _ _ (round_stands q x.1 st) (rw o.0 (omega (arith, o.2))))
    go Done q =
        record {
          answers = [];
          session = s;
          table = t;
          rounds = Rounds.none;
          given = λ before later f same. absurd (omega (arith, ap length same, length-append before (f ∷ later)));
          done = q;
          few = omega arith;
        }
    go (Refused number place) q = absurd (q.done (stands_first [] st q.number))

ends_within :
    (m : ℕ) (verdict : List Fact → ℕ → ℕ → Bool) (s : Session) (t : List ℕ) → Stands s t → opens s.classes t ≤ m
    → AskingEnds verdict s t
ends_within zero verdict s t st most = ends_if verdict s t st (λ _ _ _ _ less. absurd (omega arith))
ends_within (suc m) verdict s t st most =
    ends_if verdict s t st (λ verdict₁ s₁ t₁ st₁ less. ends_within m verdict₁ s₁ t₁ st₁ (omega arith))

-- "So asking and answering the pair asked ends after at most as many answers as there were open pairs": whatever the
-- verdicts, on each pair asked and after each answer
pub rounds_there :
    {s : Session} {t : List ℕ} → First (standing s t []) 0 → (verdict : List Fact → ℕ → ℕ → Bool)
    → AskingEnds verdict s t
rounds_there {s} {t} h verdict =
    ends_within (opens s.classes t) verdict s t (standing_passed [] s h).0 (omega arith)

-- next says done exactly when no pair is counted as open
pub done_exactly : (s : Session) (t : List ℕ) {q : Question} → Owed (next s t) q → question_number q ≡ 0
    → (q ≡ Done) ↔ (opens s.classes t ≡ 0)
done_exactly s t {q} h e = go q (h.done e)
  where
    go : (q : Question) → Names s.classes t q → (q ≡ Done) ↔ (opens s.classes t ≡ 0)
    go (Ask a b) y = (
      λ p. absurd (other p),
      λ o. absurd ((opens_none s.classes t).0 o a b y.lower_below y.upper_below y.is_open),
    )
      where
        other : Ask a b ≡ Done → ⊥
        other p = let z : ◌≡◌ {A = ℕ} 0 1 = cc in omega arith
    go Done y = (λ _. (opens_none s.classes t).1 y.at, λ _. refl)
    go (Refused number place) y = absurd y
