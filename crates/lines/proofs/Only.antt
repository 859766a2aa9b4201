-- What is written is fixed: two texts for one input are equal; and when it is the line of 15.
-- Assumes nothing.
use mathlib.Core.Path.{◌≡◌, refl, sym, ◌∙◌, ap, ap₂, subst}
use mathlib.Core.Logic.{inl, inr}
use mathlib.Core.List.{List, [], ◌∷◌, ◌++◌}
use Prim.Native.Nat.{ℕ, ◌+◌, ◌≤◌, ◌<◌}
use native.Mathlib.Decide.{ℕ_discrete}
use native.Mathlib.Omega.{arith}
use lib.ListN.{length}
use Rattle.order.specs.Tables.{opens, Pair}
use Rattle.order.proofs.Counts.{opens_none}
use Rattle.order.proofs.Pairs.{lists_unique}
use Rattle.promise.specs.declared.Reply.{Reply}
use Rattle.promise.specs.Refusals.{too_long}
use Rattle.promise.specs.Next.{FirstOpen}
use Rattle.promise.proofs.Refusals.{first_unique}
use Rattle.promise.proofs.Next.{first_open_unique}
use Rattle.promise.proofs.Hierarchy.{heads_unique}
use Rattle.promise.proofs.Read.{read_unique}
use Rattle.lines.specs.Lines.{counts_line, question_line, class_lines, step_lines, refusal_line, Shows, Says, marks_of}
use Rattle.lines.specs.Lines.{Printed, Output}

-- a table with an open pair is not settled
not_both : {n a b : ℕ} {t : List ℕ} → FirstOpen n t a b → opens n t ≡ 0 → ⊥
not_both {n} {a} {b} {t} p o = (opens_none n t).0 o a b p.lower_below p.upper_below p.is_open

pub shows_unique : {n k : ℕ} {t x y : List ℕ} → Shows n k t x → Shows n k t y → x ≡ y
shows_unique {n} {k} {t} (Shows.asks p) (Shows.asks q) =
    let r = first_open_unique p q in
    ap₂ (λ (a b : ℕ). counts_line n k (opens n t) ++ question_line a b) r.0 r.1
shows_unique (Shows.asks p) (Shows.settled o h l) = absurd (not_both p o)
shows_unique (Shows.settled o h l) (Shows.asks p) = absurd (not_both p o)
shows_unique {n} {k} {t} (Shows.settled {heads = hs} o h l) (Shows.settled {heads = hs₂} o₂ h₂ l₂) =
    ap₂ (λ (u : List ℕ) (v : List Pair). counts_line n k 0 ++ (class_lines 0 u ++ step_lines v))
    (heads_unique hs hs₂ h h₂) (lists_unique l l₂)

pub says_unique : {r : Reply} {t x y : List ℕ} → Says r t x → Says r t y → x ≡ y
says_unique {r} {t} {x} {y} h h₂ = go (ℕ_discrete r.number 0)
  where
    go : Dec (r.number ≡ 0) → x ≡ y
    go (yes z) = shows_unique (h.accepted z) (h₂.accepted z)
    go (no z) = h.refused z ∙ sym (h₂.refused z)

pub printed_unique : {book t x y : List ℕ} → Printed book t x → Printed book t y → x ≡ y
printed_unique {y = y} h h₂ =
    let same = read_unique h₂.read h.read in
    says_unique h.says
    (subst (λ (u : List ℕ). Says h.reply (marks_of h.reply.session u) y) same.1
    (subst (λ (r : Reply). Says r (marks_of r.session h₂.table) y) same.0 h₂.says))

pub output_unique : {held : List ℕ} {behind : ℕ} {t x y : List ℕ} → Output held behind t x → Output held behind t y
    → x ≡ y
output_unique {held} {behind} {t} {x} {y} h h₂ = go (ℕ_discrete h.number 0)
  where
    same : h.number ≡ h₂.number
    same = first_unique (too_long (length held + behind) ∷ []) h.number h₂.number h.first h₂.first

    go : Dec (h.number ≡ 0) → x ≡ y
    go (yes z) = printed_unique (h.accepted z) (h₂.accepted (sym same ∙ z))
    go (no z) = h.refused z ∙ ap (λ (k : ℕ). refusal_line k 32768) same ∙ sym (h₂.refused (λ e. z (same ∙ e)))

-- R 15 32768 where there are more than 32,768 bytes, and what is written of the book where there are not
pub output_too_long : {held : List ℕ} {behind : ℕ} {t text : List ℕ} → Output held behind t text
    → 32768 < length held + behind → text ≡ refusal_line 15 32768
output_too_long {held} {behind} h long =
    let fifteen = first_unique (too_long (length held + behind) ∷ []) h.number 15 h.first (inl (long, refl)) in
    rw fifteen at (h.refused (λ z. omega (arith, fifteen)))

pub output_whole : {held : List ℕ} {behind : ℕ} {t text : List ℕ} → Output held behind t text
    → length held + behind ≤ 32768 → Printed held t text
output_whole {held} {behind} h short =
    h.accepted
    (first_unique (too_long (length held + behind) ∷ []) h.number 0 h.first (inr (λ z. omega arith, refl)))
