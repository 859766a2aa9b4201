-- The one form of a call: two outcomes for one input are equal, there is one, a refusal leaves what it must, and calls
-- that are alike owe the same, given that what success leaves is fixed and there.
-- Assumes nothing.
use mathlib.Core.Path.{◌≡◌, refl, sym, ◌∙◌, ap, ap₂}
use mathlib.Core.Logic.{◌≢◌}
use mathlib.Core.List.{List}
use Prim.Native.Nat.{ℕ}
use native.Mathlib.Decide.{ℕ_discrete}
use lib.ListN.{length}
use Rattle.order.specs.Tables.{SameMarks, SameRest}
use Rattle.promise.specs.Refusals.{Condition, First}
use Rattle.promise.proofs.Refusals.{first_unique, Alike, first_alike}
use Rattle.order.proofs.Bytes.{same_list, rest_sym, rest_trans}
use Rattle.promise.specs.declared.Session.{Session}
use Rattle.promise.specs.declared.Reply.{Reply}
use Rattle.promise.specs.Calls.{refusal, accepted, Call, Owed, changes, crossing}

-- what success leaves is fixed
abbrev pub Fixed : {O : Type 0} → Call O → Type 0
Fixed {O} c = First c.refusals 0 → (o o₂ : O) → c.Done o → c.Done o₂ → o ≡ o₂

-- some outcome is what success leaves
abbrev pub Reached : {O : Type 0} → Call O → Type 0
Reached {O} c = First c.refusals 0 → (o : O) × (c.number o ≡ 0) × c.Done o

-- a refusal has the number that it is given
abbrev pub Numbered : {O : Type 0} → Call O → Type 0
Numbered c = (k : ℕ) → c.number (c.refused k) ≡ k

module _ {O : Type 0} (c : Call O) where
  pub owed_unique : Fixed c → {o o₂ : O} → Owed c o → Owed c o₂ → o ≡ o₂
  owed_unique fixed {o} {o₂} h h₂ = go (ℕ_discrete (c.number o) 0)
    where
      same : c.number o ≡ c.number o₂
      same = first_unique c.refusals (c.number o) (c.number o₂) h.number h₂.number

      go : Dec (c.number o ≡ 0) → o ≡ o₂
      go (yes e) = fixed (rw e at h.number) o o₂ (h.done e) (h₂.done (sym same ∙ e))
      go (no e) = h.refused e ∙ ap c.refused same ∙ sym (h₂.refused (λ z. e (same ∙ z)))

  -- a refusal that is due is owed
  pub owed_refused : Numbered c → {k : ℕ} → First c.refusals k → k ≢ 0 → Owed c (c.refused k)
  owed_refused numbered {k} f e =
      let n = numbered k in
      record { number = rw n f; refused = λ _. ap c.refused (sym n); done = λ z. absurd (e (sym n ∙ z)) }

  -- where none is due the call is accepted
  pub owed_accepted : {o : O} → First c.refusals 0 → Owed c o → c.number o ≡ 0
  owed_accepted {o} f h = first_unique c.refusals (c.number o) 0 h.number f

  pub owed_done : {o : O} → First c.refusals 0 → c.number o ≡ 0 → c.Done o → Owed c o
  owed_done f e d = record { number = rw e f; refused = λ z. absurd (z e); done = λ _. d }

  unfoldable pub owed_there : Numbered c → (k : ℕ) × First c.refusals k → Reached c → (o : O) × Owed c o
  owed_there numbered (k, f) made = go (ℕ_discrete k 0)
    where
      go : Dec (k ≡ 0) → (o : O) × Owed c o
      go (yes e) = let g = rw e at f in let u = made g in (u.0, owed_done g u.1 u.2)
      go (no e) = (c.refused k, owed_refused numbered f e)

-- Two calls whose refusals are alike, that number outcomes alike and leave the same where they are refused; and what
-- success leaves of the first, it leaves of the second.
pub record CallsAlike {O : Type 0} (c d : Call O) : Type 0 where
  pub refusals : Alike c.refusals d.refusals
  pub number : (o : O) → c.number o ≡ d.number o
  pub refused : (k : ℕ) → c.refused k ≡ d.refused k
  pub done : First c.refusals 0 → (o : O) → c.Done o → d.Done o

-- whatever the first owes, the second owes
pub owed_alike : {O : Type 0} {c d : Call O} {o : O} → CallsAlike c d → Owed c o → Owed d o
owed_alike {c = c} {d = d} {o = o} a h =
    let n = a.number o in
    record {
      number = rw (← n) (first_alike c.refusals d.refusals (c.number o) a.refusals h.number);
      refused = λ e. rw (← n) (h.refused (λ z. e (sym n ∙ z)) ∙ a.refused (c.number o));
      done = λ e. let z = n ∙ e in a.done (rw z at h.number) o (h.done z);
    }

-- What C sees: the image of an outcome that the call owes, and nothing else.
module _ {O I : Type 0} (image : O → I) (number : I → ℕ) (c : Call O) (same : (o : O) → number (image o) ≡ c.number o)
  where
    pub crossing_owed : {o : O} → Owed c o → Owed (crossing image number c) (image o)
    crossing_owed {o} h =
        record {
          number = rw (same o) h.number;
          refused = λ e. let n = same o in rw n (ap image (h.refused (λ z. e (n ∙ z))));
          done = λ e. (o, h.done (sym (same o) ∙ e), refl);
        }

    pub crossing_unique :
        Fixed c → {i i₂ : I} → Owed (crossing image number c) i → Owed (crossing image number c) i₂ → i ≡ i₂
    crossing_unique fixed =
        owed_unique (crossing image number c) (λ f i i₂ d d₂.
        d.2 ∙ ap image (fixed f d.0 d₂.0 d.1 d₂.1) ∙ sym d₂.2)

    unfoldable pub crossing_there : (o : O) × Owed c o → (i : I) × Owed (crossing image number c) i
    crossing_there (o, h) = (image o, crossing_owed h)

-- of calls that are alike, what C sees is alike
pub crossing_alike :
    {O I : Type 0} {image : O → I} {number : I → ℕ} {c d : Call O} → CallsAlike c d
    → CallsAlike (crossing image number c) (crossing image number d)
crossing_alike {image = image} a =
    record {
      refusals = a.refusals;
      number = λ o. refl;
      refused = λ k. ap image (a.refused k);
      done = λ f o z. (z.0, a.done f z.0 z.1, z.2);
    }

-- A call that may change session and table.

-- On two tables of which something holds, as of a session, such a call replies the same; and it holds afterwards.
pub record Keeps
    (Kept : Session → List ℕ → List ℕ → Type 0) (call : Session → List ℕ → Call (Reply × List ℕ)) : Type 0 where
  pub both :
      (s : Session) (t t₂ : List ℕ) {r r₂ : Reply} {u u₂ : List ℕ} → Kept s t t₂ → Owed (call s t) (r, u)
      → Owed (call s t₂) (r₂, u₂) → (r ≡ r₂) × Kept r.session u u₂

-- on one table, where there is one outcome
pub unique_keeps :
    (call : Session → List ℕ → Call (Reply × List ℕ))
    → ((s : Session) (t : List ℕ) (o o₂ : Reply × List ℕ) → Owed (call s t) o → Owed (call s t) o₂ → o ≡ o₂)
    → Keeps (λ s t t₂. t ≡ t₂) call
unique_keeps call unique =
    record {
      both = λ s t t₂ e h h₂.
          let z = unique s t _ _ h (rw (← e) at h₂) in
          (ap (λ (o : Reply × List ℕ). o.0) z, ap (λ (o : Reply × List ℕ). o.1) z);
    }

module _ {refusals : List Condition} {back new : Session} {n : ℕ} {Must : List ℕ → Type 0} {t : List ℕ} where
  pub changes_unique :
      ((u v : List ℕ) → Must u → Must v → SameMarks n u v) → {o o₂ : Reply × List ℕ}
      → Owed (changes refusals back new n Must t) o → Owed (changes refusals back new n Must t) o₂ → o ≡ o₂
  changes_unique fixed =
      owed_unique (changes refusals back new n Must t) (λ f o o₂ d d₂.
      ap₂ (λ r u. (r, u)) (d.reply ∙ sym d₂.reply)
      (same_list (fixed o.1 o₂.1 d.marks d₂.marks) (rest_trans (rest_sym d.rest) d₂.rest)))

  -- refused, the session is the one given back, and the table as it was
  pub changes_kept :
      {r : Reply} {t' : List ℕ} → Owed (changes refusals back new n Must t) (r, t') → r.number ≢ 0
      → (r.session ≡ back) × (t' ≡ t)
  changes_kept h e =
      (ap (λ (o : Reply × List ℕ). o.0.session) (h.refused e), ap (λ (o : Reply × List ℕ). o.1) (h.refused e))

  -- accepted, the session is the new one
  pub changes_session :
      {r : Reply} {t' : List ℕ} → Owed (changes refusals back new n Must t) (r, t') → r.number ≡ 0 → r.session ≡ new
  changes_session h e = ap (λ (r : Reply). r.session) (h.done e).reply

  -- the length of the table stays
  pub changes_length :
      {r : Reply} {t' : List ℕ} → Owed (changes refusals back new n Must t) (r, t') → length t ≡ length t'
  changes_length {r} {t'} h = go (ℕ_discrete r.number 0)
    where
      go : Dec (r.number ≡ 0) → length t ≡ length t'
      go (yes e) = (h.done e).rest.size
      go (no e) = rw (changes_kept h e).1 refl

-- Two of them on two tables, whose refusals are alike and that leave one session and the same marks where they are
-- accepted: the replies are equal, and so are the marks afterwards if they were before.
module _
    {refusals refusals₂ : List Condition} {back new new₂ : Session} {n : ℕ} {Must Must₂ : List ℕ → Type 0}
    {t t₂ : List ℕ} (alike : Alike refusals refusals₂) (same : First refusals 0 → new ≡ new₂)
    (fixed : (u u₂ : List ℕ) → Must u → Must₂ u₂ → SameMarks n u u₂) {r r₂ : Reply} {u u₂ : List ℕ}
    (h : Owed (changes refusals back new n Must t) (r, u))
    (h₂ : Owed (changes refusals₂ back new₂ n Must₂ t₂) (r₂, u₂)) where
  number_alike : r.number ≡ r₂.number
  number_alike =
      let f = first_alike refusals refusals₂ r.number alike h.number in
      first_unique refusals₂ r.number r₂.number f h₂.number

  pub reply_alike : r ≡ r₂
  reply_alike = go (ℕ_discrete r.number 0)
    where
      go : Dec (r.number ≡ 0) → r ≡ r₂
      go (yes e) =
          (h.done e).reply ∙ ap accepted (same (rw e at h.number))
          ∙ sym (h₂.done (sym number_alike ∙ e)).reply
      go (no e) =
          ap (λ (o : Reply × List ℕ). o.0) (h.refused e) ∙ ap (λ (k : ℕ). refusal k back) number_alike
          ∙ sym (ap (λ (o : Reply × List ℕ). o.0) (h₂.refused (λ z. e (number_alike ∙ z))))

  pub changes_alike : SameMarks n t t₂ → (r ≡ r₂) × SameMarks n u u₂
  changes_alike m = (reply_alike, go (ℕ_discrete r.number 0))
    where
      go : Dec (r.number ≡ 0) → SameMarks n u u₂
      go (yes e) = fixed u u₂ (h.done e).marks (h₂.done (sym number_alike ∙ e)).marks
      go (no e) = rw ((changes_kept h e).1, (changes_kept h₂ (λ z. e (number_alike ∙ z))).1) m

module _ (refusals : List Condition) (back new : Session) (n : ℕ) (Must : List ℕ → Type 0) (t : List ℕ) where
  unfoldable pub changes_there :
      (k : ℕ) × First refusals k → (First refusals 0 → (t' : List ℕ) × Must t' × SameRest n t t')
      → (o : Reply × List ℕ) × Owed (changes refusals back new n Must t) o
  changes_there first made =
      owed_there (changes refusals back new n Must t) (λ k. refl) first (λ f.
      let u = made f in ((accepted new, u.0), refl, record { reply = refl; marks = u.1; rest = u.2 }))
