-- Heads and direct steps: one head for each class, one list of steps, both there on a sound table; one outcome of the
-- call for each input.
-- Assumes nothing.
use mathlib.Core.Path.{◌≡◌, refl, sym, ◌∙◌, ap, ap₂}
use mathlib.Core.Logic.{◌↔◌, ◌≢◌, ◌⊎◌, inl, inr}
use mathlib.Core.List.{List, [], ◌∷◌}
use Prim.Native.Nat.{ℕ, zero, suc, ◌≤◌, ◌<◌}
use native.Mathlib.Nat.{le_antisymm}
use native.Mathlib.Decide.{ℕ_discrete, dec_lt, dec_le}
use native.Mathlib.Omega.{arith}
use lib.ListN.{length, get_or}
use lib.Seq.{ext_get_or}
use Rattle.order.specs.Tables.{mark, Sound, opens, Pair, bytes_of}
use Rattle.promise.specs.Refusals.{First}
use Rattle.order.proofs.Decide.{both, either, implies, negated, as_well, all_below, least}
use Rattle.promise.proofs.Refusals.{stage, dec_too_short}
use Rattle.order.proofs.Pairs.{lists_unique, pairs_of, pairs_listed}
use Rattle.promise.specs.declared.Session.{Session}
use Rattle.promise.specs.Calls.{Counted}
use Rattle.promise.specs.Calls.Counted.{Count}
use Rattle.promise.specs.Calls.{Owed, count_number, over, TooShort}
use Rattle.promise.specs.Hierarchy.{Under, Equal, HeadOf, Head, Third, Direct, HeadsOf, StepsOf, StepBytes}
use Rattle.promise.specs.Hierarchy.{hierarchy_refusals, hierarchy}
use Rattle.promise.proofs.Standing.{Stands, standing_passed, stands_first, standing_there}
use Rattle.promise.proofs.Calls.{Fixed, owed_unique, owed_there}
use Rattle.promise.proofs.Counts.{over_length}

-- one head, one list of heads, one list of steps

pub head_unique : {n : ℕ} {t : List ℕ} {a h h₂ : ℕ} → HeadOf n t a h → HeadOf n t a h₂ → h ≡ h₂
head_unique {n} {t} {a} {h} {h₂} p q =
    le_antisymm (p.lowest h₂ q.below q.equal) (q.lowest h p.below p.equal)

pub heads_unique : {n : ℕ} {t : List ℕ} (hs hs₂ : List ℕ) → HeadsOf n t hs → HeadsOf n t hs₂ → hs ≡ hs₂
heads_unique {n} {t} hs hs₂ p q =
    ext_get_or 0 hs hs₂ (p.size ∙ sym q.size) (λ a h.
    let below : a < n = rw p.size at h in
    head_unique (p.at a below) (q.at a below))

pub step_bytes_unique : {n : ℕ} {t : List ℕ} (w w₂ : List ℕ) → StepBytes n t w → StepBytes n t w₂ → w ≡ w₂
step_bytes_unique w w₂ p q = p.2 ∙ ap bytes_of (lists_unique p.1 q.1) ∙ sym q.2

-- each of them is decided, and there

module _ (n : ℕ) (t : List ℕ) where
  unfoldable pub dec_under : (a b : ℕ) → Dec (Under n t a b)
  dec_under a b = ℕ_discrete (mark n t a b) 1

  unfoldable pub dec_equal : (a b : ℕ) → Dec (Equal n t a b)
  dec_equal a b = both (dec_under a b) (dec_under b a)

  unfoldable pub dec_head_of : (a h : ℕ) → Dec (HeadOf n t a h)
  dec_head_of a h =
      as_well (λ p. record { below = p.0; equal = p.1.0; lowest = p.1.1 })
      (λ q. (q.below, (q.equal, q.lowest)))
      (both (dec_lt h n)
      (both (dec_equal a h) (all_below (λ c. Equal n t a c → h ≤ c) (λ c. implies (dec_equal a c) (dec_le h c)) n)))

  unfoldable pub dec_head : (h : ℕ) → Dec (Head n t h)
  dec_head h = dec_head_of h h

  unfoldable pub dec_third : (a b c : ℕ) → Dec (Third n t a b c)
  dec_third a b c =
      as_well
      (λ p.
      record { head = p.0; not_lower = p.1.0; not_upper = p.1.1.0; above = p.1.1.1.0; under = p.1.1.1.1 })
      (λ q. (q.head, (q.not_lower, (q.not_upper, (q.above, q.under)))))
      (both (dec_head c)
      (both (negated (ℕ_discrete c a)) (both (negated (ℕ_discrete c b)) (both (dec_under a c) (dec_under c b)))))

  unfoldable pub dec_direct : (a b : ℕ) → Dec (Direct n t a b)
  dec_direct a b =
      as_well
      (λ p.
      record {
        from = p.0;
        to = p.1.0;
        under = p.1.1.0;
        differ = p.1.1.1.0;
        alone = λ c z. p.1.1.1.1 c z.head.below z;
      })
      (λ q. (
        q.from,
        (
          q.to,
          (
            q.under,
            (
              q.differ,
              λ c _. q.alone c,
            ),
          ),
        ),
      ))
      (both (dec_head a)
      (both (dec_head b)
      (both (dec_under a b)
      (both (negated (ℕ_discrete a b)) (all_below (λ c. ¬ Third n t a b c) (λ c. negated (dec_third a b c)) n)))))

  abbrev pub steps_there : (l : List Pair) × StepsOf n t l
  steps_there = (pairs_of (Direct n t) dec_direct n, pairs_listed (Direct n t) dec_direct n)

  module _ (sound : Sound n t) where
    unfoldable pub head_there : (a : ℕ) → a < n → (h : ℕ) × HeadOf n t a h
    head_there a ha =
        let d = sound.diagonal a ha in
        let r = least (λ c. (c < n) × Equal n t a c) (λ c. both (dec_lt c n) (dec_equal a c)) a (ha, (d, d)) in
        (r.0, record { below = r.1.0; equal = r.1.1; lowest = λ c hc e. r.2 c (hc, e) })

    -- two heads that are equal are one
    pub heads_equal : {a b : ℕ} → Head n t a → Head n t b → Equal n t a b → a ≡ b
    heads_equal {a} {b} p q e =
        le_antisymm (p.lowest b q.below e) (q.lowest a p.below (e.1, e.0))

    -- the head of a class is a head
    pub head_head : {a h : ℕ} → a < n → HeadOf n t a h → Head n t h
    head_head {a} {h} ha p =
        let d = sound.diagonal h p.below in
        record {
          below = p.below;
          equal = (d, d);
          lowest = λ c hc e.
              p.lowest c hc (
                sound.transitive a h c ha p.below hc p.equal.0 e.0,
                sound.transitive c h a hc p.below ha e.1 p.equal.1,
              );
        }

-- a list of what is there for each number below k
unfoldable pub list_there :
    (P : ℕ → ℕ → Type 0) (k : ℕ) → ((a : ℕ) → a < k → (h : ℕ) × P a h)
    → (hs : List ℕ) × (length hs ≡ k) × ((a : ℕ) → a < k → P a (get_or hs a 0))
list_there P zero f = ([], refl, λ a h. absurd (omega arith))
list_there P (suc k) f =
    let x = f 0 (omega arith) in
    let r = list_there (λ a h. P (suc a) h) k (λ a h. f (suc a) (omega arith)) in
    (x.0 ∷ r.0, ap suc r.1, at x r)
  where
    at :
        (x : (h : ℕ) × P 0 h) (r : (hs : List ℕ) × (length hs ≡ k) × ((a : ℕ) → a < k → P (suc a) (get_or hs a 0)))
        → (a : ℕ) → a < suc k → P a (get_or (x.0 ∷ r.0) a 0)
    at x r zero h = x.1
    at x r (suc a) h = r.2 a (omega arith)

unfoldable pub heads_there : (n : ℕ) (t : List ℕ) → Sound n t → (hs : List ℕ) × HeadsOf n t hs
heads_there n t sound =
    let r = list_there (HeadOf n t) n (head_there n t sound) in (r.0, record { size = r.1; at = r.2 })

-- the call

module _ (s : Session) (t heads steps : List ℕ) where
  abbrev both_short : Type 0
  both_short = TooShort (HeadsOf s.classes t) heads ⊎ TooShort (StepBytes s.classes t) steps

  -- what is known where a hierarchy is written
  hierarchy_passed : First (hierarchy_refusals s t heads steps) 0 → ¬ both_short
  hierarchy_passed (inl z) = absurd (omega (arith, z.1))
  hierarchy_passed (inr (_, inl z)) = absurd (omega (arith, z.1))
  hierarchy_passed (inr (_, inr z)) = z.0

  pub hierarchy_fixed : Fixed (hierarchy s t heads steps)
  hierarchy_fixed f o o₂ d d₂ =
      d.4
      ∙ ap₂ (λ (hs : List ℕ) (l : List Pair). (Count (length l), (over hs heads, over (bytes_of l) steps)))
      (heads_unique d.0 d₂.0 d.2 d₂.2) (lists_unique d.3 d₂.3)
      ∙ sym d₂.4

  pub hierarchy_unique :
      {o o₂ : Counted × (List ℕ × List ℕ)} → Owed (hierarchy s t heads steps) o → Owed (hierarchy s t heads steps) o₂
      → o ≡ o₂
  hierarchy_unique = owed_unique (hierarchy s t heads steps) hierarchy_fixed

  unfoldable pub hierarchy_there : (o : Counted × (List ℕ × List ℕ)) × Owed (hierarchy s t heads steps) o
  hierarchy_there =
      owed_there (hierarchy s t heads steps) (λ k. refl)
      (standing_there (hierarchy_refusals s t heads steps) s t (λ st.
      stage 7 (dec_lt 0 (opens n t)) (λ p₇. stage 8 (dec_short st) (λ p₈. (0, refl)))))
      (λ f.
      let hs = heads_there n t (standing_passed (hierarchy_refusals s t heads steps) s f).0.sound in (
        (Count (length l.0), (over hs.0 heads, over (bytes_of l.0) steps)),
        refl,
        (hs.0, l.0, hs.1, l.1, refl),
      ))
    where
      n : ℕ
      n = s.classes

      l : (l : List Pair) × StepsOf n t l
      l = steps_there n t

      dec_short : Stands s t → Dec both_short
      dec_short st =
          let hs = heads_there n t st.sound in
          either (dec_too_short (HeadsOf n t) hs.0 hs.1 heads_unique heads)
          (dec_too_short (StepBytes n t) (bytes_of l.0) (l.0, l.1, refl) step_bytes_unique steps)

  -- 7 is given exactly where pairs are counted as open and none of 1 to 4 is due
  pub hierarchy_seven :
      {o : Counted × (List ℕ × List ℕ)} → Stands s t → Owed (hierarchy s t heads steps) o
      → (count_number o.0 ≡ 7) ↔ (opens s.classes t ≢ 0)
  hierarchy_seven {o} st h = go (stands_first (hierarchy_refusals s t heads steps) st h.number)
    where
      go :
          First (hierarchy_refusals s t heads steps) (count_number o.0)
          → (count_number o.0 ≡ 7) ↔ (opens s.classes t ≢ 0)
      go (inl (some, e)) = (λ _ z. omega arith, λ _. e)
      go (inr (none, inl (_, e))) = (λ z. absurd (omega arith), λ z. absurd (omega arith))
      go (inr (none, inr (_, e))) = (λ z. absurd (omega arith), λ z. absurd (omega arith))

  -- the lengths of both buffers stay
  pub hierarchy_lengths :
      {o : Counted × (List ℕ × List ℕ)} → Owed (hierarchy s t heads steps) o
      → (length o.1.0 ≡ length heads) × (length o.1.1 ≡ length steps)
  hierarchy_lengths {o} h = go (ℕ_discrete (count_number o.0) 0)
    where
      go : Dec (count_number o.0 ≡ 0) → (length o.1.0 ≡ length heads) × (length o.1.1 ≡ length steps)
      go (yes e) =
          let d = h.done e in
          let q = hierarchy_passed (standing_passed (hierarchy_refusals s t heads steps) s (rw e at h.number)).1 in (
            ap (λ (x : Counted × (List ℕ × List ℕ)). length x.1.0) d.4
                ∙ over_length (HeadsOf s.classes t) d.0 heads d.2 (λ z. q (inl z)),
            ap (λ (x : Counted × (List ℕ × List ℕ)). length x.1.1) d.4
                ∙ over_length (StepBytes s.classes t) (bytes_of d.1) steps (d.1, d.3, refl) (λ z. q (inr z)),
          )
      go (no e) = rw (h.refused e) (refl, refl)
