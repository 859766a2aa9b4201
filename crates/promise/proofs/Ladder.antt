-- Ladders: there is one, and one only, wherever a is under b; equal classes give one rung; with each rung the number of
-- heads strictly above it and under the goal falls; one outcome of the call for each input.
-- Assumes nothing.
use mathlib.Core.Path.{◌≡◌, refl, sym, ◌∙◌, ap}
use mathlib.Core.Logic.{◌↔◌, ◌≢◌, ◌⊎◌, inl, inr, ⊎_elim}
use mathlib.Core.List.{List, [], ◌∷◌}
use Prim.Native.Nat.{ℕ, zero, suc, ◌≤◌, ◌<◌}
use native.Mathlib.Nat.{le_antisymm}
use native.Mathlib.Decide.{ℕ_discrete, dec_lt, dec_le}
use native.Mathlib.Omega.{arith}
use lib.ListN.{length, get_or}
use Rattle.order.specs.Tables.{mark, Sound, opens}
use Rattle.promise.specs.Refusals.{First, standing}
use Rattle.order.proofs.Decide.{stable, both, either, negated, as_well, some_below, least}
use Rattle.promise.proofs.Refusals.{stage, dec_too_short}
use Rattle.promise.specs.declared.Session.{Session}
use Rattle.promise.specs.Calls.{Counted}
use Rattle.promise.specs.Calls.Counted.{Count}
use Rattle.promise.specs.Calls.{Owed, count_number, TooShort}
use Rattle.promise.specs.Hierarchy.{Under, Equal, HeadOf, Head, Third, Direct, NextRung, Ladder, LadderOf}
use Rattle.promise.specs.Hierarchy.{Above, Number, ladder_refusals, ladder}
use Rattle.promise.proofs.Standing.{Stands, standing_own, standing_passed, standing_there, below_of}
use Rattle.promise.proofs.Standing.{first_stands}
use Rattle.promise.proofs.Calls.{Fixed, owed_unique, owed_accepted}
use Rattle.promise.proofs.Counts.{writes_fixed, writes_there, writes_length, writes_wrote}
use Rattle.promise.proofs.Hierarchy.{head_unique, head_head, head_there, heads_equal, dec_head, dec_under, dec_direct}
use Rattle.promise.proofs.Hierarchy.{dec_third}

-- how many numbers below k have a property: there is such a number, and it is less for a narrower property

unfoldable pub number_there :
    (P : ℕ → Type 0) → ((c : ℕ) → Dec (P c)) → (k : ℕ) → (m : ℕ) × Number P k m
number_there P dec zero = (0, Number.none)
number_there P dec (suc k) = go (dec k) (number_there P dec k)
  where
    go : Dec (P k) → (m : ℕ) × Number P k m → (m : ℕ) × Number P (suc k) m
    go (yes p) (m, x) = (suc m, Number.counted p x)
    go (no p) (m, x) = (m, Number.passed p x)

pub number_most : {P : ℕ → Type 0} {k m : ℕ} → Number P k m → m ≤ k
number_most Number.none = omega arith
number_most (Number.counted p x) = omega (arith, number_most x)
number_most (Number.passed p x) = omega (arith, number_most x)

number_le :
    {P Q : ℕ → Type 0} {k m m₂ : ℕ} → ((c : ℕ) → c < k → P c → Q c) → Number P k m → Number Q k m₂ → m ≤ m₂
number_le i Number.none y = omega arith
number_le i (Number.counted p x) (Number.counted q y) = omega (arith, number_le (λ c h. i c (omega arith)) x y)
number_le i (Number.counted p x) (Number.passed q y) = absurd (q (i _ (omega arith) p))
number_le i (Number.passed p x) (Number.counted q y) = omega (arith, number_le (λ c h. i c (omega arith)) x y)
number_le i (Number.passed p x) (Number.passed q y) = omega (arith, number_le (λ c h. i c (omega arith)) x y)

-- one number counts what has a property
pub number_unique : {P : ℕ → Type 0} {k m m₂ : ℕ} → Number P k m → Number P k m₂ → m ≡ m₂
number_unique x y = le_antisymm (number_le (λ c h p. p) x y) (number_le (λ c h p. p) y x)

number_lt :
    {P Q : ℕ → Type 0} {k m m₂ : ℕ} → ((c : ℕ) → c < k → P c → Q c) → (j : ℕ) → j < k → ¬ P j → Q j → Number P k m
    → Number Q k m₂ → m < m₂
number_lt i j h np qj Number.none y = absurd (omega arith)
number_lt i j h np qj (Number.counted {k = k} p x) (Number.passed q y) = absurd (q (i k (omega arith) p))
number_lt i j h np qj (Number.passed p x) (Number.counted q y) =
    omega (arith, number_le (λ c l. i c (omega arith)) x y)
number_lt {P} i j h np qj (Number.counted {k = k} {m = m} p x) (Number.counted {m = m₂} q y) =
    go (ℕ_discrete j k) (λ l. number_lt (λ c z. i c (omega arith)) j l np qj x y)
  where
    go : Dec (j ≡ k) → (j < k → m < m₂) → suc m < suc m₂
    go (yes e) below = absurd (np (rw e p))
    go (no e) below = omega (arith, below (omega arith))
number_lt {P} {Q} i j h np qj (Number.passed {k = k} {m = m} p x) (Number.passed {m = m₂} q y) =
    go (ℕ_discrete j k) (λ l. number_lt (λ c z. i c (omega arith)) j l np qj x y)
  where
    go : Dec (j ≡ k) → (j < k → m < m₂) → m < m₂
    go (yes e) below = absurd (q (rw e at qj))
    go (no e) below = below (omega arith)

number_all : (k : ℕ) → Number (λ _. Unit {0}) k k
number_all zero = Number.none
number_all (suc k) = Number.counted tt (number_all k)

module _ (n : ℕ) (t : List ℕ) where
  unfoldable pub dec_above : (b rung c : ℕ) → Dec (Above n t b rung c)
  dec_above b rung c =
      as_well (λ p. record { head = p.0; differ = p.1.0; above = p.1.1.0; under = p.1.1.1 })
      (λ q. (q.head, (q.differ, (q.above, q.under))))
      (both (dec_head n t c) (both (negated (ℕ_discrete c rung)) (both (dec_under n t rung c) (dec_under n t c b))))

  -- the number of heads strictly above a rung and under the goal b
  unfoldable pub to_go : (b rung : ℕ) → (m : ℕ) × Number (Above n t b rung) n m
  to_go b rung = number_there (Above n t b rung) (dec_above b rung) n

module _ (n : ℕ) (t : List ℕ) (sound : Sound n t) where
  pub through : {a b c : ℕ} → a < n → b < n → c < n → Under n t a b → Under n t b c → Under n t a c
  through {a} {b} {c} ha hb hc p q = sound.transitive a b c ha hb hc p q

  -- a head that is equal to b is the head of b
  pub head_of_equal : {a b : ℕ} → b < n → Head n t a → Under n t a b → Under n t b a → HeadOf n t b a
  head_of_equal {a} {b} hb ha up back =
      record {
        below = ha.below;
        equal = (back, up);
        lowest = λ c hc e.
            ha.lowest c hc (
              through ha.below hb hc up e.0,
              through hc hb ha.below e.1 back,
            );
      }

  -- nothing is above the head of b and under b
  top_ends : {b g c : ℕ} → b < n → HeadOf n t b g → NextRung n t b g c → ⊥
  top_ends {b} {g} {c} hb p r =
      let d = r.direct in
      d.differ
      (heads_equal n t sound d.from d.to
      (d.under, through d.to.below hb p.below r.under p.equal.0))

  rung_unique : {a b c c₂ : ℕ} → NextRung n t b a c → NextRung n t b a c₂ → c ≡ c₂
  rung_unique {a} {b} {c} {c₂} p q =
      le_antisymm (p.lowest c₂ q.direct q.under) (q.lowest c p.direct p.under)

  -- one ladder at most

  ladder_same :
      {b a a₂ : ℕ} {l l₂ : List ℕ} → b < n → a ≡ a₂ → Ladder n t b a l → Ladder n t b a₂ l₂ → l ≡ l₂
  ladder_same hb e (Ladder.end p) (Ladder.end q) = ap (λ (x : ℕ). x ∷ []) e
  ladder_same hb e (Ladder.end p) (Ladder.rung r m) = absurd (top_ends hb (rw e at p) r)
  ladder_same hb e (Ladder.rung r l) (Ladder.end q) = absurd (top_ends hb (rw (← e) at q) r)
  ladder_same {b} hb e (Ladder.rung {rung = a} {next = c} {l = l} r p)
      (Ladder.rung {rung = a₂} {next = c₂} {l = l₂} r₂ q) =
      ap (λ (x : ℕ). x ∷ l) e ∙ ap (λ (m : List ℕ). a₂ ∷ m) (ladder_same hb (rung_unique r (rw (← e) at r₂)) p q)

  pub ladder_unique : {a b : ℕ} → b < n → (l l₂ : List ℕ) → LadderOf n t a b l → LadderOf n t a b l₂ → l ≡ l₂
  ladder_unique hb l l₂ p q = ladder_same hb (head_unique p.head q.head) p.rungs q.rungs

  -- "Equal classes give one rung", the head of both

  pub ladder_equal :
      {a b : ℕ} {l : List ℕ} → a < n → b < n → LadderOf n t a b l → Equal n t a b
      → (h : ℕ) × HeadOf n t a h × HeadOf n t b h × (l ≡ h ∷ [])
  ladder_equal ha hb p e =
      let h = p.head in
      let goal =
      head_of_equal hb (head_head n t sound ha h) (through h.below ha hb h.equal.1 e.0)
      (through hb ha h.below e.1 h.equal.0)
      in
      (p.start, h, goal, ladder_same hb refl p.rungs (Ladder.end goal))

  -- and no others do

  one_rung : {b rung : ℕ} {l : List ℕ} → Ladder n t b rung l → length l ≡ 1 → HeadOf n t b rung
  one_rung (Ladder.end p) e = p
  one_rung (Ladder.rung r (Ladder.end p)) e = absurd (omega arith)
  one_rung (Ladder.rung r (Ladder.rung q m)) e = absurd (omega arith)

  pub ladder_one :
      {a b : ℕ} {l : List ℕ} → a < n → b < n → LadderOf n t a b l → (length l ≡ 1) ↔ Equal n t a b
  ladder_one ha hb p = (
    λ e.
        let h = p.head in
        let g = one_rung p.rungs e in (
          through ha h.below hb h.equal.0 g.equal.1,
          through hb h.below ha g.equal.0 h.equal.1,
        ),
    λ e. ap length (ladder_equal ha hb p e).3,
  )

  -- "the number of heads strictly above the rung and under the goal falls"
  pub rung_falls :
      {b a c m m₂ : ℕ} → NextRung n t b a c → Number (Above n t b c) n m → Number (Above n t b a) n m₂ → m < m₂
  rung_falls {b} {a} {c} r =
      number_lt more c d.to.below (λ z. z.differ refl)
      (record { head = d.to; differ = λ z. d.differ (sym z); above = d.under; under = r.under })
    where
      d : Direct n t a c
      d = r.direct

      more : (x : ℕ) → x < n → Above n t b c x → Above n t b a x
      more x hx z =
          record {
            head = z.head;
            differ = λ e.
                d.differ (heads_equal n t sound d.from d.to (d.under, rw e at z.above));
            above = through d.from.below d.to.below hx d.under z.above;
            under = z.under;
          }

  -- so a ladder has at most n rungs

  rungs_few : {b rung m : ℕ} {l : List ℕ} → Ladder n t b rung l → Number (Above n t b rung) n m → length l ≤ suc m
  rungs_few (Ladder.end p) x = omega arith
  rungs_few {b} (Ladder.rung {next = next} r p) x =
      let later = (to_go n t b next).1 in omega (arith, rungs_few p later, rung_falls r later x)

  pub ladder_few : {a b : ℕ} {l : List ℕ} → LadderOf n t a b l → length l ≤ n
  ladder_few {a} {b} h =
      let above = (to_go n t b h.start).1 in
      omega (
        arith,
        rungs_few h.rungs above,
        number_lt (λ c _ _. tt) h.start h.head.below (λ z. z.differ refl) tt above (number_all n),
      )

  -- a head that is strictly above a has a direct step from a under it

  unfoldable pub between : (a g : ℕ) → (m : ℕ) × Number (Third n t a g) n m
  between a g = number_there (Third n t a g) (dec_third n t a g) n

  pub third_falls :
      {a g e m m₂ : ℕ} → Head n t a → Head n t g → Third n t a g e → Number (Third n t a e) n m
      → Number (Third n t a g) n m₂ → m < m₂
  third_falls {a} {g} {e} ha hg z = number_lt more e z.head.below (λ y. y.not_upper refl) z
    where
      more : (x : ℕ) → x < n → Third n t a e x → Third n t a g x
      more x hx y =
          record {
            head = y.head;
            not_lower = y.not_lower;
            not_upper = λ q.
                z.not_upper (heads_equal n t sound z.head hg (z.under, rw q at y.under));
            above = y.above;
            under = through hx z.head.below hg.below y.under z.under;
          }

  pub direct_alone :
      {a g : ℕ} → Head n t a → Head n t g → Under n t a g → a ≢ g → ¬ ((c : ℕ) × (c < n) × Third n t a g c)
      → Direct n t a g
  direct_alone ha hg u ne none =
      record {
        from = ha;
        to = hg;
        under = u;
        differ = ne;
        alone = λ c z. none (c, z.head.below, z);
      }

  unfoldable pub direct_there :
      (fuel a g : ℕ) → (between a g).0 < fuel → Head n t a → Head n t g → Under n t a g → a ≢ g
      → (c : ℕ) × Direct n t a c × Under n t c g
  direct_there zero a g le ha hg u ne = absurd (omega arith)
  direct_there (suc fuel) a g le ha hg u ne =
      go (some_below (Third n t a g) (dec_third n t a g) n) (λ e le₂ he ue nee. direct_there fuel a e le₂ ha he ue nee)
    where
      go :
          Dec ((e : ℕ) × (e < n) × Third n t a g e)
          → ((e : ℕ) → (between a e).0 < fuel → Head n t e → Under n t a e → a ≢ e → (c : ℕ) × Direct n t a c
          × Under n t c e)
          → (c : ℕ) × Direct n t a c × Under n t c g
      go (no none) later = (g, direct_alone ha hg u ne none, sound.diagonal g hg.below)
      go (yes (e, he, z)) later =
          let falls = third_falls ha hg z (between a e).1 (between a g).1 in
          let r = later e (omega arith) z.head z.above (λ q. z.not_lower (sym q)) in
          (r.0, r.1, through r.1.to.below he hg.below r.2 z.under)

  -- the next rung, where a rung is under b and not yet its head
  unfoldable pub rung_there : {a b : ℕ} → b < n → Head n t a → Under n t a b → ¬ Under n t b a → (c : ℕ)
      × NextRung n t b a c
  rung_there {a} {b} hb ha u not_yet =
      (r.0, record { direct = r.1.0; under = r.1.1; lowest = λ d dd ud. r.2 d (dd, ud) })
    where
      g : (h : ℕ) × HeadOf n t b h
      g = head_there n t sound b hb

      hg : Head n t g.0
      hg = head_head n t sound hb g.1

      f : (c : ℕ) × Direct n t a c × Under n t c g.0
      f =
          direct_there (suc (between a g.0).0) a g.0 (omega arith) ha hg
          (through ha.below hb hg.below u g.1.equal.0) (λ e. not_yet (rw (← e) at g.1.equal.0))

      r : (c : ℕ) × (Direct n t a c × Under n t c b) × ((d : ℕ) → Direct n t a d × Under n t d b → c ≤ d)
      r =
          least (λ c. Direct n t a c × Under n t c b) (λ c. both (dec_direct n t a c) (dec_under n t c b)) f.0
          (f.1, through f.1.to.below hg.below hb f.2 g.1.equal.1)

  unfoldable pub rungs_there :
      (fuel a b : ℕ) → (to_go n t b a).0 < fuel → b < n → Head n t a → Under n t a b → (l : List ℕ) × Ladder n t b a l
  rungs_there zero a b le hb ha u = absurd (omega arith)
  rungs_there (suc fuel) a b le hb ha u =
      go (dec_under n t b a) (λ c le₂ hc uc. rungs_there fuel c b le₂ hb hc uc)
    where
      go :
          Dec (Under n t b a)
          → ((c : ℕ) → (to_go n t b c).0 < fuel → Head n t c → Under n t c b → (l : List ℕ) × Ladder n t b c l)
          → (l : List ℕ) × Ladder n t b a l
      go (yes back) later = (
        a ∷ [],
        Ladder.end (head_of_equal hb ha u back),
      )
      go (no back) later =
          let r = rung_there hb ha u back in
          let falls = rung_falls r.1 (to_go n t b r.0).1 (to_go n t b a).1 in
          let m = later r.0 (omega arith) r.1.direct.to r.1.under in
          (a ∷ m.0, Ladder.rung r.1 m.1)

  -- a ladder for every a under b
  unfoldable pub ladder_there : (a b : ℕ) → a < n → b < n → Under n t a b → (l : List ℕ) × LadderOf n t a b l
  ladder_there a b ha hb u =
      let h = head_there n t sound a ha in
      let m =
      rungs_there (suc (to_go n t b h.0).0) h.0 b (omega arith) hb (head_head n t sound ha h.1)
      (through h.1.below ha hb h.1.equal.1 u)
      in
      (m.0, record { start = h.0; head = h.1; rungs = m.1 })

-- the call

module _ (s : Session) (t : List ℕ) (a b : ℕ) (out : List ℕ) where
  -- what is known where a ladder is written
  pub ladder_passed :
      First (ladder_refusals s t a b out) 0
      → (¬ ((s.classes ≤ a) ⊎ (s.classes ≤ b))) × (¬ ¬ Under s.classes t a b)
      × (¬ TooShort (LadderOf s.classes t a b) out)
  ladder_passed (inl z) = absurd (omega (arith, z.1))
  ladder_passed (inr (p, inl z)) = absurd (omega (arith, z.1))
  ladder_passed (inr (p, inr (q, inl z))) = absurd (omega (arith, z.1))
  ladder_passed (inr (p, inr (q, inr (u, inl z)))) = absurd (omega (arith, z.1))
  ladder_passed (inr (p, inr (q, inr (u, inr (w, _))))) = (p, u, w)

  unfoldable pub ladder_made :
      Stands s t → ¬ ((s.classes ≤ a) ⊎ (s.classes ≤ b)) → ¬ (¬ Under s.classes t a b)
      → (l : List ℕ) × LadderOf s.classes t a b l
  ladder_made st p u =
      let h = below_of s.classes a b p in
      ladder_there s.classes t st.sound a b h.0 h.1 (stable (ℕ_discrete (mark s.classes t a b) 1) u)

  unfoldable pub ladder_written_there : (o : Counted × List ℕ) × Owed (ladder s t a b out) o
  ladder_written_there =
      writes_there (standing s t (ladder_refusals s t a b out)) (LadderOf s.classes t a b) out
      (standing_there (ladder_refusals s t a b out) s t (λ st.
      stage 5 (either (dec_le s.classes a) (dec_le s.classes b)) (λ p₅.
      stage 7 (dec_lt 0 (opens s.classes t)) (λ p₇.
      stage 9 (negated (ℕ_discrete (mark s.classes t a b) 1)) (λ p₉.
      stage 8 (dec_short st p₅ p₉) (λ p₈. (0, refl)))))))
      (λ f.
      let p = standing_passed (ladder_refusals s t a b out) s f in
      let q = ladder_passed p.1 in
      ladder_made p.0 q.0 q.1)
    where
      dec_short :
          Stands s t → ¬ ((s.classes ≤ a) ⊎ (s.classes ≤ b)) → ¬ (¬ Under s.classes t a b)
          → Dec (TooShort (LadderOf s.classes t a b) out)
      dec_short st p u =
          let l = ladder_made st p u in
          dec_too_short (LadderOf s.classes t a b) l.0 l.1
          (ladder_unique s.classes t st.sound (below_of s.classes a b p).1) out

  pub ladder_fixed : Fixed (ladder s t a b out)
  ladder_fixed =
      writes_fixed (standing s t (ladder_refusals s t a b out)) (LadderOf s.classes t a b) out (λ f.
      let p = standing_passed (ladder_refusals s t a b out) s f in
      ladder_unique s.classes t p.0.sound (below_of s.classes a b (ladder_passed p.1).0).1)

  pub ladder_written_unique :
      {o o₂ : Counted × List ℕ} → Owed (ladder s t a b out) o → Owed (ladder s t a b out) o₂ → o ≡ o₂
  ladder_written_unique = owed_unique (ladder s t a b out) ladder_fixed

  -- a ladder of one rung is written exactly for equal classes, and it is the head of both
  pub ladder_written_equal :
      {c : ℕ} {out' : List ℕ} → Owed (ladder s t a b out) (Count c, out')
      → ((c ≡ 1) ↔ Equal s.classes t a b)
      × (Equal s.classes t a b
      → HeadOf s.classes t a (get_or out' 0 0) × HeadOf s.classes t b (get_or out' 0 0))
  ladder_written_equal h =
      let p = standing_passed (ladder_refusals s t a b out) s h.number in
      let below = below_of s.classes a b (ladder_passed p.1).0 in
      let w = writes_wrote (standing s t (ladder_refusals s t a b out)) (LadderOf s.classes t a b) out h in (
        rw w.2 (ladder_one s.classes t p.0.sound below.0 below.1 w.1),
        λ e.
            let q = ladder_equal s.classes t p.0.sound below.0 below.1 w.1 e in
            rw (w.3, q.3) (q.1, q.2),
      )

  -- the length of the buffer stays
  pub ladder_length :
      {o : Counted × List ℕ} → Owed (ladder s t a b out) o → length o.1 ≡ length out
  ladder_length =
      writes_length (standing s t (ladder_refusals s t a b out)) (LadderOf s.classes t a b) out (λ f.
      (ladder_passed (standing_passed (ladder_refusals s t a b out) s f).1).2)

  -- a buffer of n bytes is not too short
  ladder_fits : Stands s t → s.classes ≤ length out → ¬ TooShort (LadderOf s.classes t a b) out
  ladder_fits st room (l, p, short) = omega (arith, ladder_few s.classes t st.sound p)

  -- where no pair is open, a is under b and n rungs fit, nothing is refused
  pub ladder_accepted :
      {o : Counted × List ℕ} → Stands s t → a < s.classes → b < s.classes → opens s.classes t ≡ 0
      → Under s.classes t a b → s.classes ≤ length out → Owed (ladder s t a b out) o → count_number o.0 ≡ 0
  ladder_accepted st ha hb none under room =
      owed_accepted (ladder s t a b out)
      (first_stands (ladder_refusals s t a b out) st
      (inr (
        ⊎_elim (λ z. omega arith) (λ z. omega arith),
        inr (λ z. omega arith, inr (λ z. z under, inr (ladder_fits st room, refl))),
      )))

  -- with room for 128 rungs 8 never comes up
  pub ladder_room : {o : Counted × List ℕ} → 128 ≤ length out → Owed (ladder s t a b out) o → count_number o.0 ≢ 8
  ladder_room {o} room h e =
      let p = standing_own (ladder_refusals s t a b out) s (inr (omega arith)) h.number in go p.0 p.1
    where
      go : Stands s t → First (ladder_refusals s t a b out) (count_number o.0) → ⊥
      go st (inl (_, k)) = omega arith
      go st (inr (_, inl (_, k))) = omega arith
      go st (inr (_, inr (_, inl (_, k)))) = omega arith
      go st (inr (_, inr (_, inr (_, inl (short, k))))) = ladder_fits st (omega (arith, st.few)) short
      go st (inr (_, inr (_, inr (_, inr (_, k))))) = omega arith
