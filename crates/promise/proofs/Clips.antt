-- Trial clips: one outcome for each input, and what an accepted or refused clip does.
-- Assumes nothing.
use mathlib.Core.Path.{◌≡◌, refl, sym, ◌∙◌, ap}
use mathlib.Core.Logic.Iff
use mathlib.Core.Logic.{◌↔◌, ◌≢◌, ◌⊎◌, inl, inr}
use mathlib.Core.Bool.{Bool, true, false}
use mathlib.Core.List.{List, []}
use Prim.Native.Nat.{ℕ, ◌*◌, ◌≤◌, ◌<◌}
use native.Mathlib.Decide.{ℕ_discrete, dec_le}
use native.Mathlib.Omega.{arith}
use lib.ListN.{length}
use Rattle.order.specs.Facts.{Facts, fact_on, not_under, ◌and◌, ◌⊆◌, Within, Chain, Yes}
use Rattle.order.specs.Tables.{mark, Settles, TableOf, Sound, Marks, SomeContradicts, opens, mark_against}
use Rattle.order.specs.Orders.{Impossible}
use Rattle.promise.specs.Refusals.{First, standing}
use Rattle.order.proofs.Decide.{stable, both, negated, either, as_well, some_below}
use Rattle.promise.proofs.Refusals.{stage}
use Rattle.order.proofs.Sets.{yes_not_no, entails_subset, within_and, OnlyNoes, Spreads, yes_after_noes, no_after_noes}
use Rattle.order.proofs.Tables.{settles_map, table_unique, table_of_equals, sound_table, marks_within, facts_in_marks}
use Rattle.order.proofs.Tables.{for_not_against}
use Rattle.order.proofs.Steps.{or_cong}
use Rattle.order.proofs.Exactness.{noes_exact}
use Rattle.order.proofs.Bytes.{rest_refl, front_mark, front_rest}
use Rattle.order.proofs.Counts.{opens_more_facts}
use Rattle.order.proofs.Sound.{is}
use Rattle.order.proofs.Taking.{choose, chosen, laid, mark_laid, length_laid}
use Rattle.promise.specs.declared.Session.{Session}
use Rattle.promise.specs.declared.Reply.{Reply}
use Rattle.promise.specs.Calls.{refusal, accepted, Owed, over}
use Rattle.promise.specs.Clips.{Flagged, flags_of, ClipNo, MemberBeyond, clip_refusals, clip, FlagsFit}
use Rattle.promise.specs.Clips.{bytes_refusals, clip_bytes}
use Rattle.promise.specs.Runs.{StandsFor}
use Rattle.promise.proofs.Flags.{dec_flagged, flag_there}
use Rattle.promise.proofs.Standing.{Stands, standing_passed, stood, stands_first, standing_refused}
use Rattle.promise.proofs.Standing.{standing_map, first_stands, standing_there}
use Rattle.promise.proofs.Taking.{Leaves, stands_of, leaves_keeps}
use Rattle.promise.proofs.Calls.{owed_refused, owed_done, changes_unique, changes_kept, changes_session}
use Rattle.promise.proofs.Calls.{changes_there}

-- The two refusals of the call itself are decided.

module _ (n : ℕ) (played : List Bool) where
  unfoldable pub dec_beyond : Dec (MemberBeyond n played)
  dec_beyond =
      as_well (λ h. record { class = h.0; beyond = h.2.0; member = h.2.1 })
      (λ h. (h.class, flag_there played h.class h.member, (h.beyond, h.member)))
      (some_below (λ a. (n ≤ a) × Flagged played a) (λ a. both (dec_le n a) (dec_flagged played a)) (length played))

  -- the noes of a clip are noes, on classes below n
  pub clip_noes : OnlyNoes (ClipNo n played)
  clip_noes f h = h.is_no

  pub clip_within : Within n (ClipNo n played)
  clip_within f h = h.below

  pub clip_no : {a b : ℕ} → a < n → b < n → Flagged played a → ¬ Flagged played b → ClipNo n played (not_under a b)
  clip_no ha hb p q =
      record { below = record { lower_below = ha; upper_below = hb }; member = p; non_member = q; is_no = refl }

  module _ (t : List ℕ) where
    -- member a is marked as under non-member b
    abbrev pub Contrary : ℕ → ℕ → Type 0
    Contrary a b = (Flagged played a × (¬ Flagged played b)) × (mark n t a b ≡ 1)

    abbrev ContraryPair : Type 0
    ContraryPair = (a : ℕ) × (a < n) × ((b : ℕ) × (b < n) × Contrary a b)

    pub contrary : {a b : ℕ} → a < n → b < n → Contrary a b → SomeContradicts n t (ClipNo n played)
    contrary {a} {b} ha hb h = record { fact = not_under a b; said = clip_no ha hb h.0.0 h.0.1; against = h.1 }

    pub contrary_pair : SomeContradicts n t (ClipNo n played) → ContraryPair
    contrary_pair c = part c.fact.lower c.fact.upper c.fact.holds c.said c.against
      where
        part :
            (a b : ℕ) (v : Bool) → ClipNo n played (fact_on a b v)
            → mark n t a b ≡ mark_against v → ContraryPair
        part a b true h m = absurd (yes_not_no h.is_no)
        part a b false h m = (a, h.below.lower_below, (b, h.below.upper_below, ((h.member, h.non_member), m)))

    unfoldable pub dec_clip_contradicts : Dec (SomeContradicts n t (ClipNo n played))
    dec_clip_contradicts =
        as_well (λ h. contrary h.1 h.2.1 h.2.2) contrary_pair
        (some_below (λ a. (b : ℕ) × (b < n) × Contrary a b) (λ a.
        some_below (Contrary a) (λ b.
        both (both (dec_flagged played a) (negated (dec_flagged played b))) (is n t 1 a b)) n) n)

-- A clip that does not contradict marks the pairs of a member and a non-member, and settles no other: what a member
-- is under is a member, so that its noes spread no further.
module _ {n : ℕ} {t : List ℕ} {played : List Bool} (sound : Sound n t)
    (fine : ¬ SomeContradicts n t (ClipNo n played)) where
  clip_spreads :
      (x y : ℕ) → x < n → y < n → Spreads (Marks n t) (ClipNo n played) x y ↔ (Flagged played x × (¬ Flagged played y))
  clip_spreads x y hx hy = (there, back)
    where
      marked : (a b : ℕ) → a < n → b < n → Yes (Marks n t) a b → mark n t a b ≡ 1
      marked a b ha hb = ((sound_table sound).at a b ha hb).one.1

      there : Spreads (Marks n t) (ClipNo n played) x y → Flagged played x × (¬ Flagged played y)
      there h =
          let no-fact = h.fact in (
            stable (dec_flagged played x) (λ q.
                fine (contrary n played t no-fact.below.lower_below hx
                ((no-fact.member, q), marked h.c x no-fact.below.lower_below hx h.from))),
            λ p.
                fine (contrary n played t hy no-fact.below.upper_below
                ((p, no-fact.non_member), marked y h.d hy no-fact.below.upper_below h.to)),
          )

      back : Flagged played x × (¬ Flagged played y) → Spreads (Marks n t) (ClipNo n played) x y
      back (p, q) = record { c = x; d = y; fact = clip_no n played hx hy p q; from = Chain.stop; to = Chain.stop }

  -- marks that are so pointwise are the table of the old marks and the noes of the clip
  pub clip_step :
      {t' : List ℕ}
      → ((x y : ℕ) → x < n → y < n
      → Settles (mark n t' x y) (mark n t x y ≡ 1) ((mark n t x y ≡ 2) ⊎ (Flagged played x × (¬ Flagged played y))))
      → TableOf n (Marks n t and ClipNo n played) t'
  clip_step s =
      let h = sound_table sound in
      let noes = clip_noes n played in
      record {
        at = λ x y hx hy.
            settles_map (Iff.trans (h.at x y hx hy).one (Iff.symm (yes_after_noes (Marks n t) noes x y)))
            (Iff.trans (or_cong (h.at x y hx hy).two (Iff.symm (clip_spreads x y hx hy)))
            (Iff.symm (no_after_noes (Marks n t) noes x y)))
            (s x y hx hy);
      }

-- the table of the marks of t and the noes of a clip, computed
module _ (n : ℕ) (t : List ℕ) (played : List Bool) where
  unfoldable pub dec_clipped_no : (x y : ℕ) → Dec ((mark n t x y ≡ 2) ⊎ (Flagged played x × (¬ Flagged played y)))
  dec_clipped_no x y = either (is n t 2 x y) (both (dec_flagged played x) (negated (dec_flagged played y)))

  abbrev pub clipped_mark : ℕ → ℕ → ℕ
  clipped_mark x y = choose (is n t 1 x y) (dec_clipped_no x y)

  pub clipped_table :
      Sound n t → ¬ SomeContradicts n t (ClipNo n played)
      → TableOf n (Marks n t and ClipNo n played) (laid n clipped_mark)
  clipped_table sound fine =
      clip_step sound fine (λ x y hx hy.
      rw (mark_laid n clipped_mark x y hx hy)
      (chosen (is n t 1 x y) (dec_clipped_no x y) (λ p q. never x y hx hy p q)))
    where
      never :
          (x y : ℕ) → x < n → y < n → mark n t x y ≡ 1 → (mark n t x y ≡ 2)
          ⊎ (Flagged played x × (¬ Flagged played y)) → ⊥
      never x y hx hy p (inl q) = omega arith
      never x y hx hy p (inr q) = fine (contrary n played t hx hy (q, p))

-- the marks of the table after an accepted clip
abbrev pub MarksAfterClip : Session → List ℕ → List Bool → List ℕ → Type 0
MarksAfterClip s t played u = TableOf s.classes (Marks s.classes t and ClipNo s.classes played) u

pub clip_unique :
    {s : Session} {t : List ℕ} {played : List Bool} {o o₂ : Reply × List ℕ} → Owed (clip s t played) o
    → Owed (clip s t played) o₂ → o ≡ o₂
clip_unique = changes_unique (λ u v. table_unique)

-- what is known of an accepted clip
pub clip_passed :
    (s : Session) (t : List ℕ) (played : List Bool) → First (standing s t (clip_refusals s t played)) 0
    → Stands s t × (¬ MemberBeyond s.classes played)
    × (¬ SomeContradicts s.classes t (ClipNo s.classes played))
clip_passed s t played h = let p = standing_passed (clip_refusals s t played) s h in own p.0 p.1
  where
    own :
        Stands s t → First (clip_refusals s t played) 0
        → Stands s t × (¬ MemberBeyond s.classes played)
        × (¬ SomeContradicts s.classes t (ClipNo s.classes played))
    own st (inl z) = absurd (omega (arith, z.1))
    own st (inr (_, inl z)) = absurd (omega (arith, z.1))
    own st (inr (p, inr (q, _))) = (st, p, q)

unfoldable pub clip_there :
    (s : Session) (t : List ℕ) (played : List Bool) → (o : Reply × List ℕ) × Owed (clip s t played) o
clip_there s t played =
    changes_there (standing s t (clip_refusals s t played)) s _ n (MarksAfterClip s t played) t
    (standing_there (clip_refusals s t played) s t (λ st.
    stage 5 (dec_beyond n played) (λ p₅.
    stage 6 (dec_clip_contradicts n played t) (λ p₆. (0, refl)))))
    (λ g.
    (over (laid n marks) t, new g, front_rest n (laid n marks) t size (clip_passed s t played g).0.room))
  where
    n : ℕ
    n = s.classes

    marks : ℕ → ℕ → ℕ
    marks = clipped_mark n t played

    size : length (laid n marks) ≡ n * n
    size = length_laid n marks

    new : First (standing s t (clip_refusals s t played)) 0 → MarksAfterClip s t played (over (laid n marks) t)
    new g =
        let p = clip_passed s t played g in
        record {
          at = λ a b ha hb.
              rw (front_mark n (laid n marks) t size a b ha hb)
              ((clipped_table n t played p.0.sound p.2).at a b ha hb);
        }

-- what an accepted clip leaves: no test is counted
pub clip_leaves :
    {s : Session} {t : List ℕ} {played : List Bool} {r : Reply} {t' : List ℕ} → Owed (clip s t played) (r, t')
    → r.number ≡ 0
    → Leaves (ClipNo s.classes played) s t r.session t'
clip_leaves {s} {t} {played} {r} {t'} h e =
    let p = clip_passed s t played (rw e at h.number) in
    rw (changes_session h e)
    (record {
      within = clip_within s.classes played;
      classes = refl;
      marks = (h.done e).marks;
      size = (h.done e).rest.size;
      count = let le = opens_more_facts (λ f i. inl i) (sound_table p.0.sound) (h.done e).marks in omega arith;
    })

-- "Clips aren't counted as tests": accepted or refused, the session stays what it is
pub clip_session :
    {s : Session} {t : List ℕ} {played : List Bool} {r : Reply} {t' : List ℕ} → Owed (clip s t played) (r, t')
    → r.session ≡ s
clip_session {s = s} {r = r} h = go (ℕ_discrete r.number 0)
  where
    go : Dec (r.number ≡ 0) → r.session ≡ s
    go (yes e) = changes_session h e
    go (no e) = (changes_kept h e).0

-- and no more is open than was
pub clip_opens :
    {s : Session} {t : List ℕ} {played : List Bool} {r : Reply} {t' : List ℕ} → Owed (clip s t played) (r, t')
    → opens s.classes t' ≤ opens s.classes t
clip_opens {s} {t} {r = r} {t' = t'} h = go (ℕ_discrete r.number 0)
  where
    go : Dec (r.number ≡ 0) → opens s.classes t' ≤ opens s.classes t
    go (yes e) = let l = rw (changes_session h e) at (clip_leaves h e).count in omega arith
    go (no e) = rw (changes_kept h e).1 (omega arith)

-- "it is refused as contradictory exactly when no order agrees with all of them and the facts accepted before", and
-- it is refused for no other reason
pub clip_refused :
    {S : Facts} {s : Session} {t : List ℕ} {played : List Bool} {r : Reply} {t' : List ℕ} → StandsFor S s t
    → ¬ MemberBeyond s.classes played → Owed (clip s t played) (r, t')
    → ((r.number ≢ 0) ↔ Impossible s.classes (S and ClipNo s.classes played)) × (r.number ≢ 0 → r.number ≡ 6)
clip_refused {S} {s} {t} {played} {r} st b h = go (stands_first (clip_refusals s t played) (stands_of st) h.number)
  where
    n : ℕ
    n = s.classes

    exact : SomeContradicts n t (ClipNo n played) ↔ Impossible n (S and ClipNo n played)
    exact = noes_exact st.within st.table (clip_noes n played) (clip_within n played)
        (dec_clip_contradicts n played t)

    go :
        First (clip_refusals s t played) r.number
        → ((r.number ≢ 0) ↔ Impossible n (S and ClipNo n played)) × (r.number ≢ 0 → r.number ≡ 6)
    go (inl (z, e)) = absurd (b z)
    go (inr (_, inl (z, e))) = ((λ _. exact.0 z, λ _ y. omega arith), λ _. e)
    go (inr (_, inr (z, e))) = ((λ y. absurd (y e), λ x. absurd (z (exact.1 x))), λ y. absurd (y e))

-- of the flags only the members matter
module _ (played other : List Bool) (same : (a : ℕ) → Flagged played a ↔ Flagged other a) where
  clip_subset : (n : ℕ) → ClipNo n played ⊆ ClipNo n other
  clip_subset n f h =
      record {
        below = h.below;
        member = (same f.lower).0 h.member;
        non_member = λ p. h.non_member ((same f.upper).1 p);
        is_no = h.is_no;
      }

  beyond_same : (n : ℕ) → MemberBeyond n played → MemberBeyond n other
  beyond_same n b = record { class = b.class; beyond = b.beyond; member = (same b.class).0 b.member }

pub clip_same_members :
    {s : Session} {t : List ℕ} (played other : List Bool) {r : Reply} {t' : List ℕ}
    → ((a : ℕ) → Flagged played a ↔ Flagged other a) → Owed (clip s t played) (r, t') → Owed (clip s t other) (r, t')
clip_same_members {s} {t} played other {r} same h =
    record {
      number = standing_map (clip_refusals s t played) (clip_refusals s t other) s t numbered h.number;
      refused = h.refused;
      done = λ e.
          record {
            reply = (h.done e).reply;
            marks =
                table_of_equals (entails_subset (more other played turned)) (entails_subset (more played other same))
                (h.done e).marks;
            rest = (h.done e).rest;
          };
    }
  where
    n : ℕ
    n = s.classes

    turned : (a : ℕ) → Flagged other a ↔ Flagged played a
    turned a = Iff.symm (same a)

    against :
        (p q : List Bool) → ((a : ℕ) → Flagged p a ↔ Flagged q a) → SomeContradicts n t (ClipNo n p)
        → SomeContradicts n t (ClipNo n q)
    against p q e c = record { fact = c.fact; said = clip_subset p q e n c.fact c.said; against = c.against }

    more :
        (p q : List Bool) → ((a : ℕ) → Flagged p a ↔ Flagged q a)
        → (Marks n t and ClipNo n p) ⊆ (Marks n t and ClipNo n q)
    more p q e f (inl i) = inl i
    more p q e f (inr i) = inr (clip_subset p q e n f i)

    numbered : First (clip_refusals s t played) r.number → First (clip_refusals s t other) r.number
    numbered (inl (b, e)) = inl (beyond_same played other same n b, e)
    numbered (inr (b, inl (c, e))) =
        inr (λ z. b (beyond_same other played turned n z), inl (against played other same c, e))
    numbered (inr (b, inr (c, e))) =
        inr (λ z. b (beyond_same other played turned n z), inr (λ z. c (against other played turned z), e))

-- a clip whose noes are all marked already is accepted and changes nothing
pub clip_agreeing :
    {s : Session} {t : List ℕ} {played : List Bool} {r : Reply} {t' : List ℕ} → First (standing s t []) 0
    → ¬ MemberBeyond s.classes played → ClipNo s.classes played ⊆ Marks s.classes t
    → Owed (clip s t played) (r, t')
    → ◌≡◌ {A = Reply × List ℕ} (r, t') (accepted s, t)
clip_agreeing {s} {t} {played} stands b marked h = clip_unique h agrees
  where
    st : Stands s t
    st = (standing_passed [] s stands).0

    more : (Marks s.classes t and ClipNo s.classes played) ⊆ Marks s.classes t
    more f (inl i) = i
    more f (inr i) = marked f i

    agrees : Owed (clip s t played) (accepted s, t)
    agrees =
        owed_done (clip s t played)
        (first_stands (clip_refusals s t played) st
        (inr (
          b,
          inr (
            λ c. for_not_against c.fact.holds (sym (marked c.fact c.said).settled ∙ c.against),
            refl,
          ),
        )))
        refl
        (record {
          reply = refl;
          marks = table_of_equals (entails_subset more) (entails_subset (λ f i. inl i)) (sound_table st.sound);
          rest = rest_refl t;
        })

-- the same clip once more
pub clip_again :
    {s : Session} {t : List ℕ} {played : List Bool} {r : Reply} {t' : List ℕ} {o : Reply × List ℕ}
    → Owed (clip s t played) (r, t') → r.number ≡ 0 → Owed (clip r.session t' played) o → o ≡ (r, t')
clip_again {s} {t} {played} {r} {t'} {o} h e again =
    clip_agreeing {played = played} (first_stands [] (leaves_keeps (clip_leaves h e) passed.0) refl)
    (rw (clip_session h) passed.1) (rw (clip_session h) marked) again
    ∙ ap (λ (x : Reply). (x, t')) (sym first)
  where
    first : r ≡ accepted r.session
    first = (h.done e).reply ∙ ap accepted (sym (clip_session h))

    passed : Stands s t × (¬ MemberBeyond s.classes played)
        × (¬ SomeContradicts s.classes t (ClipNo s.classes played))
    passed = clip_passed s t played (rw e at h.number)

    marked : ClipNo s.classes played ⊆ Marks s.classes t'
    marked f i =
        facts_in_marks (h.done e).marks (within_and marks_within (clip_within s.classes played)) f (inr i)

-- the clip that no class played
pub clip_of_none :
    {s : Session} {t : List ℕ} {played : List Bool} {r : Reply} {t' : List ℕ} → First (standing s t []) 0
    → ((a : ℕ) → ¬ Flagged played a) → Owed (clip s t played) (r, t') → ◌≡◌ {A = Reply × List ℕ} (r, t') (accepted s, t)
clip_of_none stands none =
    clip_agreeing stands (λ b. none b.class b.member) (λ f h. absurd (none f.lower h.member))

-- the clip that all n classes played
pub clip_of_all :
    {s : Session} {t : List ℕ} {played : List Bool} {r : Reply} {t' : List ℕ} → First (standing s t []) 0
    → ((a : ℕ) → Flagged played a ↔ (a < s.classes)) → Owed (clip s t played) (r, t')
    → ◌≡◌ {A = Reply × List ℕ} (r, t') (accepted s, t)
clip_of_all stands all =
    clip_agreeing stands (λ b. let l = (all b.class).0 b.member in omega (arith, b.beyond))
    (λ f h. absurd (h.non_member ((all f.upper).1 h.below.upper_below)))

-- Flags that are bytes.

unfoldable pub dec_flags_fit : (n : ℕ) (bytes : List ℕ) → Dec (FlagsFit n bytes)
dec_flags_fit n bytes =
    as_well (λ p. record { enough = p.0; few = p.1 }) (λ h. (h.enough, h.few))
    (both (dec_le n (length bytes)) (dec_le (length bytes) 128))

pub bytes_unique :
    {s : Session} {t bytes : List ℕ} {o o₂ : Reply × List ℕ} → Owed (clip_bytes s t bytes) o
    → Owed (clip_bytes s t bytes) o₂ → o ≡ o₂
bytes_unique = changes_unique (λ u v. table_unique)

-- where they fit, what is owed is what the clip of these flags owes: so what is said of clips is said of them
pub bytes_clip :
    {s : Session} {t bytes : List ℕ} {o : Reply × List ℕ} → FlagsFit s.classes bytes
    → Owed (clip_bytes s t bytes) o ↔ Owed (clip s t (flags_of bytes)) o
bytes_clip {s} {t} {bytes} {o} fit = (
  λ h.
      record {
        number = standing_map (bytes_refusals s t bytes) (clip_refusals s t (flags_of bytes)) s t fitted h.number;
        refused = h.refused;
        done = h.done;
      },
  λ h.
      record {
        number =
            standing_map (clip_refusals s t (flags_of bytes)) (bytes_refusals s t bytes) s t (λ first.
            inr (λ z. z fit, first)) h.number;
        refused = h.refused;
        done = h.done;
      },
)
  where
    fitted : First (bytes_refusals s t bytes) o.0.number → First (clip_refusals s t (flags_of bytes)) o.0.number
    fitted (inl z) = absurd (z.0 fit)
    fitted (inr z) = z.1

-- where they do not, 5
pub bytes_misfit :
    (s : Session) (t bytes : List ℕ) → Stands s t → ¬ FlagsFit s.classes bytes
    → Owed (clip_bytes s t bytes) (refusal 5 s, t)
bytes_misfit s t bytes st fit =
    owed_refused (clip_bytes s t bytes) (λ k. refl) (first_stands (bytes_refusals s t bytes) st (inl (fit, refl)))
    (λ z. omega arith)

unfoldable pub bytes_there : (s : Session) (t bytes : List ℕ) → (o : Reply × List ℕ) × Owed (clip_bytes s t bytes) o
bytes_there s t bytes = start (standing_there [] s t (λ st. (0, refl)))
  where
    fits : Stands s t → Dec (FlagsFit s.classes bytes) → (o : Reply × List ℕ) × Owed (clip_bytes s t bytes) o
    fits st (yes fit) = let q = clip_there s t (flags_of bytes) in (q.0, (bytes_clip fit).1 q.1)
    fits st (no fit) = ((refusal 5 s, t), bytes_misfit s t bytes st fit)

    start : (k : ℕ) × First (standing s t []) k → (o : Reply × List ℕ) × Owed (clip_bytes s t bytes) o
    start (k, h) = go (ℕ_discrete k 0)
      where
        go : Dec (k ≡ 0) → (o : Reply × List ℕ) × Owed (clip_bytes s t bytes) o
        go (yes e) = fits (stood s t k h e) (dec_flags_fit s.classes bytes)
        go (no e) = (
          (refusal k s, t),
          owed_refused (clip_bytes s t bytes) (λ k. refl) (standing_refused (bytes_refusals s t bytes) s t k h e) e,
        )
