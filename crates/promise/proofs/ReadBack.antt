-- A book that is written and read back: the marks are the same, and the tally is 0.
-- Assumes nothing.
use mathlib.Core.Path.{◌≡◌, refl, sym, ap, subst}
use mathlib.Core.Logic.{◌↔◌, inl, inr}
use mathlib.Core.Bool.{Bool, true, false}
use mathlib.Core.List.Memᴰ
use mathlib.Core.List.{List, [], ◌∷◌, ◌++◌, append-nil, Memᴰ}
use Prim.Native.Nat.{ℕ, ◌+◌, ◌*◌, ◌≤◌, ◌<◌}
use native.Mathlib.Decide.{ℕ_discrete}
use native.Mathlib.Omega.{arith}
use lib.ListN.{length, take, drop}
use lib.Seq.{take_at}
use Rattle.order.specs.Facts.{Fact, Facts, fact_on, ◌and◌, ◌with◌, ◌⊆◌, Listed, Within, Chain}
use Rattle.order.specs.Tables.{mark, Sound, Marks, SameMarks, TableOf, mark_for, Pair, bytes_of}
use Rattle.order.specs.Orders.{Possible}
use Rattle.promise.specs.Refusals.{First, bad_verdict, standing}
use Rattle.promise.proofs.Refusals.{first_unique}
use Rattle.order.proofs.Sets.{and_none, none_and, Settled, Follows as Entailed, entails_subset, follows_one}
use Rattle.order.proofs.Sets.{with_listed, listed_with}
use Rattle.order.proofs.Tables.{marks_within, sound_table, table_unique, table_of_equals}
use Rattle.order.proofs.Exactness.{possible_subset, table_possible}
use Rattle.promise.specs.declared.Stage.TheVariants.{Start, Begun}
use Rattle.promise.specs.declared.Session.{Session}
use Rattle.promise.specs.declared.Reply.{Reply}
use Rattle.promise.specs.Calls.Counted.{Count}
use Rattle.promise.specs.Calls.{no_session, started, accepted, Owed}
use Rattle.promise.specs.Clips.{truth_of}
use Rattle.promise.specs.declared.Kind.{Kind}
use Rattle.promise.specs.Tell.{tell}
use Rattle.promise.specs.Runs.{StandsFor, Intake}
use Rattle.promise.specs.Book.{field_refusals, Item, items_of, fact_of, GoesOn, Follows, BookRead, field}
use Rattle.promise.specs.Book.{PairsMarked, BookOf, write_refusals, write}
use Rattle.promise.proofs.Standing.{standing_passed}
use Rattle.promise.proofs.Calls.{changes_session}
use Rattle.promise.proofs.Counts.{writes_wrote}
use Rattle.promise.proofs.Fresh.{fresh_accepted, fresh_stands}
use Rattle.promise.proofs.Taking.{leaves_stands}
use Rattle.promise.proofs.Tell.{tell_leaves}
use Rattle.promise.proofs.Runs.{stands_equal, intake_accepted}
use Rattle.promise.proofs.BookSays.{tells_of, pair_fields, second_at, pair_items, fields_fine, book_items}
use Rattle.promise.proofs.BookSays.{facts_said, book_says, books_equal}

-- every item tells a fact of S, or is a field that is not refused
abbrev AllTold : Facts → List Item → Type 0
AllTold S [] = Unit {0}
AllTold S (Item.head p stage bytes ∷ items) = First (field_refusals stage bytes) 0 × AllTold S items
AllTold S (Item.begin p m ∷ items) = ⊥
AllTold S (Item.said p kind a b v ∷ items) = (kind ≡ Kind.Told) × (v ≤ 1) × S (fact_of a b v) × AllTold S items

tells_told :
    (S : Facts) (v at : ℕ) (l : List Pair) (items : List Item) → v ≤ 1
    → ((a b : ℕ) → Memᴰ (a, b) l → S (fact_of a b v))
    → AllTold S items → AllTold S (tells_of v at l ++ items)
tells_told S v at [] items hv h after = after
tells_told S v at (p ∷ l) items hv h after = (
  refl,
  hv,
  h p.0 p.1 (Memᴰ.head refl),
  tells_told S v (at + 2) l items hv (λ a b i. h a b (Memᴰ.tail i)) after,
)

-- Told facts that all stand in G, which some order agrees with, are all accepted, and none counts.
module _ (n : ℕ) (G : Facts) (within : Within n G) (possible : Possible n G) where
  told_accepted :
      (items : List Item) (S : Facts) (t t' : List ℕ) {r : Reply} → S ⊆ G → AllTold G items → StandsFor S (started n) t
      → Follows items (started n) t r t'
      → (r ≡ accepted (started n)) × StandsFor (S and Listed (facts_said items)) (started n) t'
  told_accepted [] S t t' i l st h
      = (h.0, rw h.1 (stands_equal (λ f m. inl m) (and_none S (λ f m. Memᴰ.not-nil m)) st))
  told_accepted (Item.begin p m ∷ items) S t t' i l st h = absurd l
  told_accepted (Item.head p stage bytes ∷ items) S t t' i l st (k, first, inl (ne, e)) =
      absurd (ne (first_unique (field_refusals stage bytes) k 0 first l.0))
  told_accepted (Item.head p stage bytes ∷ items) S t t' i l st (k, first, inr (z, later)) =
      told_accepted items S t t' i l.1 st later
  told_accepted (Item.said p kind a b v ∷ items) S t t' i l st (k, first, inl (ne, e)) =
      absurd (ne (first_unique (bad_verdict v ∷ []) k 0 first (inr (λ z. omega (arith, l.1), refl))))
  told_accepted (Item.said p kind a b v ∷ items) S t t' {r} i l st (k, first, inr (_, (q, u, h, goes))) =
      go goes (λ st₁ later. told_accepted items (S with f) u t' more l.3 st₁ later)
    where
      f : Fact
      f = fact_of a b v

      told : Owed (tell Kind.Told (started n) t f) (q, u)
      told = rw l.0 at h

      more : (S with f) ⊆ G
      more g (inl m) = i g m
      more g (inr e) = rw e l.2

      taken : q.number ≡ 0
      taken =
          (intake_accepted (Intake.fact Kind.Told f) (started n) t st (within f l.2) told).1
          (possible_subset more possible)

      go :
          GoesOn q.number p q.session u r t' (Follows items q.session u r t')
          → (StandsFor (S with f) (started n) u → Follows items (started n) u r t'
          → (r ≡ accepted (started n)) × StandsFor ((S with f) and Listed (facts_said items)) (started n) t')
          → (r ≡ accepted (started n)) × StandsFor (S and Listed (f ∷ facts_said items)) (started n) t'
      go (inl (k, e)) later = absurd (k taken)
      go (inr (k, e)) later =
          let same : q.session ≡ started n = changes_session told k in
          let x = later (rw same at (leaves_stands (tell_leaves Kind.Told told k) st)) (rw same at e) in
          (x.0, stands_equal (listed_with S f (facts_said items)) (with_listed S f (facts_said items)) x.1)

-- "Read back, the marks are the same and the tally is 0."
pub read_back :
    {n : ℕ} {t book u : List ℕ} {r : Reply} {u' : List ℕ} → BookOf n t book → Sound n t → 1 ≤ n → n ≤ 128
    → n * n ≤ length u → BookRead book u r u' → (r ≡ accepted (started n)) × SameMarks n t u'
read_back {n} {t} {book} {u} {r} {u'} k st some few room h =
    started_right (subst (λ (l : List Item). Follows l no_session u r u') (book_items k) h.followed)
  where
    ys : List Pair
    ys = k.yes_pairs

    zs : List Pair
    zs = k.no_pairs

    items : List Item
    items = pair_items ys zs

    marked :
        (v : ℕ) {l : List Pair} → PairsMarked n t (mark_for (truth_of v)) l → (a b : ℕ) → Memᴰ (a, b) l
        → Marks n t (fact_of a b v)
    marked v l a b i =
        let q = (l.exact a b).0 i in
        record { lower_below = q.0; upper_below = q.1; settled = q.2.1 }

    fine : First (field_refusals Start book) 0 × First (field_refusals Begun (pair_fields ys zs)) 0
        × First (field_refusals Begun (field 3 (bytes_of zs))) 0
    fine = fields_fine k

    told : AllTold (Marks n t) items
    told = (
      fine.1,
      tells_told (Marks n t) 1 (4 + 3) ys
          (Item.head (second_at ys) Begun (field 3 (bytes_of zs)) ∷ tells_of 0 (second_at ys + 3) zs)
          (omega arith) (marked 1 k.yes_listed) (
            fine.2,
            rw (append-nil (tells_of 0 (second_at ys + 3) zs)) at
                (tells_told (Marks n t) 0 (second_at ys + 3) zs [] (omega arith) (marked 0 k.no_listed) tt),
          ),
    )

    said : facts_said (items_of book) ≡ facts_said items
    said = ap facts_said (book_items k)

    -- the facts of the book and the marks of the table entail each other
    same : TableOf n (Listed [] and Listed (facts_said items)) u' → SameMarks n t u'
    same table =
        table_unique (sound_table st) (table_of_equals (record { at = up }) (entails_subset down) table)
      where
        down : (Listed [] and Listed (facts_said items)) ⊆ Marks n t
        down f i = ((book_says k f).0
            (rw said (none_and (Listed (facts_said items)) {N = Listed []} (λ g m. Memᴰ.not-nil m) f i))).0

        up : (f : Fact) → Marks n t f → Entailed (Listed [] and Listed (facts_said items)) f
        up f m = pick f.lower f.upper f.holds m (ℕ_discrete f.lower f.upper)
          where
            S : Facts
            S = Listed [] and Listed (facts_said items)

            diagonal : (v : Bool) (a : ℕ) → a < n → mark n t a a ≡ mark_for v → Settled S v a a
            diagonal true a ha e = Chain.stop
            diagonal false a ha e = let d = st.diagonal a ha in absurd (omega arith)

            pick :
                (a b : ℕ) (v : Bool) → Marks n t (fact_on a b v) → Dec (a ≡ b)
                → Settled S v a b
            pick a b v m (yes e) = rw (← e) (diagonal v a m.lower_below (rw (← e) at m.settled))
            pick a b v m (no e) =
                let g : Fact = fact_on a b v in
                follows_one S g (inr (rw said at ((book_says k g).1 (m, e))))

    begun : Follows (Item.begin 0 n ∷ items) no_session u r u' → (r ≡ accepted (started n)) × SameMarks n t u'
    begun (q, u₁, begins, inl (z, _)) = absurd (z (fresh_accepted u some few room begins.number))
    begun (q, u₁, begins, inr (z, later)) =
        let session = changes_session begins z in
        let x =
        told_accepted n (Marks n t) marks_within (table_possible marks_within (sound_table st)) items (Listed []) u₁ u'
        (λ f m. absurd (Memᴰ.not-nil m)) told (rw session at (fresh_stands begins z)) (rw session at later)
        in
        (x.0, same x.1.table)

    started_right :
        Follows (Item.head 0 Start book ∷ Item.begin 0 n ∷ items) no_session u r u'
        → (r ≡ accepted (started n)) × SameMarks n t u'
    started_right (number, first, inl (ne, _)) =
        absurd (ne (first_unique (field_refusals Start book) number 0 first fine.0))
    started_right (number, first, inr (z, later)) = begun later

-- Of the calls: what write wrote is the book.
written : (s : Session) (t out : List ℕ) {c : ℕ} {out' : List ℕ} → Owed (write s t out) (Count c, out')
    → BookOf s.classes t (take c out')
written s t out h =
    let w = writes_wrote (standing s t (write_refusals s t out)) (BookOf s.classes t) out h in
    rw (w.3, take_at w.0 (drop (length w.0) out) _ (sym w.2)) w.1

-- read onto any table that is long enough
pub write_read :
    (s : Session) (t out : List ℕ) {c : ℕ} {out' u : List ℕ} {r : Reply} {u' : List ℕ}
    → Owed (write s t out) (Count c, out')
    → s.classes * s.classes ≤ length u → BookRead (take c out') u r u'
    → (r ≡ accepted (started s.classes)) × SameMarks s.classes t u'
write_read s t out h long read =
    let st = (standing_passed (write_refusals s t out) s h.number).0 in
    read_back (written s t out h) st.sound st.some st.few long read

-- two calls for one class count write the same bytes exactly when the marks are equal
pub writes_equal :
    (s s₂ : Session) (t u out out₂ : List ℕ) {c c₂ : ℕ} {out' out₂' : List ℕ} → Owed (write s t out) (Count c, out')
    → Owed (write s₂ u out₂) (Count c₂, out₂') → s.classes ≡ s₂.classes
    → (take c out' ≡ take c₂ out₂') ↔ SameMarks s.classes t u
writes_equal s s₂ t u out out₂ {c₂ = c₂} {out₂' = out₂'} h h₂ e =
    let st = (standing_passed (write_refusals s t out) s h.number).0 in
    let st₂ = (standing_passed (write_refusals s₂ u out₂) s₂ h₂.number).0 in
    books_equal st.sound (subst (λ (n : ℕ). Sound n u) (sym e) st₂.sound) (written s t out h)
    (subst (λ (n : ℕ). BookOf n u (take c₂ out₂')) (sym e) (written s₂ u out₂ h₂))
