-- Fresh: one outcome for each input, and an accepted one stands for no facts.
-- Assumes nothing.
use mathlib.Core.Path.{◌≡◌, refl, sym, ◌∙◌}
use mathlib.Core.Logic.{◌≢◌, ◌⊎◌, inl, inr}
use mathlib.Core.List.Memᴰ
use mathlib.Core.List.{List, []}
use Prim.Native.Nat.{ℕ, ◌*◌, ◌≤◌, ◌<◌}
use native.Mathlib.Decide.{ℕ_discrete, dec_lt, dec_le}
use native.Mathlib.Omega.{arith}
use lib.ListN.{length}
use Rattle.order.specs.Facts.{Listed}
use Rattle.order.specs.Tables.{mark, TableOf, SameMarks, Fresh}
use Rattle.promise.specs.Refusals.{First}
use Rattle.order.proofs.Decide.{stable, either}
use Rattle.promise.proofs.Refusals.{stage}
use Rattle.order.proofs.Tables.{fresh_table, table_sound}
use Rattle.order.proofs.Bytes.{front_mark, front_rest}
use Rattle.order.proofs.Counts.{opens_diagonal}
use Rattle.order.proofs.Taking.{fresh_list, fresh_made, fresh_mark, length_laid}
use Rattle.promise.specs.declared.Reply.{Reply}
use Rattle.promise.specs.Calls.{no_session, started, Owed, over}
use Rattle.promise.specs.Tell.{fresh_refusals, fresh}
use Rattle.promise.specs.Runs.{StandsFor}
use Rattle.promise.proofs.Standing.{first_stands}
use Rattle.promise.proofs.Calls.{changes_unique, changes_session, changes_there}

pub fresh_same : {n : ℕ} {t t' : List ℕ} → Fresh n t → Fresh n t' → SameMarks n t t'
fresh_same {n} {t} {t'} h h' = record { at = λ a b ha hb. go a b ha hb (ℕ_discrete a b) }
  where
    go : (a b : ℕ) → a < n → b < n → Dec (a ≡ b) → mark n t a b ≡ mark n t' a b
    go a b ha hb (yes e) = rw (← e) (h.diagonal a ha ∙ sym (h'.diagonal a ha))
    go a b ha hb (no e) = h.elsewhere a b ha hb e ∙ sym (h'.elsewhere a b ha hb e)

pub fresh_unique :
    {n : ℕ} {t : List ℕ} {o o₂ : Reply × List ℕ} → Owed (fresh n t) o → Owed (fresh n t) o₂ → o ≡ o₂
fresh_unique = changes_unique (λ u v. fresh_same)

-- what an accepted class count is
pub fresh_passed : (n : ℕ) (t : List ℕ) → First (fresh_refusals n t) 0 → (1 ≤ n) × (n ≤ 128) × (n * n ≤ length t)
fresh_passed n t (inl z) = absurd (omega (arith, z.1))
fresh_passed n t (inr (p, inl z)) = absurd (omega (arith, z.1))
fresh_passed n t (inr (p, inr (q, _))) = (
  stable (dec_le 1 n) (λ z. p (inl (omega arith))),
  stable (dec_le n 128) (λ z. p (inr (omega arith))),
  omega arith,
)

pub fresh_accepted :
    {n k : ℕ} (t : List ℕ) → 1 ≤ n → n ≤ 128 → n * n ≤ length t → First (fresh_refusals n t) k → k ≡ 0
fresh_accepted t some few room (inl (inl e, _)) = absurd (omega arith)
fresh_accepted t some few room (inl (inr e, _)) = absurd (omega arith)
fresh_accepted t some few room (inr (_, inl (e, _))) = absurd (omega arith)
fresh_accepted t some few room (inr (_, inr (_, e))) = e

pub fresh_numbers : (n : ℕ) (t : List ℕ) (k : ℕ) → First (fresh_refusals n t) k → k ≢ 0 → (k ≡ 1) ⊎ (k ≡ 2)
fresh_numbers n t k (inl (_, e)) ne = inl e
fresh_numbers n t k (inr (_, inl (_, e))) ne = inr e
fresh_numbers n t k (inr (_, inr (_, e))) ne = absurd (ne e)

unfoldable pub fresh_there : (n : ℕ) (t : List ℕ) → (o : Reply × List ℕ) × Owed (fresh n t) o
fresh_there n t =
    changes_there (fresh_refusals n t) no_session (started n) n (Fresh n) t
    (stage 1 (either (ℕ_discrete n 0) (dec_lt 128 n)) (λ p₁.
    stage 2 (dec_lt (length t) (n * n)) (λ p₂. (0, refl))))
    (λ f.
    (over (fresh_list n) t, new, front_rest n (fresh_list n) t size (fresh_passed n t f).2))
  where
    size : length (fresh_list n) ≡ n * n
    size = length_laid n fresh_mark

    new : Fresh n (over (fresh_list n) t)
    new =
        record {
          diagonal = λ a ha. front_mark n (fresh_list n) t size a a ha ha ∙ (fresh_made n).diagonal a ha;
          elsewhere = λ a b ha hb ne.
              front_mark n (fresh_list n) t size a b ha hb ∙ (fresh_made n).elsewhere a b ha hb ne;
        }

-- an accepted fresh stands for the empty set of facts
pub fresh_stands : {n : ℕ} {t : List ℕ} {r : Reply} {t' : List ℕ} → Owed (fresh n t) (r, t') → r.number ≡ 0
    → StandsFor (Listed []) r.session t'
fresh_stands {n} {t} {r} {t'} h e =
    rw (changes_session h e)
    (record {
      within = λ f m. absurd (Memᴰ.not-nil m);
      table = table;
      stands =
          first_stands [] {s = started n}
          (record {
            some = passed.0;
            few = passed.1;
            room = omega (arith, passed.2, (h.done e).rest.size);
            sound = table_sound table;
            count = omega (arith, opens_diagonal n t' (λ a ha z. omega (arith, (h.done e).marks.diagonal a ha)));
          })
          refl;
    })
  where
    passed : (1 ≤ n) × (n ≤ 128) × (n * n ≤ length t)
    passed = fresh_passed n t (rw e at h.number)

    table : TableOf n (Listed []) t'
    table = fresh_table (λ f m. absurd (Memᴰ.not-nil m)) (h.done e).marks
