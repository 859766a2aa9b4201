-- `standing::sound::diagonal_yes` meets its contract.
-- Assumes nothing.
use Rattle.std.proofs.Common.{◌≡◌, ℕ, rules}
use Rattle.order.specs.Tables.{mark}
use Rattle.standing.proofs.Every.{every}
use Rattle.standing.proofs.sound.diagonal_yes.Goals as goal

pub returns : goal.returns
returns c =
    let m = c.args.marks.now in
    let own : ℕ → Type 0 = λ a. mark m.classes m.bytes.now a a ≡ 1 in
    let q = every m.classes own c.all.ensures.ran (cc) (λ a r q k. search rules) in
    (λ e. record { at = q.0 e }, λ h. q.1 h.at)
