-- `standing::sound::class_stands` meets its contract.
-- Assumes nothing.
use Rattle.std.proofs.Common.{rules}
use Rattle.standing.specs.Soundness.{PairStands}
use Rattle.standing.proofs.Every.{every}
use Rattle.standing.proofs.sound.class_stands.Goals as goal

pub returns : goal.returns
returns c =
    let m = c.args.marks.now in
    let stands = PairStands m.classes m.bytes.now c.args.a in
    let q = every m.classes stands c.all.ensures.ran (cc) (λ b r q k. search rules) in
    (λ e. record { pairs = q.0 e }, λ h. q.1 h.pairs)
