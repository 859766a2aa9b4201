-- `standing::sound::is_sound` meets its contract.
-- Assumes nothing.
use Rattle.std.proofs.Common.{rules}
use Rattle.marks.proofs.Answers.{affirmed}
use Rattle.standing.specs.Soundness.{ClassStands}
use Rattle.standing.proofs.Every.{every}
use Rattle.standing.proofs.Soundness.{small_of, diagonal_of, class_of, sound_of_classes}
use Rattle.standing.proofs.sound.is_sound.Goals as goal
use Rattle.standing.proofs.sound.is_sound.Goals.{then-marks_small, else-marks_small}

pub returns-then-diagonal_yes : goal.returns-then-diagonal_yes
returns-then-diagonal_yes c =
    let m = c.args.marks.now in
    let q = every m.classes (ClassStands m.classes m.bytes.now) c.all.ensures.ran (cc) (λ a r q k. search rules) in
    elim c.if-marks_small.branch [
      | then-marks_small w ↦
          let small = affirmed w.if-marks_small.true c.marks_small.ensures in
          let diagonal = affirmed (cc) w.diagonal_yes.ensures in
          (λ e. sound_of_classes small diagonal (q.0 e), λ s. q.1 (class_of s))
      | else-marks_small w ↦ search rules
    ]

pub returns-else-diagonal_yes : goal.returns-else-diagonal_yes
returns-else-diagonal_yes c =
    elim c.if-marks_small.branch [
      | then-marks_small w ↦ search (rules, small_of, diagonal_of)
      | else-marks_small w ↦ search (rules, small_of)
    ]
