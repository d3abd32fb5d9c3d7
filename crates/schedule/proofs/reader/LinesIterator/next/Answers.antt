use Rattle.std.proofs.Common.{◌<◌, length, refl, ap, ◌∙◌, arith}
use Rattle.std.proofs.lemmas.Bool.Decides.{nat_tests}
use Rattle.schedule.specs.Pieces.{lines_left}
use Rattle.schedule.proofs.Cuts.{lines_cut}
use Rattle.schedule.proofs.reader.LinesIterator.next.Goals as goal

pub returns-clause-steps : goal.returns-clause-steps
returns-clause-steps c =
    let some : 0 < length c.in_ok-text.text.now = let t = c.if-is_empty.ensures in grind (arith, nat_tests) in (
      ap lines_left c.in_ok-text.was
          ∙ lines_cut c.in_ok-text.text.now c.cut.result.0.now c.cut.result.1 some c.cut.ensures,
      refl,
      refl,
    )
