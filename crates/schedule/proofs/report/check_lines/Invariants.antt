-- What was noted and what is still to come are together the faults of all lines.
use Rattle.std.proofs.Common.{◌≡◌, ◌+◌, ◌++◌, length, vec_items}
use Rattle.schedule.specs.Pieces.{lines_left}
use Rattle.schedule.specs.Texts.{faults_from}
use Rattle.schedule.proofs.report.check_lines.Given as goal

abbrev pub invariant-loop-line : goal.invariant-loop-line
invariant-loop-line l =
    (l.count ≡ l.line-iterator.count)
    × (l.count + length (lines_left l.line-iterator.rest) ≡ l.initial.count + length (lines_left l.initial.line-iterator.rest))
    × (vec_items l.faults ++ faults_from (l.count + 1) (lines_left l.line-iterator.rest)
    ≡ vec_items l.initial.faults ++ faults_from (l.initial.count + 1) (lines_left l.initial.line-iterator.rest))
