-- The text in the output is that of the lines so far.
use Rattle.std.proofs.Common.{drop}
use Rattle.schedule.specs.Pieces.{lines}
use Rattle.table.specs.Views.{view}
use Rattle.play.specs.Room.{SameBuffer}
use Rattle.play.proofs.Skipping.{to_come, behind}
use Rattle.play.proofs.Standing.{Standing}
use Rattle.play.proofs.running.run_over.Given as goal

abbrev pub invariant-loop-line : goal.invariant-loop-line
invariant-loop-line g l = record {
  can : (goal.iterator-loop-line g).can_next l.line-iterator;
  finite : (goal.iterator-loop-line g).is_finite l.line-iterator;
  same : SameBuffer l.fn.output l.output;
  standing : Standing g.P.Policy l.fn.output (view l.initial.table) (drop 1 (lines l.text)) (to_come l.line-iterator) (behind l.line-iterator) l.output (view l.table);
}
