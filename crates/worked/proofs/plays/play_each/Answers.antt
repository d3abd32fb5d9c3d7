use Rattle.std.proofs.Common.{ap, ◌∙◌}
use Rattle.clock.specs.Clocks.{held}
use Rattle.worked.specs.Rows.{locked, both_read, too_new, newly_read, behind_reads_on, behind_is_barred, behind_writer, eagerly_barred, owned, renumbered}
use Rattle.worked.proofs.Worked.{plays}
use Rattle.worked.proofs.Worked.{locked_worked, both_read_worked, too_new_worked, newly_read_worked, behind_reads_on_worked}
use Rattle.worked.proofs.Worked.{behind_is_barred_worked, behind_writer_worked, eagerly_barred_worked, owned_worked, renumbered_worked}
use Rattle.worked.proofs.plays.play_each.Goals as goal

pub returns : goal.returns
returns c = record {
  locked = plays locked locked_worked c.new.result c.play.result c.new.ensures.fresh c.new.ensures.holds c.play.ensures;
  both_read = plays both_read both_read_worked c.new-2.result c.play-2.result c.new-2.ensures.fresh c.new-2.ensures.holds c.play-2.ensures;
  too_new = plays too_new too_new_worked c.new-3.result c.play-3.result c.new-3.ensures.fresh c.new-3.ensures.state c.play-3.ensures;
  newly_read = plays newly_read newly_read_worked c.new-4.result c.play-4.result c.new-4.ensures.fresh c.new-4.ensures.holds c.play-4.ensures;
  behind_reads_on =
      plays behind_reads_on behind_reads_on_worked c.new-5.result c.play-5.result c.new-5.ensures.fresh c.new-5.ensures.state c.play-5.ensures;
  behind_is_barred =
      plays behind_is_barred behind_is_barred_worked c.new-6.result c.play-6.result c.new-6.ensures.fresh c.new-6.ensures.holds c.play-6.ensures;
  behind_writer =
      plays behind_writer behind_writer_worked c.new-7.result c.play-7.result c.new-7.ensures.fresh c.new-7.ensures.state c.play-7.ensures;
  eagerly_barred =
      plays eagerly_barred eagerly_barred_worked c.new-9.result c.play-8.result (c.new-9.ensures.fresh c.new-8.ensures.fresh) (ap held c.new-9.ensures.holds ∙ c.new-8.ensures.state) c.play-8.ensures;
  owned = plays owned owned_worked c.new-10.result c.play-9.result c.new-10.ensures.fresh c.new-10.ensures.holds c.play-9.ensures;
  renumbered =
      plays renumbered renumbered_worked c.new-11.result c.play-10.result c.new-11.ensures.fresh c.new-11.ensures.state c.play-10.ensures;
}
