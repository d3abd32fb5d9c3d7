use Rattle.worked.proofs.Schedules.{◌and◌}
use Rattle.worked.proofs.Worked.{all_hold}
use Rattle.worked.proofs.plays.play_all.Goals as goal

pub returns : goal.returns
returns c =
    let each = c.play_each.ensures in
    record {
      hold = all_hold;
      played =
          (c.play_each.result.0, each.locked) and (c.play_each.result.1, each.both_read) and
          (c.play_each.result.2, each.too_new) and (c.play_each.result.3, each.newly_read) and
          (c.play_each.result.4, each.behind_reads_on) and (c.play_each.result.5, each.behind_is_barred) and
          (c.play_each.result.6, each.behind_writer) and (c.play_each.result.7, each.eagerly_barred) and
          (c.play_each.result.8, each.owned) and (c.play_each.result.9, each.renumbered) and tt;
    }
