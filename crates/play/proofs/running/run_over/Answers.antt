use Rattle.std.proofs.Common.{◌-◌, [], length, drop, ap, ◌∙◌, arith, rules}
use Rattle.history.specs.Runs.{none_yet}
use Rattle.std.specs.Iterator.Adapters.{skip_source, skip_count}
use Rattle.schedule.specs.Pieces.{lines}
use Rattle.table.specs.Views.{view}
use Rattle.play.specs.Room.{size_of}
use Rattle.play.proofs.Skipping.{next_line_out, none_out, first_behind}
use Rattle.play.proofs.Standing.{standing_first, standing_next, first_too_long, next_too_long, all_played, lines_counted}
use Rattle.play.proofs.running.run_over.Goals as goal

pub returns-in_err-put_line-clause-fronts : goal.returns-in_err-put_line-clause-fronts
returns-in_err-put_line-clause-fronts g c =
    let n = c.new-table.ensures in
    let e = c.in_err-put_line.ensures in
    let t = first_too_long g.P.Policy c.args.policy (view c.new-table.result) (drop 1 (lines c.args.text.now))
    (size_of c.args.output.now - c.args.output.now.used) n.new n.aborted (omega (arith, e.added, c.args.output.now.fits)) in search rules

pub loop-line-init : goal.loop-line-init
loop-line-init g c =
    let same = c.into_iter-line-iterator.ensures.into_iter_gives in
    let h = first_behind c.args.text.now c.new.result c.into_iter-line-iterator.result c.new.ensures.all
    (ap skip_source same ∙ c.skip-line-items.ensures.source) (ap skip_count same ∙ c.skip-line-items.ensures.count) in
    let n = c.new-table.ensures in
    let p = c.in_ok-put_line.ensures in record {
      can = tt;
      finite = tt;
      same = p.same_buffer;
      standing = standing_first g.P.Policy c.args.output.now c.put_line.new.self
          h.0 h.1 (n.law (view c.new-table.result) [] none_yet).sound p.added p.within;
    }

pub returns-in_err-put_line-2-clause-fronts : goal.returns-in_err-put_line-2-clause-fronts
returns-in_err-put_line-2-clause-fronts g c =
    let n = c.new-table.ensures in
    let i = c.loop-line.invariant in
    let s = next_line_out c.loop-line.line-iterator c.next.new.self c.in-Some.line c.in-Some.ensures.steps in
    let o = c.obey-reply.ensures i.standing.sound in
    let t = next_too_long g.P.Policy c.args.policy i.same.1 n.new n.aborted s.0 s.1 i.standing o c.loop-line.output.fits
    c.in_err-put_line-2.ensures.added in search rules

pub returns-in_err-put_line-2-clause-within : goal.returns-in_err-put_line-2-clause-within
returns-in_err-put_line-2-clause-within g c =
    let i = c.loop-line.invariant in
    let s = next_line_out c.loop-line.line-iterator c.next.new.self c.in-Some.line c.in-Some.ensures.steps in
    let m = lines_counted g.P.Policy i.standing in
    let z = ap length s.0 in
    let w = c.in_err-put_line-2.ensures.within in search rules

pub loop-line-preserved : goal.loop-line-preserved
loop-line-preserved g c =
    let i = c.loop-line.invariant in
    let s = next_line_out c.loop-line.line-iterator c.next.new.self c.in-Some.line c.in-Some.ensures.steps in
    let p = c.in_ok-put_line-2.ensures in
    let o = c.obey-reply.ensures i.standing.sound in record {
      can = tt;
      finite = tt;
      same = (p.same_buffer.0 ∙ i.same.0, p.same_buffer.1 ∙ i.same.1);
      standing = standing_next g.P.Policy c.put_line-in-loop-line.new.self s.0 s.2 s.1 i.standing o p.added p.within;
    }

pub returns-clause-fronts : goal.returns-clause-fronts
returns-clause-fronts g c =
    let n = c.new-table.ensures in
    let z = none_out c.loop-line.line-iterator c.next.new.self c.in-None.ensures.steps in
    all_played g.P.Policy c.args.policy n.new n.aborted z c.loop-line.invariant.standing

pub returns-clause-within : goal.returns-clause-within
returns-clause-within g c =
    let m = lines_counted g.P.Policy c.loop-line.invariant.standing in
    let f = c.loop-line.invariant.standing.short in search rules
