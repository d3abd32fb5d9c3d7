use Rattle.std.proofs.Common.{rules}
use Rattle.play.specs.Output.{NewLock, NewOwn, NewClock}
use Rattle.play.proofs.FirstLine.{over_fronts}
use Rattle.play.proofs.choosing.run_choice.Goals as goal

pub returns-in-Plain-Lock-clause-fronts : goal.returns-in-Plain-Lock-clause-fronts
returns-in-Plain-Lock-clause-fronts c =
    let f = over_fronts _ NewLock _ c.args.output.now _ _ c.new.result c.new.ensures.holds c.run_over.ensures.fronts in search rules

pub returns-in-Plain-Own-clause-fronts : goal.returns-in-Plain-Own-clause-fronts
returns-in-Plain-Own-clause-fronts c =
    let f = over_fronts _ NewOwn _ c.args.output.now _ _ c.new-in-Plain-Own.result c.new-in-Plain-Own.ensures.holds c.run_over-in-Plain-Own.ensures.fronts in search rules

pub returns-in-Plain-Clock-clause-fronts : goal.returns-in-Plain-Clock-clause-fronts
returns-in-Plain-Clock-clause-fronts c =
    let f = over_fronts _ NewClock _ c.args.output.now _ _ c.new-in-Plain-Clock.result c.new-in-Plain-Clock.ensures.state c.run_over-in-Plain-Clock.ensures.fronts in search rules

pub returns-in-Eager-Lock-clause-fronts : goal.returns-in-Eager-Lock-clause-fronts
returns-in-Eager-Lock-clause-fronts c =
    let h : NewLock c.new-in-Eager-Lock-2.result.below = rw c.new-in-Eager-Lock-2.ensures.holds c.new-in-Eager-Lock.ensures.holds in
    let f = over_fronts _ (λ p. NewLock p.below) _ c.args.output.now _ _ c.new-in-Eager-Lock-2.result h c.run_over-in-Eager-Lock.ensures.fronts in search rules

pub returns-in-Eager-Own-clause-fronts : goal.returns-in-Eager-Own-clause-fronts
returns-in-Eager-Own-clause-fronts c =
    let h : NewOwn c.new-in-Eager-Own-2.result.below = rw c.new-in-Eager-Own-2.ensures.holds c.new-in-Eager-Own.ensures.holds in
    let f = over_fronts _ (λ p. NewOwn p.below) _ c.args.output.now _ _ c.new-in-Eager-Own-2.result h c.run_over-in-Eager-Own.ensures.fronts in search rules

pub returns-in-Eager-Clock-clause-fronts : goal.returns-in-Eager-Clock-clause-fronts
returns-in-Eager-Clock-clause-fronts c =
    let h : NewClock c.new-in-Eager-Clock-2.result.below = rw c.new-in-Eager-Clock-2.ensures.holds c.new-in-Eager-Clock.ensures.state in
    let f = over_fronts _ (λ p. NewClock p.below) _ c.args.output.now _ _ c.new-in-Eager-Clock-2.result h c.run_over-in-Eager-Clock.ensures.fronts in search rules
