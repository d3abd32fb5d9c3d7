use Rattle.std.proofs.Common.{ap, arith}
use Rattle.clock.specs.declared.state.Clock.{Clock}
use Rattle.clock.specs.Held.{Held}
use Rattle.clock.specs.Clocks.{held}
use Rattle.clock.specs.Policies.{sound}
use Rattle.clock.specs.Renumbered.{renumbered_clock}
use Rattle.clock.proofs.state.Clock.publish.Goals as goal
use Rattle.clock.proofs.state.Clock.publish.Goals.{then-self, else-self}

-- a clock that was at its top is low again
pub stamp-requires : goal.stamp-requires
stamp-requires c =
    elim c.if-self.branch [
      | then-self w ↦
          omega (
            arith,
            ap (λ (p : Clock). p.clock) w.self-is,
            ap (λ (s : Held). s.clock) w.renumber.ensures.numbers,
            renumbered_clock (held c.args.self.now) (sound c.args.self.now),
          )
      | else-self w ↦ omega (arith, ap (λ (p : Clock). p.clock) w.self-is)
    ]
