-- What a clock policy holds after each move.
use Rattle.std.specs.Prelude.{◌≡◌, true, false}
use Rattle.policy.specs.Moves.{Move}
use Rattle.policy.specs.Due.{due}
use Rattle.clock.specs.declared.state.Clock.{Clock}
use Rattle.clock.specs.Held.{meaning}
use Rattle.clock.specs.Steps.{next}
use Rattle.clock.specs.Clocks.{held}

-- q is p after the move m: each number and each transaction is what the move makes of those before
pub record After (p : Clock) (m : Move) (q : Clock) : Type 0 where
  pub call : due false m (meaning (held p)) ≡ true
  pub step : held q ≡ next m (held p)
