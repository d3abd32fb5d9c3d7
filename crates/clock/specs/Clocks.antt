-- What the program's clock policy holds.
use Rattle.clock.specs.declared.state.Clock.{Clock}
use Rattle.clock.specs.Held.{Held}
use Rattle.clock.specs.Rows.{rows, numbers}

-- the clock, the versions and the transactions of a policy
abbrev pub held : Clock → Held
held p = record { clock = p.clock; version = numbers p.versions; transaction = rows p.transactions }
