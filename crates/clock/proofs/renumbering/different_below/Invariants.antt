use Rattle.std.proofs.Common.{◌≡◌, ◌≤◌}
use Rattle.clock.specs.Different.{different_below}
use Rattle.clock.specs.Steps.{read_versions}
use Rattle.clock.specs.Rows.{rows}
use Rattle.clock.proofs.renumbering.different_below.Given as goal

-- the tasks so far are counted
abbrev pub invariant-loop-t : goal.invariant-loop-t
invariant-loop-t l =
    (l.different ≡ different_below (read_versions l.t-counter (rows l.transactions)) l.bound) × (l.different ≤ l.t-counter)
