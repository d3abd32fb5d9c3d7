use Rattle.std.proofs.Common.{rules, arith}
use Rattle.policy.specs.Limits.{variables}
use Rattle.clock.specs.Rows.{new_number}
use Rattle.clock.proofs.Mapping.{mapped_at}
use Rattle.clock.proofs.renumbering.renumbered_versions.Goals as goal

pub returns : goal.returns
returns c v h =
    mapped_at _ (new_number c.args.transactions.now) _ (λ x y q k. search rules) c.args.versions c.map.result 0 variables c.map.ensures.items.each v 0 0 (omega arith) h
