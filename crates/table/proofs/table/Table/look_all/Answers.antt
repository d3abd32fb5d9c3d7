use Rattle.std.proofs.Common.{◌<◌, sym, ◌∙◌, arith}
use Rattle.table.proofs.Sight.{seen_all}
use Rattle.table.proofs.table.Table.look_all.Goals as goal

pub returns : goal.returns
returns g c =
    let i = c.loop-place.place in
    seen_all g.P.Policy.facts c.args.self.now (g.met.P.Policy.proper c.args.self.now.policy) c.args.task c.loop-place.value-items
    (sym c.loop-place.invariant.0 ∙ c.loop-place-test.array_long) c.loop-place-test.array_long
    (λ v h. let k : v < i = omega arith in c.loop-place.invariant.1 v k)
