use Rattle.std.proofs.Common.{◌≡◌, ◌<◌, length, set, sym, ap, ◌∙◌, arith, length-set}
use Rattle.varset.specs.Members.{member}
use Rattle.varset.specs.declared.VarSet.{VarSet}
use Rattle.varset.specs.declared.iterating.Members.{Members}
use Rattle.varset.proofs.Below.{member_below}
use Rattle.varset.proofs.Visiting.{renewed, renewed_step, renewed_all}
use Rattle.clock.proofs.changes.stamp_versions.Goals as goal

pub bounds-versions-from : goal.bounds-versions-from
bounds-versions-from c = omega (arith, member_below c.loop-v.v-iterator.rest c.in-Some.v c.in-Some.ensures.steps.0.in_set)

pub loop-v-preserved : goal.loop-v-preserved
loop-v-preserved c =
    let inv = c.loop-v.invariant in
    let rest = c.loop-v.v-iterator.rest in
    let steps = c.in-Some.ensures.steps in
    let versions = c.loop-v.versions in
    let there : c.in-Some.v < length versions = omega (arith, member_below rest c.in-Some.v steps.0.in_set, inv.2) in
    let same : set versions c.from.result c.args.number ≡ set versions c.in-Some.v c.args.number =
    ap (λ w. set versions w c.args.number) c.from.ensures in (
      tt,
      tt,
      ap length same ∙ length-set versions c.in-Some.v c.args.number ∙ inv.2,
      λ v. ap (λ ns. renewed 0 (λ u. c.args.number) (member c.next.new.self.rest) ns v) same
          ∙ renewed_step 0 (λ u. c.args.number) (member rest) (member c.next.new.self.rest) c.in-Some.v versions there steps.0.in_set steps.1 v
          ∙ inv.3 v,
    )

pub returns-clause-versions : goal.returns-clause-versions
returns-clause-versions c v h =
    let all : c.into_iter-v-iterator.result.rest ≡ c.args.written =
    ap (λ (m : Members). m.rest) c.into_iter-v-iterator.ensures.into_iter_gives ∙ c.iter-v-items.ensures in
    sym (renewed_all 0 (λ u. c.args.number) (member c.loop-v.v-iterator.rest) c.loop-v.versions c.in-None.ensures.steps.0 v)
    ∙ c.loop-v.invariant.3 v
    ∙ ap (λ (s : VarSet). renewed 0 (λ u. c.args.number) (member s) c.args.versions.now v) all
