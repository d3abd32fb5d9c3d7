use Rattle.std.proofs.Common.{◌≡◌, ℕ, ◌+◌, List, length, sym, subst, arith}
use Rattle.policy.specs.Limits.{variables}
use Rattle.varset.specs.Members.{member}
use Rattle.varset.specs.declared.VarSet.{VarSet}
use Rattle.transactions.specs.Rows.{notes}
use Rattle.clock.specs.declared.state.Clock.{Clock}
use Rattle.clock.specs.Held.{Sound}
use Rattle.clock.specs.Steps.{stamped}
use Rattle.clock.specs.Rows.{StampedVersions}
use Rattle.clock.specs.Clocks.{held}
use Rattle.clock.proofs.Arrays.{holding, stamped_fields, stamped_sound}
use Rattle.clock.specs.Soundness.{written_from}
use Rattle.clock.specs.Policies.{sound, begun_later, member_outside}
use Rattle.clock.proofs.state.Clock.stamp.Goals as goal

-- what the call leaves is what was held, stamped
stamps : (p : Clock) (w : VarSet) (ns : List ℕ) → length p.versions ≡ variables
    → StampedVersions (member w) (p.clock + 1) p.versions ns
    → holding (p.clock + 1) ns p.transactions ≡ stamped (member w) (held p)
stamps p w ns wide n =
    stamped_fields p.clock p.versions p.transactions (sound p) wide (member w) ns (member_outside w) n

pub invariant_of-self : goal.invariant_of-self
invariant_of-self c =
    let p : Clock = c.args.self.now in
    let wide : length c.args.self.now.versions ≡ variables = omega arith in
    let s : Sound (holding (p.clock + 1) c.stamp_versions.new.versions p.transactions) =
    subst Sound (sym (stamps p c.args.written c.stamp_versions.new.versions wide c.stamp_versions.ensures.versions))
    (stamped_sound (member c.args.written) (held p) (sound p) (member_outside c.args.written)) in
    record {
      written = written_from (p.clock + 1) c.stamp_versions.new.versions c.stamp_versions.ensures.long s.versions;
      begun = λ t. begun_later p.clock (notes p.transactions t) (p.begun t);
    }

pub returns : goal.returns
returns c =
    let wide : length c.args.self.now.versions ≡ variables = omega arith in
    stamps c.args.self.now c.args.written c.stamp_versions.new.versions wide c.stamp_versions.ensures.versions
