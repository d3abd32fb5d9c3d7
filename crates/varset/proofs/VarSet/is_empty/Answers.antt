use Rattle.std.proofs.Common.{rules}
use Rattle.policy.specs.Limits.{variables}
use Rattle.varset.specs.Members.{member}
use Rattle.varset.proofs.Masks.{zero_mask}
use Rattle.varset.proofs.VarSet.is_empty.Goals as goal

pub returns : goal.returns
unfolding member
returns c = zero_mask variables c.args.self.mask (search rules)
