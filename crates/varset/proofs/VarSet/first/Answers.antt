use Rattle.std.proofs.Common.{ℕ, ap, ◌∙◌, arith, rules}
use Rattle.policy.specs.Limits.{variables}
use Rattle.varset.specs.Members.{member}
use Rattle.varset.proofs.Masks.{inside, inside_zero, least_place}
use Rattle.varset.proofs.VarSet.first.Goals as goal

pub returns-in-0 : goal.returns-in-0
unfolding member
returns-in-0 c v = ap (λ (n : ℕ). inside variables n v) c.in-0.is ∙ inside_zero variables v

pub returns-in_default : goal.returns-in_default
unfolding member
returns-in_default c = least_place variables c.args.self.mask (omega arith) (search rules)
