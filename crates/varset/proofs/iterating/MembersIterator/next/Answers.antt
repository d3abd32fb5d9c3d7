use Rattle.std.proofs.Common.{arith, rules}
use Rattle.policy.specs.Limits.{variables}
use Rattle.varset.specs.Members.{member}
use Rattle.varset.proofs.Below.{member_below}
use Rattle.varset.proofs.HowMany.{how_many_minus}
use Rattle.varset.proofs.iterating.MembersIterator.next.Goals as goal
use Rattle.std.proofs.iter.Next.{firm}

pub returns-clause-goes : goal.returns-clause-goes
returns-clause-goes c =
    let least = c.in_ok-first.ensures in
    let before = c.args.self.now.rest in
    let first = c.in_ok-first.first in
    let fewer = how_many_minus variables (member before) (member c.without-self.result) first (member_below before first least.in_set) least.in_set
    c.without-self.ensures in
    firm ((tt, tt, omega (arith, fewer))) (λ h. search rules)
