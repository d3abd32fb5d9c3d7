use Rattle.std.proofs.Common.{rules}
use lib.Bits.{and_lt}
use Rattle.policy.specs.Limits.{variables}
use Rattle.varset.specs.Members.{member}
use Rattle.varset.proofs.Masks.{meeting_masks}
use Rattle.varset.proofs.VarSet.meets.Goals as goal

pub returns : goal.returns
unfolding member
returns c =
    meeting_masks variables c.args.self.mask c.args.other.mask
    (and_lt variables c.args.self.mask c.args.other.mask (search rules) (search rules))
