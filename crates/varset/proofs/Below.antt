-- What is known of every set of variables.
use Rattle.std.proofs.Common.{◌≡◌, ℕ, ◌<◌, true}
use Rattle.std.proofs.lemmas.Bool.{ltb-true, and_parts}
use Rattle.policy.specs.Limits.{variables}
use Rattle.varset.specs.Members.{member, bit}
use Rattle.varset.specs.declared.VarSet.{VarSet}

-- a member is a variable that there is
pub member_below : (s : VarSet) (v : ℕ) → member s v ≡ true → v < variables
unfolding member
member_below s v e = ltb-true v variables (and_parts _ (bit s.mask v) e).0
