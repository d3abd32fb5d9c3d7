use Rattle.std.proofs.Common.{◌≡◌, ℕ, length}
use Rattle.policy.specs.Limits.{variables}
use Rattle.varset.specs.Members.{member}
use Rattle.varset.proofs.Visiting.{renewed}
use Rattle.clock.proofs.changes.stamp_versions.Given as goal

-- what is still to be stamped, with what is stamped already, is what was written
abbrev pub invariant-loop-v : goal.invariant-loop-v
invariant-loop-v l =
    (goal.iterator-loop-v).can_next l.v-iterator × (goal.iterator-loop-v).is_finite l.v-iterator
    × (length l.versions ≡ variables)
    × ((v : ℕ) → renewed 0 (λ u. l.number) (member l.v-iterator.rest) l.versions v
    ≡ renewed 0 (λ u. l.number) (member l.initial.v-iterator.rest) l.initial.versions v)
