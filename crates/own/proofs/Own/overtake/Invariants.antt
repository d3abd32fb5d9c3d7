use Rattle.std.proofs.Common.{◌≡◌, ℕ, None, cond, ltb, get_or}
use Rattle.varset.specs.Members.{member}
use Rattle.own.specs.Ownership.{overtaken}
use Rattle.own.proofs.Own.overtake.Given as goal

abbrev pub invariant-loop-row : goal.invariant-loop-row
invariant-loop-row l =
    (u : ℕ) → get_or l.row-items u None ≡ cond (ltb u l.row-index) (overtaken (member l.written) (get_or l.initial.row-items u None)) (get_or l.initial.row-items u None)
