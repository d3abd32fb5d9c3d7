-- What holds of every clock policy.
use Rattle.std.specs.Prelude.{◌≡◌, ℕ, ◌+◌, ◌≤◌, false, Some, None, Option, refl}
use Rattle.std.proofs.Common.{inl, inr, arith}
use Rattle.std.proofs.lemmas.Bool.{cases_Bool, ltb-false, le-ltb}
use Rattle.policy.specs.Limits.{variables}
use Rattle.varset.specs.Members.{member}
use Rattle.varset.specs.declared.VarSet.{VarSet}
use Rattle.varset.proofs.Below.{member_below}
use Rattle.clock.specs.declared.state.Clock.{Clock}
use Rattle.clock.specs.Held.{Sound}
use Rattle.clock.specs.Rows.{begun_after}
use Rattle.clock.specs.Clocks.{held}
use Rattle.clock.specs.Soundness.{sound_fields}

-- what it holds is sound
pub sound : (p : Clock) → Sound (held p)
sound p = sound_fields p.clock p.versions p.transactions p.written p.begun

-- a read version that is not above a clock is not above a later one
pub begun_later : (clock : ℕ) (o : Option ℕ) → begun_after clock o ≡ false → begun_after (clock + 1) o ≡ false
begun_later clock None e = refl
begun_later clock (Some n) e =
    let h : n ≤ clock = ltb-false clock n e in
    le-ltb (clock + 1) n (omega arith)

-- a set of variables has no member that isn't one
pub member_outside : (s : VarSet) (v : ℕ) → variables ≤ v → member s v ≡ false
member_outside s v h =
    elim (cases_Bool (member s v)) [ inl e ↦ absurd (omega (arith, member_below s v e)) | inr e ↦ e ]
