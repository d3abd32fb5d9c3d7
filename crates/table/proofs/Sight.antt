-- All that a task sees, variable by variable.
use Rattle.std.proofs.Common.{◌≡◌, ℕ, ◌<◌, ◌≤◌, true, false, ◌⊎◌, List, length, get_or, ℤ, pos, sym, ◌∙◌, inl, inr, arith}
use native.Mathlib.Decide.{dec_lt}
use Rattle.std.proofs.lemmas.Bool.{cases_Bool}
use Rattle.std.proofs.lemmas.List.{get_or_past}
use Rattle.policy.specs.Limits.{variables}
use Rattle.policy.specs.Facts.{Facts, Proper}
use Rattle.table.specs.Views.{sight}
use Rattle.table.specs.declared.table.Table.{Table}

module _ {P : Type 0} (facts : P → Facts) (s : Table P) (proper : Proper (facts s.policy)) (t : ℕ) where
  -- beyond the variables there is nothing to see
  beyond : (v : ℕ) → length s.shared ≡ variables → variables ≤ v → sight facts s t v ≡ pos 0
  beyond v len h = go (cases_Bool ((facts s.policy).writes t v))
    where
      go : ((facts s.policy).writes t v ≡ true) ⊎ ((facts s.policy).writes t v ≡ false) → sight facts s t v ≡ pos 0
      go (inl e) = let k = proper.written_below t v e in absurd (omega arith)
      go (inr e) = rw e (get_or_past s.shared v (pos 0) (omega arith))

  pub seen_all : (xs : List ℤ) → length s.shared ≡ variables → length xs ≡ variables
      → ((v : ℕ) → v < variables → get_or xs v (pos 0) ≡ sight facts s t v) → (v : ℕ) → get_or xs v (pos 0) ≡ sight facts s t v
  seen_all xs shared len below v = go (dec_lt v variables)
    where
      go : Dec (v < variables) → get_or xs v (pos 0) ≡ sight facts s t v
      go (yes h) = below v h
      go (no h) = let k : variables ≤ v = omega arith in get_or_past xs v (pos 0) (omega arith) ∙ sym (beyond v shared k)
