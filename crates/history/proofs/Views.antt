-- What the law's proof needs of a table: the facts of its policy, and its values.
use Rattle.std.proofs.Common.{◌≡◌, ℕ, ◌≢◌, ℤ}
use Rattle.policy.specs.Facts.{Facts}
use Rattle.history.specs.Answers.{look}
use Rattle.history.specs.Steps.{State}

-- a table as the proof sees it
pub record View : Type 0 where
  pub facts : Facts
  pub pending : ℕ → ℕ → ℤ
  pub shared : ℕ → ℤ

-- the view of a table over any policy
abbrev pub view : {P : Type 0} → (P → Facts) → State P → View
view facts a = record { facts = facts a.policy; pending = a.pending; shared = a.shared }

-- what task t sees in each variable
abbrev pub sight : View → ℕ → ℕ → ℤ
sight a t = look a.facts a.pending a.shared t

-- no shared value changes, and no other task's pending values
pub record Quiet (t : ℕ) (a b : View) : Type 0 where
  pub shared : (v : ℕ) → b.shared v ≡ a.shared v
  pub pending : (u : ℕ) → u ≢ t → (v : ℕ) → b.pending u v ≡ a.pending u v
