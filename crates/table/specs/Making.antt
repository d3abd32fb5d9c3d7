-- A table as it is made, and what holds of every list of calls that can follow.
use Rattle.std.specs.Prelude.{ℕ, zero, suc, cond, List, [], ◌∷◌, ◌++◌}
use Rattle.policy.specs.Facts.{Facts}
use Rattle.policy.specs.Moves.{Move, abort}
use Rattle.policy.specs.declared.Policy.{Ghosts}
use Rattle.history.specs.Steps.{State, Chain}
use Rattle.history.specs.Transactions.{History}
use Rattle.history.specs.Law.{Lawful}
use Rattle.history.specs.Runs.{Sound, Leads}

-- an abort of each task below n that has a transaction, in order
unfoldable pub aborts_below : Facts → ℕ → List Move
aborts_below f zero = []
aborts_below f (suc n) = aborts_below f n ++ cond (f.active n) (abort n ∷ []) []

-- what is known of every state that a list of calls can lead to: the law holds of the history, and stages and policy agree
pub record Reached {P : Type 0} (facts : P → Facts) (h : History) (b : State P) : Type 0 where
  pub lawful : Lawful h b.shared
  pub sound : Sound facts b

-- over a policy, by what it states of itself
module _ {P : Type 0} (stated : Ghosts P) where
  -- of the tasks below n, the policy has aborted those that it had a transaction of
  abbrev pub AbortedBelow : ℕ → P → P → Type 0
  AbortedBelow n p q = Chain stated.after (aborts_below (stated.facts p) n) p q

  -- whatever list of calls follows from a, the law holds of the history that it makes
  abbrev pub LawFrom : State P → Type 0
  LawFrom a = (b : State P) (h : History) → Leads stated.facts stated.after stated.STRICT a b h → Reached stated.facts h b
