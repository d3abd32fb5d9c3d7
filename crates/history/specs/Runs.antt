-- Runs of a table over any policy, and what the law says of them.
use Rattle.std.specs.Prelude.{◌≡◌, ℕ, ◌≤◌, Bool, true, false, ◌≢◌, List, [], ◌∷◌, pos}
use Rattle.std.proofs.Math.Option.{Option}
use Rattle.policy.specs.Facts.{Facts, Fresh}
use Rattle.policy.specs.Moves.{Move}
use Rattle.history.specs.Calls.{Call, Answer}
use Rattle.history.specs.Answers.{Stage, idle, active, broken}
use Rattle.history.specs.Steps.{State, Step}
use Rattle.history.specs.Transactions.{policy_refused, Transaction, Ledger, History, read_off}
use Rattle.history.specs.Law.{Lasts, Known, Lawful}

-- a task at this stage has a transaction
abbrev pub in_transaction : Stage → Bool
in_transaction idle = false
in_transaction active = true
in_transaction broken = false

-- U, of another task, was open during T's life
pub record Overlaps (L : Ledger) (U T : Transaction) : Type 0 where
  pub other : U.task ≢ T.task
  pub began : U.first ≤ T.last
  pub lasts : Lasts L U T.first

-- the policy never refuses a transaction that overlaps no other
abbrev pub UnrefusedAlone : History → Type 0
UnrefusedAlone h =
    (T : Transaction) (asked : Option ℕ) (passed : List ℕ) → Known (read_off h) T
    → ((U : Transaction) → Overlaps (read_off h) U T → ⊥) → T.fate ≢ policy_refused asked passed

module _ {P : Type 0} (facts : P → Facts) where
  -- stages and policy agree: a task is active exactly if the policy has it active, and only what it has written is pending
  pub record Sound (a : State P) : Type 0 where
    pub agree : (t : ℕ) → (facts a.policy).active t ≡ in_transaction (a.stage t)
    pub unwritten : (t v : ℕ) → (facts a.policy).writes t v ≡ false → a.pending t v ≡ pos 0

  -- a new table: no task has a transaction, nothing is pending, and every shared value is 0
  pub record New (a : State P) : Type 0 where
    pub fresh : Fresh (facts a.policy)
    pub stage : (t : ℕ) → a.stage t ≡ idle
    pub pending : (t v : ℕ) → a.pending t v ≡ pos 0
    pub shared : (v : ℕ) → a.shared v ≡ pos 0

  module _ (after : P → Move → P → Type 0) (strict : Bool) where
    -- a list of calls can lead from a to another state, with this history
    pub data Leads (a : State P) : State P → History → Type 0 where
      none_yet : Leads a a []
      then : {b d : State P} {h : History} (c : Call) (r : Answer) → Leads a b h → Step facts after strict c b r d
          → Leads a d (record { call = c; answer = r; shared = d.shared } ∷ h)

    -- every run of a new table keeps the law
    abbrev pub LawStands : Type 0
    LawStands = (a b : State P) (h : History) → New a → Leads a b h → Lawful h b.shared

    -- in every run of a new table, no transaction is refused that overlaps no other
    abbrev pub NeverRefusedAlone : Type 0
    NeverRefusedAlone = (a b : State P) (h : History) → New a → Leads a b h → UnrefusedAlone h

    -- a new table is sound, and every call keeps it so
    pub record StaysSound : Type 0 where
      pub new : (a : State P) → New a → Sound a
      pub step : (c : Call) (r : Answer) (a b : State P) → Step facts after strict c a r b → Sound a → Sound b
