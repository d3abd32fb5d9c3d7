-- Transactions, read off the calls and their answers.
use Rattle.std.specs.Prelude.{ℕ, List, [], ◌∷◌, ◌++◌, length, ℤ}
use Rattle.std.proofs.Math.Option.{Option, none, some}
use Rattle.history.specs.Update.{at}
use Rattle.history.specs.Calls.{Call, begin, read, write, collect, snapshot, commit, abort, before, Barred, read_barred, write_barred, commit_barred, Answer, done, value, values, refused}
use Rattle.history.specs.Steps.{in_case}

-- a call with its answer, and the shared values after it
pub record Entry : Type 0 where
  pub call : Call
  pub answer : Answer
  pub shared : ℕ → ℤ

-- the calls on a table from its making on, newest first
abbrev pub History : Type 0
History = List Entry

-- a granted read or write: the number of its call, the variable, and the value
pub data Access : Type 0 where
  got put : ℕ → ℕ → ℤ → Access

-- how a transaction ended; one that the policy refused holds the variable asked for, and what a refused collect had passed
pub data Fate : Type 0 where
  unended committed aborted : Fate
  policy_refused : Option ℕ → List ℕ → Fate

-- a transaction: its task, the number of its begin and of the last call added to it or ending it, its accesses in order
pub record Transaction : Type 0 where
  pub task : ℕ
  pub first : ℕ
  pub last : ℕ
  pub accesses : List Access
  pub fate : Fate

-- the transactions that have ended, newest first; the one that each task has now; the shared values after each call
pub record Ledger : Type 0 where
  pub ended : List Transaction
  pub current : ℕ → Option Transaction
  pub moments : List (ℕ → ℤ)

-- the number of calls so far, which is the number of the next
abbrev pub calls : Ledger → ℕ
calls L = length L.moments

-- what a call adds to the transactions
pub data Addition : Type 0 where
  nothing : Addition
  opens : ℕ → Addition
  adds : ℕ → List Access → Addition
  ends : ℕ → Fate → Addition
  -- a transaction that begins and ends in one call
  whole : ℕ → List Access → Fate → Addition

-- the reads of some variables in call n, with the values replied
abbrev pub gots : ℕ → List ℕ → List ℤ → List Access
gots n [] xs = []
gots n (v ∷ vs) [] = []
gots n (v ∷ vs) (x ∷ xs) = got n v x ∷ gots n vs xs

-- the values in an answer
abbrev pub replied : Answer → List ℤ
replied done = []
replied (value x) = x ∷ []
replied (values xs count) = xs
replied (refused why) = []

-- the end by a refusal of the policy
abbrev pub end_by : Barred → List ℕ → Fate
end_by (read_barred place v) vs = policy_refused (some v) (before place vs)
end_by (write_barred v) vs = policy_refused (some v) []
end_by commit_barred vs = policy_refused none []

-- what call n adds, by its answer
abbrev pub addition : ℕ → Call → Answer → Addition
addition n (begin t) r = in_case r (opens t) (λ why. nothing) nothing
addition n (read t v) r = in_case r (adds t (gots n (v ∷ []) (replied r))) (λ why. ends t (end_by why [])) nothing
addition n (write t v x) r = in_case r (adds t (put n v x ∷ [])) (λ why. ends t (end_by why [])) nothing
addition n (collect t vs room) r = in_case r (adds t (gots n vs (replied r))) (λ why. ends t (end_by why vs)) nothing
addition n (snapshot t vs room) r = in_case r (whole t (gots n vs (replied r)) committed) (λ why. whole t [] (end_by why vs)) nothing
addition n (commit t) r = in_case r (ends t committed) (λ why. ends t (end_by why [])) nothing
addition n (abort t) r = in_case r (ends t aborted) (λ why. nothing) nothing

-- a transaction that has begun in call n
abbrev pub begun : ℕ → ℕ → Transaction
begun t n = record { task = t; first = n; last = n; accesses = []; fate = unended }

-- a transaction with the accesses of call n added
abbrev pub longer : List Access → ℕ → Transaction → Transaction
longer ds n T = record { task = T.task; first = T.first; last = n; accesses = T.accesses ++ ds; fate = T.fate }

-- a transaction that call n ends
abbrev pub over_with : Fate → ℕ → Transaction → Transaction
over_with z n T = record { task = T.task; first = T.first; last = n; accesses = T.accesses; fate = z }

-- accesses are added to the transaction that a task has, if it has one
abbrev pub grown : List Access → ℕ → Option Transaction → Option Transaction
grown ds n none = none
grown ds n (some T) = some (longer ds n T)

-- where the task has no transaction, an end adds nothing
abbrev pub closed : Fate → ℕ → Option Transaction → List Transaction → List Transaction
closed z n none Ts = Ts
closed z n (some T) Ts = over_with z n T ∷ Ts

-- the ledger after a call, by what it adds; s are the shared values after it
abbrev pub note : Addition → (ℕ → ℤ) → Ledger → Ledger
note nothing s L = record { ended = L.ended; current = L.current; moments = s ∷ L.moments }
note (opens t) s L = record { ended = L.ended; current = at L.current t (some (begun t (calls L))); moments = s ∷ L.moments }
note (adds t ds) s L = record { ended = L.ended; current = at L.current t (grown ds (calls L) (L.current t)); moments = s ∷ L.moments }
note (ends t z) s L = record { ended = closed z (calls L) (L.current t) L.ended; current = at L.current t none; moments = s ∷ L.moments }
note (whole t ds z) s L = record {
  ended = record { task = t; first = calls L; last = calls L; accesses = ds; fate = z } ∷ L.ended;
  current = L.current;
  moments = s ∷ L.moments;
}

-- no transaction yet, and no call
abbrev pub new_ledger : Ledger
new_ledger = record { ended = []; current = λ t. none; moments = [] }

-- the transactions of a history
abbrev pub read_off : History → Ledger
read_off [] = new_ledger
read_off (e ∷ h) = note (addition (calls (read_off h)) e.call e.answer) e.shared (read_off h)
