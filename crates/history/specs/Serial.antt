-- Transactions run alone, one after another.
use Rattle.std.specs.Prelude.{ℕ, ◌<◌, List, [], ◌∷◌, ℤ}
use mathlib.Core.List.{Memᴰ}
use Rattle.history.specs.Transactions.{Fate, unended, committed, aborted, policy_refused, Transaction}
use Rattle.history.specs.Alone.{nothing_pending, Exact, run_alone}

-- a transaction is kept if this is the end of a committed one
abbrev pub if_committed : Fate → Transaction → List Transaction → List Transaction
if_committed unended T Ts = Ts
if_committed committed T Ts = T ∷ Ts
if_committed aborted T Ts = Ts
if_committed (policy_refused asked passed) T Ts = Ts

-- the committed ones of some transactions
abbrev pub all_committed : List Transaction → List Transaction
all_committed [] = []
all_committed (T ∷ Ts) = if_committed T.fate T (all_committed Ts)

-- the shared values after some transactions, each run alone, one after another
abbrev pub replay : (ℕ → ℤ) → List Transaction → ℕ → ℤ
replay s [] = s
replay s (T ∷ Ts) = replay (run_alone s T) Ts

-- run so, every read in them gives the value that it was answered
abbrev pub AllExact : (ℕ → ℤ) → List Transaction → Type 0
AllExact s [] = Unit {0}
AllExact s (T ∷ Ts) = Exact s nothing_pending T.accesses × AllExact (run_alone s T) Ts

-- none stands after one that began when it had ended
abbrev pub InOrder : List Transaction → Type 0
InOrder [] = Unit {0}
InOrder (T ∷ Ts) = ((U : Transaction) → Memᴰ U Ts → U.last < T.first → ⊥) × InOrder Ts
