-- A transaction run alone: what its accesses do, and what each read gives.
use Rattle.std.specs.Prelude.{◌≡◌, ℕ, ◌<◌, ◌⊎◌, List, [], ◌∷◌, ℤ}
use Rattle.std.proofs.Math.Option.{Option, none, some, get_or}
use Rattle.history.specs.Update.{at}
use Rattle.history.specs.Transactions.{Access, got, put, Transaction}

-- no value is pending, as when a transaction begins
abbrev pub nothing_pending : ℕ → Option ℤ
nothing_pending v = none

-- the pending values after some accesses
abbrev pub pend : (ℕ → Option ℤ) → List Access → ℕ → Option ℤ
pend p [] = p
pend p (got n v x ∷ ds) = pend p ds
pend p (put n v x ∷ ds) = pend (at p v (some x)) ds

-- a read gives the pending value if there is one, else the shared value
abbrev pub seen : (ℕ → ℤ) → (ℕ → Option ℤ) → ℕ → ℤ
seen s p v = get_or (p v) (s v)

-- run on the shared values s with p pending, every read gives the value that it was answered
abbrev pub Exact : (ℕ → ℤ) → (ℕ → Option ℤ) → List Access → Type 0
Exact s p [] = Unit {0}
Exact s p (got n v x ∷ ds) = (x ≡ seen s p v) × Exact s p ds
Exact s p (put n v x ∷ ds) = Exact s (at p v (some x)) ds

-- a shared answer: x answered a read of v, which was not yet written
abbrev pub Answered : (ℕ → Option ℤ) → List Access → ℕ → ℤ → Type 0
Answered p [] v x = ⊥
Answered p (got n w y ∷ ds) v x = ((w ≡ v) × (y ≡ x) × (p w ≡ none)) ⊎ Answered p ds v x
Answered p (put n w y ∷ ds) v x = Answered (at p w (some y)) ds v x

-- T was answered x from the shared value of v
abbrev pub SharedAnswer : Transaction → ℕ → ℤ → Type 0
SharedAnswer T v x = Answered nothing_pending T.accesses v x

-- v was read or written before call k
abbrev pub Touches : ℕ → ℕ → Access → Type 0
Touches k v (got n w y) = (w ≡ v) × (n < k)
Touches k v (put n w y) = (w ≡ v) × (n < k)

-- T has not written v
abbrev pub Unwritten : Transaction → ℕ → Type 0
Unwritten T v = pend nothing_pending T.accesses v ≡ none

-- the shared values after T, run alone on s: the end copies what is pending over them
abbrev pub run_alone : (ℕ → ℤ) → Transaction → ℕ → ℤ
run_alone s T = seen s (pend nothing_pending T.accesses)
