-- Histories that no lawful table has: each breaks one part of the law.
use Rattle.std.specs.Prelude.{◌≡◌, ℕ, List, [], ◌∷◌, ℤ, pos}
use Rattle.std.proofs.Math.Option.{some}
use Rattle.history.specs.Update.{at}
use Rattle.history.specs.Calls.{Call, begin, read, write, commit, abort, single, read_barred, by_policy, Answer, done, value, refused}
use Rattle.history.specs.Steps.{zeros}
use Rattle.history.specs.Transactions.{Entry, History, got, unended, policy_refused, Transaction, read_off}
use Rattle.history.specs.Law.{SerialOrder, OneMoment, HasRival}

-- an entry of a history
abbrev pub entry : Call → Answer → (ℕ → ℤ) → Entry
entry c r s = record { call = c; answer = r; shared = s }

-- only variable 5 holds 7
abbrev pub five : ℕ → ℤ
five = at zeros 5 (pos 7)

-- variables 5 and 6 hold 7
abbrev pub five_and_six : ℕ → ℤ
five_and_six = at five 6 (pos 7)

-- task 1 begins after task 0 has committed 7 to variable 5, but is answered 0 and commits
abbrev pub stale : History
stale =
    entry (commit 1) done five ∷ entry (read 1 5) (value (pos 0)) five ∷ entry (begin 1) done five
    ∷ entry (commit 0) done five ∷ entry (write 0 5 (pos 7)) done zeros ∷ entry (begin 0) done zeros ∷ []

-- task 0 commits 7 to variable 5, but nothing is shared
abbrev pub unshared : History
unshared = entry (commit 0) done zeros ∷ entry (write 0 5 (pos 7)) done zeros ∷ entry (begin 0) done zeros ∷ []

-- task 1 is answered what task 0 has pending and then aborts
abbrev pub dirty : History
dirty =
    entry (abort 0) done zeros ∷ entry (read 1 5) (value (pos 7)) zeros ∷ entry (begin 1) done zeros
    ∷ entry (write 0 5 (pos 7)) done zeros ∷ entry (begin 0) done zeros ∷ []

-- the transaction of task 1 in it
abbrev pub dirty_reader : Transaction
dirty_reader = record { task = 1; first = 2; last = 3; accesses = got 3 5 (pos 7) ∷ []; fate = unended }

-- task 1 is answered variable 5 from before the commit of task 0, and variable 6 from after it
abbrev pub torn : History
torn =
    entry (read 1 6) (value (pos 7)) five_and_six ∷ entry (commit 0) done five_and_six ∷ entry (write 0 6 (pos 7)) done zeros
    ∷ entry (write 0 5 (pos 7)) done zeros ∷ entry (begin 0) done zeros ∷ entry (read 1 5) (value (pos 0)) zeros ∷ entry (begin 1) done zeros ∷ []

-- the transaction of task 1 in it
abbrev pub torn_reader : Transaction
torn_reader = record { task = 1; first = 0; last = 6; accesses = got 1 5 (pos 0) ∷ got 6 6 (pos 7) ∷ []; fate = unended }

-- the policy refuses task 0 a read, though no other task ever began
abbrev pub lonely : History
lonely = entry (read 0 5) (refused (by_policy (read_barred single 5))) zeros ∷ entry (begin 0) done zeros ∷ []

-- the transaction of task 0 in it
abbrev pub lonely_reader : Transaction
lonely_reader = record { task = 0; first = 0; last = 1; accesses = []; fate = policy_refused (some 5) [] }

-- all of them
abbrev pub unlawful_histories : List History
unlawful_histories = stale ∷ unshared ∷ dirty ∷ torn ∷ lonely ∷ []

-- a stale read or a commit that shares nothing leaves no serial order, dirty or torn reads leave no moment, and a refusal with
-- nobody else open has no rival
pub record Refuted : Type 0 where
  pub stale_unordered : SerialOrder (read_off stale) five → ⊥
  pub unshared_unordered : SerialOrder (read_off unshared) zeros → ⊥
  pub is_dirty : (read_off dirty).current 1 ≡ some dirty_reader
  pub dirty_momentless : OneMoment (read_off dirty) dirty_reader → ⊥
  pub is_torn : (read_off torn).current 1 ≡ some torn_reader
  pub torn_momentless : OneMoment (read_off torn) torn_reader → ⊥
  pub is_lonely : (read_off lonely).ended ≡ lonely_reader ∷ []
  pub lonely_unrivalled : HasRival (read_off lonely) lonely_reader (some 5) → ⊥
