-- A run with a conflict, a refusal, two commits and a snapshot, over a small policy.
use Rattle.std.specs.Prelude.{◌≡◌, ℕ, zero, suc, Bool, true, false, ◌&&◌, [], ◌∷◌, pos, ◌==◌}
use Rattle.std.proofs.Math.Option.{some}
use Rattle.policy.specs.Facts.{Facts}
use Rattle.policy.specs.Moves.{Move, Keeps}
use Rattle.history.specs.Calls.{begin, read, write, collect, snapshot, commit, abort, single, read_barred, by_policy, done, value, values, refused, reply}
use Rattle.history.specs.Steps.{State, zeros}
use Rattle.history.specs.Transactions.{History, got, put, committed, policy_refused, Transaction, read_off}
use Rattle.history.specs.Law.{Lawful}
use Rattle.history.specs.Runs.{New, Leads}
use Rattle.history.specs.Refuted.{entry, five}

-- two tasks and variable 5, which task 1 may not read while task 0 has written it
pub record Pair : Type 0 where
  pub zero_active : Bool
  pub one_active : Bool
  pub zero_wrote : Bool
  pub one_read : Bool

-- which of the two is in a transaction
abbrev pub pair_active : Pair → ℕ → Bool
pair_active p zero = p.zero_active
pair_active p (suc zero) = p.one_active
pair_active p (suc (suc t)) = false

-- task 0 writes variable 5, if it has written
abbrev pub pair_writes : Pair → ℕ → ℕ → Bool
pair_writes p zero v = (p.zero_active && p.zero_wrote) && v == 5
pair_writes p (suc t) v = false

-- task 1 reads variable 5, if it has read
abbrev pub pair_reads : Pair → ℕ → ℕ → Bool
pair_reads p zero v = false
pair_reads p (suc zero) v = (p.one_active && p.one_read) && v == 5
pair_reads p (suc (suc t)) v = false

-- task 1 is barred from variable 5 while task 0 has it written
abbrev pub pair_bars : Pair → ℕ → ℕ → Bool
pair_bars p zero v = false
pair_bars p (suc zero) v = (p.one_active && (p.zero_active && p.zero_wrote)) && v == 5
pair_bars p (suc (suc t)) v = false

-- what this policy means
abbrev pub pair_facts : Pair → Facts
pair_facts p = record {
  active = pair_active p;
  reads = pair_reads p;
  writes = pair_writes p;
  behind = λ t. false;
  no_read = pair_bars p;
  no_write = λ t v. false;
}

-- it may make every move that the rules allow
abbrev pub pair_after : Pair → Move → Pair → Type 0
pair_after p m q = Keeps true m (pair_facts p) (pair_facts q)

-- task 1 is refused what task 0 has written, and reads and collects it once task 0 has committed; newest first
abbrev pub story : History
story =
    entry (snapshot 1 (5 ∷ []) 1) (values (pos 7 ∷ []) 1) five ∷ entry (commit 1) done five
    ∷ entry (collect 1 (5 ∷ 5 ∷ []) 3) (values (pos 7 ∷ pos 7 ∷ []) 1) five ∷ entry (read 1 5) (value (pos 7)) five
    ∷ entry (begin 1) done five ∷ entry (abort 1) done five ∷ entry (commit 0) done five
    ∷ entry (read 1 5) (refused (by_policy (read_barred single 5))) zeros ∷ entry (write 0 5 (pos 7)) done zeros
    ∷ entry (begin 1) done zeros ∷ entry (begin 0) done zeros ∷ []

-- the transaction that is refused
abbrev pub first_reader : Transaction
first_reader = record { task = 1; first = 1; last = 3; accesses = []; fate = policy_refused (some 5) [] }

-- the transaction that writes variable 5
abbrev pub writer : Transaction
writer = record { task = 0; first = 0; last = 4; accesses = put 2 5 (pos 7) ∷ []; fate = committed }

-- the transaction that reads what was written
abbrev pub second_reader : Transaction
second_reader = record { task = 1; first = 6; last = 9; accesses = got 7 5 (pos 7) ∷ got 8 5 (pos 7) ∷ got 8 5 (pos 7) ∷ []; fate = committed }

-- the snapshot
abbrev pub last_reader : Transaction
last_reader = record { task = 1; first = 10; last = 10; accesses = got 10 5 (pos 7) ∷ []; fate = committed }

-- a new table can have this history, it is lawful, these are its transactions, and this is what the collect leaves in its buffer
pub record Example : Type 0 where
  pub start : State Pair
  pub end : State Pair
  pub new : New pair_facts start
  pub run : Leads pair_facts pair_after true start end story
  pub lawful : Lawful story end.shared
  pub transactions : (read_off story).ended ≡ last_reader ∷ second_reader ∷ writer ∷ first_reader ∷ []
  pub buffer : reply (values (pos 7 ∷ pos 7 ∷ []) 1) 3 ≡ pos 7 ∷ pos 7 ∷ pos 0 ∷ []
