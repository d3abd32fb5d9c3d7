-- What a table answers, from its state before the call and the facts of its policy.
use Rattle.std.specs.Prelude.{ℕ, suc, Bool, true, false, cond, List, [], ◌∷◌, map, length, ℤ, nat_lt}
use Rattle.std.proofs.Math.Option.{Option, none, some}
use Rattle.policy.specs.Limits.{tasks, variables}
use Rattle.policy.specs.Facts.{Facts, may_read, may_write, may_commit}
use Rattle.history.specs.Calls.{Call, begin, read, write, collect, snapshot, commit, abort, single, listed, Wrong, no_task, no_variable, list_length, short_buffer}
use Rattle.history.specs.Calls.{Untimely, not_idle, is_idle, is_broken, Barred, read_barred, write_barred, commit_barred, sent_wrongly, at_wrong_time, by_policy}
use Rattle.history.specs.Calls.{Answer, done, value, values, refused}

-- a task's stage: without a transaction, in one, or thrown out of one and not yet told to end it
pub data Stage : Type 0 where
  idle active broken : Stage

-- how long a list of variables may be
abbrev pub longest_list : ℕ
longest_list = 16

-- the first of two faults, if there is one
abbrev pub ◌or_else◌ : Option Wrong → Option Wrong → Option Wrong
none or_else next = next
some why or_else next = some why

infixr 30 ◌or_else◌
-- the fault, where the test fails
abbrev pub unless : Bool → Wrong → Option Wrong
unless true why = none
unless false why = some why

-- the first place of a list, counted from i, that names no variable
abbrev pub first_wrong : ℕ → List ℕ → Option Wrong
first_wrong i [] = none
first_wrong i (v ∷ vs) = unless (nat_lt v variables) (no_variable (listed i)) or_else first_wrong (suc i) vs

-- what is wrong with a list and its reply buffer
abbrev pub wrong_list : ℕ → List ℕ → ℕ → Option Wrong
wrong_list t vs room =
    unless (nat_lt t tasks) no_task or_else unless (nat_lt 0 (length vs)) list_length or_else unless (nat_lt (length vs) (suc longest_list)) list_length
    or_else unless (nat_lt (length vs) (suc room)) short_buffer or_else first_wrong 0 vs

-- what is wrong with a call as it was sent, in the order of checks
abbrev pub wrong : Call → Option Wrong
wrong (begin t) = unless (nat_lt t tasks) no_task
wrong (read t v) = unless (nat_lt t tasks) no_task or_else unless (nat_lt v variables) (no_variable single)
wrong (write t v x) = unless (nat_lt t tasks) no_task or_else unless (nat_lt v variables) (no_variable single)
wrong (collect t vs room) = wrong_list t vs room
wrong (snapshot t vs room) = wrong_list t vs room
wrong (commit t) = unless (nat_lt t tasks) no_task
wrong (abort t) = unless (nat_lt t tasks) no_task

-- a call that opens a transaction comes while its task is idle
abbrev pub must_be_idle : Stage → Option Untimely
must_be_idle idle = none
must_be_idle active = some not_idle
must_be_idle broken = some not_idle

-- a call within a transaction comes while its task is in one
abbrev pub must_be_active : Stage → Option Untimely
must_be_active idle = some is_idle
must_be_active active = none
must_be_active broken = some is_broken

-- an abort also serves a broken task
abbrev pub must_not_be_idle : Stage → Option Untimely
must_not_be_idle idle = some is_idle
must_not_be_idle active = none
must_not_be_idle broken = none

-- what is wrong with a call's time, by the stage of its task
abbrev pub untimely : Call → Stage → Option Untimely
untimely (begin t) s = must_be_idle s
untimely (read t v) s = must_be_active s
untimely (write t v x) s = must_be_active s
untimely (collect t vs room) s = must_be_active s
untimely (snapshot t vs room) s = must_be_idle s
untimely (commit t) s = must_be_active s
untimely (abort t) s = must_not_be_idle s

-- the bar, where the policy doesn't allow it
abbrev pub unless_allowed : Bool → Barred → Option Barred
unless_allowed true why = none
unless_allowed false why = some why

-- the first place of a list, counted from i, whose variable task t may not read
abbrev pub first_barred : Facts → ℕ → ℕ → List ℕ → Option Barred
first_barred f t i [] = none
first_barred f t i (v ∷ vs) = cond (may_read f t v) (first_barred f t (suc i) vs) (some (read_barred (listed i) v))

-- whether the policy refuses a call, by its facts when it is asked: those before the call, or after a snapshot's begin
abbrev pub barred : Bool → Facts → Call → Option Barred
barred strict f (begin t) = none
barred strict f (read t v) = unless_allowed (may_read f t v) (read_barred single v)
barred strict f (write t v x) = unless_allowed (may_write f t v) (write_barred v)
barred strict f (collect t vs room) = first_barred f t 0 vs
barred strict f (snapshot t vs room) = first_barred f t 0 vs
barred strict f (commit t) = unless_allowed (may_commit strict f t) commit_barred
barred strict f (abort t) = none

-- the value that a granted read of v by task t gives: the pending one if the task has written v, else the shared one
abbrev pub look : Facts → (ℕ → ℕ → ℤ) → (ℕ → ℤ) → ℕ → ℕ → ℤ
look f pending shared t v = cond (f.writes t v) (pending t v) (shared v)

-- the answer to a granted call; `see` gives the value of a variable, and `count` reads were made of the policy
abbrev pub granted : (ℕ → ℤ) → ℕ → Call → Answer
granted see count (begin t) = done
granted see count (read t v) = value (see v)
granted see count (write t v x) = done
granted see count (collect t vs room) = values (map see vs) count
granted see count (snapshot t vs room) = values (map see vs) count
granted see count (commit t) = done
granted see count (abort t) = done

-- the answer, by the first check that fails
abbrev pub checked : Option Wrong → Option Untimely → Option Barred → Answer → Answer
checked (some why) late bar ok = refused (sent_wrongly why)
checked none (some why) bar ok = refused (at_wrong_time why)
checked none none (some why) ok = refused (by_policy why)
checked none none none ok = ok
