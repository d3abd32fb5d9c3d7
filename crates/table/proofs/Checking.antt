-- What the result of the checks tells, by which of them failed.
use Rattle.std.proofs.Common.{◌≡◌, ℕ, ◌<◌, ◌≤◌, Bool, true, false, ltb, ◌⊎◌, Ok, Err, refl, inl, inr, arith}
use mathlib.Core.Option.{Option, none, some}
use Rattle.std.proofs.lemmas.Bool.{cases_Bool}
use Rattle.policy.specs.Limits.{tasks, variables}
use Rattle.history.specs.Calls.{read, Wrong, no_task, no_variable, single, listed, list_length, short_buffer, Untimely, not_idle, is_idle, is_broken, sent_wrongly, at_wrong_time}
use Rattle.history.specs.Answers.{unless, wrong}
use Rattle.table.specs.Faults.{refusal_of, wrong_fault, untimely_fault}
use Rattle.table.specs.Checks.{passed, task_wrong}
use Rattle.table.specs.declared.fault.TableFault.{TableFault}

-- both checks were passed, and what passed them is handed on
pub passed_ok : {A : Type 0} {x a : A} (w : Option Wrong) (y : Option Untimely) → Ok x ≡ passed a w y → (w ≡ none) × (y ≡ none) × (x ≡ a)
passed_ok (some why) y e = absurd (cc)
passed_ok none (some why) e = absurd (cc)
passed_ok none none e = (refl, refl, cc)

-- one of them failed, and the fault tells why
pub passed_err : {A : Type 0} {f : TableFault} (a : A) (w : Option Wrong) (y : Option Untimely) → Err f ≡ passed a w y
    → ((x : Wrong) × (w ≡ some x) × (f ≡ wrong_fault x)) ⊎ ((x : Untimely) × (w ≡ none) × (y ≡ some x) × (f ≡ untimely_fault x))
passed_err a (some x) y e = inl (x, refl, cc)
passed_err a none (some x) e = inr (x, refl, refl, cc)
passed_err a none none e = absurd (cc)

pub wrong_refusal : (x : Wrong) → refusal_of (wrong_fault x) ≡ some (sent_wrongly x)
wrong_refusal no_task = refl
wrong_refusal (no_variable single) = refl
wrong_refusal (no_variable (listed i)) = refl
wrong_refusal list_length = refl
wrong_refusal short_buffer = refl

pub untimely_refusal : (x : Untimely) → refusal_of (untimely_fault x) ≡ some (at_wrong_time x)
untimely_refusal not_idle = refl
untimely_refusal is_idle = refl
untimely_refusal is_broken = refl

pub unless_none : (b : Bool) (why : Wrong) → unless b why ≡ none → b ≡ true
unless_none true why e = refl
unless_none false why e = absurd (cc)

-- there is such a task
pub task_right : (t : ℕ) → task_wrong t ≡ none → t < tasks
task_right t e = let b : ltb t tasks ≡ true = unless_none (ltb t tasks) no_task e in grind arith

-- a call that was sent wrongly is turned down whatever its time
pub passed_anyway : {A : Type 0} {f : TableFault} (a : A) (w : Option Wrong) (y : Option Untimely) → Err f ≡ passed a w none → Err f ≡ passed a w y
passed_anyway a (some x) y e = e
passed_anyway a none y e = absurd (cc)

-- there is no such task
pub task_beyond : {x : Wrong} (t : ℕ) → task_wrong t ≡ some x → tasks ≤ t
task_beyond t e = go (cases_Bool (ltb t tasks))
  where
    go : (ltb t tasks ≡ true) ⊎ (ltb t tasks ≡ false) → tasks ≤ t
    go (inl b) = let k : none ≡ some _ = rw b at e in absurd (cc)
    go (inr b) = grind arith

-- there are such a task and such a variable
pub access_right : (t v : ℕ) → wrong (read t v) ≡ none → (t < tasks) × (v < variables)
access_right t v e = go (cases_Bool (ltb t tasks))
  where
    go : (ltb t tasks ≡ true) ⊎ (ltb t tasks ≡ false) → (t < tasks) × (v < variables)
    go (inl b) =
        let k : unless (ltb v variables) (no_variable single) ≡ none = rw b at e in
        let d : ltb v variables ≡ true = unless_none (ltb v variables) (no_variable single) k in
        (grind arith, grind arith)
    go (inr b) = let k : some no_task ≡ none = rw b at e in absurd (cc)
