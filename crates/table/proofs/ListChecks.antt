-- The checks of a list of variables, place by place.
use Rattle.std.proofs.Common.{◌≡◌, ℕ, zero, suc, ◌+◌, ◌<◌, ◌≤◌, Bool, true, false, T, ltb, List, [], ◌∷◌, length, get_or, set, drop, Ok, Err, sym, refl, ap, ◌∙◌, subst, add-one, arith, ltb→lt}
use mathlib.Core.Option.{Option, none, some}
use Rattle.std.proofs.lemmas.List.{drop_more, drop_all, set-get_or}
use Rattle.policy.specs.Limits.{tasks, variables}
use Rattle.history.specs.Calls.{Wrong, no_task, no_variable, listed, list_length, short_buffer}
use Rattle.history.specs.Answers.{◌or_else◌, unless, first_wrong, wrong_list, longest_list}
use Rattle.history.proofs.Logic.{no_some}
use Rattle.std.proofs.lemmas.Bool.{lt-ltb, le-ltb}
use Rattle.table.specs.Checks.{passed, call_untimely, once_called, all_once_called}
use Rattle.table.specs.declared.fault.TableFault.{TableFault}
use Rattle.table.specs.declared.stage.Call.{Call}
use Rattle.table.specs.declared.stage.Stage.{Stage}
use Rattle.table.specs.declared.stage.Stage.TheVariants.{Idle}
use Rattle.table.proofs.Checking.{passed_ok, unless_none, task_right}

-- past a place that names a variable, the rest of the list decides
right_here : (i : ℕ) (vs : List ℕ) → i < length vs → get_or vs i 0 < variables → first_wrong i (drop i vs) ≡ first_wrong (i + 1) (drop (i + 1) vs)
right_here i vs h v = ap (first_wrong i) (drop_more vs i 0 h) ∙ rw (lt-ltb (get_or vs i 0) variables v, add-one i)

right_before : (i : ℕ) (vs : List ℕ) → i ≤ length vs → ((k : ℕ) → k < i → get_or vs k 0 < variables) → first_wrong 0 vs ≡ first_wrong i (drop i vs)
right_before zero vs h named = refl
right_before (suc i) vs h named =
    right_before i vs (omega arith) (λ k l. named k (omega arith)) ∙ right_here i vs (omega arith) (named i (omega arith)) ∙ rw add-one

-- the first place that names no variable
pub wrong_first : (i : ℕ) (vs : List ℕ) → i < length vs → variables ≤ get_or vs i 0 → ((k : ℕ) → k < i → get_or vs k 0 < variables)
    → first_wrong 0 vs ≡ some (no_variable (listed i))
wrong_first i vs h v named = right_before i vs (omega arith) named ∙ ap (first_wrong i) (drop_more vs i 0 h) ∙ rw (le-ltb (get_or vs i 0) variables v)

pub wrong_nowhere : (vs : List ℕ) → ((k : ℕ) → k < length vs → get_or vs k 0 < variables) → first_wrong 0 vs ≡ none
wrong_nowhere vs named = right_before (length vs) vs (omega arith) named ∙ ap (first_wrong (length vs)) (drop_all (length vs) vs (omega arith))

-- a list without a wrong place names variables only
pub named_at : (k : ℕ) (vs : List ℕ) (i : ℕ) → first_wrong k vs ≡ none → i < length vs → get_or vs i 0 < variables
named_at k [] i h l = absurd (omega arith)
named_at k (v ∷ vs) i h l = go (named_at (suc k) vs) (ltb v variables) refl i l
  where
    go : ((i : ℕ) → first_wrong (suc k) vs ≡ none → i < length vs → get_or vs i 0 < variables) → (b : Bool) → ltb v variables ≡ b
        → (i : ℕ) → i < suc (length vs) → get_or (v ∷ vs) i 0 < variables
    go later false e i l = absurd (no_some (rw e at h) refl)
    go later true e zero l = ltb→lt v variables (subst T (sym e) tt)
    go later true e (suc i) l = later i (rw e at h) (omega arith)

-- neither of two faults
or_none : (x y : Option Wrong) → x or_else y ≡ none → (x ≡ none) × (y ≡ none)
or_none none y e = (refl, e)
or_none (some x) y e = absurd (no_some e refl)

-- a list that was sent rightly: there is such a task, and the reply has room for the values
pub list_right : (t : ℕ) (vs : List ℕ) (room : ℕ) → wrong_list t vs room ≡ none → (t < tasks) × (length vs ≤ room)
list_right t vs room e =
    let room-check = unless (ltb (length vs) (suc room)) short_buffer or_else first_wrong 0 vs in
    let length-check = unless (ltb (length vs) (suc longest_list)) list_length or_else room-check in
    let task = or_none (unless (ltb t tasks) no_task) (unless (ltb 0 (length vs)) list_length or_else length-check) e in
    let filled = or_none (unless (ltb 0 (length vs)) list_length) length-check task.1 in
    let short = or_none (unless (ltb (length vs) (suc longest_list)) list_length) room-check filled.1 in
    let fits = or_none (unless (ltb (length vs) (suc room)) short_buffer) (first_wrong 0 vs) short.1 in
    let b : ltb (length vs) (suc room) ≡ true = unless_none (ltb (length vs) (suc room)) short_buffer fits.0 in
    (task_right t task.0, grind arith)

-- a call on a list that was sent rightly is turned down by its time
pub passed_late : (call : Call) {x : ℕ} {f : TableFault} (t : ℕ) (vs : List ℕ) (room : ℕ) (xs : List Stage) → Ok x ≡ passed t (wrong_list t vs room) none
    → Err f ≡ passed {A = Unit {0}} tt none (call_untimely call (get_or xs x Idle)) → Err f ≡ passed {A = Unit {0}} tt (wrong_list t vs room) (call_untimely call (get_or xs t Idle))
passed_late call {x} {f} t vs room xs sent e =
    let ok = passed_ok (wrong_list t vs room) none sent in
    rw ok.0 (subst (λ (k : ℕ). Err f ≡ passed {A = Unit {0}} tt none (call_untimely call (get_or xs k Idle))) ok.2 e)

-- a call on a list passed its checks: x is the task that they handed on, and ys are the stages after them
pub record Admitted (call : Call) (x t : ℕ) (vs : List ℕ) (room : ℕ) (xs ys : List Stage) : Type 0 where
  pub here : x ≡ t
  pub fine : wrong_list t vs room ≡ none
  pub timely : call_untimely call (get_or xs t Idle) ≡ none
  pub once : ys ≡ xs

pub admitted : (call : Call) {x : ℕ} {y : Unit {0}} {xs ys : List Stage} (t : ℕ) (vs : List ℕ) (room : ℕ) → ((z : Stage) → once_called call z ≡ z)
    → Ok x ≡ passed t (wrong_list t vs room) none → Ok y ≡ passed tt none (call_untimely call (get_or xs x Idle)) → ys ≡ all_once_called call x xs
    → Admitted call x t vs room xs ys
admitted call {x} {y} {xs} {ys} t vs room unchanged sent timely moved =
    let ok = passed_ok (wrong_list t vs room) none sent in
    record {
      here = ok.2;
      fine = ok.0;
      timely = subst (λ (k : ℕ). call_untimely call (get_or xs k Idle) ≡ none) ok.2 (passed_ok none (call_untimely call (get_or xs x Idle)) timely).1;
      once = moved ∙ ap (set xs x) (unchanged (get_or xs x Idle)) ∙ set-get_or xs x Idle;
    }
