-- The stages of all tasks with one of them changed.
use Rattle.std.proofs.Common.{◌≡◌, ℕ, ◌<◌, ◌≤◌, ◌≢◌, List, length, get_or, set, ℤ, pos, sym, refl, ap, ◌∙◌, arith}
use native.Mathlib.Decide.{dec_lt}
use Rattle.std.proofs.lemmas.List.{get_or-set_same, get_or-set_other, get_or_past, set_past}
use Rattle.policy.specs.Limits.{variables}
use Rattle.history.specs.Update.{at}
use Rattle.history.specs.Answers.{active}
use Rattle.history.proofs.Logic.{at_elim}
use Rattle.table.specs.Views.{stage_of, pending_in}
use Rattle.table.specs.Checks.{once_called, all_once_called, with_pending, Whole}
use Rattle.table.specs.declared.stage.Stage.{Stage}
use Rattle.table.specs.declared.stage.Stage.TheVariants.{Idle, Open, Broken}
use Rattle.table.specs.declared.stage.Call.{Call}
use Rattle.table.specs.declared.stage.Call.TheVariants.{Begin, Access, Commit, Abort}

-- ys are xs, but for the stage s of task t
pub record Put (xs : List Stage) (t : ℕ) (s : Stage) (ys : List Stage) : Type 0 where
  pub own : get_or ys t Idle ≡ s
  pub others : (u : ℕ) → u ≢ t → get_or ys u Idle ≡ get_or xs u Idle

pub put_set : (xs : List Stage) (t : ℕ) (s : Stage) → t < length xs → Put xs t s (set xs t s)
put_set xs t s h = record { own = get_or-set_same xs t s Idle h; others = λ u ne. get_or-set_other xs t u s Idle ne }

pub put_same : (xs : List Stage) (t : ℕ) → Put xs t (get_or xs t Idle) xs
put_same xs t = record { own = refl; others = λ u ne. refl }

-- a pending value changes no stage
pub pending_stage : (s : Stage) (v : ℕ) (y : ℤ) → stage_of (with_pending s v y) ≡ stage_of s
pending_stage Idle v y = refl
pending_stage (Open pending) v y = refl
pending_stage Broken v y = refl

values_set : (xs : List ℤ) (v : ℕ) (y : ℤ) → v < length xs → (w : ℕ) → get_or (set xs v y) w (pos 0) ≡ at (λ u. get_or xs u (pos 0)) v y w
values_set xs v y h w = at_elim (λ (z : ℤ). get_or (set xs v y) w (pos 0) ≡ z) (λ u. get_or xs u (pos 0)) v y w
    (λ e. ap (λ (u : ℕ). get_or (set xs v y) u (pos 0)) e ∙ get_or-set_same xs v y (pos 0) h) (λ ne. get_or-set_other xs v w y (pos 0) ne)

-- it changes that variable alone
pub pending_set : (s : Stage) (v : ℕ) (y : ℤ) → v < variables → Whole s → stage_of s ≡ active
    → (w : ℕ) → pending_in (with_pending s v y) w ≡ at (pending_in s) v y w
pending_set Idle v y h whole e w = absurd (cc)
pending_set (Open pending) v y h whole e w = values_set pending v y (omega arith) w
pending_set Broken v y h whole e w = absurd (cc)

called_idle : (call : Call) → once_called call Idle ≡ Idle
called_idle Begin = refl
called_idle Access = refl
called_idle Commit = refl
called_idle Abort = refl

-- the stages once a call has come, also of a task that there isn't
pub put_called : (call : Call) (xs : List Stage) (t : ℕ) → Put xs t (once_called call (get_or xs t Idle)) (all_once_called call t xs)
put_called call xs t = go (dec_lt t (length xs))
  where
    go : Dec (t < length xs) → Put xs t (once_called call (get_or xs t Idle)) (all_once_called call t xs)
    go (yes h) = put_set xs t (once_called call (get_or xs t Idle)) h
    go (no h) =
        let k : length xs ≤ t = omega arith in
        let i : get_or xs t Idle ≡ Idle = get_or_past xs t Idle k in
        record {
          own = rw (set_past xs t (once_called call (get_or xs t Idle)) k, i) (sym (called_idle call));
          others = λ u ne. get_or-set_other xs t u (once_called call (get_or xs t Idle)) Idle ne;
        }
