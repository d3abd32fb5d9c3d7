-- What a policy's answer tells of the facts that it was decided by.
use Rattle.std.proofs.Common.{◌≡◌, ℕ, ◌<◌, Bool, true, false, ltb, Ok, Err, refl, ap, ◌∙◌, arith}
use mathlib.Core.Option.{none}
use Rattle.policy.specs.Limits.{tasks, variables}
use Rattle.policy.specs.Facts.{Facts}
use Rattle.policy.specs.Answers.{answer, fit_task, fit_access}
use Rattle.policy.specs.declared.PolicyFault.{PolicyFault}
use Rattle.policy.specs.declared.Granted.{Granted}
use Rattle.history.specs.Answers.{Stage, must_be_active}
use Rattle.history.specs.Runs.{in_transaction}
use Rattle.history.proofs.Outcomes.{is_active}

-- granted: the facts allow it
pub answer_ok : {x : Granted} (fit may : Bool) (why : PolicyFault) → Ok x ≡ answer fit may why → may ≡ true
answer_ok true true why e = refl
answer_ok true false why e = absurd (cc)
answer_ok false true why e = refl
answer_ok false false why e = absurd (cc)

-- refused, though the call was fit: the facts forbid it, and the fault says why
pub answer_err : {f : PolicyFault} (fit may : Bool) (why : PolicyFault) → fit ≡ true → Err f ≡ answer fit may why → (may ≡ false) × (f ≡ why)
answer_err true true why fits e = absurd (cc)
answer_err true false why fits e = (refl, cc)
answer_err false may why fits e = absurd (cc)

-- a task in a transaction may ask the policy
pub fit_at : (f : Facts) (t : ℕ) (s : Stage) → t < tasks → f.active t ≡ in_transaction s → must_be_active s ≡ none → fit_task f t ≡ true
fit_at f t s h e i =
    let a : f.active t ≡ true = e ∙ ap in_transaction (is_active s i) in
    let b : ltb t tasks ≡ true = grind arith in
    rw (b, a)

pub fit_access_at : (f : Facts) (t v : ℕ) (s : Stage) → t < tasks → v < variables → f.active t ≡ in_transaction s → must_be_active s ≡ none → fit_access f t v ≡ true
fit_access_at f t v s h k e i =
    let a : f.active t ≡ true = e ∙ ap in_transaction (is_active s i) in
    let b : ltb t tasks ≡ true = grind arith in
    let d : ltb v variables ≡ true = grind arith in
    rw (b, d, a)
