-- What a policy's answer to a fit call tells: whether the facts allow it, and which move was made.
use Rattle.std.proofs.Common.{◌≡◌, ℕ, ◌<◌, Bool, true, false, Ok, Err, Result, ap, ◌∙◌, subst, rules}
use Rattle.std.proofs.lemmas.Bool.{lt-ltb}
use Rattle.policy.specs.Limits.{tasks, variables}
use Rattle.policy.specs.Facts.{Facts}
use Rattle.policy.specs.Moves.{Move}
use Rattle.policy.specs.Answers.{fit_task, fit_access, fit_begin, answer, told, Moved}
use Rattle.policy.specs.declared.PolicyFault.{PolicyFault}
use Rattle.policy.specs.declared.Granted.{Granted}

pub task_fit : (f : Facts) (t : ℕ) → t < tasks → f.active t ≡ true → fit_task f t ≡ true
task_fit f t h e = rw (lt-ltb t tasks h, e)

pub begin_fit : (f : Facts) (t : ℕ) → t < tasks → f.active t ≡ false → fit_begin f t ≡ true
begin_fit f t h e = rw (lt-ltb t tasks h, e)

pub access_fit : (f : Facts) (t v : ℕ) → t < tasks → v < variables → f.active t ≡ true → fit_access f t v ≡ true
access_fit f t v h k e = rw (lt-ltb t tasks h, lt-ltb v variables k, e)

-- a fit question is told the fact
pub asked_fact : (r : Result Bool PolicyFault) (fit fact : Bool) → r ≡ told fit fact → fit ≡ true → r ≡ Ok fact
asked_fact r fit fact answered is-fit = answered ∙ ap (λ (b : Bool). told b fact) is-fit

-- the answer r to a fit call of p, which leaves the policy at q
module _ {P : Type 0} (after : P → Move → P → Type 0) (done barred : Move) (p q : P) (r : Result Granted PolicyFault)
    (moved : Moved after done barred p q r) (fit may : Bool) (why : PolicyFault) (answered : r ≡ answer fit may why) (is-fit : fit ≡ true) where
  fit_answer : r ≡ answer true may why
  fit_answer = answered ∙ ap (λ (b : Bool). answer b may why) is-fit

  moved_by : (s : Result Granted PolicyFault) → r ≡ s → Moved after done barred p q s
  moved_by s e = subst (λ (x : Result Granted PolicyFault). Moved after done barred p q x) e moved

  -- granted: the facts allowed it, and the move was made
  pub asked_granted : (x : Granted) → r ≡ Ok x → (may ≡ true) × after p done q
  asked_granted x e = search rules

  -- refused: the facts didn't, the reason is the call's own, and the refusal was made
  pub asked_refused : (x : PolicyFault) → r ≡ Err x → (may ≡ false) × (why ≡ x) × Moved after done barred p q (Err why)
  asked_refused x e = search rules
