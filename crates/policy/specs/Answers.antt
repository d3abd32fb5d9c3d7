-- What a call of a policy answers, and where it leaves the policy: an equation over the facts before the call.
use Rattle.std.specs.Prelude.{◌≡◌, ℕ, Bool, true, cond, not, ◌&&◌, Ok, Err, Result, nat_lt}
use Rattle.policy.specs.Limits.{tasks, variables}
use Rattle.policy.specs.Facts.{Facts, may_read, may_write, may_commit}
use Rattle.policy.specs.Moves.{Move}
use Rattle.policy.specs.declared.PolicyFault.{PolicyFault}
use Rattle.policy.specs.declared.PolicyFault.TheVariants.{Unfit, ReadBarred, WriteBarred, CommitRefused}
use Rattle.policy.specs.declared.Granted.{Granted}

-- a call of task t is fit: there is such a task, and it has a transaction
abbrev pub fit_task : Facts → ℕ → Bool
fit_task f t = nat_lt t tasks && f.active t

-- an access of task t to v is fit
abbrev pub fit_access : Facts → ℕ → ℕ → Bool
fit_access f t v = nat_lt t tasks && (nat_lt v variables && f.active t)

-- a begin of task t is fit: there is such a task, and it has no transaction
abbrev pub fit_begin : Facts → ℕ → Bool
fit_begin f t = nat_lt t tasks && not (f.active t)

abbrev pub granted : Granted
granted = record {}

-- the answer to a call: unfit, or granted if the facts allow it, or else refused
abbrev pub answer : Bool → Bool → PolicyFault → Result Granted PolicyFault
answer fit may why = cond fit (cond may (Ok granted) (Err why)) (Err Unfit)

abbrev pub begin_answer : Facts → ℕ → Result Granted PolicyFault
begin_answer f t = answer (fit_begin f t) true Unfit

abbrev pub read_answer : Facts → ℕ → ℕ → Result Granted PolicyFault
read_answer f t v = answer (fit_access f t v) (may_read f t v) (ReadBarred v)

abbrev pub write_answer : Facts → ℕ → ℕ → Result Granted PolicyFault
write_answer f t v = answer (fit_access f t v) (may_write f t v) (WriteBarred v)

abbrev pub commit_answer : Bool → Facts → ℕ → Result Granted PolicyFault
commit_answer strict f t = answer (fit_task f t) (may_commit strict f t) CommitRefused

abbrev pub abort_answer : Facts → ℕ → Result Granted PolicyFault
abort_answer f t = answer (fit_task f t) true Unfit

-- the answer to a question about a task or an access, which changes nothing
abbrev pub told : Bool → Bool → Result Bool PolicyFault
told fit fact = cond fit (Ok fact) (Err Unfit)

abbrev pub behind_answer : Facts → ℕ → Result Bool PolicyFault
behind_answer f t = told (fit_task f t) (f.behind t)

abbrev pub wrote_answer : Facts → ℕ → ℕ → Result Bool PolicyFault
wrote_answer f t v = told (fit_access f t v) (f.writes t v)

-- where a call leaves the policy, by its answer: `done` where granted, `barred` where refused, and as it was where unfit
module _ {P : Type 0} (after : P → Move → P → Type 0) where
  abbrev pub Moved : Move → Move → P → P → Result Granted PolicyFault → Type 0
  Moved done barred p q (Ok g) = after p done q
  Moved done barred p q (Err Unfit) = q ≡ p
  Moved done barred p q (Err (ReadBarred v)) = after p barred q
  Moved done barred p q (Err (WriteBarred v)) = after p barred q
  Moved done barred p q (Err CommitRefused) = after p barred q
