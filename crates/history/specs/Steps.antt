-- What a call does to a table over any policy: its answer, the policy's moves, and everything that the table holds after it.
use Rattle.std.specs.Prelude.{◌≡◌, ℕ, Bool, ◌≢◌, List, [], ◌∷◌, ◌++◌, map, length, ℤ, pos}
use mathlib.Core.List.{Memᴰ}
use Rattle.policy.specs.Facts.{Facts}
use Rattle.policy.specs.Moves.{Move, read_refused, write_refused, commit_refused}
use Rattle.policy.specs.Moves.{begin as begins, read as reads_variable, write as writes_variable, commit as commits, abort as aborts}
use Rattle.history.specs.Update.{at}
use Rattle.history.specs.Calls.{Call, begin, read, write, collect, snapshot, commit, abort, task, before}
use Rattle.history.specs.Calls.{Barred, read_barred, write_barred, commit_barred, sent_wrongly, at_wrong_time, by_policy, Answer, done, value, values, refused}
use Rattle.history.specs.Answers.{Stage, idle, active, broken, wrong, untimely, barred, look, granted, checked}

-- what a table holds; a pending value counts only if the policy has its variable in the task's write set
pub record State (P : Type 0) : Type 0 where
  pub policy : P
  pub stage : ℕ → Stage
  pub pending : ℕ → ℕ → ℤ
  pub shared : ℕ → ℤ

-- every variable is 0
abbrev pub zeros : ℕ → ℤ
zeros v = pos 0

-- by an answer: one thing if the call was granted, one if the policy refused it, one if the policy was never asked
abbrev pub in_case : {A : Type 0} → Answer → A → (Barred → A) → A → A
in_case done ok bar unasked = ok
in_case (value x) ok bar unasked = ok
in_case (values xs count) ok bar unasked = ok
in_case (refused (sent_wrongly why)) ok bar unasked = unasked
in_case (refused (at_wrong_time why)) ok bar unasked = unasked
in_case (refused (by_policy why)) ok bar unasked = bar why

-- the variables of a list that were read before the policy refused one
abbrev pub passed_over : Barred → List ℕ → List ℕ
passed_over (read_barred place v) vs = before place vs
passed_over (write_barred v) vs = []
passed_over commit_barred vs = []

-- the variables whose reads the policy granted to a call, in order
abbrev pub granted_reads : Call → Answer → List ℕ
granted_reads (begin t) r = []
granted_reads (read t v) r = in_case r (v ∷ []) (λ why. []) []
granted_reads (write t v x) r = []
granted_reads (collect t vs room) r = in_case r vs (λ why. passed_over why vs) []
granted_reads (snapshot t vs room) r = in_case r vs (λ why. passed_over why vs) []
granted_reads (commit t) r = []
granted_reads (abort t) r = []

-- the reads made of the policy for a list of variables: in order, where one that was made before may be left out
pub data ReadsFor : List ℕ → List ℕ → Type 0 where
  none_made : ReadsFor [] []
  made : {vs rs : List ℕ} (v : ℕ) → ReadsFor vs rs → ReadsFor (vs ++ (v ∷ [])) (rs ++ (v ∷ []))
  left_out : {vs rs : List ℕ} (v : ℕ) → Memᴰ v rs → ReadsFor vs rs → ReadsFor (vs ++ (v ∷ [])) rs

-- a snapshot's begin, if the policy was asked
abbrev pub first_moves : Call → Answer → List Move
first_moves (begin t) r = []
first_moves (read t v) r = []
first_moves (write t v x) r = []
first_moves (collect t vs room) r = []
first_moves (snapshot t vs room) r = in_case r (begins t ∷ []) (λ why. begins t ∷ []) []
first_moves (commit t) r = []
first_moves (abort t) r = []

-- an abort reaches the policy only from a transaction that it still has
abbrev pub abort_moves : ℕ → Stage → List Move
abort_moves t idle = []
abort_moves t active = aborts t ∷ []
abort_moves t broken = []

-- the refused read of a collect or a snapshot
abbrev pub refused_read : ℕ → Barred → List Move
refused_read t (read_barred place v) = read_refused t v ∷ []
refused_read t (write_barred v) = []
refused_read t commit_barred = []

-- what the policy is asked besides a snapshot's begin and granted reads; s is the task's stage before the call
abbrev pub last_moves : Call → Stage → Answer → List Move
last_moves (begin t) s r = in_case r (begins t ∷ []) (λ why. []) []
last_moves (read t v) s r = in_case r [] (λ why. read_refused t v ∷ []) []
last_moves (write t v x) s r = in_case r (writes_variable t v ∷ []) (λ why. write_refused t v ∷ []) []
last_moves (collect t vs room) s r = in_case r [] (refused_read t) []
last_moves (snapshot t vs room) s r = in_case r (commits t ∷ []) (refused_read t) []
last_moves (commit t) s r = in_case r (commits t ∷ []) (λ why. commit_refused t ∷ []) []
last_moves (abort t) s r = in_case r (abort_moves t s) (λ why. []) []

-- a commit leaves its task idle, unless it was sent wrongly
abbrev pub after_commit : Answer → Stage → Stage
after_commit done s = idle
after_commit (value x) s = idle
after_commit (values xs count) s = idle
after_commit (refused (sent_wrongly why)) s = s
after_commit (refused (at_wrong_time why)) s = idle
after_commit (refused (by_policy why)) s = idle

-- the stage of the call's task after it
abbrev pub stage_after : Call → Answer → Stage → Stage
stage_after (begin t) r s = in_case r active (λ why. s) s
stage_after (read t v) r s = in_case r s (λ why. broken) s
stage_after (write t v x) r s = in_case r s (λ why. broken) s
stage_after (collect t vs room) r s = in_case r s (λ why. broken) s
stage_after (snapshot t vs room) r s = s
stage_after (commit t) r s = after_commit r s
stage_after (abort t) r s = in_case r idle (λ why. s) s

-- the pending values of the call's task after it: the end of a transaction drops them all
abbrev pub pending_after : Call → Answer → (ℕ → ℤ) → ℕ → ℤ
pending_after (begin t) r p = in_case r zeros (λ why. p) p
pending_after (read t v) r p = in_case r p (λ why. zeros) p
pending_after (write t v x) r p = in_case r (at p v x) (λ why. zeros) p
pending_after (collect t vs room) r p = in_case r p (λ why. zeros) p
pending_after (snapshot t vs room) r p = p
pending_after (commit t) r p = in_case r zeros (λ why. zeros) p
pending_after (abort t) r p = in_case r zeros (λ why. p) p

-- the shared values after a call: a granted commit shares what its task sees
abbrev pub shared_after : Call → Answer → (ℕ → ℤ) → (ℕ → ℤ) → ℕ → ℤ
shared_after (begin t) r see s = s
shared_after (read t v) r see s = s
shared_after (write t v x) r see s = s
shared_after (collect t vs room) r see s = s
shared_after (snapshot t vs room) r see s = s
shared_after (commit t) r see s = in_case r see (λ why. s) s
shared_after (abort t) r see s = s

-- the policy makes some moves, one after another
abbrev pub Chain : {P : Type 0} → (P → Move → P → Type 0) → List Move → P → P → Type 0
Chain after [] p q = q ≡ p
Chain {P} after (m ∷ ms) p q = (next : P) × after p m next × Chain after ms next q

module _ {P : Type 0} (facts : P → Facts) where
  -- what the call's task sees in each variable
  abbrev pub sees : Call → State P → P → ℕ → ℤ
  sees c a p = look (facts p) a.pending a.shared (task c)

  -- the answer to a call: p is the policy as it is asked, and `count` reads are made of it
  abbrev pub answer : Bool → Call → State P → P → ℕ → Answer
  answer strict c a p count =
      checked (wrong c) (untimely c (a.stage (task c))) (barred strict (facts p) c) (granted (sees c a p) count c)

module _ {P : Type 0} (facts : P → Facts) (after : P → Move → P → Type 0) (strict : Bool) where
  -- the call c takes the table from a to b and answers r; free are only the reads that a collect or a snapshot makes
  pub record Step (c : Call) (a : State P) (r : Answer) (b : State P) : Type 0 where
    -- the policy once a snapshot has begun, and as before any other call
    pub opened : P
    -- the policy after the granted reads
    pub between : P
    pub reads : List ℕ
    pub answered : r ≡ answer facts strict c a opened (length reads)
    pub opening : Chain after (first_moves c r) a.policy opened
    pub reads_made : ReadsFor (granted_reads c r) reads
    pub reading : Chain after (map (reads_variable (task c)) reads) opened between
    pub closing : Chain after (last_moves c (a.stage (task c)) r) between b.policy
    pub stage : b.stage (task c) ≡ stage_after c r (a.stage (task c))
    pub pending : (v : ℕ) → b.pending (task c) v ≡ pending_after c r (a.pending (task c)) v
    pub shared : (v : ℕ) → b.shared v ≡ shared_after c r (sees facts c a opened) a.shared v
    pub other_stages : (u : ℕ) → u ≢ task c → b.stage u ≡ a.stage u
    pub other_pending : (u : ℕ) → u ≢ task c → (v : ℕ) → b.pending u v ≡ a.pending u v
