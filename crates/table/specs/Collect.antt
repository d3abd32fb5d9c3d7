-- What a collect or a snapshot finds, and what it leaves in its reply buffer.
use Rattle.std.specs.Prelude.{◌≡◌, ℕ, ◌<◌, true, false, List, map, length, take, drop, replicate, ℤ, pos, Ok, Err, Result, slice_index}
use Rattle.std.proofs.Math.Option.{Option, none, some}
use Rattle.policy.specs.Facts.{may_read}
use Rattle.policy.specs.Moves.{read_refused}
use Rattle.policy.specs.Moves.{read as reads_variable}
use Rattle.policy.specs.declared.Policy.{Ghosts}
use Rattle.policy.specs.declared.PolicyFault.TheVariants.{ReadBarred}
use Rattle.history.specs.Calls.{Answer, values, reply}
use Rattle.history.specs.Answers.{first_barred}
use Rattle.history.specs.Steps.{Chain, ReadsFor}
use Rattle.table.specs.Faults.{refusal_of}
use Rattle.table.specs.Views.{refusing, sight}
use Rattle.table.specs.declared.fault.Place.TheVariants.{Listed}
use Rattle.table.specs.declared.fault.TableFault.{TableFault}
use Rattle.table.specs.declared.fault.TableFault.TheVariants.{Refused}
use Rattle.table.specs.declared.answer.Collected.{Collected}
use Rattle.table.specs.declared.table.Table.{Table}

-- the result of a call on a list as an answer: the values stand at the front of the reply buffer
abbrev pub values_or : List ℕ → List ℤ → Result Collected TableFault → Option Answer
values_or vs buffer (Ok c) = some (values (take (length vs) buffer) c.reads)
values_or vs buffer (Err f) = refusing (refusal_of f)

-- what a reply buffer of a given length holds after an answer
abbrev pub replied : Option Answer → ℕ → List ℤ
replied none room = replicate room (pos 0)
replied (some r) room = reply r room

-- what the reads of a list leave in the buffer besides their values: all that lay past them, and zeros alone after a refusal
abbrev pub Leaves : List ℕ → List ℤ → List ℤ → Result Collected TableFault → Type 0
Leaves vs old new (Ok c) = drop (length vs) new ≡ drop (length vs) old
Leaves vs old new (Err f) = new ≡ replicate (length old) (pos 0)

-- over a policy, by what it states of itself
module _ {P : Type 0} (stated : Ghosts P) (t : ℕ) where
  -- from the policy p, task t was granted the variables of a list with `count` reads, which left the policy at q
  pub record GrantedReads (vs : List ℕ) (p q : P) (count : ℕ) : Type 0 where
    pub reads : List ℕ
    pub made_for : ReadsFor vs reads
    pub chain : Chain stated.after (map (reads_variable t) reads) p q
    pub granted : first_barred (stated.facts p) t 0 vs ≡ none
    pub counted : length reads ≡ count

  -- the policy granted the variables before a place of the list, and refused the one there, which the fault tells
  pub record RefusedRead (vs : List ℕ) (p q : P) (f : TableFault) : Type 0 where
    pub place : ℕ
    pub there : place < length vs
    pub before : P
    pub count : ℕ
    pub earlier : GrantedReads (take place vs) p before count
    pub barred : may_read (stated.facts before) t (slice_index vs place) ≡ false
    pub move : stated.after before (read_refused t (slice_index vs place)) q
    pub told : f ≡ Refused (Listed place) (ReadBarred (slice_index vs place))

  -- the reads of a list by task t of the table s, which leave the policy at q: the values stand at the front of the buffer
  abbrev pub Gathers : List ℕ → Table P → P → List ℤ → Result Collected TableFault → Type 0
  Gathers vs s q buffer (Ok c) = GrantedReads vs s.policy q c.reads × (take (length vs) buffer ≡ map (sight stated.facts s t) vs)
  Gathers vs s q buffer (Err f) = RefusedRead vs s.policy q f

  -- what the reads of a list come to where task t is in a transaction
  abbrev pub ReadsList : List ℕ → Table P → P → List ℤ → Result Collected TableFault → Type 0
  ReadsList vs s q buffer r = (stated.facts s.policy).active t ≡ true → Gathers vs s q buffer r
