-- The calls on a table and their answers, as data: any arguments, and whatever a table may say.
use Rattle.std.specs.Prelude.{ℕ, ◌-◌, List, [], ◌++◌, length, take, replicate, ℤ, pos}

-- a call, its task first; a collect or a snapshot has its list of variables and the length of its reply buffer
pub data Call : Type 0 where
  begin : ℕ → Call
  read : ℕ → ℕ → Call
  write : ℕ → ℕ → ℤ → Call
  collect snapshot : ℕ → List ℕ → ℕ → Call
  commit abort : ℕ → Call

-- where a variable stands in a call: by itself, or at a place of its list
pub data Place : Type 0 where
  single : Place
  listed : ℕ → Place

-- a call that was sent wrongly, whatever the table holds
pub data Wrong : Type 0 where
  no_task : Wrong
  no_variable : Place → Wrong
  list_length short_buffer : Wrong

-- a call that came at the wrong time for its task
pub data Untimely : Type 0 where
  not_idle is_idle is_broken : Untimely

-- a call that the policy refused, with the variable asked for
pub data Barred : Type 0 where
  read_barred : Place → ℕ → Barred
  write_barred : ℕ → Barred
  commit_barred : Barred

-- why a call is refused: the first check that fails decides
pub data Refusal : Type 0 where
  sent_wrongly : Wrong → Refusal
  at_wrong_time : Untimely → Refusal
  by_policy : Barred → Refusal

-- what a call answers: granted, with a value or with a list's values and the count of reads made, or refused
pub data Answer : Type 0 where
  done : Answer
  value : ℤ → Answer
  values : List ℤ → ℕ → Answer
  refused : Refusal → Answer

-- the number of each refusal
abbrev pub number : Refusal → ℕ
number (sent_wrongly no_task) = 1
number (sent_wrongly (no_variable place)) = 2
number (sent_wrongly list_length) = 3
number (sent_wrongly short_buffer) = 4
number (at_wrong_time not_idle) = 10
number (at_wrong_time is_idle) = 11
number (at_wrong_time is_broken) = 12
number (by_policy (read_barred place v)) = 20
number (by_policy (write_barred v)) = 21
number (by_policy commit_barred) = 22

-- the task that a call names
abbrev pub task : Call → ℕ
task (begin t) = t
task (read t v) = t
task (write t v x) = t
task (collect t vs room) = t
task (snapshot t vs room) = t
task (commit t) = t
task (abort t) = t

-- the variables of a list that stand before a place
abbrev pub before : Place → List ℕ → List ℕ
before single vs = []
before (listed i) vs = take i vs

-- what a reply buffer of a given length holds after the answer: the values, then zeros; zeros alone after a refusal
abbrev pub reply : Answer → ℕ → List ℤ
reply done room = replicate room (pos 0)
reply (value x) room = replicate room (pos 0)
reply (values xs count) room = xs ++ replicate (room - length xs) (pos 0)
reply (refused why) room = replicate room (pos 0)
