-- Ten schedules worked out: the policy, the calls in their order with their answers, and what is left at the end.
use Rattle.std.specs.Prelude.{◌≡◌, ℕ, List, [], ◌∷◌, reverse, ℤ, pos}
use Rattle.std.proofs.Math.Option.{some}
use Rattle.history.specs.Calls.{begin, read, write, commit, single, is_broken, read_barred, write_barred, commit_barred, at_wrong_time, by_policy}
use Rattle.history.specs.Steps.{State}
use Rattle.history.specs.Transactions.{History}
use Rattle.history.specs.Runs.{New, Leads}
use Rattle.worked.specs.Policies.{Kind, lock, own, clock, eager_clock, PolicyOf, stated, Made, clock_of}
use Rattle.worked.specs.Lines.{Line, ok, the_value, refusal, ◌gives◌, calls_made, line_calls, AnswersAre}

-- what a row says of the end besides the answers: nothing, the value of a variable, or the clock
pub data Left : Type 0 where
  nothing_more : Left
  variable_is : ℕ → ℤ → Left
  clock_is : ℕ → Left

-- a schedule worked out
pub record Row : Type 0 where
  pub over : Kind
  pub lines : List Line
  pub left : Left

-- 1: under locking, what one task has read another may not
abbrev pub locked : Row
locked = record {
  over = lock;
  lines =
      begin 0 gives ok
      ∷ begin 1 gives ok
      ∷ read 0 5 gives the_value (pos 0)
      ∷ read 1 5 gives refusal 20 (by_policy (read_barred single 5))
      ∷ [];
  left = nothing_more;
}

-- 2: under ownership both may
abbrev pub both_read : Row
both_read = record {
  over = own;
  lines =
      begin 0 gives ok
      ∷ begin 1 gives ok
      ∷ read 0 5 gives the_value (pos 0)
      ∷ read 1 5 gives the_value (pos 0)
      ∷ [];
  left = nothing_more;
}

-- 3: under the clock, a task may not read what was committed since it began
abbrev pub too_new : Row
too_new = record {
  over = clock 0;
  lines =
      begin 0 gives ok
      ∷ begin 1 gives ok
      ∷ write 1 5 (pos 7) gives ok
      ∷ commit 1 gives ok
      ∷ read 0 5 gives refusal 20 (by_policy (read_barred single 5))
      ∷ [];
  left = nothing_more;
}

-- 4: under ownership it may
abbrev pub newly_read : Row
newly_read = record {
  over = own;
  lines =
      begin 0 gives ok
      ∷ begin 1 gives ok
      ∷ write 1 5 (pos 7) gives ok
      ∷ commit 1 gives ok
      ∷ read 0 5 gives the_value (pos 7)
      ∷ [];
  left = nothing_more;
}

-- 5: under the clock, a task that is behind reads on and commits, if it has written nothing
abbrev pub behind_reads_on : Row
behind_reads_on = record {
  over = clock 0;
  lines =
      begin 0 gives ok
      ∷ read 0 5 gives the_value (pos 0)
      ∷ begin 1 gives ok
      ∷ write 1 5 (pos 7) gives ok
      ∷ commit 1 gives ok
      ∷ read 0 6 gives the_value (pos 0)
      ∷ commit 0 gives ok
      ∷ [];
  left = nothing_more;
}

-- 6: under ownership it may not even read on
abbrev pub behind_is_barred : Row
behind_is_barred = record {
  over = own;
  lines =
      begin 0 gives ok
      ∷ read 0 5 gives the_value (pos 0)
      ∷ begin 1 gives ok
      ∷ write 1 5 (pos 7) gives ok
      ∷ commit 1 gives ok
      ∷ read 0 6 gives refusal 20 (by_policy (read_barred single 6))
      ∷ [];
  left = nothing_more;
}

-- 7: under the clock, the commit of a task that is behind and has written is refused, and shares nothing
abbrev pub behind_writer : Row
behind_writer = record {
  over = clock 0;
  lines =
      begin 0 gives ok
      ∷ read 0 5 gives the_value (pos 0)
      ∷ begin 1 gives ok
      ∷ write 1 5 (pos 7) gives ok
      ∷ commit 1 gives ok
      ∷ write 0 6 (pos 9) gives ok
      ∷ commit 0 gives refusal 22 (by_policy commit_barred)
      ∷ [];
  left = variable_is 6 (pos 0);
}

-- 8: the eager layer bars its write at once, and the commit then finds the task broken
abbrev pub eagerly_barred : Row
eagerly_barred = record {
  over = eager_clock 0;
  lines =
      begin 0 gives ok
      ∷ read 0 5 gives the_value (pos 0)
      ∷ begin 1 gives ok
      ∷ write 1 5 (pos 7) gives ok
      ∷ commit 1 gives ok
      ∷ write 0 6 (pos 9) gives refusal 21 (by_policy (write_barred 6))
      ∷ commit 0 gives refusal 12 (at_wrong_time is_broken)
      ∷ [];
  left = nothing_more;
}

-- 9: under ownership, what one task has written another may not write
abbrev pub owned : Row
owned = record {
  over = own;
  lines =
      begin 0 gives ok
      ∷ write 0 5 (pos 1) gives ok
      ∷ begin 1 gives ok
      ∷ write 1 5 (pos 2) gives refusal 21 (by_policy (write_barred 5))
      ∷ [];
  left = nothing_more;
}

-- 10: at its highest number the clock is renumbered, and the reader is refused as in 3
abbrev pub renumbered : Row
renumbered = record {
  over = clock 4294967295;
  lines =
      begin 0 gives ok
      ∷ begin 1 gives ok
      ∷ write 1 5 (pos 7) gives ok
      ∷ commit 1 gives ok
      ∷ read 0 5 gives refusal 20 (by_policy (read_barred single 5))
      ∷ [];
  left = clock_is 2;
}

-- all ten
abbrev pub rows : List Row
rows = locked ∷ both_read ∷ too_new ∷ newly_read ∷ behind_reads_on ∷ behind_is_barred ∷ behind_writer ∷ eagerly_barred ∷ owned ∷ renumbered ∷ []

-- the table is left as the row says
abbrev pub Leaves : (k : Kind) → Left → State (PolicyOf k) → Type 0
Leaves k nothing_more b = Unit {0}
Leaves k (variable_is v x) b = b.shared v ≡ x
Leaves k (clock_is n) b = clock_of k b.policy ≡ some n

-- h is a run of exactly the row's calls, from a new table over a new policy; a history has its newest call first
pub record RunOf (row : Row) (a b : State (PolicyOf row.over)) (h : History) : Type 0 where
  pub new : New (stated row.over).facts a
  pub made : Made row.over a.policy
  pub run : Leads (stated row.over).facts (stated row.over).after (stated row.over).STRICT a b h
  pub calls : calls_made h ≡ line_calls (reverse row.lines)

-- every run of the row has its answers and leaves what it says
abbrev pub Holds : Row → Type 0
Holds row =
    (a b : State (PolicyOf row.over)) (h : History) → RunOf row a b h → AnswersAre (reverse row.lines) h × Leaves row.over row.left b

-- each of some rows holds
abbrev pub AllHold : List Row → Type 0
AllHold [] = Unit {0}
AllHold (row ∷ more) = Holds row × AllHold more

-- there is a run of the row that leaves its policy at p
pub record Played (row : Row) (p : PolicyOf row.over) : Type 0 where
  pub start : State (PolicyOf row.over)
  pub end : State (PolicyOf row.over)
  pub history : History
  pub run : RunOf row start end history
  pub policy : end.policy ≡ p

-- each of some rows has a run
abbrev pub AllPlayed : List Row → Type 0
AllPlayed [] = Unit {0}
AllPlayed (row ∷ more) = ((p : PolicyOf row.over) × Played row p) × AllPlayed more

-- the ten schedules: every run of each is answered as its row says, and each has a run
pub record Worked : Type 0 where
  pub hold : AllHold rows
  pub played : AllPlayed rows
