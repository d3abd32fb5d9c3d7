-- The example run, step by step.
use Rattle.std.proofs.Common.{◌≡◌, ℕ, Bool, true, false, cond, eqb, ◌≢◌, [], ◌∷◌, ℤ, pos, refl, rules}
use Rattle.std.proofs.lemmas.Bool.{ne_eqb}
use mathlib.Core.List.Memᴰ
use Rattle.history.specs.Update.{at}
use Rattle.history.specs.Calls.{Call, begin, read, write, collect, snapshot, commit, abort, Answer, done, value, values, refused, by_policy, read_barred, single}
use Rattle.history.specs.Answers.{Stage, idle, active, broken}
use Rattle.history.specs.Steps.{State, zeros, Step, none_made, made, left_out}
use Rattle.history.specs.Runs.{New, Leads, none_yet, then}
use Rattle.history.specs.Refuted.{five}
use Rattle.history.specs.Example.{Pair, pair_facts, pair_after, story, Example}
use Rattle.history.proofs.Building.{moved_step}
use Rattle.history.proofs.Stands.{law}
use Rattle.history.proofs.ExamplePolicy.{pair_proper, nobody, zero_began, both_began, zero_has_written, one_was_refused, one_began, one_has_read}
use Rattle.history.proofs.ExamplePolicy.{begin_zero, begin_one, write_zero, refuse_one, commit_zero, begin_again, read_one, read_again, commit_one}

-- a table of two tasks: their stages, the pending values of task 0, and the shared values
abbrev table : Pair → Stage → Stage → (ℕ → ℤ) → (ℕ → ℤ) → State Pair
table p zero-stage one-stage pending shared = record {
  policy = p;
  stage = at (at (λ t. idle) 0 zero-stage) 1 one-stage;
  pending = at (λ t. zeros) 0 pending;
  shared = shared;
}

same_but_zero : (x y o : Stage) (u : ℕ) → u ≢ 0 → at (at (λ t. idle) 0 x) 1 o u ≡ at (at (λ t. idle) 0 y) 1 o u
same_but_zero x y o u ne = rw (ne_eqb u 0 ne)

same_but_one : (z x y : Stage) (u : ℕ) → u ≢ 1 → at (at (λ t. idle) 0 z) 1 x u ≡ at (at (λ t. idle) 0 z) 1 y u
same_but_one z x y u ne = rw (ne_eqb u 1 ne)

pending_but_zero : (p q : ℕ → ℤ) (u : ℕ) → u ≢ 0 → (v : ℕ) → at (λ t. zeros) 0 p u v ≡ at (λ t. zeros) 0 q u v
pending_but_zero p q u ne v = rw (ne_eqb u 0 ne)

-- each call of the story, over the policy's one move
abbrev Goes : Call → State Pair → Answer → State Pair → Type 0
Goes c a r b = Step pair_facts pair_after true c a r b

abbrev start : State Pair
start = table nobody idle idle zeros zeros

abbrev zero_open : State Pair
zero_open = table zero_began active idle zeros zeros

abbrev both_open : State Pair
both_open = table both_began active active zeros zeros

abbrev five_pending : State Pair
five_pending = table zero_has_written active active five zeros

abbrev one_broken : State Pair
one_broken = table one_was_refused active broken five zeros

abbrev five_shared : State Pair
five_shared = table nobody idle broken zeros five

abbrev all_idle : State Pair
all_idle = table nobody idle idle zeros five

abbrev one_open : State Pair
one_open = table one_began idle active zeros five

abbrev five_read : State Pair
five_read = table one_has_read idle active zeros five

step_begin_zero : Goes (begin 0) start done zero_open
step_begin_zero = moved_step pair_facts pair_after true (begin 0) start done zero_open refl refl refl (zero_began, begin_zero, refl)
    refl (λ v. refl) (λ v. refl) (same_but_zero active idle idle) (λ u ne v. refl)

step_begin_one : Goes (begin 1) zero_open done both_open
step_begin_one = moved_step pair_facts pair_after true (begin 1) zero_open done both_open refl refl refl (both_began, begin_one, refl)
    refl (λ v. refl) (λ v. refl) (same_but_one active active idle) (λ u ne v. refl)

step_write : Goes (write 0 5 (pos 7)) both_open done five_pending
step_write = moved_step pair_facts pair_after true (write 0 5 (pos 7)) both_open done five_pending refl refl refl (zero_has_written, write_zero, refl)
    refl (λ v. refl) (λ v. refl) (λ u ne. refl) (pending_but_zero five zeros)

step_refused : Goes (read 1 5) five_pending (refused (by_policy (read_barred single 5))) one_broken
step_refused = moved_step pair_facts pair_after true (read 1 5) five_pending (refused (by_policy (read_barred single 5))) one_broken refl refl refl
    (one_was_refused, refuse_one, refl) refl (λ v. refl) (λ v. refl) (same_but_one active broken active) (λ u ne v. refl)

-- what is shared is what was pending
once : (b : Bool) → cond b (pos 7) (pos 0) ≡ cond b (cond b (pos 7) (pos 0)) (pos 0)
once true = refl
once false = refl

step_commit_zero : Goes (commit 0) one_broken done five_shared
step_commit_zero = moved_step pair_facts pair_after true (commit 0) one_broken done five_shared refl refl refl (nobody, commit_zero, refl)
    refl (λ v. refl) (λ v. once (eqb v 5)) (same_but_zero idle active broken) (pending_but_zero zeros five)

step_abort : Goes (abort 1) five_shared done all_idle
step_abort = moved_step pair_facts pair_after true (abort 1) five_shared done all_idle refl refl refl refl
    refl (λ v. refl) (λ v. refl) (same_but_one idle idle broken) (λ u ne v. refl)

step_begin_again : Goes (begin 1) all_idle done one_open
step_begin_again = moved_step pair_facts pair_after true (begin 1) all_idle done one_open refl refl refl (one_began, begin_again, refl)
    refl (λ v. refl) (λ v. refl) (same_but_one idle active idle) (λ u ne v. refl)

step_read : Goes (read 1 5) one_open (value (pos 7)) five_read
step_read = record {
  opened = one_began;
  between = one_has_read;
  reads = 5 ∷ [];
  answered = refl;
  opening = refl;
  reads_made = made 5 none_made;
  reading = (one_has_read, read_one, refl);
  closing = refl;
  stage = refl;
  pending = λ v. refl;
  shared = λ v. refl;
  other_stages = λ u ne. refl;
  other_pending = λ u ne v. refl;
}

step_commit_one : Goes (commit 1) five_read done all_idle
step_commit_one = moved_step pair_facts pair_after true (commit 1) five_read done all_idle refl refl refl (nobody, commit_one, refl)
    refl (λ v. refl) (λ v. refl) (same_but_one idle idle active) (λ u ne v. refl)

-- the second 5 needs no read of the policy
step_collect : Goes (collect 1 (5 ∷ 5 ∷ []) 3) five_read (values (pos 7 ∷ pos 7 ∷ []) 1) five_read
step_collect = record {
  opened = one_has_read;
  between = one_has_read;
  reads = 5 ∷ [];
  answered = refl;
  opening = refl;
  reads_made = left_out 5 (Memᴰ.head refl) (made 5 none_made);
  reading = (one_has_read, read_again, refl);
  closing = refl;
  stage = refl;
  pending = λ v. refl;
  shared = λ v. refl;
  other_stages = λ u ne. refl;
  other_pending = λ u ne v. refl;
}

step_snapshot : Goes (snapshot 1 (5 ∷ []) 1) all_idle (values (pos 7 ∷ []) 1) all_idle
step_snapshot = record {
  opened = one_began;
  between = one_has_read;
  reads = 5 ∷ [];
  answered = refl;
  opening = (one_began, begin_again, refl);
  reads_made = made 5 none_made;
  reading = (one_has_read, read_one, refl);
  closing = (nobody, commit_one, refl);
  stage = refl;
  pending = λ v. refl;
  shared = λ v. refl;
  other_stages = λ u ne. refl;
  other_pending = λ u ne v. refl;
}

new_table : New pair_facts start
new_table = search rules

story_runs : Leads pair_facts pair_after true start all_idle story
story_runs =
    then (snapshot 1 (5 ∷ []) 1) (values (pos 7 ∷ []) 1) (then (commit 1) done
    (then (collect 1 (5 ∷ 5 ∷ []) 3) (values (pos 7 ∷ pos 7 ∷ []) 1) (then (read 1 5) (value (pos 7)) (then (begin 1) done (then (abort 1) done
    (then (commit 0) done (then (read 1 5) (refused (by_policy (read_barred single 5))) (then (write 0 5 (pos 7)) done (then (begin 1) done
    (then (begin 0) done none_yet step_begin_zero) step_begin_one) step_write) step_refused) step_commit_zero)
    step_abort) step_begin_again) step_read) step_collect) step_commit_one) step_snapshot

pub example : Example
example = record {
  start = start;
  end = all_idle;
  new = new_table;
  run = story_runs;
  lawful = law pair_facts pair_after true (λ p q m k. k) pair_proper start all_idle story new_table story_runs;
  transactions = refl;
  buffer = refl;
}
