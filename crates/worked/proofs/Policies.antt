-- What each policy of the worked schedules holds, and what every move makes of it.
use Rattle.std.proofs.Common.{◌≡◌, ℕ, true, List, refl}
use mathlib.Core.Option.{Option, none, some}
use Rattle.policy.specs.Facts.{Facts}
use Rattle.policy.specs.Moves.{Move}
use Rattle.transactions.specs.Sets.{Sets, no_transactions}
use Rattle.transactions.specs.Moved.{moved}
use Rattle.lock.specs.Locks as lock_state
use Rattle.lock.specs.After as lock_policy
use Rattle.own.specs.Ownership as own_state
use Rattle.own.specs.After as own_policy
use Rattle.clock.specs.Held as clock_state
use Rattle.clock.specs.Steps.{next, new_policy}
use Rattle.clock.specs.Clocks as clock_policy
use Rattle.eager.specs.Layer.{fenced, below_move}
use Rattle.history.specs.Steps.{State}
use Rattle.history.specs.Transactions.{History}
use Rattle.history.specs.Runs.{New, Leads}
use Rattle.worked.specs.Policies.{Kind, lock, own, clock, eager_clock, PolicyOf, stated, Made, clock_of}
use Rattle.worked.specs.Lines.{Line, calls_made, line_calls}
use Rattle.worked.proofs.Replays.{picture}
use Rattle.worked.proofs.Schedules.{all_plain, new_table, after_lines, Right, Replay, runs}

-- the type of what a policy holds
abbrev pub Held : Kind → Type 0
Held lock = Sets
Held own = own_state.State
Held (clock start) = clock_state.Held
Held (eager_clock start) = clock_state.Held

-- what a policy of this kind holds now
abbrev pub held : (k : Kind) → PolicyOf k → Held k
held lock p = lock_policy.held p
held own p = own_policy.state p
held (clock start) p = clock_policy.held p
held (eager_clock start) p = clock_policy.held p.below

-- what a new policy holds
abbrev pub first : (k : Kind) → Held k
first lock = no_transactions
first own = own_state.idle
first (clock start) = new_policy start
first (eager_clock start) = new_policy start

-- what that means
abbrev pub meaning : (k : Kind) → Held k → Facts
meaning lock x = lock_state.facts_of x
meaning own x = own_state.facts_of x
meaning (clock start) x = clock_state.meaning x
meaning (eager_clock start) x = fenced (clock_state.meaning x)

-- what a move makes of it
abbrev pub after_move : (k : Kind) → Move → Held k → Held k
after_move lock m x = moved m x
after_move own m x = own_state.next m x
after_move (clock start) m x = next m x
after_move (eager_clock start) m x = next (below_move (clock_state.meaning x) m) x

-- the clock in it, if there is one
abbrev pub clock_in : (k : Kind) → Held k → Option ℕ
clock_in lock x = none
clock_in own x = none
clock_in (clock start) x = some x.clock
clock_in (eager_clock start) x = some x.clock

pub clock_held : (k : Kind) (p : PolicyOf k) → clock_of k p ≡ clock_in k (held k p)
clock_held lock p = refl
clock_held own p = refl
clock_held (clock start) p = refl
clock_held (eager_clock start) p = refl

-- the table over a new policy of this kind after some lines, newest first, by what the policy holds
abbrev pub shown : (k : Kind) → List Line → State (Held k)
shown k ls = after_lines (meaning k) (after_move k) ls (new_table (first k))

-- the replies of some lines are right over such a policy
abbrev pub RightOver : Kind → List Line → Type 0
RightOver k ls = Right (meaning k) (after_move k) (stated k).STRICT ls (new_table (first k))

-- every run of the calls of some lines over a new policy of this kind
pub runs_over : (k : Kind) (ls : List Line) → all_plain ls ≡ true → RightOver k ls → (a b : State (PolicyOf k)) (h : History) → New (stated k).facts a
    → Made k a.policy → Leads (stated k).facts (stated k).after (stated k).STRICT a b h → calls_made h ≡ line_calls ls
    → Replay (meaning k) (after_move k) ls h (new_table (first k)) (picture (held k) b)
runs_over lock ls e right = runs (held lock) (meaning lock) (after_move lock) (stated lock).after (stated lock).STRICT (λ p q m s. s.sets) (first lock) ls e right
runs_over own ls e right = runs (held own) (meaning own) (after_move own) (stated own).after (stated own).STRICT (λ p q m s. s.holds) (first own) ls e right
runs_over (clock start) ls e right =
    runs (held (clock start)) (meaning (clock start)) (after_move (clock start)) (stated (clock start)).after (stated (clock start)).STRICT
    (λ p q m s. s.step) (first (clock start)) ls e right
runs_over (eager_clock start) ls e right =
    runs (held (eager_clock start)) (meaning (eager_clock start)) (after_move (eager_clock start)) (stated (eager_clock start)).after (stated (eager_clock start)).STRICT
    (λ p q m s. s.below.step) (first (eager_clock start)) ls e right
