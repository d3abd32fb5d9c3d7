-- What is printed of a whole text.
use Rattle.std.specs.Prelude.{◌≡◌, ℕ, ◌+◌, ◌-◌, ◌*◌, min, List, ◌++◌, length, drop, replicate, Ok, Err, Result}
use Rattle.schedule.specs.Pieces.{lines}
use Rattle.schedule.specs.Texts.{header_of, longest_text}
use Rattle.schedule.specs.Faults.{fault_line, fault_number}
use Rattle.schedule.specs.declared.choice.Choice.{Choice}
use Rattle.schedule.specs.declared.choice.Choice.TheVariants.{Plain, Eager}
use Rattle.schedule.specs.declared.choice.Kind.TheVariants.{Lock, Own, Clock}
use Rattle.schedule.specs.declared.fault.TextFault.{TextFault}
use Rattle.policy.specs.declared.Policy.{Ghosts}
use Rattle.transactions.specs.Sets.{no_transactions}
use Rattle.lock.specs.declared.Lock.{Lock as LockPolicy}
use Rattle.lock.specs.After.{held as locks_held}
use Rattle.lock.specs.contracts.Lock as lock_type
use Rattle.lock.specs.contracts.calls.LockPolicy.TheImpl as lock_impl
use Rattle.own.specs.declared.Own.{Own as OwnPolicy}
use Rattle.own.specs.Ownership.{idle as none_owned}
use Rattle.own.specs.After.{state as ownership}
use Rattle.own.specs.contracts.Own as own_type
use Rattle.own.specs.contracts.OwnPolicy.TheImpl as own_impl
use Rattle.clock.specs.declared.state.Clock.{Clock as ClockPolicy}
use Rattle.clock.specs.Steps.{new_policy}
use Rattle.clock.specs.Clocks.{held as clock_held}
use Rattle.clock.specs.contracts.state.Clock as clock_type
use Rattle.clock.specs.contracts.calls.ClockPolicy.TheImpl as clock_impl
use Rattle.eager.specs.contracts.EagerPolicy.TheImpl as eager_impl
use Rattle.table.specs.Faults.{numbered}
use Rattle.table.specs.declared.fault.TableFault.{TableFault}
use Rattle.play.specs.declared.outcome.NoRoom.{NoRoom}
use Rattle.play.specs.Room.{TooLong}
use Rattle.play.specs.Printed.{printed, refused_text, longest_line}
use Rattle.play.specs.Playing.{Over}

-- a text with the lines ls after the first prints `out` over some policy that starts so
pub record From {P : Type 0} (stated : Ghosts P) (Starts : P → Type 0) (ls : List (List ℕ)) (out : List ℕ) : Type 0 where
  pub policy : P
  pub starts : Starts policy
  pub over : Over stated policy ls out

-- a new policy: no task has a transaction, and the clock is 0
abbrev pub NewLock : LockPolicy → Type 0
NewLock p = locks_held p ≡ no_transactions

abbrev pub NewOwn : OwnPolicy → Type 0
NewOwn p = ownership p ≡ none_owned

abbrev pub NewClock : ClockPolicy → Type 0
NewClock p = clock_held p ≡ new_policy 0

-- what is printed over the policy of a choice
abbrev pub Runs : Choice → List (List ℕ) → List ℕ → Type 0
Runs (Plain Lock) = From lock_impl.ghosts NewLock
Runs (Plain Own) = From own_impl.ghosts NewOwn
Runs (Plain Clock) = From clock_impl.ghosts NewClock
Runs (Eager Lock) = From (eager_impl.ghosts lock_type.the_row lock_impl.ghosts lock_impl.dict) (λ p. NewLock p.below)
Runs (Eager Own) = From (eager_impl.ghosts own_type.the_row own_impl.ghosts own_impl.dict) (λ p. NewOwn p.below)
Runs (Eager Clock) = From (eager_impl.ghosts clock_type.the_row clock_impl.ghosts clock_impl.dict) (λ p. NewClock p.below)

-- what is printed by a first line and the lines after it: a text that has no policy is refused in one line
abbrev pub Says : Result Choice (TextFault TableFault) → List (List ℕ) → List ℕ → Type 0
Says (Ok choice) ls out = Runs choice ls out
Says (Err fault) ls out = out ≡ printed (fault_line fault) (refused_text (fault_number numbered fault))

-- `out` is printed of the first lines of a text: its first line and ls after it
abbrev pub PrintsOf : List ℕ → List (List ℕ) → List ℕ → Type 0
PrintsOf text = Says (header_of text)

-- the lines of a text after the first
abbrev pub command_lines : List ℕ → List (List ℕ)
command_lines text = drop 1 (lines text)

-- `out` is what is printed of a text
abbrev pub Prints : List ℕ → List ℕ → Type 0
Prints text out = PrintsOf text (command_lines text) out

-- how much room is always enough for what is printed of a text of n bytes
abbrev pub most_printed_of_length : ℕ → ℕ
most_printed_of_length n = longest_line * (min n longest_text + 1)

-- how much room is always enough for what is printed of a text
abbrev pub most_printed : List ℕ → ℕ
most_printed text = most_printed_of_length (length text)

-- the buffer holds what is printed, and then zeros; zeros alone where there is no room for it
abbrev pub Filled : List ℕ → List ℕ → Result ℕ NoRoom → List ℕ → Type 0
Filled text before (Ok n) after = (out : List ℕ) × Prints text out × (length out ≡ n) × (after ≡ out ++ replicate (length before - n) 0)
Filled text before (Err why) after = TooLong (PrintsOf text) (command_lines text) (length before) × (after ≡ replicate (length before) 0)
