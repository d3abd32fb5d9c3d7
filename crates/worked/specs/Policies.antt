-- The policies that the worked schedules run over.
use Rattle.std.specs.Prelude.{◌≡◌, ℕ}
use Rattle.std.proofs.Math.Option.{Option, none, some}
use Rattle.policy.specs.declared.Policy.{Ghosts}
use Rattle.transactions.specs.Sets.{no_transactions}
use Rattle.lock.specs.declared.Lock.{Lock}
use Rattle.lock.specs.After as lock_policy
use Rattle.lock.specs.contracts.calls.LockPolicy.TheImpl as lock_impl
use Rattle.own.specs.declared.Own.{Own}
use Rattle.own.specs.Ownership.{idle}
use Rattle.own.specs.After as own_policy
use Rattle.own.specs.contracts.OwnPolicy.TheImpl as own_impl
use Rattle.clock.specs.declared.state.Clock.{Clock}
use Rattle.clock.specs.Clocks as clock_policy
use Rattle.clock.specs.Steps.{new_policy}
use Rattle.clock.specs.contracts.state.Clock as clock_type
use Rattle.clock.specs.contracts.calls.ClockPolicy.TheImpl as clock_impl
use Rattle.eager.specs.declared.Eager.{Eager}
use Rattle.eager.specs.contracts.EagerPolicy.TheImpl as eager_impl

-- two-phase locking, DSTM with invisible reads, TL2 with the clock it starts at, and the eager layer over TL2
pub data Kind : Type 0 where
  lock own : Kind
  clock eager_clock : ℕ → Kind

-- the type of such a policy
abbrev pub PolicyOf : Kind → Type 0
PolicyOf lock = Lock
PolicyOf own = Own
PolicyOf (clock start) = Clock
PolicyOf (eager_clock start) = Eager Clock

-- its facts, its moves and whether it is strict, as it states them itself
abbrev pub stated : (k : Kind) → Ghosts (PolicyOf k)
stated lock = lock_impl.ghosts
stated own = own_impl.ghosts
stated (clock start) = clock_impl.ghosts
stated (eager_clock start) = eager_impl.ghosts clock_type.the_row clock_impl.ghosts clock_impl.dict

-- it is as it was made
abbrev pub Made : (k : Kind) → PolicyOf k → Type 0
Made lock p = lock_policy.held p ≡ no_transactions
Made own p = own_policy.state p ≡ idle
Made (clock start) p = clock_policy.held p ≡ new_policy start
Made (eager_clock start) p = clock_policy.held p.below ≡ new_policy start

-- what its clock says, if it has one
abbrev pub clock_of : (k : Kind) → PolicyOf k → Option ℕ
clock_of lock p = none
clock_of own p = none
clock_of (clock start) p = some (clock_policy.held p).clock
clock_of (eager_clock start) p = some (clock_policy.held p.below).clock
