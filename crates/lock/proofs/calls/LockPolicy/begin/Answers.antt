use Rattle.std.proofs.Common.{sym, subst}
use Rattle.lock.specs.Locks.{Apart}
use Rattle.lock.specs.After.{held}
use Rattle.lock.specs.Apart.{apart_begun}
use Rattle.lock.proofs.calls.LockPolicy.begin.Goals as goal

pub invariant_of-self : goal.invariant_of-self
invariant_of-self c = record { apart = subst Apart (sym c.begin.ensures.sets) (apart_begun (held c.args.self.now) c.args.task c.args.self.now.apart) }
