use Rattle.std.proofs.Common.{sym, subst}
use Rattle.transactions.specs.Rows.{sets}
use Rattle.lock.specs.Locks.{Apart}
use Rattle.lock.specs.Apart.{apart_ended}
use Rattle.lock.proofs.Lock.release.Goals as goal

pub invariant_of-self : goal.invariant_of-self
invariant_of-self c = record { apart = subst Apart (sym c.end.ensures.sets) (apart_ended (sets c.args.self.now.transactions) c.args.task c.args.self.now.apart) }
