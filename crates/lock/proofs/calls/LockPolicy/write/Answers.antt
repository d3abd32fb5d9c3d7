use Rattle.std.proofs.Common.{sym, ◌∙◌, subst}
use Rattle.transactions.proofs.Sound.{sound}
use Rattle.lock.specs.Locks.{Apart}
use Rattle.lock.specs.After.{held}
use Rattle.lock.specs.Apart.{apart_written}
use Rattle.lock.proofs.calls.LockPolicy.write.Goals as goal

pub invariant_of-self : goal.invariant_of-self
invariant_of-self c = record {
  apart = subst Apart (sym c.write.ensures.sets)
      (apart_written (held c.args.self.now) c.args.task c.args.variable (sound c.args.self.now.transactions) c.args.self.now.apart
      (sym c.is_locked_by_other.ensures ∙ c.if-is_locked_by_other.false));
}
