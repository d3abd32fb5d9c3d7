use Rattle.std.proofs.Common.{◌≡◌, false, sym, ◌∙◌, subst, rules}
use Rattle.transactions.proofs.Sound.{sound}
use Rattle.lock.specs.Locks.{locked, Apart}
use Rattle.lock.specs.After.{held}
use Rattle.lock.specs.Apart.{apart_read}
use Rattle.lock.specs.Bars.{own_free}
use Rattle.lock.proofs.calls.LockPolicy.read.Goals as goal

pub invariant_of-self : goal.invariant_of-self
invariant_of-self c = record {
  apart = subst Apart (sym c.read.ensures.sets)
      (apart_read (held c.args.self.now) c.args.task c.args.variable (sound c.args.self.now.transactions) c.args.self.now.apart
      (sym c.is_locked_by_other.ensures ∙ c.if-is_locked_by_other.false));
}

pub returns-then-is_locked_by_other : goal.returns-then-is_locked_by_other
returns-then-is_locked_by_other c =
    let own : locked (held c.args.self.now) c.args.task c.args.variable ≡ false =
    own_free (held c.args.self.now) c.args.self.now.apart c.args.task c.args.variable (sym c.is_locked_by_other.ensures ∙ c.if-is_locked_by_other.true) in
    search rules
