use Rattle.std.proofs.Common.{◌≡◌, ℕ, Bool, true, false, not, ◌&&◌, eqb, refl, rules}
use Rattle.std.proofs.lemmas.Iterator.{cases_from_any, YieldsList-from_range}
use borrow.Author.Tests.{tests}
use Rattle.policy.specs.Limits.{tasks}
use Rattle.lock.specs.Locks.{locked}
use Rattle.lock.specs.After.{held}
use Rattle.transactions.proofs.Others.{any_below}
use Rattle.lock.proofs.Lock.is_locked_by_other.Goals as goal

pub returns : goal.returns
returns c =
    let locks : ℕ → Bool = λ u. not (eqb u c.args.task) && locked (held c.args.self.now) u c.args.variable in
    any_below tasks locks c.any.result
    (cases_from_any _ _ _ (λ u. locks u ≡ true) (λ u. locks u ≡ false) c.any.ensures.ran (YieldsList-from_range 0 tasks tasks refl refl)
    (λ x q k. search (rules, tests)) (λ x q k. (search rules, search (rules, tests))))
