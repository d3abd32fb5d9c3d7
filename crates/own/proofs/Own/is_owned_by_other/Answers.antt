use Rattle.std.proofs.Common.{◌≡◌, ℕ, Bool, true, false, not, ◌&&◌, eqb, refl, rules}
use Rattle.std.proofs.lemmas.Iterator.{cases_from_any, YieldsList-from_range}
use borrow.Author.Tests.{tests}
use Rattle.policy.specs.Limits.{tasks}
use Rattle.transactions.specs.Rows.{sets}
use Rattle.transactions.proofs.Others.{any_below}
use Rattle.own.proofs.Own.is_owned_by_other.Goals as goal

pub returns : goal.returns
returns c =
    let owns : ℕ → Bool = λ u. not (eqb u c.args.task) && (sets c.args.self.now.transactions).writes u c.args.variable in
    any_below tasks owns c.any.result
    (cases_from_any _ _ _ (λ u. owns u ≡ true) (λ u. owns u ≡ false) c.any.ensures.ran (YieldsList-from_range 0 tasks tasks refl refl)
    (λ x q k. search (rules, tests)) (λ x q k. (search rules, search (rules, tests))))
