use Rattle.std.proofs.Common.{ℕ, ◌<◌, ◌≤◌, sym, ap, Some, None, arith, rules}
use borrow.Author.Tests.{tests}
use mathlib.Core.Option.{Option, none}
use Rattle.std.proofs.lemmas.Iterator.{IsFirst-from_position, YieldsList-from_slice}
use Rattle.policy.specs.Limits.{variables}
use Rattle.history.specs.Calls.{Wrong}
use Rattle.table.specs.Checks.{passed}
use Rattle.table.proofs.ListChecks.{wrong_first, wrong_nowhere}
use Rattle.table.proofs.list.check_variables.Goals as goal

pub returns-in-Some : goal.returns-in-Some
returns-in-Some c =
    let first =
    IsFirst-from_position _ _ (Some c.in-Some.place) (λ (v : ℕ). variables ≤ v) (λ (v : ℕ). v < variables) c.in-Some.ensures.ran
    (YieldsList-from_slice c.args.list.now cc) (λ x q k. search (rules, tests)) (λ x q k. search (rules, tests))
    in ap (λ (o : Option Wrong). passed tt o none) (sym (wrong_first c.in-Some.place c.args.list.now first.0 (first.1 0) (λ k h. first.2 k 0 (omega arith) h)))

pub returns-in-None : goal.returns-in-None
returns-in-None c =
    let right =
    IsFirst-from_position _ _ None (λ (v : ℕ). variables ≤ v) (λ (v : ℕ). v < variables) c.in-None.ensures.ran
    (YieldsList-from_slice c.args.list.now cc) (λ x q k. search (rules, tests)) (λ x q k. search (rules, tests))
    in ap (λ (o : Option Wrong). passed tt o none) (sym (wrong_nowhere c.args.list.now (λ k h. right k 0 (omega arith) h)))
