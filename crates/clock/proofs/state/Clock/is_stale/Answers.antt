use Rattle.std.proofs.Common.{ℕ, rules, Bool, ◌&&◌, ltb, get_or, sym, ap, ap₂, ◌∙◌}
use Rattle.std.proofs.lemmas.Iterator.Adapters.{serves_from_places}
use Rattle.std.proofs.lemmas.Iterator.Search.{any_from_yields_List}
use borrow.Author.Tests.{tests}
use Rattle.policy.specs.Limits.{variables}
use Rattle.policy.proofs.SomeBelow.{some_below_same}
use Rattle.varset.specs.Members.{member}
use Rattle.varset.specs.declared.VarSet.{VarSet}
use Rattle.clock.proofs.Reading.{number_at}
use Rattle.varset.proofs.Listing.{gives_members, members_below, some_member}
use Rattle.clock.proofs.state.Clock.is_stale.Goals as goal

pub any-requires-clause-callable : goal.any-requires-clause-callable
any-requires-clause-callable c =
    serves_from_places (gives_members c.iter.result) (λ x q r. search rules) (λ v k h e. let b = members_below c.iter.result.rest v k h e in search rules)

pub returns : goal.returns
returns c =
    let versions = c.args.self.now.versions in
    let newer : ℕ → Bool = λ v. ltb c.args.transaction.note (get_or versions v 0) in
    any_from_yields_List newer _ _ c.any.result c.any.ensures.ran (gives_members c.iter.result) (λ v b q k. search (rules, tests))
    ∙ some_member c.iter.result.rest newer
    ∙ some_below_same variables _ _
    (λ v h.
    ap₂ ◌&&◌ (ap (λ (s : VarSet). member s v) c.iter.ensures)
    (ap (ltb c.args.transaction.note) (sym (number_at versions v h))))
