use Rattle.std.proofs.Common.{◌≡◌, ℕ, ltb, replicate, is_some, None, refl, ap, ◌∙◌, zero-le}
use Rattle.std.proofs.lemmas.Bool.{le-ltb}
use Rattle.policy.specs.Limits.{variables}
use Rattle.clock.specs.Rows.{begun_after, rows}
use Rattle.clock.specs.Told.{rows_idle}
use Rattle.clock.proofs.Reading.{same_held, get_or_filled, numbers_from}
use Rattle.clock.proofs.state.Clock.new.Goals as goal

pub invariant_of-result : goal.invariant_of-result
invariant_of-result c = record {
  written = λ v. ap (ltb c.args.start) (get_or_filled variables 0 v) ∙ le-ltb c.args.start 0 zero-le;
  begun = λ t. ap (λ notes. begun_after c.args.start (notes t)) c.new.ensures.notes;
}

pub returns : goal.returns
returns c =
    let idle : (t : ℕ) → rows c.new.result t ≡ None = λ t. rows_idle c.new.result t (ap (λ notes. notes t) c.new.ensures.notes) in
    record {
      state = same_held _ _ refl (numbers_from (replicate variables 0) (λ v. 0) (λ v h. get_or_filled variables 0 v) (λ v h. refl)) idle;
      fresh = λ t. ap is_some (idle t);
    }
