use Rattle.std.proofs.Common.{rules, ◌≡◌, ℕ, ◌+◌, List, length, sym, ap, ◌∙◌, subst, arith}
use Rattle.policy.specs.Limits.{variables}
use Rattle.clock.specs.declared.state.Clock.{Clock}
use Rattle.transactions.specs.declared.Transactions.{Transactions}
use Rattle.clock.specs.Held.{Sound, meaning}
use Rattle.clock.specs.Steps.{renumbered}
use Rattle.clock.specs.Rows.{new_number, RenumberedRows, RenumberedVersions}
use Rattle.clock.specs.Clocks.{held}
use Rattle.clock.proofs.Arrays.{holding, renumbered_fields}
use Rattle.clock.specs.Soundness.{written_from, begun_from}
use Rattle.clock.specs.Renumbered.{renumbered_sound, renumbered_meaning}
use Rattle.clock.specs.Policies.{sound}
use Rattle.clock.proofs.state.Clock.renumber.Goals as goal

-- what the three calls leave is what was held, renumbered
renumbers : (p : Clock) (n clock : ℕ) (ns : List ℕ) (ts : Transactions ℕ) → length p.versions ≡ variables
    → n ≡ p.clock → clock ≡ new_number p.transactions (n + 1)
    → RenumberedVersions (new_number p.transactions) p.versions ns
    → RenumberedRows p.transactions ts
    → holding clock ns ts ≡ renumbered (held p)
renumbers p n clock ns ts wide e c m r =
    renumbered_fields p.clock p.versions p.transactions (sound p) wide clock ns ts
    (c ∙ ap (λ k. new_number p.transactions (k + 1)) e) m r

pub invariant_of-self-2 : goal.invariant_of-self-2
invariant_of-self-2 c =
    let wide : length c.args.self.now.versions ≡ variables = omega arith in
    let s : Sound (holding c.different_below.result c.renumbered_versions.result c.renumbered_transactions.result) =
    subst Sound
    (sym
    (renumbers c.args.self.now c.from.result c.different_below.result c.renumbered_versions.result
    c.renumbered_transactions.result wide c.from.ensures c.different_below.ensures.number
    c.renumbered_versions.ensures c.renumbered_transactions.ensures))
    (renumbered_sound (held c.args.self.now) (sound c.args.self.now)) in
    record {
      written = written_from c.different_below.result c.renumbered_versions.result (search rules) s.versions;
      begun = begun_from c.different_below.result c.renumbered_transactions.result s.read_versions;
    }

pub returns : goal.returns
returns c =
    let wide : length c.args.self.now.versions ≡ variables = omega arith in
    let e =
    renumbers c.args.self.now c.from.result c.different_below.result c.renumbered_versions.result
    c.renumbered_transactions.result wide c.from.ensures c.different_below.ensures.number
    c.renumbered_versions.ensures c.renumbered_transactions.ensures in
    record { numbers = e; same = ap meaning e ∙ renumbered_meaning (held c.args.self.now) (sound c.args.self.now) }
