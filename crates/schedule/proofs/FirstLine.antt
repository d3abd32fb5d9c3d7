-- A first line names a choice exactly if it is what is written of it.
use Rattle.std.proofs.Common.{◌≡◌, ℕ, find, Bool, true, false, cond, List, [], ◌∷◌, Some, None, Option, Result, sym, refl, ap, ◌∙◌, subst}
use Rattle.std.proofs.lemmas.Slice.Eq.{bytes_eq-Decides}
use Rattle.std.specs.Option.{ok_or}
use Rattle.std.specs.Result.{result_ok}
use Rattle.std.specs.Str.{bytes_eq}
use Rattle.schedule.specs.declared.choice.Kind.TheVariants.{Lock, Own, Clock}
use Rattle.schedule.specs.declared.choice.Choice.{Choice}
use Rattle.schedule.specs.declared.choice.Choice.TheVariants.{Plain, Eager}
use Rattle.schedule.specs.declared.fault.UnknownPolicy.{UnknownPolicy}
use Rattle.schedule.specs.Choices.{first_line, choices, chosen, Chosen}

-- what is found is written so
found : (cs : List Choice) (s : List ℕ) {c : Choice} → find (λ c. bytes_eq s (first_line c)) cs ≡ Some c → s ≡ first_line c
found [] s e = absurd (cc)
found (d ∷ cs) s {c} e = by (bytes_eq s (first_line d)) refl e (found cs s {c = c})
  where
    by : (t : Bool) → bytes_eq s (first_line d) ≡ t → cond t (Some d) (find (λ c. bytes_eq s (first_line c)) cs) ≡ Some c → (find (λ c. bytes_eq s (first_line c)) cs ≡ Some c → s ≡ first_line c) → s ≡ first_line c
    by true q h more = let e : d ≡ c = cc in (bytes_eq-Decides s (first_line d)).0 q ∙ ap first_line e
    by false q h more = more h

-- what is written of a choice names it
written_names : (c : Choice) → chosen (first_line c) ≡ Some c
written_names (Plain Lock) = refl
written_names (Plain Own) = refl
written_names (Plain Clock) = refl
written_names (Eager Lock) = refl
written_names (Eager Own) = refl
written_names (Eager Clock) = refl

names : (s : List ℕ) (r : Option Choice) → r ≡ chosen s → Chosen s r
names s None e = λ c p. let q = e ∙ ap chosen p ∙ written_names c in cc
names s (Some c) e = found choices s (sym e)

-- the choice that was found, as an answer
pub named : (s : List ℕ) (o : Option Choice) (r : Result Choice UnknownPolicy) → o ≡ chosen s → r ≡ ok_or o (record {})
    → (r ≡ ok_or (chosen s) (record {})) × Chosen s (result_ok r)
named s o r e f =
    let u : UnknownPolicy = record {} in
    (f ∙ ap (λ (x : Option Choice). ok_or x u) e, subst (λ (x : Result Choice UnknownPolicy). Chosen s (result_ok x)) (sym f) (by o u e))
  where
    by : (x : Option Choice) (u : UnknownPolicy) → x ≡ chosen s → Chosen s (result_ok (ok_or x u))
    by None u q = names s None q
    by (Some c) u q = names s (Some c) q
