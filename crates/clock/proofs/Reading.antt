-- What the arrays of a clock policy hold, read place by place.
use Rattle.std.proofs.Common.{◌≡◌, ℕ, zero, suc, ◌<◌, ◌≤◌, ltb, List, get_or, replicate, sym, refl}
use mathlib.Core.Path.{fun_ext}
use Rattle.std.proofs.lemmas.Bool.{cond_both, cond-true, lt-ltb, ltb-true, ltb-false}
use Rattle.policy.specs.Limits.{variables}
use Rattle.clock.specs.Held.{Held}
use Rattle.clock.specs.Rows.{numbers}

-- two policies hold the same if their numbers and their transactions are the same
pub same_held : (s r : Held) → s.clock ≡ r.clock → ((v : ℕ) → s.version v ≡ r.version v)
    → ((t : ℕ) → s.transaction t ≡ r.transaction t) → s ≡ r
same_held s r c n x = λ i. record { clock = c i; version = fun_ext n i; transaction = fun_ext x i }

-- an array of one value gives it at every place
pub get_or_filled : {X : Type 0} (n : ℕ) (d : X) (i : ℕ) → get_or (replicate n d) i d ≡ d
get_or_filled zero d i = refl
get_or_filled (suc n) d zero = refl
get_or_filled (suc n) d (suc i) = get_or_filled n d i

-- the versions are what the array gives at each variable, and 0 elsewhere
pub numbers_from : (ns : List ℕ) (f : ℕ → ℕ) → ((v : ℕ) → v < variables → get_or ns v 0 ≡ f v)
    → ((v : ℕ) → variables ≤ v → f v ≡ 0) → (v : ℕ) → numbers ns v ≡ f v
numbers_from ns f inside outside v =
    cond_both (ltb v variables) (get_or ns v 0) 0 (λ (n : ℕ). n ≡ f v) (λ e. inside v (ltb-true v variables e))
    (λ e. sym (outside v (ltb-false v variables e)))

-- the version of a variable that there is
pub number_at : (ns : List ℕ) (v : ℕ) → v < variables → numbers ns v ≡ get_or ns v 0
number_at ns v h = cond-true (ltb v variables) (get_or ns v 0) 0 (lt-ltb v variables h)
