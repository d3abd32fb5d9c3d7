-- The small policy of the example keeps the rules.
use Rattle.std.proofs.Common.{◌≡◌, ℕ, ◌<◌, Bool, true, false, ◌&&◌, eqb, sym, subst, lit<, rules}
use Rattle.std.proofs.lemmas.Bool.{and_parts, eqb-true}
use Rattle.policy.specs.Limits.{variables}
use Rattle.policy.specs.Facts.{Proper}
use Rattle.policy.specs.Moves.{Begun, HasRead, HasWritten, Committed, Refused}
use Rattle.history.specs.Example.{Pair, pair_facts}

below : (x : Bool) (v : ℕ) → x && eqb v 5 ≡ true → v < variables
below x v e = subst (λ (w : ℕ). w < variables) (sym (eqb-true v 5 (and_parts x (eqb v 5) e).1)) (lit< tt)

pub pair_proper : (p : Pair) → Proper (pair_facts p)
pair_proper p = search (rules, below)

-- who is active, whether task 0 has written, whether task 1 has read
abbrev pub pair : Bool → Bool → Bool → Bool → Pair
pair a b w r = record { zero_active = a; one_active = b; zero_wrote = w; one_read = r }

-- the pair at each stage of the story
abbrev pub nobody : Pair
nobody = pair false false false false

abbrev pub zero_began : Pair
zero_began = pair true false false false

abbrev pub both_began : Pair
both_began = pair true true false false

abbrev pub zero_has_written : Pair
zero_has_written = pair true true true false

abbrev pub one_was_refused : Pair
one_was_refused = pair true false true false

abbrev pub one_began : Pair
one_began = pair false true false false

abbrev pub one_has_read : Pair
one_has_read = pair false true false true

pub begin_zero : Begun 0 (pair_facts nobody) (pair_facts zero_began)
begin_zero = search rules

pub begin_one : Begun 1 (pair_facts zero_began) (pair_facts both_began)
begin_one = search rules

pub write_zero : HasWritten 0 5 (pair_facts both_began) (pair_facts zero_has_written)
write_zero = search rules

pub refuse_one : Refused false 1 (pair_facts zero_has_written) (pair_facts one_was_refused)
refuse_one = search rules

pub commit_zero : Committed true 0 (pair_facts one_was_refused) (pair_facts nobody)
commit_zero = search rules

pub begin_again : Begun 1 (pair_facts nobody) (pair_facts one_began)
begin_again = search rules

pub read_one : HasRead 1 5 (pair_facts one_began) (pair_facts one_has_read)
read_one = search rules

pub read_again : HasRead 1 5 (pair_facts one_has_read) (pair_facts one_has_read)
read_again = search rules

pub commit_one : Committed true 1 (pair_facts one_has_read) (pair_facts nobody)
commit_one = search rules
