-- The different read versions below a bound, counted row by row.
use Rattle.std.proofs.Common.{◌≡◌, ℕ, zero, suc, ◌+◌, ◌<◌, ◌≤◌, Bool, false, cond, not, ◌&&◌, ◌||◌, ltb, List, [], ◌∷◌, take, get_or, Some, None, Option, sym, refl, ap, ◌∙◌, add-one, zero-add, arith}
use Rattle.std.proofs.Math.Bool.{or_comm, or_assoc}
use Rattle.std.specs.List.{list_any}
use Rattle.policy.specs.Limits.{tasks}
use Rattle.transactions.specs.declared.transaction.Transaction.{Transaction}
use Rattle.transactions.specs.declared.Transactions.{Transactions}
use Rattle.clock.specs.Different.{among, different_below}
use Rattle.clock.specs.Steps.{read_versions, and_read_version}
use Rattle.clock.specs.Rows.{row, rows, has_version}
use Rattle.clock.specs.ReadVersions.{read_versions_none, read_versions_next}

-- the row has a read version below the bound, and none of the first t rows has it
abbrev pub is_new_below : List (Option (Transaction ℕ)) → ℕ → ℕ → Option (Transaction ℕ) → Bool
is_new_below ts t bound None = false
is_new_below ts t bound (Some x) = ltb x.note bound && not (list_any (has_version x.note) (take t ts))

among_more : (o : Option (Transaction ℕ)) (ns : List ℕ) (n : ℕ) → among (and_read_version (row o) ns) n ≡ (has_version n o || among ns n)
unfolding among
among_more None ns n = refl
among_more (Some x) ns n = refl

-- a test that no empty row passes, of one more row
any_more : (p : Option (Transaction ℕ) → Bool) → p None ≡ false → (os : List (Option (Transaction ℕ))) (t : ℕ)
    → list_any p (take (suc t) os) ≡ (list_any p (take t os) || p (get_or os t None))
any_more p e [] zero = sym e
any_more p e [] (suc t) = sym e
any_more p e (o ∷ os) zero = or_comm (p o) false
any_more p e (o ∷ os) (suc t) =
    let r : list_any p (take (suc t) os) ≡ (list_any p (take t os) || p (get_or os t None)) = any_more p e os t in
    ap (λ b. p o || b) r ∙ sym (or_assoc (p o) (list_any p (take t os)) (p (get_or os t None)))

-- the first t rows have a read version exactly if it is in their list
among_rows : (x : Transactions ℕ) (n t : ℕ) → t ≤ tasks
    → list_any (has_version n) (take t x.rows) ≡ among (read_versions t (rows x)) n
unfolding among
among_rows x n zero h = sym (ap (λ ns. among ns n) (read_versions_none (rows x)))
among_rows x n (suc t) h =
    any_more (has_version n) refl x.rows t
    ∙ or_comm (list_any (has_version n) (take t x.rows)) (has_version n (get_or x.rows t None))
    ∙ ap (λ b. has_version n (get_or x.rows t None) || b) (among_rows x n t (omega arith))
    ∙ sym
    (ap (λ ns. among ns n) (rw add-one at (read_versions_next x t (omega arith)))
    ∙ among_more (get_or x.rows t None) (read_versions t (rows x)) n)

counted : (o : Option (Transaction ℕ)) (ts : List (Option (Transaction ℕ))) (ns : List ℕ) (t bound : ℕ)
    → ((n : ℕ) → list_any (has_version n) (take t ts) ≡ among ns n)
    → different_below (and_read_version (row o) ns) bound ≡ cond (is_new_below ts t bound o) 1 0 + different_below ns bound
unfolding different_below
counted None ts ns t bound a = sym (zero-add (different_below ns bound))
counted (Some x) ts ns t bound a = rw (a x.note)

-- one more row counts if it is new
pub counted_row : (x : Transactions ℕ) (t bound : ℕ) (new : Bool) → t < tasks
    → new ≡ is_new_below x.rows t bound (get_or x.rows t None)
    → different_below (read_versions (t + 1) (rows x)) bound
    ≡ cond new 1 0 + different_below (read_versions t (rows x)) bound
counted_row x t bound new h e =
    ap (λ ns. different_below ns bound) (read_versions_next x t h)
    ∙ counted (get_or x.rows t None) x.rows (read_versions t (rows x)) t bound (λ n. among_rows x n t (omega arith))
    ∙ ap (λ b. cond b 1 0 + different_below (read_versions t (rows x)) bound) (sym e)
