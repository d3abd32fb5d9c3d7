-- The list of the read versions, for any number of tasks.
use Rattle.std.specs.Prelude.{◌≡◌, ℕ, zero, suc, ◌+◌, ◌<◌, ◌≤◌, true, List, [], length, Some, None, Option, ◌==◌, ◌≢◌, ◌∷◌, slice_index_or, refl}
use Rattle.std.proofs.Common.{sym, subst, ap, ◌∙◌, inl, inr, arith, add-one}
use Rattle.std.proofs.lemmas.Bool.{cases_eq, or_cases, eqb-true, or_left, or_right, eq-eqb}
use Rattle.policy.specs.Limits.{tasks}
use Rattle.transactions.specs.declared.transaction.Transaction.{Transaction}
use Rattle.transactions.specs.declared.Transactions.{Transactions}
use Rattle.clock.specs.Told.{rows_at}
use Rattle.clock.specs.Different.{among}
use Rattle.clock.specs.Rows.{row, rows}
use Rattle.clock.specs.Held.{Running}
use Rattle.clock.specs.Steps.{read_versions, and_read_version}

-- what isn't some transaction is none
pub none_left : {A : Type 0} (o : Option A) → ((x : A) → o ≢ Some x) → o ≡ None
none_left None h = refl
none_left (Some x) h = absurd (h x refl)

-- one more task
pub read_versions_more : (n : ℕ) (ts : ℕ → Option Running) → read_versions (suc n) ts ≡ and_read_version (ts n) (read_versions n ts)
unfolding read_versions
read_versions_more n ts = refl

-- no task at all
pub read_versions_none : (ts : ℕ → Option Running) → read_versions 0 ts ≡ []
unfolding read_versions
read_versions_none ts = refl

length_more : (o : Option Running) (ns : List ℕ) (n : ℕ) → length ns ≤ n → length (and_read_version o ns) ≤ suc n
length_more None ns n h = omega arith
length_more (Some x) ns n h = omega arith

-- there are no more of them than tasks
pub length_read_versions : (n : ℕ) (ts : ℕ → Option Running) → length (read_versions n ts) ≤ n
unfolding read_versions
length_read_versions zero ts = omega arith
length_read_versions (suc n) ts = length_more (ts n) (read_versions n ts) n (length_read_versions n ts)

among_first : (o : Option Running) (ns : List ℕ) (x : Running) → o ≡ Some x → among (and_read_version o ns) x.read_version ≡ true
unfolding among
among_first o ns x e =
    subst (λ (p : Option Running). among (and_read_version p ns) x.read_version ≡ true) (sym e)
    (or_left (x.read_version == x.read_version) (among ns x.read_version) (eq-eqb x.read_version x.read_version refl))

among_rest : (o : Option Running) (ns : List ℕ) (a : ℕ) → among ns a ≡ true → among (and_read_version o ns) a ≡ true
unfolding among
among_rest None ns a e = e
among_rest (Some x) ns a e = or_right (x.read_version == a) (among ns a) e

-- every transaction's read version is in the list
pub among_read_versions : (n : ℕ) (ts : ℕ → Option Running) (t : ℕ) (x : Running) → t < n → ts t ≡ Some x
    → among (read_versions n ts) x.read_version ≡ true
unfolding read_versions
among_read_versions zero ts t x h e = absurd (omega arith)
among_read_versions (suc n) ts t x h e =
    elim (cases_eq t n) [
      | inl i ↦ among_first (ts n) (read_versions n ts) x (subst (λ (u : ℕ). ts u ≡ Some x) i e)
      | inr i ↦ among_rest (ts n) (read_versions n ts) x.read_version (among_read_versions n ts t x (omega arith) e)
    ]

below_first : (o : Option Running) (ns : List ℕ) (a b : ℕ) → ((x : Running) → o ≡ Some x → x.read_version < b)
    → (among ns a ≡ true → a < b) → among (and_read_version o ns) a ≡ true → a < b
unfolding among
below_first None ns a b h r e = r e
below_first (Some x) ns a b h r e =
    elim (or_cases (x.read_version == a) (among ns a) e) [
      | inl i ↦ let k : x.read_version < b = h x refl in omega (arith, eqb-true x.read_version a i)
      | inr i ↦ r i
    ]

-- a bound on every read version is a bound on the list
pub read_versions_below : (n : ℕ) (ts : ℕ → Option Running) (b : ℕ) → ((t : ℕ) (x : Running) → ts t ≡ Some x → x.read_version < b)
    → (a : ℕ) → among (read_versions n ts) a ≡ true → a < b
unfolding read_versions among
read_versions_below zero ts b h a e = grind arith
read_versions_below (suc n) ts b h a e =
    below_first (ts n) (read_versions n ts) a b (h n) (read_versions_below n ts b h a) e

-- the tasks of a table, one more of them
pub read_versions_next : (x : Transactions ℕ) (t : ℕ) → t < tasks
    → read_versions (t + 1) (rows x) ≡ and_read_version (row (slice_index_or x.rows t None)) (read_versions t (rows x))
read_versions_next x t h =
    rw add-one (rw read_versions_more (ap (λ (o : Option Running). and_read_version o (read_versions t (rows x))) (rows_at x t h)))

-- what one more task of a table adds, by its row
module _ (p : Transactions ℕ) (t : ℕ) (there : t < tasks) where
  pub read_versions_idle : ((x : Transaction ℕ) → slice_index_or p.rows t None ≢ Some x)
      → read_versions (t + 1) (rows p) ≡ read_versions t (rows p)
  read_versions_idle h =
      read_versions_next p t there
      ∙ ap (λ (o : Option (Transaction ℕ)). and_read_version (row o) (read_versions t (rows p))) (none_left (slice_index_or p.rows t None) h)

  pub read_versions_begun : (x : Transaction ℕ) → slice_index_or p.rows t None ≡ Some x
      → read_versions (t + 1) (rows p) ≡ x.note ∷ read_versions t (rows p)
  read_versions_begun x e =
      read_versions_next p t there
      ∙ ap (λ (o : Option (Transaction ℕ)). and_read_version (row o) (read_versions t (rows p))) e
