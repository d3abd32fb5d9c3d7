-- What a table of transactions tells of a task is what its row holds.
use Rattle.std.specs.Prelude.{◌≡◌, ℕ, ◌<◌, ◌≤◌, Bool, false, is_some, Some, None, Option, nat_lt, slice_index_or, refl}
use Rattle.std.proofs.Common.{ap, ◌∙◌, arith}
use Rattle.std.proofs.lemmas.Bool.{cond-true, cond-false, lt-ltb, ltb-false, le-ltb}
use Rattle.policy.specs.Limits.{tasks}
use Rattle.transactions.specs.declared.transaction.Transaction.{Transaction}
use Rattle.transactions.specs.declared.Transactions.{Transactions}
use Rattle.transactions.specs.Rows.{reads_in, writes_in, note_in, sets, notes, row as row_of}
use Rattle.clock.specs.Held.{Running, reads_of, writes_of}
use Rattle.clock.specs.Rows.{running, row, rows, begun_after}

-- a transaction by its read version, if it has one, and its sets
abbrev pub told : Option ℕ → (ℕ → Bool) → (ℕ → Bool) → Option Running
told None reads writes = None
told (Some n) reads writes = Some (record { read_version = n; reads = reads; writes = writes })

row_told : (o : Option (Transaction ℕ)) → row o ≡ told (note_in o) (λ v. reads_in o v) (λ v. writes_in o v)
row_told None = refl
row_told (Some x) = refl

row_active : (o : Option (Transaction ℕ)) → is_some (row o) ≡ is_some o
row_active None = refl
row_active (Some x) = refl

row_reads : (o : Option (Transaction ℕ)) (v : ℕ) → reads_of (row o) v ≡ reads_in o v
row_reads None v = refl
row_reads (Some x) v = refl

row_writes : (o : Option (Transaction ℕ)) (v : ℕ) → writes_of (row o) v ≡ writes_in o v
row_writes None v = refl
row_writes (Some x) v = refl

row_begun : (clock : ℕ) (o : Option (Transaction ℕ)) (y : Running) → begun_after clock (note_in o) ≡ false → row o ≡ Some y
    → y.read_version ≤ clock
row_begun clock None y h e = cc
row_begun clock (Some x) y h e =
    let same : running x ≡ y = cc in
    omega (arith, ltb-false clock x.note h, ap (λ (z : Running). z.read_version) same)

begun_row : (clock : ℕ) (o : Option (Transaction ℕ)) → ((y : Running) → row o ≡ Some y → y.read_version ≤ clock) → begun_after clock (note_in o) ≡ false
begun_row clock None h = refl
begun_row clock (Some x) h = le-ltb clock x.note (h (running x) refl)

module _ (x : Transactions ℕ) (t : ℕ) where
  pub rows_told : rows x t ≡ told (notes x t) ((sets x).reads t) ((sets x).writes t)
  unfolding sets notes
  rows_told = row_told (row_of x.rows t)

  -- no read version is told of a task without a transaction
  pub rows_idle : notes x t ≡ None → rows x t ≡ None
  rows_idle e = rows_told ∙ ap (λ n. told n ((sets x).reads t) ((sets x).writes t)) e

  pub rows_active : is_some (rows x t) ≡ (sets x).active t
  unfolding sets
  rows_active = row_active (row_of x.rows t)

  pub rows_reads : (v : ℕ) → reads_of (rows x t) v ≡ (sets x).reads t v
  unfolding sets
  rows_reads = row_reads (row_of x.rows t)

  pub rows_writes : (v : ℕ) → writes_of (rows x t) v ≡ (sets x).writes t v
  unfolding sets
  rows_writes = row_writes (row_of x.rows t)

  -- a transaction that did not begin after the clock, and back
  pub rows_begun : (clock : ℕ) (y : Running) → begun_after clock (notes x t) ≡ false → rows x t ≡ Some y → y.read_version ≤ clock
  unfolding notes
  rows_begun clock = row_begun clock (row_of x.rows t)

  pub begun_rows : (clock : ℕ) → ((y : Running) → rows x t ≡ Some y → y.read_version ≤ clock) → begun_after clock (notes x t) ≡ false
  unfolding notes
  begun_rows clock = begun_row clock (row_of x.rows t)

  -- the row of a task that there is
  pub rows_at : t < tasks → rows x t ≡ row (slice_index_or x.rows t None)
  unfolding row_of
  rows_at h = ap row (cond-true (nat_lt t tasks) (slice_index_or x.rows t None) None (lt-ltb t tasks h))

  -- and of one that there isn't
  pub rows_past : tasks ≤ t → rows x t ≡ None
  unfolding row_of
  rows_past h = ap row (cond-false (nat_lt t tasks) (slice_index_or x.rows t None) None (le-ltb t tasks h))
