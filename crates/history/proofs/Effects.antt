-- What each kind of call does to the facts and the values.
use Rattle.std.proofs.Common.{◌≡◌, ℕ, Bool, true, false, ◌≢◌, List, ℤ}
use Rattle.policy.specs.Facts.{Facts}
use Rattle.policy.specs.Moves.{Begun, HasWritten, Committed, Ended}
use Rattle.history.proofs.Views.{View, sight, Quiet}
use Rattle.history.proofs.GrantedReads.{ReadAll}

-- a call that adds nothing: what active tasks hold stays
pub record Idles (a b : View) : Type 0 where
  pub facts : b.facts ≡ a.facts
  pub shared : (v : ℕ) → b.shared v ≡ a.shared v
  pub pending : (u : ℕ) → a.facts.active u ≡ true → (v : ℕ) → b.pending u v ≡ a.pending u v

-- a granted begin
pub record Begins (t : ℕ) (a b : View) : Type 0 where
  pub rule : Begun t a.facts b.facts
  pub quiet : Quiet t a b

-- a granted read, or a granted collect of the variables vs
pub record Reads (t : ℕ) (vs : List ℕ) (a b : View) : Type 0 where
  pub rule : ReadAll t vs a.facts b.facts
  pub quiet : Quiet t a b
  pub pending : (v : ℕ) → b.pending t v ≡ a.pending t v

-- a granted write
pub record Writes (t v : ℕ) (x : ℤ) (a b : View) : Type 0 where
  pub rule : HasWritten t v a.facts b.facts
  pub quiet : Quiet t a b
  pub put : b.pending t v ≡ x
  pub kept : (w : ℕ) → w ≢ v → b.pending t w ≡ a.pending t w

-- a granted commit
pub record Commits (strict : Bool) (t : ℕ) (a b : View) : Type 0 where
  pub rule : Committed strict t a.facts b.facts
  -- one that is behind has written nothing
  pub silent : a.facts.behind t ≡ true → (w : ℕ) → a.facts.writes t w ≡ false
  pub shared : (v : ℕ) → b.shared v ≡ sight a t v
  pub pending : (u : ℕ) → u ≢ t → (v : ℕ) → b.pending u v ≡ a.pending u v

-- an abort of a task that is in a transaction
pub record Aborts (t : ℕ) (a b : View) : Type 0 where
  pub rule : Ended t a.facts b.facts
  pub quiet : Quiet t a b

-- the reads of vs are granted, and then that of v is refused
pub record BarsRead (t v : ℕ) (vs : List ℕ) (a b : View) : Type 0 where
  pub between : Facts
  pub earlier : ReadAll t vs a.facts between
  pub barred : between.no_read t v ≡ true
  pub rule : Ended t between b.facts
  pub quiet : Quiet t a b

-- the write of v is refused
pub record BarsWrite (t v : ℕ) (a b : View) : Type 0 where
  pub barred : a.facts.no_write t v ≡ true
  pub rule : Ended t a.facts b.facts
  pub quiet : Quiet t a b

-- the commit is refused
pub record BarsCommit (t : ℕ) (a b : View) : Type 0 where
  pub behind : a.facts.behind t ≡ true
  pub rule : Ended t a.facts b.facts
  pub quiet : Quiet t a b

-- a snapshot of vs that was granted: see gives its values
pub record Snaps (strict : Bool) (t : ℕ) (vs : List ℕ) (see : ℕ → ℤ) (a b : View) : Type 0 where
  pub opened : Facts
  pub between : Facts
  pub begun : Begun t a.facts opened
  pub rule : ReadAll t vs opened between
  pub ends : Committed strict t between b.facts
  pub values : (v : ℕ) → see v ≡ a.shared v
  pub quiet : Quiet t a b

-- a snapshot that read vs, and then was refused v
pub record BarsSnap (t v : ℕ) (vs : List ℕ) (a b : View) : Type 0 where
  pub opened : Facts
  pub between : Facts
  pub begun : Begun t a.facts opened
  pub earlier : ReadAll t vs opened between
  pub barred : between.no_read t v ≡ true
  pub ends : Ended t between b.facts
  pub quiet : Quiet t a b
