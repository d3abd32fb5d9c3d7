-- What the rules of a policy come to, for one task.
use Rattle.std.proofs.Common.{◌≡◌, ℕ, Bool, true, false, not, ◌&&◌, ◌||◌, ◌⊎◌, inl, inr, rules}
use Rattle.std.proofs.lemmas.Bool.{cases_Bool, or_parts, and_parts, not-true, not-false}
use Rattle.policy.proofs.SomeBelow.{some_below_all}
use Rattle.policy.specs.Limits.{variables}
use Rattle.policy.specs.Facts.{Facts, some_below, may_commit, Proper}
use Rattle.policy.specs.Moves.{Passed, Spared}

-- a task that is behind and may commit has written nothing
pub commit_silent : (strict : Bool) (f : Facts) (t : ℕ) → Proper f → may_commit strict f t ≡ true → f.behind t ≡ true → (w : ℕ) → f.writes t w ≡ false
commit_silent strict f t proper may behind w = go (cases_Bool (f.writes t w))
  where
    some_written : Bool
    some_written = strict || some_below variables (f.writes t)

    none_written : (x : Bool) → not (x && some_written) ≡ true → x ≡ true → some_written ≡ false
    none_written true h e = not-true some_written h
    none_written false h e = absurd (cc)

    go : (f.writes t w ≡ true) ⊎ (f.writes t w ≡ false) → f.writes t w ≡ false
    go (inl e) = some_below_all variables (f.writes t)
        (or_parts strict (some_below variables (f.writes t)) (none_written (f.behind t) may behind)).1 w (proper.written_below t w e)
    go (inr e) = e

-- a task that may not commit is behind
pub commit_behind : (strict : Bool) (f : Facts) (t : ℕ) → may_commit strict f t ≡ false → f.behind t ≡ true
commit_behind strict f t may = (and_parts (f.behind t) (strict || some_below variables (f.writes t)) (not-false (f.behind t && (strict || some_below variables (f.writes t))) may)).0

-- the commit of a task that has written nothing puts nobody behind
pub silent_behind : {t u : ℕ} {f g : Facts} → Passed t f g u → ((w : ℕ) → f.writes t w ≡ false) → g.behind u ≡ f.behind u
silent_behind {t} {u} {f} {g} p silent = search rules

-- The promise to a task that is behind, that its no-read set only grows, is used through these three alone.
pub bars_kept : {t u : ℕ} {f g : Facts} → Passed t f g u → g.behind u ≡ true → (v : ℕ) → f.no_read u v ≡ true → g.no_read u v ≡ true
bars_kept p l = (p.fenced l).kept

pub bars_gained : {t u : ℕ} {f g : Facts} → Passed t f g u → g.behind u ≡ true → (v : ℕ) → f.writes t v ≡ true → g.no_read u v ≡ true
bars_gained p l = (p.fenced l).gains

pub bars_spared : {u : ℕ} {f g : Facts} → Spared f g u → f.behind u ≡ true → (v : ℕ) → f.no_read u v ≡ true → g.no_read u v ≡ true
bars_spared s = s.fenced
