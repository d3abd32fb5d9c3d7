-- What a reader of lines hands out, and that the lines are the text.
use Rattle.std.specs.Prelude.{◌≡◌, ℕ, ◌+◌, Bool, true, cond, List, [], ◌∷◌, ◌++◌, Some, None, Option, ◌==◌}
use Rattle.std.specs.List.{flat_map, AllByRecursion}
use Rattle.schedule.specs.Pieces.{line_feed, Clear}
use Rattle.schedule.specs.declared.lines.Line.{Line}

-- from n lines read and `before` to come, the next line with its number, to `after`; or the end
abbrev pub HandsOut : ℕ → List (List ℕ) → Option Line → ℕ → List (List ℕ) → Type 0
HandsOut n before None m after = (before ≡ []) × (after ≡ []) × (m ≡ n)
HandsOut n before (Some line) m after = (before ≡ line.bytes.now ∷ after) × (line.number ≡ n + 1) × (m ≡ n + 1)

-- the text is empty or its last byte is LF
abbrev pub closed : List ℕ → Bool
closed [] = true
closed (b ∷ []) = b == line_feed
closed (b ∷ c ∷ s) = closed (c ∷ s)

-- each line and an LF behind it
abbrev pub with_feeds : List (List ℕ) → List ℕ
with_feeds ls = flat_map (λ l. l ++ (line_feed ∷ [])) ls

-- the lines of a text have no LF in them, and with an LF behind each they are the text, which may lack the last one
pub record Whole (s : List ℕ) (ls : List (List ℕ)) : Type 0 where
  pub clear : AllByRecursion (Clear line_feed) ls
  pub rejoined : with_feeds ls ≡ s ++ cond (closed s) [] (line_feed ∷ [])
