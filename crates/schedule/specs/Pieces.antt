-- A text cut at each place of a byte: lines at LF, fields at spaces.
use Rattle.std.specs.Prelude.{◌≡◌, ℕ, ◌<◌, cond, List, [], ◌∷◌, ◌++◌, length, Some, None, Option, ◌==◌, ◌≢◌, slice_index}
use Rattle.std.specs.Borrow.{Bor}

abbrev pub space : ℕ
space = 32

abbrev pub line_feed : ℕ
line_feed = 10

-- one more byte at the front of the first piece
abbrev pub longer : ℕ → List (List ℕ) → List (List ℕ)
longer b [] = (b ∷ []) ∷ []
longer b (p ∷ ps) = (b ∷ p) ∷ ps

-- the fields of a line are what stands between its spaces: one more than there are spaces, and some may be empty
abbrev pub fields : List ℕ → List (List ℕ)
fields [] = [] ∷ []
fields (b ∷ s) = cond (b == space) ([] ∷ fields s) (longer b (fields s))

-- the lines of a text: each ends with LF or with the text, and nothing after the last LF is no line
abbrev pub lines : List ℕ → List (List ℕ)
lines [] = []
lines (b ∷ s) = cond (b == line_feed) ([] ∷ lines s) (longer b (lines s))

-- the byte b isn't in s
abbrev pub Clear : ℕ → List ℕ → Type 0
Clear b s = (k : ℕ) → k < length s → slice_index s k ≢ b

-- s cut at its first b: what stands before it, and what stands after it if there is one
abbrev pub Cut : ℕ → List ℕ → List ℕ → Option (Bor (List ℕ)) → Type 0
Cut b s p None = (s ≡ p) × Clear b p
Cut b s p (Some t) = (s ≡ p ++ (b ∷ t.now)) × Clear b p

-- the fields of what is left of a line, which are none where the line has ended
abbrev pub fields_left : Option (Bor (List ℕ)) → List (List ℕ)
fields_left None = []
fields_left (Some s) = fields s.now

-- the lines of what is left of a text
abbrev pub lines_left : Option (Bor (List ℕ)) → List (List ℕ)
lines_left None = []
lines_left (Some s) = lines s.now

-- how many bytes are left
abbrev pub bytes_left : Option (Bor (List ℕ)) → ℕ
bytes_left None = 0
bytes_left (Some s) = length s.now
