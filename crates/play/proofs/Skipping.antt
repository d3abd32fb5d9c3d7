-- A reader of lines, behind its first ones.
use Rattle.std.proofs.Common.{◌≡◌, ℕ, ◌+◌, List, [], ◌∷◌, length, drop, Some, None, Option, sym, ap, ◌∙◌, arith, length-drop}
use Rattle.std.specs.Iterator.{Yields}
use Rattle.std.specs.Iterator.Adapters.{skip_source, skip_count, skip_steps}
use Rattle.std.specs.declared.iter.Skip.{Skip}
use Rattle.std.proofs.lemmas.List.{drop_all}
use Rattle.schedule.specs.Lines.{HandsOut}
use Rattle.schedule.specs.Pieces.{lines, lines_left}
use Rattle.schedule.specs.declared.lines.Line.{Line}
use Rattle.schedule.specs.declared.lines.Lines.{Lines}

abbrev pub hands_out : Lines → Option Line → Lines → Type 0
hands_out s r t = HandsOut s.count (lines_left s.rest) r t.count (lines_left t.rest)

-- the lines to come once those to be skipped are behind, and how many lines are behind then
abbrev pub to_come : Skip Lines → List (List ℕ)
to_come s = drop (skip_count s) (lines_left (skip_source s).rest)

abbrev pub behind : Skip Lines → ℕ
behind s = (skip_source s).count + skip_count s

-- lines that were handed out come no more
handed : (s t : Lines) (xs : List Line) → Yields hands_out s xs t → (drop (length xs) (lines_left s.rest) ≡ lines_left t.rest) × (t.count ≡ s.count + length xs)
handed s t [] y = (ap (λ (z : Lines). lines_left z.rest) y, let e = ap (λ (z : Lines). z.count) y in omega (arith, e))
handed s t (x ∷ xs) y =
    let i = handed y.0 t xs y.2 in (ap (drop (length (x ∷ xs))) y.1.0 ∙ i.0, let e = y.1.2 in omega (arith, e, i.1))

-- the next line
pub next_line_out : (s t : Skip Lines) (line : Line) → skip_steps hands_out s (Some line) t
    → (to_come s ≡ line.bytes.now ∷ to_come t) × (line.number ≡ behind s + 1) × (behind t ≡ behind s + 1)
next_line_out s t line x =
    let xs = x.1.0 in
    let st = x.1.1.2 in
    let i = handed (skip_source s) x.1.1.0 xs x.1.1.1 in
    let n = x.1.2 in (
      ap (λ (k : ℕ). drop k (lines_left (skip_source s).rest)) (sym n) ∙ i.0 ∙ st.0
          ∙ ap (λ (k : ℕ). line.bytes.now ∷ drop k (lines_left (skip_source t).rest)) (sym x.0),
      omega (arith, n, i.1, st.1),
      omega (arith, n, i.1, st.2, x.0),
    )

-- none is left
pub none_out : (s t : Skip Lines) → skip_steps hands_out s None t → to_come s ≡ []
none_out s t x =
    let xs = x.1.0 in
    let i = handed (skip_source s) x.1.1.0 xs x.1.1.1 in
    let all = lines_left (skip_source s).rest in
    let e = ap length (i.0 ∙ x.1.1.2.0) in
    let l = length-drop (length xs) all in drop_all (skip_count s) all (omega (arith, e, l, x.1.2))

-- behind the first line of a text
pub first_behind : (text : List ℕ) (r : Lines) (s : Skip Lines) → (lines_left r.rest ≡ lines text) × (r.count ≡ 0) → skip_source s ≡ r → skip_count s ≡ 1
    → (drop 1 (lines text) ≡ to_come s) × (behind s ≡ 1)
first_behind text r s all e n =
    let c = ap (λ (z : Lines). z.count) e in (
      ap (drop 1) (sym all.0 ∙ sym (ap (λ (z : Lines). lines_left z.rest) e)) ∙ ap (λ (k : ℕ). drop k (lines_left (skip_source s).rest)) (sym n),
      omega (arith, c, all.1, n),
    )
