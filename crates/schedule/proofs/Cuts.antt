-- A text cut at the first place of a byte, and its fields and lines.
use Rattle.std.proofs.Common.{◌≡◌, ℕ, suc, ◌+◌, ◌-◌, ◌<◌, false, eqb, List, [], ◌∷◌, ◌++◌, length, get_or, take, drop, Some, None, Option, sym, refl, ap, ◌∙◌, arith, Bor}
use native.Mathlib.Nat.{sub-zero}
use Rattle.std.proofs.lemmas.List.{take_rest, drop_more, take-append-drop, length-take-le, get_or-take}
use Rattle.std.proofs.lemmas.Bool.Decides.{nat_tests}
use Rattle.schedule.specs.Pieces.{space, line_feed, fields, lines, Clear, Cut, fields_left, lines_left}

-- cut at index i, the first that has the byte b; the parts are written as slices give them
pub cut_at : (s : List ℕ) (b i : ℕ) → i < length s → get_or s i 0 ≡ b → ((k : ℕ) → k < i → get_or s k 0 ≡ b → ⊥)
    → (s ≡ take (i - 0) s ++ (b ∷ take (length s - (i + 1)) (drop (i + 1) s))) × Clear b (take (i - 0) s)
cut_at s b i h e before = rw (sub-zero, take_rest s (i + 1)) (whole, clear)
  where
    whole : s ≡ take i s ++ (b ∷ drop (i + 1) s)
    whole = sym (take-append-drop i s) ∙ ap (λ (r : List ℕ). take i s ++ r) (drop_more s i 0 h ∙ ap (λ (x : ℕ). x ∷ drop (i + 1) s) e)

    clear : Clear b (take i s)
    clear k l q =
        let n : k < i = omega (arith, length-take-le i s (omega arith)) in
        before k n (sym (get_or-take i s k 0 n) ∙ q)

apart : (b c : ℕ) → (b ≡ c → ⊥) → eqb b c ≡ false
apart b c ne = grind (arith, nat_tests)

clear_tail : (b c : ℕ) (s : List ℕ) → Clear b (c ∷ s) → Clear b s
clear_tail b c s h k l = h (suc k) (omega arith)

clear_head : (b c : ℕ) (s : List ℕ) → Clear b (c ∷ s) → eqb c b ≡ false
clear_head b c s h = apart c b (h 0 (omega arith))

pub fields_whole : (p : List ℕ) → Clear space p → fields p ≡ p ∷ []
fields_whole [] h = refl
fields_whole (c ∷ p) h = rw (clear_head space c p h, fields_whole p (clear_tail space c p h)) refl

pub fields_before : (p t : List ℕ) → Clear space p → fields (p ++ (space ∷ t)) ≡ p ∷ fields t
fields_before [] t h = refl
fields_before (c ∷ p) t h = rw (clear_head space c p h, fields_before p t (clear_tail space c p h)) refl

-- the first field, and those that are left
pub fields_cut : (s p : List ℕ) (t : Option (Bor (List ℕ))) → Cut space s p t → fields s ≡ p ∷ fields_left t
fields_cut s p None h = ap fields h.0 ∙ fields_whole p h.1
fields_cut s p (Some t) h = ap fields h.0 ∙ fields_before p t.now h.1

lines_whole : (c : ℕ) (p : List ℕ) → Clear line_feed (c ∷ p) → lines (c ∷ p) ≡ (c ∷ p) ∷ []
lines_whole c [] h = rw (clear_head line_feed c [] h) refl
lines_whole c (d ∷ p) h =
    rw (clear_head line_feed c (d ∷ p) h, lines_whole d p (clear_tail line_feed c (d ∷ p) h)) refl

lines_before : (p t : List ℕ) → Clear line_feed p → lines (p ++ (line_feed ∷ t)) ≡ p ∷ lines t
lines_before [] t h = refl
lines_before (c ∷ p) t h = rw (clear_head line_feed c p h, lines_before p t (clear_tail line_feed c p h)) refl

-- the first line of a text that has one, and those that are left
pub lines_cut : (s p : List ℕ) (t : Option (Bor (List ℕ))) → 0 < length s → Cut line_feed s p t → lines s ≡ p ∷ lines_left t
lines_cut s [] None l h = absurd (omega (arith, ap length h.0))
lines_cut s (c ∷ p) None l h = ap lines h.0 ∙ lines_whole c p h.1
lines_cut s p (Some t) l h = ap lines h.0 ∙ lines_before p t.now h.1
