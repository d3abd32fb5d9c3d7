-- The lines of a text, with their LFs, are the text.
use Rattle.std.proofs.Common.{◌≡◌, ℕ, zero, suc, Bool, true, false, cond, eqb, List, [], ◌∷◌, ◌++◌, refl, ap, arith, eqb-true}
use Rattle.std.proofs.lemmas.Bool.Decides.{nat_tests}
use Rattle.std.specs.List.{AllByRecursion as All}
use Rattle.schedule.specs.Pieces.{line_feed, longer, lines, Clear}
use Rattle.schedule.specs.Lines.{closed, with_feeds, Whole}

clear_none : Clear line_feed []
clear_none k l e = omega arith

clear_more : (b : ℕ) (s : List ℕ) → eqb b line_feed ≡ false → Clear line_feed s → Clear line_feed (b ∷ s)
clear_more b s q h zero l e = let ne : b ≡ line_feed → ⊥ = grind (arith, nat_tests) in ne e
clear_more b s q h (suc k) l e = h k (omega arith) e

lines_clear : (s : List ℕ) → All (Clear line_feed) (lines s)
lines_clear [] = tt
lines_clear (b ∷ s) = by (eqb b line_feed) refl (lines s) (lines_clear s)
  where
    by : (t : Bool) → eqb b line_feed ≡ t → (ls : List (List ℕ)) → All (Clear line_feed) ls → All (Clear line_feed) (cond t ([] ∷ ls) (longer b ls))
    by true q ls h = (clear_none, h)
    by false q [] h = (clear_more b [] q clear_none, tt)
    by false q (l ∷ ls) h = (clear_more b l q h.0, h.1)

lines_joined : (s : List ℕ) → with_feeds (lines s) ≡ s ++ cond (closed s) [] (line_feed ∷ [])
lines_joined [] = refl
lines_joined (b ∷ []) = by (eqb b line_feed) refl
  where
    by : (t : Bool) → eqb b line_feed ≡ t → with_feeds (cond t ([] ∷ []) (longer b [])) ≡ b ∷ cond t [] (line_feed ∷ [])
    by true q = let e = eqb-true b line_feed q in cc
    by false q = refl
lines_joined (b ∷ c ∷ s) = by (eqb b line_feed) refl (lines (c ∷ s)) (lines_joined (c ∷ s))
  where
    by : (t : Bool) → eqb b line_feed ≡ t → (ls : List (List ℕ)) → with_feeds ls ≡ c ∷ (s ++ cond (closed (c ∷ s)) [] (line_feed ∷ []))
        → with_feeds (cond t ([] ∷ ls) (longer b ls)) ≡ b ∷ c ∷ (s ++ cond (closed (c ∷ s)) [] (line_feed ∷ []))
    by true q ls h = let e = eqb-true b line_feed q in cc
    by false q [] h = absurd (cc)
    by false q (l ∷ ls) h = ap (λ (x : List ℕ). b ∷ x) h

pub whole : (s : List ℕ) → Whole s (lines s)
whole s = record { clear = lines_clear s; rejoined = lines_joined s }
