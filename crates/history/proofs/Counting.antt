-- The bounds of the number of reads that a collect makes.
use Rattle.std.proofs.Common.{◌≡◌, ℕ, suc, ◌≤◌, true, eqb, List, [], ◌∷◌, ◌++◌, length, refl, arith, length-append}
use Rattle.std.proofs.lemmas.Bool.{eq-eqb, or_left, or_right}
use mathlib.Core.List.{Memᴰ}
use Rattle.history.specs.Steps.{ReadsFor, none_made, made, left_out}
use Rattle.history.specs.Counts.{stands_in, different, CountBounds}
use Rattle.history.proofs.GrantedReads.{made_only, made_short}

-- what is in a list is found in it
found : (v : ℕ) (vs : List ℕ) → Memᴰ v vs → stands_in v vs ≡ true
found v [] m = elim m [ ]
found v (w ∷ vs) (Memᴰ.head e) = or_left (eqb v w) (stands_in v vs) (eq-eqb v w e)
found v (w ∷ vs) (Memᴰ.tail m) = or_right (eqb v w) (stands_in v vs) (found v vs m)

stands_still : (w : ℕ) (vs : List ℕ) (v : ℕ) → stands_in w vs ≡ true → stands_in w (vs ++ (v ∷ [])) ≡ true
stands_still w [] v h = absurd (cc)
stands_still w (u ∷ vs) v h = let more = stands_still w vs v in grind arith

stands_last : (vs : List ℕ) (v : ℕ) → stands_in v (vs ++ (v ∷ [])) ≡ true
stands_last [] v = rw (eq-eqb v v refl)
stands_last (u ∷ vs) v = or_right (eqb v u) (stands_in v (vs ++ (v ∷ []))) (stands_last vs v)

-- one more variable adds one at most, and nothing if it was there
one_more : (vs : List ℕ) (v : ℕ) → different (vs ++ (v ∷ [])) ≤ suc (different vs)
one_more [] v = omega arith
one_more (w ∷ vs) v = let more = one_more vs v in let still = stands_still w vs v in grind arith

no_more : (vs : List ℕ) (v : ℕ) → stands_in v vs ≡ true → different (vs ++ (v ∷ [])) ≤ different vs
no_more [] v h = absurd (cc)
no_more (w ∷ vs) v h =
    let more = no_more vs v in let most = one_more vs v in let still = stands_still w vs v in let last = stands_last vs v in grind arith

enough : {vs rs : List ℕ} → ReadsFor vs rs → different vs ≤ length rs
enough none_made = omega arith
enough (made {vs = vs} {rs = rs} v r) = let h = enough r in let k = one_more vs v in rw (length-append rs (v ∷ [])) (omega arith)
enough (left_out {vs = vs} v i r) = let h = enough r in let k = no_more vs v (found v vs (made_only r v i)) in omega arith

pub count_bounds : CountBounds
count_bounds vs rs r = (enough r, made_short r)
