-- The members of a set in rising order, as the list that going through them gives.
use Rattle.std.proofs.Common.{◌≡◌, ℕ, zero, suc, ◌+◌, ◌<◌, ◌≤◌, Bool, true, false, ◌&&◌, ◌||◌, eqb, List, [], ◌∷◌, ◌++◌, Option, get_or, add-one, length, sym, refl, ap, ◌∙◌, inl, inr, arith}
use Rattle.std.proofs.lemmas.Bool.{cases_Bool, cases_eq, ne_eqb}
use Rattle.std.proofs.lemmas.Bool.Decides.{nat_tests}
use Rattle.std.proofs.lemmas.List.{map-id}
use Rattle.std.proofs.lemmas.List.FromFn.{map-range_with_len_more}
use Rattle.std.proofs.lemmas.List.Folds.{list_any-append}
use Rattle.std.proofs.lemmas.List.Elements.{filter_passes}
use Rattle.std.proofs.lemmas.Iterator.{YieldsList}
use Rattle.std.proofs.lemmas.Iterator.Consumers.{YieldsList-from_shown}
use Rattle.std.specs.List.{range_with_len, filter, list_any}
use Rattle.policy.specs.Facts.{some_below}
use Rattle.policy.specs.Limits.{variables}
use Rattle.varset.specs.Members.{member, minus, Empty, Least, HandsOut}
use Rattle.varset.specs.declared.VarSet.{VarSet}
use Rattle.varset.specs.declared.iterating.Members.{Members}
use Rattle.varset.proofs.Below.{member_below}

-- the members from k on, below k + n
abbrev pub listed : (ℕ → Bool) → ℕ → ℕ → List ℕ
listed set k n = filter set (range_with_len k n)

-- an empty set has none
listed_none : (set : ℕ → Bool) (k n : ℕ) → Empty set → listed set k n ≡ []
listed_none set k zero e = refl
listed_none set k (suc n) e = let r : listed set (k + 1) n ≡ [] = listed_none set (k + 1) n e in rw (e k) r

-- sets that agree from k on
listed_same : (set other : ℕ → Bool) (k n : ℕ) → ((v : ℕ) → k ≤ v → set v ≡ other v) → listed set k n ≡ listed other k n
listed_same set other k zero a = refl
listed_same set other k (suc n) a =
    let e : set k ≡ other k = a k (omega arith) in
    let r : listed set (k + 1) n ≡ listed other (k + 1) n = listed_same set other (k + 1) n (λ v h. a v (omega arith)) in
    grind (arith)

-- the least comes first, and then those of the set without it
listed_least : (set after : ℕ → Bool) (w k n : ℕ) → Least set w → ((v : ℕ) → after v ≡ minus set w v) → k ≤ w → w < k + n
    → listed set k n ≡ w ∷ listed after k n
listed_least set after w k zero l a h i = absurd (omega arith)
listed_least set after w k (suc n) l a h i =
    elim (cases_eq k w) [
      | inl e ↦
          let there : set k ≡ true = ap set e ∙ l.in_set in
          let gone : after k ≡ false = let m = a k in grind (arith, nat_tests) in
          let same : listed set (k + 1) n ≡ listed after (k + 1) n =
          listed_same set after (k + 1) n
          (λ v g. let m = a v in let o : eqb v w ≡ false = ne_eqb v w (λ z. omega arith) in grind arith) in
          rw (there, gone, same, e)
      | inr e ↦
          let out : set k ≡ false = l.none_below k (omega arith) in
          let gone : after k ≡ false = let m = a k in grind (arith, nat_tests) in
          rw (out, gone) (listed_least set after w (k + 1) n l a (omega arith) (omega arith))
    ]

-- a test passes at some member below k + n
some_listed : (set test : ℕ → Bool) (k n : ℕ) → list_any test (listed set k n) ≡ list_any (λ v. set v && test v) (range_with_len k n)
some_listed set test k zero = refl
some_listed set test k (suc n) =
    let r : list_any test (listed set (k + 1) n) ≡ list_any (λ v. set v && test v) (range_with_len (k + 1) n) = some_listed set test (k + 1) n in
    elim (cases_Bool (set k)) [
      | inl e ↦ rw (e, r)
      | inr e ↦ rw e r
    ]

range_more : (n : ℕ) → range_with_len 0 (suc n) ≡ range_with_len 0 n ++ n ∷ []
range_more n =
    sym (map-id (range_with_len 0 (suc n)))
    ∙ rw add-one at (map-range_with_len_more (λ (x : ℕ). x) 0 n n (omega arith))
    ∙ ap (λ xs. xs ++ n ∷ []) (map-id (range_with_len 0 n))

-- a test passes at some place below n
some_range : (test : ℕ → Bool) (n : ℕ) → list_any test (range_with_len 0 n) ≡ some_below n test
unfolding some_below
some_range test zero = refl
some_range test (suc n) =
    let r : list_any test (range_with_len 0 n) ≡ some_below n test = some_range test n in
    let e : list_any test (range_with_len 0 (suc n)) ≡ (list_any test (range_with_len 0 n) || list_any test (n ∷ [])) =
    ap (list_any test) (range_more n) ∙ list_any-append test (range_with_len 0 n) (n ∷ []) in
    grind arith

-- what calls of `next` give: the members of what is left, one by one
abbrev pub steps : Members → Option ℕ → Members → Type 0
steps s r t = HandsOut (member s.rest) r (member t.rest)

-- the members of a set of variables
abbrev pub members : VarSet → List ℕ
members s = listed (member s) 0 variables

pub gives_members : (s : Members) → YieldsList steps (λ v. v) s (members s.rest)
gives_members =
    YieldsList-from_shown steps (λ v. v) (λ s. members s.rest)
    (λ s t h. ap length (listed_none (member s.rest) 0 variables h.0))
    (λ s w t h.
    listed_least (member s.rest) (member t.rest) w 0 variables h.0 h.1 (omega arith)
    (omega (arith, member_below s.rest w h.0.in_set)))

-- each of them is a variable
pub members_below : (s : VarSet) (v k : ℕ) → k < length (members s) → v ≡ get_or (members s) k v → v < variables
members_below s v k h e =
    member_below s v (ap (member s) e ∙ filter_passes (member s) (range_with_len 0 variables) k v h)

-- a test passes at one of them
pub some_member : (s : VarSet) (test : ℕ → Bool) → list_any test (members s) ≡ some_below variables (λ v. member s v && test v)
some_member s test =
    some_listed (member s) test 0 variables ∙ some_range (λ v. member s v && test v) variables
