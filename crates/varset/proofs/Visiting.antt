-- What a loop does that goes through the members of a set one by one.
use Rattle.std.proofs.Common.{◌≡◌, ℕ, ◌<◌, Bool, true, false, cond, eqb, ◌≢◌, ◌⊎◌, List, length, get_or, set, sym, ap, ◌∙◌, inl, inr, arith, get_or-set_other, get_or-set_same}
use Rattle.std.proofs.lemmas.Bool.{cases_Bool, eqb-true, eqb-false}
use Rattle.varset.specs.Members.{minus, Empty}

module _ {A : Type 0} (none : A) (new : ℕ → A) where
  -- a list once the places in the set have their new values
  abbrev pub renewed : (ℕ → Bool) → List A → ℕ → A
  renewed places xs v = cond (places v) (new v) (get_or xs v none)

  -- a place renewed now needn't be renewed any more
  pub renewed_step : (rest after : ℕ → Bool) (w : ℕ) (xs : List A) → w < length xs → rest w ≡ true → ((v : ℕ) → after v ≡ minus rest w v)
      → (v : ℕ) → renewed after (set xs w (new w)) v ≡ renewed rest xs v
  renewed_step rest after w xs h i a v = go (cases_Bool (eqb v w))
    where
      go : (eqb v w ≡ true) ⊎ (eqb v w ≡ false) → renewed after (set xs w (new w)) v ≡ renewed rest xs v
      go (inl e) =
          let q : v ≡ w = eqb-true v w e in
          let out : after v ≡ false = let m = a v in grind arith in
          let in_rest : rest v ≡ true = ap rest q ∙ i in
          let there : get_or (set xs w (new w)) v none ≡ new v = ap (λ (u : ℕ). get_or (set xs w (new w)) u none) q ∙ get_or-set_same xs w (new w) none h ∙ ap new (sym q) in
          rw (out, in_rest) there
      go (inr e) =
          let ne : v ≢ w = eqb-false v w e in
          let same : after v ≡ rest v = let m = a v in grind arith in
          rw (same, get_or-set_other xs w v (new w) none ne)

  -- with no place left, all is renewed
  pub renewed_all : (rest : ℕ → Bool) (xs : List A) → Empty rest → (v : ℕ) → renewed rest xs v ≡ get_or xs v none
  renewed_all rest xs e v = rw (e v)
