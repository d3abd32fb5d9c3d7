-- What `map` of an array gives, where the closure computes a function.
use Rattle.std.proofs.Common.{◌≡◌, ℕ, zero, suc, ◌+◌, ◌<◌, ◌≤◌, List, get_or, sym, subst, ap, ◌∙◌, inl, inr, arith}
use Rattle.std.proofs.lemmas.Bool.{cases_eq}
use Rattle.std.specs.Array.{MapsFrom}
use Rattle.std.specs.Fn.{Called}
use denote.Param.Members.{Mut}

module _ {F A B : Type 0} (g : Mut F (A × Unit {0}) B) (h : A → B) (f : F)
    (pure : (x : A) (y : B) (q : F) → Called g f (x, tt) y q → (q ≡ f) × (y ≡ h x)) where
  pub mapped_at : (xs : List A) (ys : List B) (i n : ℕ) → MapsFrom g f xs ys i n → (k : ℕ) (d : A) (e : B) → i ≤ k → k < i + n
      → get_or ys k e ≡ h (get_or xs k d)
  mapped_at xs ys i zero m k d e a b = absurd (omega arith)
  mapped_at xs ys i (suc n) (q, x, y, in_xs, in_ys, c, rest) k d e a b =
      let said : (q ≡ f) × (y ≡ h x) = pure x y q c in
      elim (cases_eq k i) [
        | inl j ↦
            ap (λ m. get_or ys m e) j ∙ in_ys.1 e ∙ said.1 ∙ ap h (sym (ap (λ m. get_or xs m d) j ∙ in_xs.1 d))
        | inr j ↦
            mapped_at xs ys (i + 1) n (subst (λ (p : F). MapsFrom g p xs ys (i + 1) n) said.0 rest) k d e (omega arith) (omega arith)
      ]
