-- Truth values, options and changed functions: what every proof here uses.
use Rattle.std.proofs.Common.{◌≡◌, ℕ, Bool, true, false, cond, ◌≢◌, sym, refl, subst}
use Rattle.std.proofs.lemmas.Bool.{both_ways, eq-eqb, ne_eqb, false_from_ne_true}
use native.Mathlib.Decide.{ℕ_discrete}
use mathlib.Core.Option.{Option, none, some, get_or}
use Rattle.history.specs.Update.{at}

pub no_some {ℓ} : {A : Type ℓ} {o : Option A} {x : A} → o ≡ none → o ≡ some x → ⊥
no_some p q = cc

pub contraposed : (x y : Bool) → (x ≡ true → y ≡ true) → y ≡ false → x ≡ false
contraposed x y h e = false_from_ne_true x (λ k. both_ways y e (h k))

pub at_same {ℓ} : {A : Type ℓ} (f : ℕ → A) (k : ℕ) (y : A) → at f k y k ≡ y
at_same f k y = rw (eq-eqb k k refl)

pub at_other {ℓ} : {A : Type ℓ} (f : ℕ → A) (k : ℕ) (y : A) (i : ℕ) → i ≢ k → at f k y i ≡ f i
at_other f k y i h = rw (ne_eqb i k h)

pub at_elim {ℓ κ} : {A : Type ℓ} (P : A → Type κ) (f : ℕ → A) (k : ℕ) (y : A) (i : ℕ) → (i ≡ k → P y) → (i ≢ k → P (f i)) → P (at f k y i)
at_elim P f k y i a b = go (ℕ_discrete i k)
  where
    go : Dec (i ≡ k) → P (at f k y i)
    go (yes e) = subst P (sym (subst (λ (j : ℕ). at f k y j ≡ y) (sym e) (at_same f k y))) (a e)
    go (no ne) = subst P (sym (at_other f k y i ne)) (b ne)

-- an option that is there exactly if a test passes
pub marked_value {ℓ} : {A : Type ℓ} (o : Option A) (w : Bool) (p s : A) → o ≡ cond w (some p) none → get_or o s ≡ cond w p s
marked_value o true p s e = rw e
marked_value o false p s e = rw e

pub marked_none {ℓ} : {A : Type ℓ} (o : Option A) (w : Bool) (p : A) → o ≡ cond w (some p) none → w ≡ false → o ≡ none
marked_none o w p e h = rw h at e

pub marked_some {ℓ} : {A : Type ℓ} (o : Option A) (w : Bool) (p : A) → o ≡ cond w (some p) none → w ≡ true → o ≡ some p
marked_some o w p e h = rw h at e

pub marked_off {ℓ} : {A : Type ℓ} (o : Option A) (w : Bool) (p : A) → o ≡ cond w (some p) none → o ≡ none → w ≡ false
marked_off o true p e h = absurd (no_some h e)
marked_off o false p e h = refl
