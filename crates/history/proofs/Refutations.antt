-- The refuted histories, by computation.
use Rattle.std.proofs.Common.{◌≡◌, ℕ, Bool, true, false, cond, eqb, ◌⊎◌, List, [], ◌∷◌, ℤ, pos, sym, refl, ap, ◌∙◌, subst, inl, inr, lit<, rules}
use mathlib.Core.List.{Memᴰ, Permᴰ}
use mathlib.Core.Option.{Option, none, some}
use Rattle.history.specs.Steps.{zeros}
use Rattle.history.specs.Transactions.{Transaction, got, put, committed, begun, read_off}
use Rattle.history.specs.Serial.{replay, AllExact, InOrder}
use Rattle.history.specs.Law.{SerialOrder, Stood, just, earlier, OneMoment, HasRival, Lasts}
use Rattle.history.specs.Refuted.{five, stale, unshared, dirty, dirty_reader, torn, torn_reader, lonely, lonely_reader, Refuted}
use Rattle.history.proofs.Logic.{no_some}

-- the orders of two
module _ {A : Type 0} where
  perm_none : {xs ys : List A} → Permᴰ xs ys → ys ≡ [] → xs ≡ []
  perm_none Permᴰ.nil e = refl
  perm_none (Permᴰ.cons q d) e = absurd (cc)
  perm_none (Permᴰ.swap p q) e = absurd (cc)
  perm_none (Permᴰ.trans d c) e = perm_none d (perm_none c e)

  perm_one : {xs ys : List A} (x : A) → Permᴰ xs ys → ys ≡ x ∷ [] → xs ≡ x ∷ []
  perm_one x Permᴰ.nil e = absurd (cc)
  perm_one x (Permᴰ.cons {l₁ = l₁} {l₂ = l₂} q d) e = let t : l₂ ≡ [] = cc in let s : l₁ ≡ [] = perm_none d t in cc
  perm_one x (Permᴰ.swap {b' = b'} {l = l} p q) e = absurd (cc)
  perm_one x (Permᴰ.trans d c) e = perm_one x d (perm_one x c e)

  pub perm_two : {xs ys : List A} (x y : A) → Permᴰ xs ys → ys ≡ x ∷ y ∷ [] → (xs ≡ x ∷ y ∷ []) ⊎ (xs ≡ y ∷ x ∷ [])
  perm_two x y Permᴰ.nil e = absurd (cc)
  perm_two x y (Permᴰ.cons {l₁ = l₁} {l₂ = l₂} q d) e = let t : l₂ ≡ y ∷ [] = cc in let s : l₁ ≡ y ∷ [] = perm_one y d t in inl cc
  perm_two x y (Permᴰ.swap {l = l} p q) e = let t : l ≡ [] = cc in inr cc
  perm_two x y (Permᴰ.trans d c) e = elim (perm_two x y c e) [
    | inl k ↦ perm_two x y d k
    | inr k ↦ elim (perm_two y x d k) [ inl j ↦ inr j | inr j ↦ inl j ]
  ]

stale_unordered : SerialOrder (read_off stale) five → ⊥
stale_unordered s = go (perm_two reader writer s.each_once refl)
  where
    reader : Transaction
    reader = record { task = 1; first = 3; last = 5; accesses = got 4 5 (pos 0) ∷ []; fate = committed }

    writer : Transaction
    writer = record { task = 0; first = 0; last = 2; accesses = put 1 5 (pos 7) ∷ []; fate = committed }

    go : (s.order ≡ reader ∷ writer ∷ []) ⊎ (s.order ≡ writer ∷ reader ∷ []) → ⊥
    go (inl e) = (subst InOrder e s.in_order).0 writer (Memᴰ.head refl) (lit< tt)
    go (inr e) = let q : pos 0 ≡ pos 7 = (subst (AllExact zeros) e s.exact).1.0.0 in cc

seven_zero : pos 7 ≡ pos 0 → ⊥
seven_zero q = cc

unshared_unordered : SerialOrder (read_off unshared) zeros → ⊥
unshared_unordered s = seven_zero (subst (λ (Ts : List Transaction). replay zeros Ts 5 ≡ pos 0) (perm_one writer s.each_once refl) (s.ends 5))
  where
    writer : Transaction
    writer = record { task = 0; first = 0; last = 2; accesses = put 1 5 (pos 7) ∷ []; fate = committed }

-- whatever holds of all moments holds of the one that stood
module _ (Q : (ℕ → ℤ) → Type 0) where
  abbrev AllMoments : List (ℕ → ℤ) → Type 0
  AllMoments [] = Unit {0}
  AllMoments (s ∷ ss) = Q s × AllMoments ss

  of_stood : {ss : List (ℕ → ℤ)} {i : ℕ} {s : ℕ → ℤ} → Stood ss i s → AllMoments ss → Q s
  of_stood just h = h.0
  of_stood (earlier k) h = of_stood k h.1

-- variable 5 is 0 at every moment
dirty_momentless : OneMoment (read_off dirty) dirty_reader → ⊥
dirty_momentless m =
    seven_zero (sym (m.agree 5 (pos 7) (inl (refl, refl, refl))) ∙ of_stood (λ s. s 5 ≡ pos 0) m.stood (refl, (refl, (refl, (refl, (refl, tt))))))

-- the two variables are alike at every moment
torn_momentless : OneMoment (read_off torn) torn_reader → ⊥
torn_momentless m =
    seven_zero (sym (sym (m.agree 5 (pos 0) (inl (refl, refl, refl)))
    ∙ of_stood (λ s. s 5 ≡ s 6) m.stood (refl, (refl, (refl, (refl, (refl, (refl, (refl, tt))))))) ∙ m.agree 6 (pos 7) (inr (inl (refl, refl, refl)))))

none_there : (o : Option Transaction) (b : Bool) → cond b none (cond b o none) ≡ none
none_there o true = refl
none_there o false = refl

lonely_unrivalled : HasRival (read_off lonely) lonely_reader (some 5) → ⊥
lonely_unrivalled h = go h.rival.lasts
  where
    go : Lasts (read_off lonely) h.rival.rival 0 → ⊥
    go (inl l) = only l.0
      where
        only : Memᴰ h.rival.rival (lonely_reader ∷ []) → ⊥
        only (Memᴰ.head e) = h.rival.other (ap (λ (T : Transaction). T.task) e)
        only (Memᴰ.tail m) = elim m [ ]
    go (inr e) = no_some (none_there (some (begun 0 0)) (eqb h.rival.rival.task 0)) e

pub refuted : Refuted
refuted = search (rules, stale_unordered, unshared_unordered, dirty_momentless, torn_momentless, lonely_unrivalled)
