-- Laws of the accesses of a transaction that runs alone.
use Rattle.std.proofs.Common.{◌≡◌, ℕ, ◌<◌, ◌⊎◌, List, [], ◌∷◌, ◌++◌, map, ℤ, sym, refl, ap, ◌∙◌, inl, inr, arith}
use native.Mathlib.Decide.{ℕ_discrete}
use mathlib.Core.List.{Memᴰ}
use mathlib.Core.Option.{Option, none, some}
use Rattle.history.specs.Update.{at}
use Rattle.history.specs.Transactions.{Access, got, put, gots}
use Rattle.history.specs.Alone.{pend, seen, Exact, Answered, Touches}
use Rattle.history.proofs.Logic.{at_other}

pub pend-++ : (p : ℕ → Option ℤ) (ds es : List Access) → pend p (ds ++ es) ≡ pend (pend p ds) es
pend-++ p [] es = refl
pend-++ p (got n v x ∷ ds) es = pend-++ p ds es
pend-++ p (put n v x ∷ ds) es = pend-++ (at p v (some x)) ds es

pub exact-++ : (s : ℕ → ℤ) (p : ℕ → Option ℤ) (ds es : List Access) → Exact s p ds → Exact s (pend p ds) es → Exact s p (ds ++ es)
exact-++ s p [] es h k = k
exact-++ s p (got n v x ∷ ds) es h k = (h.0, exact-++ s p ds es h.1 k)
exact-++ s p (put n v x ∷ ds) es h k = exact-++ s (at p v (some x)) ds es h k

-- only what was answered from the shared values counts
pub exact_agree : (s s' : ℕ → ℤ) (p : ℕ → Option ℤ) (ds : List Access)
    → ((v : ℕ) (x : ℤ) → Answered p ds v x → s' v ≡ s v) → Exact s p ds → Exact s' p ds
exact_agree s s' p [] a h = tt
exact_agree s s' p (got n v x ∷ ds) a h = (go (p v) refl, exact_agree s s' p ds (λ w y r. a w y (inr r)) h.1)
  where
    go : (o : Option ℤ) → p v ≡ o → x ≡ seen s' p v
    go none e = let k : x ≡ s v = rw e at h.0 in rw e (k ∙ sym (a v x (inl (refl, refl, e))))
    go (some y) e = let k : x ≡ y = rw e at h.0 in rw e k
exact_agree s s' p (put n v x ∷ ds) a h = exact_agree s s' (at p v (some x)) ds a h

pub exact_answered : (s : ℕ → ℤ) (p : ℕ → Option ℤ) (ds : List Access) (v : ℕ) (x : ℤ) → Exact s p ds → Answered p ds v x → s v ≡ x
exact_answered s p [] v x h a = elim a [ ]
exact_answered s p (got n w y ∷ ds) v x h (inl r) =
    let k : y ≡ s w = rw r.2 at h.0 in ap s (sym r.0) ∙ sym k ∙ r.1
exact_answered s p (got n w y ∷ ds) v x h (inr r) = exact_answered s p ds v x h.1 r
exact_answered s p (put n w y ∷ ds) v x h a = exact_answered s (at p w (some y)) ds v x h a

pub answered-++ : (p : ℕ → Option ℤ) (ds es : List Access) (v : ℕ) (x : ℤ) → Answered p (ds ++ es) v x → Answered p ds v x ⊎ Answered (pend p ds) es v x
answered-++ p [] es v x a = inr a
answered-++ p (got n w y ∷ ds) es v x (inl r) = inl (inl r)
answered-++ p (got n w y ∷ ds) es v x (inr r) = elim (answered-++ p ds es v x r) [ inl q ↦ inl (inr q) | inr q ↦ inr q ]
answered-++ p (put n w y ∷ ds) es v x a = answered-++ (at p w (some y)) ds es v x a

pub answered_left : (p : ℕ → Option ℤ) (ds es : List Access) (v : ℕ) (x : ℤ) → Answered p ds v x → Answered p (ds ++ es) v x
answered_left p [] es v x a = elim a [ ]
answered_left p (got n w y ∷ ds) es v x (inl r) = inl r
answered_left p (got n w y ∷ ds) es v x (inr r) = inr (answered_left p ds es v x r)
answered_left p (put n w y ∷ ds) es v x a = answered_left (at p w (some y)) ds es v x a

pub answered_right : (p : ℕ → Option ℤ) (ds es : List Access) (v : ℕ) (x : ℤ) → Answered (pend p ds) es v x → Answered p (ds ++ es) v x
answered_right p [] es v x a = a
answered_right p (got n w y ∷ ds) es v x a = inr (answered_right p ds es v x a)
answered_right p (put n w y ∷ ds) es v x a = answered_right (at p w (some y)) ds es v x a

-- every access was made before call k
abbrev pub Within : ℕ → List Access → Type 0
Within k [] = Unit {0}
Within k (got n v x ∷ ds) = (n < k) × Within k ds
Within k (put n v x ∷ ds) = (n < k) × Within k ds

pub within-++ : (k : ℕ) (ds es : List Access) → Within k ds → Within k es → Within k (ds ++ es)
within-++ k [] es h g = g
within-++ k (got n v x ∷ ds) es h g = (h.0, within-++ k ds es h.1 g)
within-++ k (put n v x ∷ ds) es h g = (h.0, within-++ k ds es h.1 g)

pub within_more : (k l : ℕ) (ds : List Access) → k < l → Within k ds → Within l ds
within_more k l [] g h = tt
within_more k l (got n v x ∷ ds) g h = (omega arith, within_more k l ds g h.1)
within_more k l (put n v x ∷ ds) g h = (omega arith, within_more k l ds g h.1)

-- one of the accesses read or wrote v before call k
abbrev pub SomeTouches : ℕ → ℕ → List Access → Type 0
SomeTouches k v ds = (d : Access) × Memᴰ d ds × Touches k v d

pub later : (k v : ℕ) (d : Access) (ds : List Access) → SomeTouches k v ds → SomeTouches k v (d ∷ ds)
later k v d ds r = (r.0, Memᴰ.tail r.1, r.2)

pub answered_touches : (k : ℕ) (p : ℕ → Option ℤ) (ds : List Access) (v : ℕ) (x : ℤ) → Within k ds → Answered p ds v x → SomeTouches k v ds
answered_touches k p [] v x h a = elim a [ ]
answered_touches k p (got n w y ∷ ds) v x h (inl r) = (got n w y, Memᴰ.head refl, (r.0, h.0))
answered_touches k p (got n w y ∷ ds) v x h (inr r) = later k v (got n w y) ds (answered_touches k p ds v x h.1 r)
answered_touches k p (put n w y ∷ ds) v x h a = later k v (put n w y) ds (answered_touches k (at p w (some y)) ds v x h.1 a)

-- what is pending was so before, or was written
pub pend_touches : (k : ℕ) (p : ℕ → Option ℤ) (ds : List Access) (v : ℕ) → Within k ds → (pend p ds v ≡ p v) ⊎ SomeTouches k v ds
pend_touches k p [] v h = inl refl
pend_touches k p (got n w y ∷ ds) v h = elim (pend_touches k p ds v h.1) [ inl e ↦ inl e | inr r ↦ inr (later k v (got n w y) ds r) ]
pend_touches k p (put n w y ∷ ds) v h = go (ℕ_discrete v w) (pend_touches k (at p w (some y)) ds v h.1)
  where
    go : Dec (v ≡ w) → (pend (at p w (some y)) ds v ≡ at p w (some y) v) ⊎ SomeTouches k v ds
        → (pend (at p w (some y)) ds v ≡ p v) ⊎ SomeTouches k v (put n w y ∷ ds)
    go (yes e) r = inr (put n w y, Memᴰ.head refl, (sym e, h.0))
    go (no ne) (inl e) = inl (e ∙ at_other p w (some y) v ne)
    go (no ne) (inr r) = inr (later k v (put n w y) ds r)

-- the reads of vs in call n, where `see` gives the values
module _ (p : ℕ → Option ℤ) (n : ℕ) (see : ℕ → ℤ) where
  pub pend_gots : (vs : List ℕ) → pend p (gots n vs (map see vs)) ≡ p
  pend_gots [] = refl
  pend_gots (v ∷ vs) = pend_gots vs

  pub exact_gots : (s : ℕ → ℤ) (vs : List ℕ) → ((v : ℕ) → Memᴰ v vs → see v ≡ seen s p v) → Exact s p (gots n vs (map see vs))
  exact_gots s [] h = tt
  exact_gots s (v ∷ vs) h = (h v (Memᴰ.head refl), exact_gots s vs (λ w m. h w (Memᴰ.tail m)))

  pub gots_answered : (vs : List ℕ) (v : ℕ) → Memᴰ v vs → p v ≡ none → (x : ℤ) × Answered p (gots n vs (map see vs)) v x
  gots_answered [] v m e = elim m [ ]
  gots_answered (w ∷ vs) v (Memᴰ.head q) e = (see w, inl (sym q, refl, ap p (sym q) ∙ e))
  gots_answered (w ∷ vs) v (Memᴰ.tail m) e = let k = gots_answered vs v m e in (k.0, inr k.1)

  pub answered_gots : (vs : List ℕ) (v : ℕ) (x : ℤ) → Answered p (gots n vs (map see vs)) v x → Memᴰ v vs × (p v ≡ none)
  answered_gots [] v x a = elim a [ ]
  answered_gots (w ∷ vs) v x (inl q) = (Memᴰ.head (sym q.0), ap p (sym q.0) ∙ q.2)
  answered_gots (w ∷ vs) v x (inr q) = let k = answered_gots vs v x q in (Memᴰ.tail k.0, k.1)

module _ (k n : ℕ) (see : ℕ → ℤ) (h : n < k) where
  pub within_gots : (vs : List ℕ) → Within k (gots n vs (map see vs))
  within_gots [] = tt
  within_gots (v ∷ vs) = (h, within_gots vs)

  pub gots_touches : (vs : List ℕ) (v : ℕ) → Memᴰ v vs → SomeTouches k v (gots n vs (map see vs))
  gots_touches [] v m = elim m [ ]
  gots_touches (w ∷ vs) v (Memᴰ.head q) = (got n w (see w), Memᴰ.head refl, (sym q, h))
  gots_touches (w ∷ vs) v (Memᴰ.tail m) = later k v (got n w (see w)) (gots n vs (map see vs)) (gots_touches vs v m)
