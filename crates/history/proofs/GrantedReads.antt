-- Several granted reads of one task, one after another, as one change of the facts.
use Rattle.std.proofs.Common.{◌≡◌, ℕ, ◌≤◌, Bool, true, false, not, ◌≢◌, ◌⊎◌, List, [], ◌∷◌, ◌++◌, map, length, sym, ap, ◌∙◌, subst, inl, inr, arith, length-append, rules}
use Rattle.std.proofs.lemmas.Bool.{cases_Bool, or_cases, not-true}
use native.Mathlib.Decide.{ℕ_discrete}
use mathlib.Core.List.Memᴰ
use mathlib.Core.List.{Memᴰ}
use Rattle.policy.specs.Facts.{Facts}
use Rattle.policy.specs.Moves.{Move, Only, Others, Beside, HasRead, Keeps}
use Rattle.policy.specs.Moves.{read as reads_variable}
use Rattle.history.specs.Steps.{ReadsFor, none_made, made, left_out, Chain}

-- another active task u, after granted accesses to vs
pub record BesideAll (vs : List ℕ) (f g : Facts) (u : ℕ) : Type 0 where
  pub reads : (w : ℕ) → g.reads u w ≡ f.reads u w
  pub writes : (w : ℕ) → g.writes u w ≡ f.writes u w
  pub behind : g.behind u ≡ f.behind u
  pub no_read_kept : (w : ℕ) → f.no_read u w ≡ true → g.no_read u w ≡ true
  pub no_read_new : (w : ℕ) → g.no_read u w ≡ true → (f.no_read u w ≡ true) ⊎ Memᴰ w vs
  pub no_write_new : (w : ℕ) → g.no_write u w ≡ true → (f.no_write u w ≡ true) ⊎ Memᴰ w vs

-- t was granted the reads of vs
pub record ReadAll (t : ℕ) (vs : List ℕ) (f g : Facts) : Type 0 where
  pub was : f.active t ≡ true
  pub granted : (w : ℕ) → Memᴰ w vs → (f.writes t w ≡ true) ⊎ (f.no_read t w ≡ false)
  pub active : g.active t ≡ true
  pub behind : g.behind t ≡ f.behind t
  pub reads_kept : (w : ℕ) → f.reads t w ≡ true → g.reads t w ≡ true
  pub reads_new : (w : ℕ) → Memᴰ w vs → f.writes t w ≡ false → g.reads t w ≡ true
  pub reads_only : (w : ℕ) → g.reads t w ≡ true → (f.reads t w ≡ true) ⊎ (Memᴰ w vs × (f.writes t w ≡ false))
  pub writes : (w : ℕ) → g.writes t w ≡ f.writes t w
  pub no_read : (w : ℕ) → g.no_read t w ≡ f.no_read t w
  pub no_write : (w : ℕ) → g.no_write t w ≡ f.no_write t w
  pub only : Only t f g
  pub others : Others t f (BesideAll vs f g)

pub beside_one : {v : ℕ} {f g : Facts} {u : ℕ} → Beside v f g u → BesideAll (v ∷ []) f g u
beside_one {v} {f} {g} {u} p = record {
  reads = p.sets.reads;
  writes = p.sets.writes;
  behind = p.behind;
  no_read_kept = p.no_read_kept;
  no_read_new = λ w e. gain w (ℕ_discrete w v) (f.no_read u w) (g.no_read u w) (p.no_read_gain w) e;
  no_write_new = λ w e. gain w (ℕ_discrete w v) (f.no_write u w) (g.no_write u w) (p.no_write_gain w) e;
}
  where
    gain : (w : ℕ) → Dec (w ≡ v) → (x y : Bool) → (w ≢ v → y ≡ x) → y ≡ true → (x ≡ true) ⊎ Memᴰ w (v ∷ [])
    gain w (yes q) x y h e = inr (Memᴰ.head q)
    gain w (no q) x y h e = inl (sym (h q) ∙ e)

beside_none : (f : Facts) (u : ℕ) → BesideAll [] f f u
beside_none f u = search rules

beside_more : {vs ws : List ℕ} {f g h : Facts} {u : ℕ} → BesideAll vs f g u → BesideAll ws g h u → BesideAll (vs ++ ws) f h u
beside_more {vs} {ws} p q = record {
  reads = λ w. q.reads w ∙ p.reads w;
  writes = λ w. q.writes w ∙ p.writes w;
  behind = q.behind ∙ p.behind;
  no_read_kept = λ w e. q.no_read_kept w (p.no_read_kept w e);
  no_read_new = λ w e. elim (q.no_read_new w e) [
    | inl k ↦ elim (p.no_read_new w k) [ inl j ↦ inl j | inr m ↦ inr (Memᴰ.append_left ws m) ]
    | inr m ↦ inr (Memᴰ.append_right vs m)
  ];
  no_write_new = λ w e. elim (q.no_write_new w e) [
    | inl k ↦ elim (p.no_write_new w k) [ inl j ↦ inl j | inr m ↦ inr (Memᴰ.append_left ws m) ]
    | inr m ↦ inr (Memᴰ.append_right vs m)
  ];
}

pub read_none : (t : ℕ) (f : Facts) → f.active t ≡ true → ReadAll t [] f f
read_none t f l = search rules

pub read_one : {t v : ℕ} {f g : Facts} → HasRead t v f g → ReadAll t (v ∷ []) f g
read_one {t} {v} {f} {g} p = record {
  was = p.was;
  granted = λ w m. subst (λ (x : ℕ). (f.writes t x ≡ true) ⊎ (f.no_read t x ≡ false)) (sym (Memᴰ.eq_of_singleton m)) may;
  active = p.active;
  behind = p.behind;
  reads_kept = λ w e. kept w e (ℕ_discrete w v) (cases_Bool (f.writes t v));
  reads_new = λ w m e. subst (λ (x : ℕ). g.reads t x ≡ true) (sym (Memᴰ.eq_of_singleton m)) (p.shared (subst (λ (x : ℕ). f.writes t x ≡ false) (Memᴰ.eq_of_singleton m) e));
  reads_only = λ w e. news w e (ℕ_discrete w v) (cases_Bool (f.writes t v));
  writes = p.writes;
  no_read = p.bars.no_read;
  no_write = p.bars.no_write;
  only = p.only;
  others = λ u ne l. beside_one (p.others u ne l);
}
  where
    may : (f.writes t v ≡ true) ⊎ (f.no_read t v ≡ false)
    may = elim (or_cases (f.writes t v) (not (f.no_read t v)) p.granted) [ inl e ↦ inl e | inr e ↦ inr (not-true (f.no_read t v) e) ]

    kept : (w : ℕ) → f.reads t w ≡ true → Dec (w ≡ v) → (f.writes t v ≡ true) ⊎ (f.writes t v ≡ false) → g.reads t w ≡ true
    kept w e (no q) d = p.reads w q ∙ e
    kept w e (yes q) (inl d) = ap (g.reads t) q ∙ p.own d ∙ ap (f.reads t) (sym q) ∙ e
    kept w e (yes q) (inr d) = ap (g.reads t) q ∙ p.shared d

    news : (w : ℕ) → g.reads t w ≡ true → Dec (w ≡ v) → (f.writes t v ≡ true) ⊎ (f.writes t v ≡ false)
        → (f.reads t w ≡ true) ⊎ (Memᴰ w (v ∷ []) × (f.writes t w ≡ false))
    news w e (no q) d = inl (sym (p.reads w q) ∙ e)
    news w e (yes q) (inl d) = inl (ap (f.reads t) q ∙ sym (p.own d) ∙ ap (g.reads t) (sym q) ∙ e)
    news w e (yes q) (inr d) = inr (Memᴰ.head q, ap (f.writes t) q ∙ d)

pub read_more : {t : ℕ} {vs ws : List ℕ} {f g h : Facts} → ReadAll t vs f g → ReadAll t ws g h → ReadAll t (vs ++ ws) f h
read_more {t} {vs} {ws} {f} {g} {h} p q = record {
  was = p.was;
  granted = λ w m. elim (Memᴰ.append_cases vs m) [
    | inl k ↦ p.granted w k
    | inr k ↦ elim (q.granted w k) [ inl e ↦ inl (sym (p.writes w) ∙ e) | inr e ↦ inr (sym (p.no_read w) ∙ e) ]
  ];
  active = q.active;
  behind = q.behind ∙ p.behind;
  reads_kept = λ w e. q.reads_kept w (p.reads_kept w e);
  reads_new = λ w m e. elim (Memᴰ.append_cases vs m) [
    | inl k ↦ q.reads_kept w (p.reads_new w k e)
    | inr k ↦ q.reads_new w k (p.writes w ∙ e)
  ];
  reads_only = λ w e. elim (q.reads_only w e) [
    | inl k ↦ elim (p.reads_only w k) [ inl j ↦ inl j | inr j ↦ inr (Memᴰ.append_left ws j.0, j.1) ]
    | inr k ↦ inr (Memᴰ.append_right vs k.0, sym (p.writes w) ∙ k.1)
  ];
  writes = λ w. q.writes w ∙ p.writes w;
  no_read = λ w. q.no_read w ∙ p.no_read w;
  no_write = λ w. q.no_write w ∙ p.no_write w;
  only = λ u ne. q.only u ne ∙ p.only u ne;
  others = λ u ne l. beside_more (p.others u ne l) (q.others u ne (p.only u ne ∙ l));
}

-- lists with the same variables are read alike
pub read_same : {t : ℕ} {rs : List ℕ} (vs : List ℕ) {f g : Facts} → ((w : ℕ) → Memᴰ w vs → Memᴰ w rs) → ((w : ℕ) → Memᴰ w rs → Memᴰ w vs)
    → ReadAll t rs f g → ReadAll t vs f g
read_same vs there back p = search rules

-- the reads made for a list are of its variables, of all of them, and no more than it is long
pub made_covers : {vs rs : List ℕ} → ReadsFor vs rs → (w : ℕ) → Memᴰ w vs → Memᴰ w rs
made_covers none_made w m = m
made_covers (made {vs = vs} {rs = rs} v r) w m =
    let c = made_covers r in elim (Memᴰ.append_cases vs m) [ inl k ↦ Memᴰ.append_left (v ∷ []) (c w k) | inr k ↦ Memᴰ.append_right rs k ]
made_covers (left_out {vs = vs} {rs = rs} v i r) w m =
    let c = made_covers r in elim (Memᴰ.append_cases vs m) [ inl k ↦ c w k | inr k ↦ Memᴰ.cast (Memᴰ.eq_of_singleton k) i ]

pub made_only : {vs rs : List ℕ} → ReadsFor vs rs → (w : ℕ) → Memᴰ w rs → Memᴰ w vs
made_only none_made w m = m
made_only (made {vs = vs} {rs = rs} v r) w m =
    let c = made_only r in elim (Memᴰ.append_cases rs m) [ inl k ↦ Memᴰ.append_left (v ∷ []) (c w k) | inr k ↦ Memᴰ.append_right vs k ]
made_only (left_out v i r) w m = Memᴰ.append_left (v ∷ []) (made_only r w m)

pub made_short : {vs rs : List ℕ} → ReadsFor vs rs → length rs ≤ length vs
made_short none_made = omega arith
made_short (made {vs = vs} {rs = rs} v r) = let k = made_short r in rw (length-append vs (v ∷ []), length-append rs (v ∷ [])) (omega arith)
made_short (left_out {vs = vs} v i r) = let k = made_short r in rw (length-append vs (v ∷ [])) (omega arith)

module _ {P : Type 0} (facts : P → Facts) (after : P → Move → P → Type 0) (strict : Bool)
    (keeps : (p q : P) (m : Move) → after p m q → Keeps strict m (facts p) (facts q)) where
  -- a chain of granted reads
  pub chain_reads : (t : ℕ) (rs : List ℕ) (p q : P) → (facts p).active t ≡ true → Chain after (map (reads_variable t) rs) p q
      → ReadAll t rs (facts p) (facts q)
  chain_reads t [] p q l e = subst (λ (x : P). ReadAll t [] (facts p) (facts x)) (sym e) (read_none t (facts p) l)
  chain_reads t (v ∷ rs) p q l c =
      let h : ReadAll t (v ∷ []) (facts p) (facts c.0) = read_one (keeps p c.0 (reads_variable t v) c.1) in
      read_more h (chain_reads t rs c.0 q h.active c.2)

  -- the granted reads that a step makes for the variables vs
  pub made_reads : (t : ℕ) (vs rs : List ℕ) (p q : P) → (facts p).active t ≡ true → ReadsFor vs rs
      → Chain after (map (reads_variable t) rs) p q → ReadAll t vs (facts p) (facts q)
  made_reads t vs rs p q l m c = read_same vs (made_covers m) (made_only m) (chain_reads t rs p q l c)
