-- Snapshots: a begin, reads and an end in one call.
use Rattle.std.proofs.Common.{◌≡◌, ℕ, ◌<◌, Bool, true, false, ◌≢◌, ◌⊎◌, List, [], ◌∷◌, ◌++◌, map, ℤ, sym, refl, ap, ◌∙◌, subst, inl, inr, append-nil, arith}
use Rattle.std.proofs.lemmas.Bool.{both_ways}
use mathlib.Core.Path.{fun_ext}
use mathlib.Core.List.Permᴰ
use mathlib.Core.List.Memᴰ
use mathlib.Core.List.{Memᴰ}
use mathlib.Core.Option.{Option, some}
use Rattle.policy.specs.Moves.{Only, Unchanged, Passed}
use Rattle.history.specs.Steps.{zeros}
use Rattle.history.specs.Transactions.{committed, policy_refused, Transaction, Ledger, calls, note, whole, gots}
use Rattle.history.specs.Alone.{nothing_pending, Exact}
use Rattle.history.specs.Serial.{replay, InOrder}
use Rattle.history.specs.Law.{just, Rival}
use Rattle.history.proofs.Accesses.{pend_gots, exact_gots, exact_answered, gots_touches}
use Rattle.history.proofs.Orders.{replay-++, exact-order-++, Silent, alone_silent, order_insert}
use Rattle.history.proofs.Rules.{silent_behind, bars_kept}
use Rattle.history.proofs.Views.{View}
use Rattle.history.proofs.GrantedReads.{BesideAll}
use Rattle.history.proofs.Effects.{Snaps, BarsSnap}
use Rattle.history.proofs.Invariant.{Settled, Invariant}
use Rattle.history.proofs.Ledgers.{Grows, rival_grows, settled_grows, whole_grows}
use Rattle.history.proofs.Others.{unended_all, append_shift, stays, Undisturbed, undisturbed_standing, all_active, all_idle, same_order}
use Rattle.history.proofs.End.{Relieved, beside_spared}
use Rattle.history.proofs.Begin.{taken_rival}

module _ (strict : Bool) (t : ℕ) (vs : List ℕ) (see : ℕ → ℤ) (a b : View) (L : Ledger) (order : List Transaction) (inv : Invariant a L order) (step : Snaps strict t vs see a b) where
  -- the snapshot as a transaction
  abbrev S : Transaction
  S = record { task = t; first = calls L; last = calls L; accesses = gots (calls L) vs (map see vs); fate = committed }

  abbrev L' : Ledger
  L' = note (whole t (gots (calls L) vs (map see vs)) committed) b.shared L

  abbrev order' : List Transaction
  order' = order ++ (S ∷ [])

  grows : Grows L L'
  grows = whole_grows t b.shared L (gots (calls L) vs (map see vs)) committed

  same_shared : b.shared ≡ a.shared
  same_shared = fun_ext step.quiet.shared

  silent : Silent S
  silent v = ap (λ (p : ℕ → Option ℤ). p v) (pend_gots nothing_pending (calls L) see vs)

  unwritten : (w : ℕ) → step.between.writes t w ≡ false
  unwritten w = step.rule.writes w ∙ step.begun.writes w

  only : Only t a.facts b.facts
  only u ne = step.ends.only u ne ∙ step.rule.only u ne ∙ step.begun.only u ne

  exact_s : Exact a.shared nothing_pending (gots (calls L) vs (map see vs))
  exact_s = exact_gots nothing_pending (calls L) see a.shared vs (λ v m. step.values v)

  rival_s : (u first w : ℕ) → u ≢ t → first < calls L → Memᴰ w vs → Rival L' u first (calls L') w
  rival_s u first w ne h m = record {
    rival = S;
    other = λ q. ne (sym q);
    lasts = inl (Memᴰ.head refl, omega arith);
    began = omega arith;
    touched = inl (gots_touches (calls L') (calls L) see (omega arith) vs w m);
  }

  undisturbed : (u first : ℕ) → first < calls L → u ≢ t → a.facts.active u ≡ true → Undisturbed a b L' u first
  undisturbed u first h ne l = record {
    reads = λ w. q.sets.reads w ∙ p.reads w ∙ s.sets.reads w;
    writes = λ w. q.sets.writes w ∙ p.writes w ∙ s.sets.writes w;
    pending = step.quiet.pending u ne;
    behind = silent_behind q unwritten ∙ p.behind ∙ s.behind;
    no_read_kept = λ k w e. bars_kept q (q.stays_behind (p.behind ∙ s.behind ∙ k)) w (p.no_read_kept w (s.bars.no_read w ∙ e));
    no_read_new = λ k w e. elim ((q.near k).no_read w e) [
      | inl d ↦ elim (p.no_read_new w d) [ inl c ↦ inl (sym (s.bars.no_read w) ∙ c) | inr m ↦ inr (rival_s u first w ne h m) ]
      | inr d ↦ absurd (both_ways _ (unwritten w) d)
    ];
    no_write_new = λ k w e. elim ((q.near k).no_write w e) [
      | inl d ↦ elim (p.no_write_new w d) [ inl c ↦ inl (sym (s.bars.no_write w) ∙ c) | inr m ↦ inr (rival_s u first w ne h m) ]
      | inr d ↦ absurd (both_ways _ (unwritten w) d)
    ];
  }
    where
      s : Unchanged a.facts step.opened u
      s = step.begun.others u ne l

      p : BesideAll vs step.opened step.between u
      p = step.rule.others u ne (step.begun.only u ne ∙ l)

      q : Passed t step.between b.facts u
      q = step.ends.others u ne (step.rule.only u ne ∙ step.begun.only u ne ∙ l)

  all_settled : (U : Transaction) → Memᴰ U (S ∷ L.ended) → Settled L' U
  all_settled U (Memᴰ.head e) = subst (λ (X : Transaction). Settled L' X) (sym e) (record {
    begun = omega arith;
    moment = record {
      moment = calls L;
      values = b.shared;
      stood = just;
      since = omega arith;
      until = omega arith;
      agree = λ v x r. ap (λ (s : ℕ → ℤ). s v) same_shared ∙ exact_answered a.shared nothing_pending (gots (calls L) vs (map see vs)) v x exact_s r;
    };
    rival = λ q ps k. absurd (cc);
  })
  all_settled U (Memᴰ.tail m) = settled_grows grows (unended_all inv) (inv.settled U m)

  bounded : (U : Transaction) → Memᴰ U order ⊎ Memᴰ U (S ∷ []) → U.first < calls L'
  bounded U (inl m) = let k = inv.bounded U m in omega arith
  bounded U (inr (Memᴰ.head e)) = subst (λ (X : Transaction). X.first < calls L') (sym e) (omega arith)
  bounded U (inr (Memᴰ.tail m)) = elim m [ ]

  pub snap_keeps : Invariant b L' order'
  snap_keeps = record {
    each_once = Permᴰ.trans (Permᴰ.middle S order []) (Permᴰ.cons refl (Permᴰ.trans (Permᴰ.append-nil order) inv.each_once));
    exact = exact-order-++ zeros order (S ∷ []) inv.exact (subst (λ (r : ℕ → ℤ). Exact r nothing_pending (gots (calls L) vs (map see vs))) (sym inv.ends) exact_s, tt);
    ends = replay-++ zeros order (S ∷ []) ∙ alone_silent (replay zeros order) S silent ∙ inv.ends ∙ sym same_shared;
    in_order = order_insert order S [] (λ U m k. omega (arith, inv.bounded U m)) (λ U m k. elim m [ ])
        (subst (λ (r : List Transaction). InOrder r) (sym (append-nil order)) inv.in_order);
    bounded = λ U m. bounded U (Memᴰ.append_cases order m);
    latest = refl;
    active = all_active b L' order' t inv only (λ u ne. refl)
        (λ u U ne l s. undisturbed_standing grows (unended_all inv) step.quiet.shared (append_shift b u U.first order S (λ v k. silent v) (λ k. omega (arith, s.begun))) (undisturbed u U.first s.begun ne l) s)
        (λ h. absurd (both_ways _ step.ends.gone h));
    idle = all_idle b L' order' t inv only (λ u ne. refl) (λ h. inv.idle t step.begun.was);
    settled = all_settled;
  }

module _ (t v : ℕ) (vs : List ℕ) (a b : View) (L : Ledger) (order : List Transaction) (inv : Invariant a L order) (step : BarsSnap t v vs a b) where
  -- the refused snapshot as a transaction
  abbrev R : Transaction
  R = record { task = t; first = calls L; last = calls L; accesses = []; fate = policy_refused (some v) vs }

  abbrev L'' : Ledger
  L'' = note (whole t [] (policy_refused (some v) vs)) b.shared L

  grows_r : Grows L L''
  grows_r = whole_grows t b.shared L [] (policy_refused (some v) vs)

  only_r : Only t a.facts b.facts
  only_r u ne = step.ends.only u ne ∙ step.earlier.only u ne ∙ step.begun.only u ne

  rival_r : (u first w : ℕ) → u ≢ t → first < calls L → Memᴰ w vs → Rival L'' u first (calls L'') w
  rival_r u first w ne h m = record {
    rival = R;
    other = λ q. ne (sym q);
    lasts = inl (Memᴰ.head refl, omega arith);
    began = omega arith;
    touched = inr ((m, refl), omega arith);
  }

  undisturbed_r : (u first : ℕ) → first < calls L → u ≢ t → a.facts.active u ≡ true → Undisturbed a b L'' u first
  undisturbed_r u first h ne l = record {
    reads = λ w. p.reads w ∙ s.sets.reads w;
    writes = λ w. p.writes w ∙ s.sets.writes w;
    pending = step.quiet.pending u ne;
    behind = p.behind ∙ s.behind;
    no_read_kept = λ k w e. p.no_read_kept (s.behind ∙ k) w (s.bars.no_read w ∙ e);
    no_read_new = λ k w e. elim (p.no_read_new w e) [ inl c ↦ inl (sym (s.bars.no_read w) ∙ c) | inr m ↦ inr (rival_r u first w ne h m) ];
    no_write_new = λ k w e. elim (p.no_write_new w e) [ inl c ↦ inl (sym (s.bars.no_write w) ∙ c) | inr m ↦ inr (rival_r u first w ne h m) ];
  }
    where
      s : Unchanged a.facts step.opened u
      s = step.begun.others u ne l

      p : Relieved vs step.opened b.facts u
      p = beside_spared (step.earlier.others u ne (step.begun.only u ne ∙ l)) (step.ends.others u ne (step.earlier.only u ne ∙ step.begun.only u ne ∙ l))

  all_settled_r : (U : Transaction) → Memᴰ U (R ∷ L.ended) → Settled L'' U
  all_settled_r U (Memᴰ.head e) = subst (λ (X : Transaction). Settled L'' X) (sym e) (record {
    begun = omega arith;
    moment = record { moment = calls L; values = b.shared; stood = just; since = omega arith; until = omega arith; agree = λ w x r. elim r [ ] };
    rival = λ q ps k. record {
      variable = v;
      wanted = inl (cc);
      rival = rival_grows grows_r (unended_all inv) (omega arith)
          (taken_rival inv t (calls L) v (step.begun.no_read v (sym (step.earlier.no_read v) ∙ step.barred)));
    };
  })
  all_settled_r U (Memᴰ.tail m) = settled_grows grows_r (unended_all inv) (inv.settled U m)

  pub bar_snap_keeps : Invariant b L'' order
  bar_snap_keeps = same_order inv grows_r refl step.quiet.shared refl
      (all_active b L'' order t inv only_r (λ u ne. refl)
      (λ u U ne l s. undisturbed_standing grows_r (unended_all inv) step.quiet.shared (stays b u U.first order) (undisturbed_r u U.first s.begun ne l) s)
      (λ h. absurd (both_ways _ step.ends.gone h)))
      (all_idle b L'' order t inv only_r (λ u ne. refl) (λ h. inv.idle t step.begun.was))
      all_settled_r
