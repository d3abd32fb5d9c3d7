-- A transaction that ends without a commit: an abort, or a refusal of the policy.
use Rattle.std.proofs.Common.{◌≡◌, ℕ, ◌<◌, true, false, ◌≢◌, ◌⊎◌, List, [], ◌∷◌, ℤ, sym, refl, ◌∙◌, subst, inl, inr, arith, rules}
use Rattle.std.proofs.lemmas.Bool.{both_ways}
use mathlib.Core.List.{Memᴰ}
use mathlib.Core.Option.{Option, none, some}
use Rattle.policy.specs.Facts.{Facts}
use Rattle.policy.specs.Moves.{Only, Others, Spared}
use Rattle.history.specs.Transactions.{Fate, aborted, policy_refused, Transaction, Ledger, calls, note, ends, over_with}
use Rattle.history.specs.Alone.{nothing_pending, SharedAnswer}
use Rattle.history.specs.Serial.{if_committed, all_committed}
use Rattle.history.specs.Law.{Listed, Rival}
use Rattle.history.proofs.Logic.{at_same, at_other}
use Rattle.history.proofs.Accesses.{pend_touches}
use Rattle.history.proofs.Rules.{bars_spared}
use Rattle.history.proofs.Views.{View, Quiet}
use Rattle.history.proofs.GrantedReads.{BesideAll}
use Rattle.history.proofs.Effects.{Aborts, BarsRead, BarsWrite, BarsCommit}
use Rattle.history.proofs.Invariant.{Behind, Standing, Settled, Active, Invariant}
use Rattle.history.proofs.Ledgers.{Grows, touches_later, rival_grows, settled_grows, shut, ends_is, shut_grows}
use Rattle.history.proofs.Others.{unended_all, stays, undisturbed_standing, all_active, all_idle, end_moment, same_order}

-- another active task u, after t was granted the reads of vs and then ended
pub record Relieved (vs : List ℕ) (f g : Facts) (u : ℕ) : Type 0 where
  pub reads : (w : ℕ) → g.reads u w ≡ f.reads u w
  pub writes : (w : ℕ) → g.writes u w ≡ f.writes u w
  pub behind : g.behind u ≡ f.behind u
  pub no_read_kept : f.behind u ≡ true → (w : ℕ) → f.no_read u w ≡ true → g.no_read u w ≡ true
  pub no_read_new : (w : ℕ) → g.no_read u w ≡ true → (f.no_read u w ≡ true) ⊎ Memᴰ w vs
  pub no_write_new : (w : ℕ) → g.no_write u w ≡ true → (f.no_write u w ≡ true) ⊎ Memᴰ w vs

pub spared : {f g : Facts} {u : ℕ} → Spared f g u → Relieved [] f g u
spared s = record {
  reads = s.sets.reads;
  writes = s.sets.writes;
  behind = s.behind;
  no_read_kept = bars_spared s;
  no_read_new = λ w e. inl (s.no_read w e);
  no_write_new = λ w e. inl (s.no_write w e);
}

pub beside_spared : {vs : List ℕ} {f g h : Facts} {u : ℕ} → BesideAll vs f g u → Spared g h u → Relieved vs f h u
beside_spared p s = record {
  reads = λ w. s.sets.reads w ∙ p.reads w;
  writes = λ w. s.sets.writes w ∙ p.writes w;
  behind = s.behind ∙ p.behind;
  no_read_kept = λ l w e. bars_spared s (p.behind ∙ l) w (p.no_read_kept w e);
  no_read_new = λ w e. p.no_read_new w (s.no_read w e);
  no_write_new = λ w e. p.no_write_new w (s.no_write w e);
}

-- why T is refused, in the ledger before the refusal
pub record Because (L : Ledger) (t : ℕ) (T : Transaction) (q : Option ℕ) : Type 0 where
  pub variable : ℕ
  pub wanted : (q ≡ some variable) ⊎ ((x : ℤ) × SharedAnswer T variable x)
  pub rival : Rival L t T.first (calls L) variable

-- what is known of the end of T, the transaction of t, after granted reads of vs
pub record EndsWith (t : ℕ) (z : Fate) (vs : List ℕ) (a b : View) (L : Ledger) (T : Transaction) : Type 0 where
  pub gone : b.facts.active t ≡ false
  pub only : Only t a.facts b.facts
  pub others : Others t a.facts (Relieved vs a.facts b.facts)
  pub quiet : Quiet t a b
  pub unshared : (U : Transaction) (Us : List Transaction) → if_committed z U Us ≡ Us
  pub listed : (w : ℕ) → Memᴰ w vs → Listed z w
  pub because : (q : Option ℕ) (ps : List ℕ) → z ≡ policy_refused q ps → Because L t T q

module _ (t : ℕ) (z : Fate) (vs : List ℕ) (a b : View) (L : Ledger) (order : List Transaction) (inv : Invariant a L order) (o : Active a L order t)
    (h : EndsWith t z vs a b L o.transaction) where
  -- the transaction before its end
  abbrev T : Transaction
  T = o.transaction

  -- and ended
  abbrev T' : Transaction
  T' = over_with z (calls L) T

  abbrev L' : Ledger
  L' = shut t b.shared L z T

  grows : Grows L L'
  grows = shut_grows t b.shared L z T o.is

  others : (u : ℕ) → u ≢ t → L'.current u ≡ L.current u
  others u ne = at_other L.current t none u ne

  settled_t : Settled L' T'
  settled_t = record {
    begun = let k = o.standing.begun in omega arith;
    moment = end_moment t b.shared L z T o.standing.held o.standing.lasted;
    rival = λ q ps e. let r = h.because q ps e in record {
      variable = r.variable;
      wanted = elim r.wanted [ inl k ↦ inl k | inr k ↦ inr (inl k) ];
      rival = let k = o.standing.begun in
          subst (λ (i : ℕ). Rival L' i T.first (calls L) r.variable) (sym o.standing.task) (rival_grows grows (unended_all inv) (omega arith) r.rival);
    };
  }

  all_settled : (U : Transaction) → Memᴰ U (T' ∷ L.ended) → Settled L' U
  all_settled U (Memᴰ.head e) = subst (λ (X : Transaction). Settled L' X) (sym e) settled_t
  all_settled U (Memᴰ.tail m) = settled_grows grows (unended_all inv) (inv.settled U m)

  rival_t : (u first w : ℕ) → u ≢ t → first < calls L → Memᴰ w vs → Rival L' u first (calls L') w
  rival_t u first w ne l m = record {
    rival = T';
    other = λ q. ne (sym q ∙ o.standing.task);
    lasts = inl (Memᴰ.head refl, omega arith);
    began = let k = o.standing.begun in omega arith;
    touched = elim (pend_touches (calls L) nothing_pending T.accesses w o.standing.within) [
      | inl e ↦ inr ((h.listed w m, e), omega arith)
      | inr r ↦ inl (r.0, r.1, touches_later (calls L) (calls L') w r.0 (omega arith) r.2)
    ];
  }

  each : (u : ℕ) (U : Transaction) → u ≢ t → a.facts.active u ≡ true → Standing a L order u U → Standing b L' order u U
  each u U ne active s =
      let p : Relieved vs a.facts b.facts u = h.others u ne active in
      undisturbed_standing grows (unended_all inv) h.quiet.shared (stays b u U.first order)
      (record {
        reads = p.reads;
        writes = p.writes;
        pending = h.quiet.pending u ne;
        behind = p.behind;
        no_read_kept = p.no_read_kept;
        no_read_new = λ l w e. elim (p.no_read_new w e) [ inl q ↦ inl q | inr q ↦ inr (rival_t u U.first w ne s.begun q) ];
        no_write_new = λ l w e. elim (p.no_write_new w e) [ inl q ↦ inl q | inr q ↦ inr (rival_t u U.first w ne s.begun q) ];
      })
      s

  pub ends_keeps : Invariant b (note (ends t z) b.shared L) order
  ends_keeps = subst (λ (X : Ledger). Invariant b X order) (sym (ends_is t b.shared L z T o.is))
      (same_order inv grows (h.unshared T' (all_committed L.ended)) h.quiet.shared refl
      (all_active b L' order t inv h.only others each (λ l. absurd (both_ways _ h.gone l)))
      (all_idle b L' order t inv h.only others (λ l. at_same L.current t none))
      all_settled)

-- which variable a refusal holds
same_asked : {q q' : Option ℕ} {ps ps' : List ℕ} → policy_refused q ps ≡ policy_refused q' ps' → q ≡ q'
same_asked e = cc

-- one behind has a rival at something that it read
pub because_behind : {a : View} {L : Ledger} {order : List Transaction} {t : ℕ} {T : Transaction} (q : Option ℕ) → Behind a L order t T → Because L t T q
because_behind q r = record { variable = r.variable; wanted = inr r.read; rival = r.rival }

module _ (t : ℕ) (a b : View) (L : Ledger) (order : List Transaction) (inv : Invariant a L order) where
  pub abort_keeps : Aborts t a b → Invariant b (note (ends t aborted) b.shared L) order
  abort_keeps step = ends_keeps t aborted [] a b L order inv (inv.active t step.rule.was) (record {
    gone = step.rule.gone;
    only = step.rule.only;
    others = λ u ne l. spared (step.rule.others u ne l);
    quiet = step.quiet;
    unshared = λ U Us. refl;
    listed = λ w m. elim m [ ];
    because = λ q ps e. absurd (cc);
  })

  -- the reason of a refusal at v
  asked : (o : Active a L order t) (v : ℕ) (vs : List ℕ) (q : Option ℕ) (ps : List ℕ) → (a.facts.behind t ≡ false → Rival L t o.transaction.first (calls L) v)
      → policy_refused (some v) vs ≡ policy_refused q ps → Because L t o.transaction q
  asked o v vs q ps r e = search rules

  pub bar_read_keeps : (v : ℕ) (vs : List ℕ) → BarsRead t v vs a b → Invariant b (note (ends t (policy_refused (some v) vs)) b.shared L) order
  bar_read_keeps v vs step =
      let o : Active a L order t = inv.active t step.earlier.was in
      ends_keeps t (policy_refused (some v) vs) vs a b L order inv o (record {
        gone = step.rule.gone;
        only = λ u ne. step.rule.only u ne ∙ step.earlier.only u ne;
        others = λ u ne l. beside_spared (step.earlier.others u ne l) (step.rule.others u ne (step.earlier.only u ne ∙ l));
        quiet = step.quiet;
        unshared = λ U Us. refl;
        listed = λ w m. m;
        because = λ q ps e. asked o v vs q ps (λ f. (o.standing.up_to_date f).no_read v (sym (step.earlier.no_read v) ∙ step.barred)) e;
      })

  pub bar_write_keeps : (v : ℕ) → BarsWrite t v a b → Invariant b (note (ends t (policy_refused (some v) [])) b.shared L) order
  bar_write_keeps v step =
      let o : Active a L order t = inv.active t step.rule.was in
      ends_keeps t (policy_refused (some v) []) [] a b L order inv o (record {
        gone = step.rule.gone;
        only = step.rule.only;
        others = λ u ne l. spared (step.rule.others u ne l);
        quiet = step.quiet;
        unshared = λ U Us. refl;
        listed = λ w m. m;
        because = λ q ps e. asked o v [] q ps (λ f. (o.standing.up_to_date f).no_write v step.barred) e;
      })

  pub bar_commit_keeps : BarsCommit t a b → Invariant b (note (ends t (policy_refused none [])) b.shared L) order
  bar_commit_keeps step =
      let o : Active a L order t = inv.active t step.rule.was in
      ends_keeps t (policy_refused none []) [] a b L order inv o (record {
        gone = step.rule.gone;
        only = step.rule.only;
        others = λ u ne l. spared (step.rule.others u ne l);
        quiet = step.quiet;
        unshared = λ U Us. refl;
        listed = λ w m. m;
        because = λ q ps e. because_behind q (o.standing.behind step.behind);
      })
