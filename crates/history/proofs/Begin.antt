-- A granted begin, and a call that adds nothing.
use Rattle.std.proofs.Common.{◌≡◌, ℕ, true, ◌≢◌, List, sym, refl, ap, ◌∙◌, inl, arith, rules}
use Rattle.std.proofs.lemmas.Bool.{both_ways}
use mathlib.Core.Option.{some}
use Rattle.policy.specs.Facts.{Facts, Touched as Taken}
use Rattle.policy.specs.Moves.{Unchanged}
use Rattle.history.specs.Transactions.{Transaction, Ledger, calls, note, nothing, opens, begun}
use Rattle.history.specs.Law.{just, Rival}
use Rattle.history.proofs.Logic.{at_same, at_other}
use Rattle.history.proofs.Accesses.{answered_touches, pend_touches}
use Rattle.history.proofs.Views.{View}
use Rattle.history.proofs.Effects.{Idles, Begins}
use Rattle.history.proofs.Invariant.{Standing, Invariant}
use Rattle.history.proofs.Ledgers.{Grows, rival_later, rival_grows, settled_grows, opens_grows, nothing_grows}
use Rattle.history.proofs.Others.{unended_all, stays, undisturbed_standing, all_active, all_idle, same_order}

-- what an active task of the policy has touched, its transaction has
pub taken_rival : {a : View} {L : Ledger} {order : List Transaction} → Invariant a L order → (t first w : ℕ) → Taken a.facts t w → Rival L t first (calls L) w
taken_rival {a} {L} {order} inv t first w h = search (rules, answered_touches, pend_touches)

module _ (t : ℕ) (a b : View) (L : Ledger) (order : List Transaction) (inv : Invariant a L order) (step : Begins t a b) where
  -- the new transaction
  abbrev N : Transaction
  N = begun t (calls L)

  abbrev L' : Ledger
  L' = note (opens t) b.shared L

  grows : Grows L L'
  grows = opens_grows t b.shared L (inv.idle t step.rule.was)

  others : (u : ℕ) → u ≢ t → L'.current u ≡ L.current u
  others u ne = at_other L.current t (some N) u ne

  each : (u : ℕ) (U : Transaction) → u ≢ t → a.facts.active u ≡ true → Standing a L order u U → Standing b L' order u U
  each u U ne active s =
      let p : Unchanged a.facts b.facts u = step.rule.others u ne active in
      undisturbed_standing grows (unended_all inv) step.quiet.shared (stays b u U.first order)
      (record {
        reads = p.sets.reads;
        writes = p.sets.writes;
        pending = step.quiet.pending u ne;
        behind = p.behind;
        no_read_kept = λ l w e. p.bars.no_read w ∙ e;
        no_read_new = λ l w e. inl (sym (p.bars.no_read w) ∙ e);
        no_write_new = λ l w e. inl (sym (p.bars.no_write w) ∙ e);
      })
      s

  rival_n : (w : ℕ) → Taken a.facts t w → Rival L' t (calls L) (calls L') w
  rival_n w h = rival_later (calls L') (omega arith) (rival_grows grows (unended_all inv) (omega arith) (taken_rival inv t (calls L) w h))

  standing : Standing b L' order t N
  standing = record {
    task = refl;
    fate = refl;
    begun = omega arith;
    lasted = omega arith;
    within = tt;
    pending = λ v. rw (step.rule.writes v) refl;
    reads = λ v e. absurd (both_ways _ (step.rule.reads v) e);
    answers = λ v x r. elim r [ ];
    held = record { moment = calls L; values = b.shared; stood = just; since = omega arith; until = omega arith; exact = tt };
    up_to_date = λ l. record {
      exact = tt;
      no_read = λ v e. rival_n v (step.rule.no_read v e);
      no_write = λ v e. rival_n v (step.rule.no_write v e);
    };
    behind = λ l. absurd (both_ways _ step.rule.behind l);
  }

  pub begin_keeps : Invariant b L' order
  begin_keeps = same_order inv grows refl step.quiet.shared refl
      (all_active b L' order t inv step.rule.only others each (λ l. record { transaction = N; is = at_same L.current t (some N); standing = standing }))
      (all_idle b L' order t inv step.rule.only others (λ l. absurd (both_ways _ l step.rule.active)))
      (λ U m. settled_grows grows (unended_all inv) (inv.settled U m))

module _ (a b : View) (L : Ledger) (order : List Transaction) (inv : Invariant a L order) (step : Idles a b) where
  abbrev L'' : Ledger
  L'' = note nothing b.shared L

  grows_idle : Grows L L''
  grows_idle = nothing_grows b.shared L

  same : {A : Type 0} (k : Facts → A) → k b.facts ≡ k a.facts
  same k = ap k step.facts

  each_idle : (u : ℕ) (U : Transaction) → a.facts.active u ≡ true → Standing a L order u U → Standing b L'' order u U
  each_idle u U active s =
      undisturbed_standing grows_idle (unended_all inv) step.shared (stays b u U.first order)
      (record {
        reads = λ w. same (λ f. f.reads u w);
        writes = λ w. same (λ f. f.writes u w);
        pending = step.pending u active;
        behind = same (λ f. f.behind u);
        no_read_kept = λ l w e. same (λ f. f.no_read u w) ∙ e;
        no_read_new = λ l w e. inl (sym (same (λ f. f.no_read u w)) ∙ e);
        no_write_new = λ l w e. inl (sym (same (λ f. f.no_write u w)) ∙ e);
      })
      s

  pub idle_keeps : Invariant b L'' order
  idle_keeps = same_order inv grows_idle refl step.shared refl
      (λ u h. let l = sym (same (λ f. f.active u)) ∙ h in let o = inv.active u l in
      record { transaction = o.transaction; is = o.is; standing = each_idle u o.transaction l o.standing })
      (λ u h. inv.idle u (sym (same (λ f. f.active u)) ∙ h))
      (λ U m. settled_grows grows_idle (unended_all inv) (inv.settled U m))
