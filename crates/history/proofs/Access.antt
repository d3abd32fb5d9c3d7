-- Granted reads, collects and writes.
use Rattle.std.proofs.Common.{◌≡◌, ℕ, ◌<◌, true, false, cond, ◌≢◌, ◌⊎◌, List, [], ◌∷◌, ◌++◌, map, ℤ, sym, refl, ap, ◌∙◌, subst, inl, inr, arith}
use Rattle.std.proofs.lemmas.Bool.{cases_Bool, both_ways}
use mathlib.Core.Path.{fun_ext}
use mathlib.Core.List.Memᴰ
use mathlib.Core.List.{Memᴰ}
use mathlib.Core.Option.{Option, none, some}
use Rattle.policy.specs.Moves.{Only, Others}
use Rattle.history.specs.Steps.{zeros}
use Rattle.history.specs.Transactions.{Access, put, Transaction, Ledger, calls, note, adds, longer, gots}
use Rattle.history.specs.Alone.{nothing_pending, pend, seen, Exact, Answered}
use Rattle.history.specs.Serial.{replay}
use Rattle.history.specs.Law.{just, earlier, Rival}
use Rattle.history.proofs.Logic.{at_same, at_other, at_elim, marked_value, marked_none, marked_off}
use Rattle.history.proofs.Accesses.{Within, within-++, within_more, within_gots, SomeTouches, exact-++, exact_gots, pend-++, pend_gots, answered-++, answered_left, answered_right, gots_answered, answered_gots, gots_touches}
use Rattle.history.proofs.Orders.{replay-++, replay_kept}
use Rattle.history.proofs.Views.{View, sight, Quiet}
use Rattle.history.proofs.GrantedReads.{BesideAll, beside_one}
use Rattle.history.proofs.Effects.{Reads, Writes}
use Rattle.history.proofs.Invariant.{Behind, UpToDate, Held, Standing, Active, Invariant}
use Rattle.history.proofs.Ledgers.{Grows, stood_below, settled_grows, further, adds_is, further_grows}
use Rattle.history.proofs.Others.{unended_all, stays, keep_rival, undisturbed_standing, all_active, all_idle, same_order}

-- what is known of a granted access of t, whose transaction is T
pub record GoesOn (t : ℕ) (ds : List Access) (vs : List ℕ) (a b : View) (L : Ledger) (order : List Transaction) (T : Transaction) : Type 0 where
  pub active : b.facts.active t ≡ true
  pub behind : b.facts.behind t ≡ a.facts.behind t
  pub no_read : (w : ℕ) → b.facts.no_read t w ≡ a.facts.no_read t w
  pub no_write : (w : ℕ) → b.facts.no_write t w ≡ a.facts.no_write t w
  pub only : Only t a.facts b.facts
  pub others : Others t a.facts (BesideAll vs a.facts b.facts)
  pub quiet : Quiet t a b
  pub pending : (v : ℕ) → pend nothing_pending (T.accesses ++ ds) v ≡ cond (b.facts.writes t v) (some (b.pending t v)) none
  pub reads : (v : ℕ) → b.facts.reads t v ≡ true → (x : ℤ) × Answered nothing_pending (T.accesses ++ ds) v x
  pub answers : (v : ℕ) (x : ℤ) → Answered nothing_pending (T.accesses ++ ds) v x → b.facts.reads t v ≡ true
  pub within : (k : ℕ) → calls L < k → Within k ds
  pub touches : (k v : ℕ) → calls L < k → Memᴰ v vs → SomeTouches k v ds
  pub exact_now : a.facts.behind t ≡ false → Exact a.shared (pend nothing_pending T.accesses) ds
  pub exact_then : (h : Behind a L order t T) → Exact (replay zeros h.pre) (pend nothing_pending T.accesses) ds

module _ (t : ℕ) (ds : List Access) (vs : List ℕ) (a b : View) (L : Ledger) (order : List Transaction) (inv : Invariant a L order) (o : Active a L order t)
    (h : GoesOn t ds vs a b L order o.transaction) where
  -- the transaction before the access
  abbrev T : Transaction
  T = o.transaction

  -- and after it
  abbrev T' : Transaction
  T' = longer ds (calls L) T

  abbrev L' : Ledger
  L' = further t b.shared L ds T

  grows : Grows L L'
  grows = further_grows t b.shared L ds T o.is

  same_shared : b.shared ≡ a.shared
  same_shared = fun_ext h.quiet.shared

  others : (u : ℕ) → u ≢ t → L'.current u ≡ L.current u
  others u ne = at_other L.current t (some T') u ne

  rival_t : (u first w : ℕ) → u ≢ t → Memᴰ w vs → Rival L' u first (calls L') w
  rival_t u first w ne m = record {
    rival = T';
    other = λ q. ne (sym q ∙ o.standing.task);
    lasts = inr (subst (λ (k : ℕ). L'.current k ≡ some T') (sym o.standing.task) (at_same L.current t (some T')));
    began = let k = o.standing.begun in omega arith;
    touched = let d = h.touches (calls L') w (omega arith) m in inl (d.0, Memᴰ.append_right T.accesses d.1, d.2);
  }

  each : (u : ℕ) (U : Transaction) → u ≢ t → a.facts.active u ≡ true → Standing a L order u U → Standing b L' order u U
  each u U ne active s =
      let p : BesideAll vs a.facts b.facts u = h.others u ne active in
      undisturbed_standing grows (unended_all inv) h.quiet.shared (stays b u U.first order)
      (record {
        reads = p.reads;
        writes = p.writes;
        pending = h.quiet.pending u ne;
        behind = p.behind;
        no_read_kept = λ l. p.no_read_kept;
        no_read_new = λ l w e. elim (p.no_read_new w e) [ inl q ↦ inl q | inr q ↦ inr (rival_t u U.first w ne q) ];
        no_write_new = λ l w e. elim (p.no_write_new w e) [ inl q ↦ inl q | inr q ↦ inr (rival_t u U.first w ne q) ];
      })
      s

  exact_last : a.facts.behind t ≡ false → Exact a.shared nothing_pending (T.accesses ++ ds)
  exact_last l = exact-++ a.shared nothing_pending T.accesses ds (o.standing.up_to_date l).exact (h.exact_now l)

  exact_placed : (r : Behind a L order t T) → Exact (replay zeros r.pre) nothing_pending (T.accesses ++ ds)
  exact_placed r = exact-++ (replay zeros r.pre) nothing_pending T.accesses ds r.exact (h.exact_then r)

  held : (a.facts.behind t ≡ true) ⊎ (a.facts.behind t ≡ false) → Held L' T'
  held (inl l) =
      let r : Behind a L order t T = o.standing.behind l in
      record {
        moment = r.moment;
        values = replay zeros r.pre;
        stood = earlier r.stood;
        since = r.since;
        until = let k = stood_below r.stood in omega arith;
        exact = exact_placed r;
      }
  held (inr l) = record {
    moment = calls L;
    values = b.shared;
    stood = just;
    since = let k = o.standing.begun in omega arith;
    until = omega arith;
    exact = subst (λ (s : ℕ → ℤ). Exact s nothing_pending (T.accesses ++ ds)) (sym same_shared) (exact_last l);
  }

  standing : Standing b L' order t T'
  standing =
      let s : Standing a L order t T = o.standing in
      record {
        task = s.task;
        fate = s.fate;
        begun = let k = s.begun in omega arith;
        lasted = omega arith;
        within = within-++ (calls L') T.accesses ds (within_more (calls L) (calls L') T.accesses (omega arith) s.within) (h.within (calls L') (omega arith));
        pending = h.pending;
        reads = h.reads;
        answers = h.answers;
        held = held (cases_Bool (a.facts.behind t));
        up_to_date = λ l. let f : UpToDate a L t T = s.up_to_date (sym h.behind ∙ l) in record {
          exact = subst (λ (r : ℕ → ℤ). Exact r nothing_pending (T.accesses ++ ds)) (sym same_shared) (exact_last (sym h.behind ∙ l));
          no_read = λ v e. keep_rival grows (unended_all inv) s.begun (f.no_read v (sym (h.no_read v) ∙ e));
          no_write = λ v e. keep_rival grows (unended_all inv) s.begun (f.no_write v (sym (h.no_write v) ∙ e));
        };
        behind = λ l. let r : Behind a L order t T = s.behind (sym h.behind ∙ l) in record {
          pre = r.pre;
          post = r.post;
          cut = r.cut;
          exact = exact_placed r;
          fenced = λ U m v e. r.fenced U m v (sym (h.no_read v) ∙ e);
          recent = r.recent;
          moment = r.moment;
          stood = earlier r.stood;
          since = r.since;
          variable = r.variable;
          read = (r.read.0, answered_left nothing_pending T.accesses ds r.variable r.read.0 r.read.1);
          rival = keep_rival grows (unended_all inv) s.begun r.rival;
        };
      }

  pub goes_on_keeps : Invariant b (note (adds t ds) b.shared L) order
  goes_on_keeps = subst (λ (X : Ledger). Invariant b X order) (sym (adds_is t b.shared L ds T o.is))
      (same_order inv grows refl h.quiet.shared refl
      (all_active b L' order t inv h.only others each (λ l. record { transaction = T'; is = at_same L.current t (some T'); standing = standing }))
      (all_idle b L' order t inv h.only others (λ l. absurd (both_ways _ l h.active)))
      (λ U m. settled_grows grows (unended_all inv) (inv.settled U m)))

module _ (t : ℕ) (vs : List ℕ) (a b : View) (L : Ledger) (order : List Transaction) (inv : Invariant a L order) (step : Reads t vs a b) where
  abbrev mine : Active a L order t
  mine = inv.active t step.rule.was

  -- the accesses so far, and the new ones
  abbrev D : List Access
  D = mine.transaction.accesses

  abbrev new : List Access
  new = gots (calls L) vs (map (sight a t) vs)

  -- what one that is behind may read has not changed since its place in the order
  unchanged : (h : Behind a L order t mine.transaction) (v : ℕ) → a.facts.no_read t v ≡ false → a.shared v ≡ replay zeros h.pre v
  unchanged h v e =
      ap (λ (s : ℕ → ℤ). s v) (sym inv.ends ∙ ap (replay zeros) h.cut ∙ replay-++ zeros h.pre h.post)
      ∙ replay_kept (replay zeros h.pre) h.post v (λ U m. h.fenced U m v e)

  seen_then : (h : Behind a L order t mine.transaction) (v : ℕ) → (a.facts.writes t v ≡ true) ⊎ (a.facts.no_read t v ≡ false)
      → cond (a.facts.writes t v) (a.pending t v) (a.shared v) ≡ cond (a.facts.writes t v) (a.pending t v) (replay zeros h.pre v)
  seen_then h v (inl w) = rw w refl
  seen_then h v (inr n) = ap (λ (x : ℤ). cond (a.facts.writes t v) (a.pending t v) x) (unchanged h v n)

  value : (s : ℕ → ℤ) (v : ℕ) → seen s (pend nothing_pending D) v ≡ cond (a.facts.writes t v) (a.pending t v) (s v)
  value s v = marked_value (pend nothing_pending D v) (a.facts.writes t v) (a.pending t v) (s v) (mine.standing.pending v)

  pub reads_keeps : Invariant b (note (adds t new) b.shared L) order
  reads_keeps = goes_on_keeps t new vs a b L order inv mine (record {
    active = step.rule.active;
    behind = step.rule.behind;
    no_read = step.rule.no_read;
    no_write = step.rule.no_write;
    only = step.rule.only;
    others = step.rule.others;
    quiet = step.quiet;
    pending = λ v. ap (λ (p : ℕ → Option ℤ). p v) (pend-++ nothing_pending D new ∙ pend_gots (pend nothing_pending D) (calls L) (sight a t) vs)
        ∙ rw (step.rule.writes v, step.pending v) (mine.standing.pending v);
    reads = λ v e. elim (step.rule.reads_only v e) [
      | inl h ↦ (let r = mine.standing.reads v h in (r.0, answered_left nothing_pending D new v r.0 r.1))
      | inr h ↦ (let r = gots_answered (pend nothing_pending D) (calls L) (sight a t) vs v h.0 (marked_none (pend nothing_pending D v) (a.facts.writes t v) (a.pending t v) (mine.standing.pending v) h.1) in
          (r.0, answered_right nothing_pending D new v r.0 r.1))
    ];
    answers = λ v x r. elim (answered-++ nothing_pending D new v x r) [
      | inl h ↦ step.rule.reads_kept v (mine.standing.answers v x h)
      | inr h ↦ (let q = answered_gots (pend nothing_pending D) (calls L) (sight a t) vs v x h in
          step.rule.reads_new v q.0 (marked_off (pend nothing_pending D v) (a.facts.writes t v) (a.pending t v) (mine.standing.pending v) q.1))
    ];
    within = λ k l. within_gots k (calls L) (sight a t) l vs;
    touches = λ k v l m. gots_touches k (calls L) (sight a t) l vs v m;
    exact_now = λ l. exact_gots (pend nothing_pending D) (calls L) (sight a t) a.shared vs (λ v m. sym (value a.shared v));
    exact_then = λ h. exact_gots (pend nothing_pending D) (calls L) (sight a t) (replay zeros h.pre) vs
        (λ v m. seen_then h v (step.rule.granted v m) ∙ sym (value (replay zeros h.pre) v));
  })

module _ (t v : ℕ) (x : ℤ) (a b : View) (L : Ledger) (order : List Transaction) (inv : Invariant a L order) (step : Writes t v x a b) where
  abbrev mine_written : Active a L order t
  mine_written = inv.active t step.rule.was

  abbrev DWritten : List Access
  DWritten = mine_written.transaction.accesses

  pub write_keeps : Invariant b (note (adds t (put (calls L) v x ∷ [])) b.shared L) order
  write_keeps = goes_on_keeps t (put (calls L) v x ∷ []) (v ∷ []) a b L order inv mine_written (record {
    active = step.rule.active;
    behind = step.rule.behind;
    no_read = step.rule.bars.no_read;
    no_write = step.rule.bars.no_write;
    only = step.rule.only;
    others = λ u ne l. beside_one (step.rule.others u ne l);
    quiet = step.quiet;
    pending = λ w. ap (λ (p : ℕ → Option ℤ). p w) (pend-++ nothing_pending DWritten (put (calls L) v x ∷ []))
        ∙ at_elim (λ (o : Option ℤ). o ≡ cond (b.facts.writes t w) (some (b.pending t w)) none) (pend nothing_pending DWritten) v (some x) w
        (λ e. rw (e, step.rule.written, step.put))
        (λ ne. rw (step.rule.writes w ne, step.kept w ne) (mine_written.standing.pending w));
    reads = λ w e. let r = mine_written.standing.reads w (sym (step.rule.reads w) ∙ e) in
        (r.0, answered_left nothing_pending DWritten (put (calls L) v x ∷ []) w r.0 r.1);
    answers = λ w y r. elim (answered-++ nothing_pending DWritten (put (calls L) v x ∷ []) w y r) [
      | inl h ↦ step.rule.reads w ∙ mine_written.standing.answers w y h
      | inr h ↦ elim h [ ]
    ];
    within = λ k l. (l, tt);
    touches = λ k w l m. one k w l m;
    exact_now = λ l. tt;
    exact_then = λ h. tt;
  })
    where
      one : (k w : ℕ) → calls L < k → Memᴰ w (v ∷ []) → SomeTouches k w (put (calls L) v x ∷ [])
      one k w l (Memᴰ.head e) = (put (calls L) v x, Memᴰ.head refl, (sym e, l))
      one k w l (Memᴰ.tail m) = elim m [ ]
