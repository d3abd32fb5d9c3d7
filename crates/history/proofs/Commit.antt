-- A granted commit.
use Rattle.std.proofs.Common.{◌≡◌, ℕ, ◌<◌, ◌≤◌, Bool, true, false, ◌≢◌, ◌⊎◌, List, [], ◌∷◌, ◌++◌, length, ℤ, sym, refl, ap, ◌∙◌, subst, inl, inr, append_assoc, append-nil, arith, rules}
use Rattle.std.proofs.lemmas.Bool.{cases_Bool, both_ways}
use mathlib.Core.Path.{fun_ext}
use mathlib.Core.List.Memᴰ
use mathlib.Core.List.Permᴰ
use mathlib.Core.List.{Memᴰ, Permᴰ}
use mathlib.Core.Option.{none}
use Rattle.policy.specs.Moves.{Passed}
use Rattle.history.specs.Steps.{zeros}
use Rattle.history.specs.Transactions.{committed, Transaction, Ledger, calls, note, ends, over_with}
use Rattle.history.specs.Alone.{nothing_pending, pend, Exact, run_alone}
use Rattle.history.specs.Serial.{all_committed, replay, AllExact, InOrder}
use Rattle.history.specs.Law.{Stood, just, earlier, Rival}
use Rattle.history.proofs.Logic.{no_some, contraposed, at_same, at_other, marked_value, marked_none, marked_some}
use Rattle.history.proofs.Accesses.{pend_touches, exact_agree}
use Rattle.history.proofs.Orders.{replay-++, exact-order-++, replay_insert, exact_insert, Silent, mem_skip, order_insert, Cuts, earlier as cut_earlier, later as cut_later, cuts}
use Rattle.history.proofs.Rules.{silent_behind, bars_kept, bars_gained}
use Rattle.history.proofs.Views.{View}
use Rattle.history.proofs.Effects.{Commits}
use Rattle.history.proofs.Invariant.{Fences, Behind, UpToDate, Standing, Settled, Latest, Active, Invariant}
use Rattle.history.proofs.Ledgers.{Grows, touches_later, settled_grows, shut, ends_is, shut_grows}
use Rattle.history.proofs.Others.{unended_all, Shift, AllShift, append_shift, keep_rival, keep_behind, keep_standing, undisturbed_standing, all_active, all_idle, end_moment}

-- the newest moment is the shared values now
pub newest : (ms : List (ℕ → ℤ)) (s : ℕ → ℤ) (k : ℕ) → Latest ms s → k < length ms → (i : ℕ) × Stood ms i s × (k ≤ i)
newest [] s k l h = absurd (omega arith)
newest (r ∷ rs) s k l h = (length rs, subst (λ (x : ℕ → ℤ). Stood (r ∷ rs) (length rs) x) l just, omega arith)

module _ (strict : Bool) (t : ℕ) (a b : View) (L : Ledger) (order : List Transaction) (inv : Invariant a L order) (step : Commits strict t a b) where
  abbrev mine : Active a L order t
  mine = inv.active t step.rule.was

  -- the transaction before the commit
  abbrev T : Transaction
  T = mine.transaction

  -- and committed
  abbrev T' : Transaction
  T' = over_with committed (calls L) T

  abbrev L' : Ledger
  L' = shut t b.shared L committed T

  grows : Grows L L'
  grows = shut_grows t b.shared L committed T mine.is

  others : (u : ℕ) → u ≢ t → L'.current u ≡ L.current u
  others u ne = at_other L.current t none u ne

  unpended : (v : ℕ) → a.facts.writes t v ≡ false → pend nothing_pending T.accesses v ≡ none
  unpended v e = marked_none (pend nothing_pending T.accesses v) (a.facts.writes t v) (a.pending t v) (mine.standing.pending v) e

  settled_t : Settled L' T'
  settled_t = search (rules, end_moment)

  all_settled : (U : Transaction) → Memᴰ U (T' ∷ L.ended) → Settled L' U
  all_settled U (Memᴰ.head e) = subst (λ (X : Transaction). Settled L' X) (sym e) settled_t
  all_settled U (Memᴰ.tail m) = settled_grows grows (unended_all inv) (inv.settled U m)

  -- T, now committed, is a rival of u at what it wrote
  rival_t : (u first w : ℕ) → u ≢ t → first < calls L → a.facts.writes t w ≡ true → Rival L' u first (calls L') w
  rival_t u first w ne h e = record {
    rival = T';
    other = λ q. ne (sym q ∙ mine.standing.task);
    lasts = inl (Memᴰ.head refl, omega arith);
    began = let k = mine.standing.begun in omega arith;
    touched = elim (pend_touches (calls L) nothing_pending T.accesses w mine.standing.within) [
      | inl q ↦ absurd (no_some q (marked_some (pend nothing_pending T.accesses w) (a.facts.writes t w) (a.pending t w) (mine.standing.pending w) e))
      | inr r ↦ inl (r.0, r.1, touches_later (calls L) (calls L') w r.0 (omega arith) r.2)
    ];
  }

  -- what T wrote is fenced off from one now behind
  fences_t : (u : ℕ) → Passed t a.facts b.facts u → b.facts.behind u ≡ true → Fences b u T'
  fences_t u p l v e = unpended v (contraposed (a.facts.writes t v) (b.facts.no_read u v) (bars_gained p l v) e)

  -- The commit of a task that isn't behind: T stands last.
  module _ (prompt : a.facts.behind t ≡ false) where
    up_to_date_t : UpToDate a L t T
    up_to_date_t = mine.standing.up_to_date prompt

    abbrev order_last : List Transaction
    order_last = order ++ (T' ∷ [])

    ends_last : replay zeros order_last ≡ b.shared
    ends_last =
        replay-++ zeros order (T' ∷ []) ∙ ap (λ (s : ℕ → ℤ). run_alone s T') inv.ends
        ∙ fun_ext (λ v. marked_value (pend nothing_pending T.accesses v) (a.facts.writes t v) (a.pending t v) (a.shared v) (mine.standing.pending v) ∙ sym (step.shared v))

    -- one that T's commit leaves not behind
    still_up_to_date : (u : ℕ) (U : Transaction) → u ≢ t → Passed t a.facts b.facts u → Standing a L order u U → b.facts.behind u ≡ false → UpToDate b L' u U
    still_up_to_date u U ne p s l =
        let f : UpToDate a L u U = s.up_to_date (contraposed (a.facts.behind u) (b.facts.behind u) p.stays_behind l) in
        record {
          exact = exact_agree a.shared b.shared nothing_pending U.accesses (λ v x r. unmoved v (s.answers v x r) (cases_Bool (a.facts.writes t v))) f.exact;
          no_read = λ v e. elim ((p.near l).no_read v e) [
            | inl h ↦ keep_rival grows (unended_all inv) s.begun (f.no_read v h)
            | inr h ↦ rival_t u U.first v ne s.begun h
          ];
          no_write = λ v e. elim ((p.near l).no_write v e) [
            | inl h ↦ keep_rival grows (unended_all inv) s.begun (f.no_write v h)
            | inr h ↦ rival_t u U.first v ne s.begun h
          ];
        }
      where
        unmoved : (v : ℕ) → a.facts.reads u v ≡ true → (a.facts.writes t v ≡ true) ⊎ (a.facts.writes t v ≡ false) → b.shared v ≡ a.shared v
        unmoved v r (inl w) = absurd (both_ways _ l (p.falls_behind v r w))
        unmoved v r (inr w) = step.shared v ∙ rw w refl

    -- one that T's commit puts behind
    put_behind : (u : ℕ) (U : Transaction) → u ≢ t → Passed t a.facts b.facts u → Standing a L order u U → b.facts.behind u ≡ true
        → a.facts.behind u ≡ false → Behind b L' order_last u U
    put_behind u U ne p s l q =
        let f : UpToDate a L u U = s.up_to_date q in
        let m = newest L.moments a.shared U.first inv.latest s.begun in
        let w : (w : ℕ) × (a.facts.reads u w ≡ true) × (a.facts.writes t w ≡ true) =
        elim (p.only_so l) [ inl h ↦ absurd (both_ways _ q h) | inr h ↦ h ] in
        record {
          pre = order;
          post = T' ∷ [];
          cut = refl;
          exact = subst (λ (r : ℕ → ℤ). Exact r nothing_pending U.accesses) (sym inv.ends) f.exact;
          fenced = λ V i. subst (λ (X : Transaction). Fences b u X) (sym (only V i)) (fences_t u p l);
          recent = λ V i k. let k' : calls L < U.first = subst (λ (X : Transaction). X.last < U.first) (only V i) k in omega (arith, s.begun);
          moment = m.0;
          stood = earlier (subst (λ (r : ℕ → ℤ). Stood L.moments m.0 r) (sym inv.ends) m.1);
          since = m.2;
          variable = w.0;
          read = s.reads w.0 w.1;
          rival = rival_t u U.first w.0 ne s.begun w.2;
        }
      where
        only : (V : Transaction) → Memᴰ V (T' ∷ []) → V ≡ T'
        only V (Memᴰ.head e) = e
        only V (Memᴰ.tail m) = elim m [ ]

    each_last : (u : ℕ) (U : Transaction) → u ≢ t → a.facts.active u ≡ true → Standing a L order u U → Standing b L' order_last u U
    each_last u U ne active s =
        let p : Passed t a.facts b.facts u = step.rule.others u ne active in
        keep_standing grows (unended_all inv) p.sets.reads p.sets.writes (step.pending u ne) (still_up_to_date u U ne p s)
        (λ l. elim (cases_Bool (a.facts.behind u)) [
          | inl h ↦ keep_behind grows (unended_all inv) s.begun (bars_kept p l) (append_shift b u U.first order T' (fences_t u p l) (λ k. omega (arith, s.begun))) (s.behind h)
          | inr h ↦ put_behind u U ne p s l h
        ])
        s

    bounded_last : (U : Transaction) → Memᴰ U order ⊎ Memᴰ U (T' ∷ []) → U.first < calls L'
    bounded_last U (inl m) = let k = inv.bounded U m in omega arith
    bounded_last U (inr (Memᴰ.head e)) = subst (λ (X : Transaction). X.first < calls L') (sym e) (let k = mine.standing.begun in omega arith)
    bounded_last U (inr (Memᴰ.tail m)) = elim m [ ]

    pub commit_last : Invariant b L' order_last
    commit_last = record {
      each_once = Permᴰ.trans (Permᴰ.middle T' order []) (Permᴰ.cons refl (Permᴰ.trans (Permᴰ.append-nil order) inv.each_once));
      exact = exact-order-++ zeros order (T' ∷ []) inv.exact (subst (λ (r : ℕ → ℤ). Exact r nothing_pending T.accesses) (sym inv.ends) up_to_date_t.exact, tt);
      ends = ends_last;
      in_order = order_insert order T' [] (λ U m k. omega (arith, inv.bounded U m)) (λ U m k. elim m [ ])
          (subst (λ (r : List Transaction). InOrder r) (sym (append-nil order)) inv.in_order);
      bounded = λ U m. bounded_last U (Memᴰ.append_cases order m);
      latest = refl;
      active = all_active b L' order_last t inv step.rule.only others each_last (λ h. absurd (both_ways _ step.rule.gone h));
      idle = all_idle b L' order_last t inv step.rule.only others (λ h. at_same L.current t none);
      settled = all_settled;
    }

  -- The commit of a task that is behind and wrote nothing: T stands where it was still up to date.
  module _ (tardy : a.facts.behind t ≡ true) where
    abbrev place : Behind a L order t T
    place = mine.standing.behind tardy

    abbrev pre : List Transaction
    pre = place.pre

    abbrev post : List Transaction
    post = place.post

    abbrev order_between : List Transaction
    order_between = pre ++ (T' ∷ post)

    unwritten : (w : ℕ) → a.facts.writes t w ≡ false
    unwritten = step.silent tardy

    silent : Silent T'
    silent v = unpended v (unwritten v)

    same_shared : (v : ℕ) → b.shared v ≡ a.shared v
    same_shared v = step.shared v ∙ rw (unwritten v) refl

    shift_between : (u first : ℕ) → first < calls L → AllShift b u first order order_between
    shift_between u first h ps qs e = go (cuts pre post ps qs (sym place.cut ∙ e))
      where
        newer : (ms : List Transaction) → qs ≡ ms ++ post → (U : Transaction) → (U ≡ T') ⊎ Memᴰ U (ms ++ post) → Memᴰ U qs ⊎ (Fences b u U × (U.last < first → ⊥))
        newer ms q U (inl i) = inr (subst (λ (X : Transaction). Fences b u X × (X.last < first → ⊥)) (sym i) ((λ v k. silent v), λ k. omega arith))
        newer ms q U (inr m) = inl (subst (λ (r : List Transaction). Memᴰ U r) (sym q) m)

        go : Cuts pre post ps qs → Shift b u first order_between ps qs
        go (cut_earlier ms p q) = record {
          pre' = pre ++ (T' ∷ ms);
          post' = qs;
          cut = ap (λ (r : List Transaction). pre ++ (T' ∷ r)) q ∙ sym (append_assoc pre (T' ∷ ms) qs);
          same = replay_insert zeros pre T' ms silent ∙ ap (replay zeros) (sym p);
          newer = λ U m. inl m;
        }
        go (cut_later ms p q) = record {
          pre' = ps;
          post' = ms ++ (T' ∷ post);
          cut = ap (λ (r : List Transaction). r ++ (T' ∷ post)) p ∙ append_assoc ps ms (T' ∷ post);
          same = refl;
          newer = λ U m. newer ms q U (mem_skip U T' ms post m);
        }

    each_between : (u : ℕ) (U : Transaction) → u ≢ t → a.facts.active u ≡ true → Standing a L order u U → Standing b L' order_between u U
    each_between u U ne active s =
        let p : Passed t a.facts b.facts u = step.rule.others u ne active in
        undisturbed_standing grows (unended_all inv) same_shared (shift_between u U.first s.begun)
        (record {
          reads = p.sets.reads;
          writes = p.sets.writes;
          pending = step.pending u ne;
          behind = silent_behind p unwritten;
          no_read_kept = λ l. bars_kept p (p.stays_behind l);
          no_read_new = λ l w e. elim ((p.near l).no_read w e) [ inl h ↦ inl h | inr h ↦ absurd (both_ways _ (unwritten w) h) ];
          no_write_new = λ l w e. elim ((p.near l).no_write w e) [ inl h ↦ inl h | inr h ↦ absurd (both_ways _ (unwritten w) h) ];
        })
        s

    bounded_between : (U : Transaction) → (U ≡ T') ⊎ Memᴰ U (pre ++ post) → U.first < calls L'
    bounded_between U (inl e) = subst (λ (X : Transaction). X.first < calls L') (sym e) (let k = mine.standing.begun in omega arith)
    bounded_between U (inr m) = let k = inv.bounded U (subst (λ (r : List Transaction). Memᴰ U r) (sym place.cut) m) in omega arith

    pub commit_between : Invariant b L' order_between
    commit_between = record {
      each_once = Permᴰ.trans (Permᴰ.middle T' pre post)
          (Permᴰ.cons refl (subst (λ (r : List Transaction). Permᴰ r (all_committed L.ended)) place.cut inv.each_once));
      exact = exact_insert zeros pre T' post silent place.exact (subst (λ (r : List Transaction). AllExact zeros r) place.cut inv.exact);
      ends = replay_insert zeros pre T' post silent ∙ ap (replay zeros) (sym place.cut) ∙ inv.ends ∙ sym (fun_ext same_shared);
      in_order = order_insert pre T' post
          (λ U m k. omega (arith, inv.bounded U (subst (λ (r : List Transaction). Memᴰ U r) (sym place.cut) (Memᴰ.append_left post m))))
          place.recent (subst (λ (r : List Transaction). InOrder r) place.cut inv.in_order);
      bounded = λ U m. bounded_between U (mem_skip U T' pre post m);
      latest = refl;
      active = all_active b L' order_between t inv step.rule.only others each_between (λ h. absurd (both_ways _ step.rule.gone h));
      idle = all_idle b L' order_between t inv step.rule.only others (λ h. at_same L.current t none);
      settled = all_settled;
    }

  pub commit_keeps : (next : List Transaction) × Invariant b (note (ends t committed) b.shared L) next
  commit_keeps = go (cases_Bool (a.facts.behind t))
    where
      go : (a.facts.behind t ≡ true) ⊎ (a.facts.behind t ≡ false) → (next : List Transaction) × Invariant b (note (ends t committed) b.shared L) next
      go (inl h) = (order_between h, subst (λ (X : Ledger). Invariant b X (order_between h)) (sym (ends_is t b.shared L committed T mine.is)) (commit_between h))
      go (inr h) = (order_last h, subst (λ (X : Ledger). Invariant b X (order_last h)) (sym (ends_is t b.shared L committed T mine.is)) (commit_last h))
