-- What a call leaves standing of the tasks that didn't make it.
use Rattle.std.proofs.Common.{◌≡◌, ℕ, ◌<◌, true, false, ◌≢◌, ◌⊎◌, List, [], ◌∷◌, ◌++◌, ℤ, sym, refl, ap, ◌∙◌, subst, inl, inr, append_assoc, arith, rules}
use mathlib.Core.Path.{fun_ext}
use mathlib.Core.List.Memᴰ
use mathlib.Core.List.{Memᴰ}
use mathlib.Core.Option.{none}
use Rattle.history.specs.Steps.{zeros}
use Rattle.history.specs.Transactions.{Fate, Transaction, Ledger, calls, over_with}
use Rattle.history.specs.Alone.{nothing_pending, Exact}
use Rattle.history.specs.Serial.{all_committed, replay}
use Rattle.history.specs.Law.{Stood, earlier, OneMoment, Rival}
use Rattle.history.proofs.Logic.{contraposed}
use Rattle.history.proofs.Accesses.{within_more, exact_answered}
use Rattle.history.proofs.Views.{View}
use Rattle.history.proofs.Invariant.{Fences, Behind, UpToDate, Held, Standing, Settled, Latest, Active, Invariant}
use Rattle.history.proofs.Ledgers.{Grows, AllUnended, rival_grows, rival_later, shut}

pub unended_all : {a : View} {L : Ledger} {order : List Transaction} → Invariant a L order → AllUnended L
unended_all {a} {L} {order} g t T e = search rules

-- where the cut of one that is behind goes when the order changes
pub record Shift (b : View) (u first : ℕ) (order' pre post : List Transaction) : Type 0 where
  pub pre' : List Transaction
  pub post' : List Transaction
  pub cut : order' ≡ pre' ++ post'
  pub same : replay zeros pre' ≡ replay zeros pre
  pub newer : (U : Transaction) → Memᴰ U post' → Memᴰ U post ⊎ (Fences b u U × (U.last < first → ⊥))

-- wherever the cut is, it can follow the change of the order
abbrev pub AllShift : View → ℕ → ℕ → List Transaction → List Transaction → Type 0
AllShift b u first order order' = (pre post : List Transaction) → order ≡ pre ++ post → Shift b u first order' pre post

pub stays : (b : View) (u first : ℕ) (order : List Transaction) → AllShift b u first order order
stays b u first order pre post e = record { pre' = pre; post' = post; cut = e; same = refl; newer = λ U m. inl m }

-- one more that stands last, which writes nothing that u may read and ended no earlier than u began
pub append_shift : (b : View) (u first : ℕ) (order : List Transaction) (T : Transaction) → Fences b u T → (T.last < first → ⊥)
    → AllShift b u first order (order ++ (T ∷ []))
append_shift b u first order T fences recent pre post e = record {
  pre' = pre;
  post' = post ++ (T ∷ []);
  cut = ap (λ (r : List Transaction). r ++ (T ∷ [])) e ∙ append_assoc pre post (T ∷ []);
  same = refl;
  newer = λ U m. go U (Memᴰ.append_cases post m);
}
  where
    go : (U : Transaction) → Memᴰ U post ⊎ Memᴰ U (T ∷ []) → Memᴰ U post ⊎ (Fences b u U × (U.last < first → ⊥))
    go U (inl m) = inl m
    go U (inr (Memᴰ.head q)) = inr (subst (λ (X : Transaction). Fences b u X × (X.last < first → ⊥)) (sym q) (fences, recent))
    go U (inr (Memᴰ.tail m)) = elim m [ ]

pub keep_rival : {L L' : Ledger} {u first v : ℕ} → Grows L L' → AllUnended L → first < calls L → Rival L u first (calls L) v → Rival L' u first (calls L') v
keep_rival {L} {L'} g all h r = let k = g.longer in rival_later (calls L') (omega arith) (rival_grows g all (omega arith) r)

pub keep_held : {L L' : Ledger} {T : Transaction} → Grows L L' → Held L T → Held L' T
keep_held g h = search rules

module _ {a b : View} {L L' : Ledger} {order order' : List Transaction} {u : ℕ} {T : Transaction} (g : Grows L L') (all : AllUnended L) where
  pub keep_behind : T.first < calls L → ((w : ℕ) → a.facts.no_read u w ≡ true → b.facts.no_read u w ≡ true)
      → AllShift b u T.first order order' → Behind a L order u T → Behind b L' order' u T
  keep_behind h kept shifts r =
      let m : Shift b u T.first order' r.pre r.post = shifts r.pre r.post r.cut in
      record {
        pre = m.pre';
        post = m.post';
        cut = m.cut;
        exact = subst (λ (s : ℕ → ℤ). Exact s nothing_pending T.accesses) (sym m.same) r.exact;
        fenced = λ U i. elim (m.newer U i) [
          | inl j ↦ (λ v e. r.fenced U j v (contraposed (a.facts.no_read u v) (b.facts.no_read u v) (kept v) e))
          | inr j ↦ j.0
        ];
        recent = λ U i. elim (m.newer U i) [ inl j ↦ r.recent U j | inr j ↦ j.1 ];
        moment = r.moment;
        stood = g.moments r.moment (replay zeros m.pre') (subst (λ (s : ℕ → ℤ). Stood L.moments r.moment s) (sym m.same) r.stood);
        since = r.since;
        variable = r.variable;
        read = r.read;
        rival = keep_rival g all h r.rival;
      }

  -- all but what the order and the shared values decide
  pub keep_standing : ((w : ℕ) → b.facts.reads u w ≡ a.facts.reads u w) → ((w : ℕ) → b.facts.writes u w ≡ a.facts.writes u w)
      → ((w : ℕ) → b.pending u w ≡ a.pending u w)
      → (b.facts.behind u ≡ false → UpToDate b L' u T) → (b.facts.behind u ≡ true → Behind b L' order' u T)
      → Standing a L order u T → Standing b L' order' u T
  keep_standing reads writes pending f h s = search (rules, within_more, keep_held)

-- what an access, a begin or an end without a commit leaves of another
pub record Undisturbed (a b : View) (L' : Ledger) (u first : ℕ) : Type 0 where
  pub reads : (w : ℕ) → b.facts.reads u w ≡ a.facts.reads u w
  pub writes : (w : ℕ) → b.facts.writes u w ≡ a.facts.writes u w
  pub pending : (w : ℕ) → b.pending u w ≡ a.pending u w
  pub behind : b.facts.behind u ≡ a.facts.behind u
  pub no_read_kept : a.facts.behind u ≡ true → (w : ℕ) → a.facts.no_read u w ≡ true → b.facts.no_read u w ≡ true
  pub no_read_new : b.facts.behind u ≡ false → (w : ℕ) → b.facts.no_read u w ≡ true → (a.facts.no_read u w ≡ true) ⊎ Rival L' u first (calls L') w
  pub no_write_new : b.facts.behind u ≡ false → (w : ℕ) → b.facts.no_write u w ≡ true → (a.facts.no_write u w ≡ true) ⊎ Rival L' u first (calls L') w

pub undisturbed_standing : {a b : View} {L L' : Ledger} {order order' : List Transaction} {u : ℕ} {T : Transaction} → Grows L L' → AllUnended L
    → ((v : ℕ) → b.shared v ≡ a.shared v) → AllShift b u T.first order order' → Undisturbed a b L' u T.first
    → Standing a L order u T → Standing b L' order' u T
undisturbed_standing {a} {b} {L} {L'} {order} {order'} {u} {T} g all shared shifts e s =
    keep_standing g all e.reads e.writes e.pending
    (λ l. let f : UpToDate a L u T = s.up_to_date (sym e.behind ∙ l) in record {
      exact = subst (λ (r : ℕ → ℤ). Exact r nothing_pending T.accesses) (sym (fun_ext shared)) f.exact;
      no_read = λ v r. elim (e.no_read_new l v r) [ inl h ↦ keep_rival g all s.begun (f.no_read v h) | inr h ↦ h ];
      no_write = λ v r. elim (e.no_write_new l v r) [ inl h ↦ keep_rival g all s.begun (f.no_write v h) | inr h ↦ h ];
    })
    (λ l. let h : a.facts.behind u ≡ true = sym e.behind ∙ l in keep_behind g all s.begun (e.no_read_kept h) shifts (s.behind h))
    s

-- the tasks other than t, after a call of t
module _ {a : View} (b : View) {L : Ledger} (L' : Ledger) {order : List Transaction} (order' : List Transaction) (t : ℕ) (inv : Invariant a L order)
    (only : (u : ℕ) → u ≢ t → b.facts.active u ≡ a.facts.active u)
    (same : (u : ℕ) → u ≢ t → L'.current u ≡ L.current u) where
  pub all_active : ((u : ℕ) (T : Transaction) → u ≢ t → a.facts.active u ≡ true → Standing a L order u T → Standing b L' order' u T)
      → (b.facts.active t ≡ true → Active b L' order' t) → (u : ℕ) → b.facts.active u ≡ true → Active b L' order' u
  all_active each mine u h = search rules

  pub all_idle : (b.facts.active t ≡ false → L'.current t ≡ none) → (u : ℕ) → b.facts.active u ≡ false → L'.current u ≡ none
  all_idle mine u h = search rules

-- a transaction that ends now has had its moment
pub end_moment : (t : ℕ) (s : ℕ → ℤ) (L : Ledger) (z : Fate) (T : Transaction) → Held L T → T.last < calls L → OneMoment (shut t s L z T) (over_with z (calls L) T)
end_moment t s L z T h k = record {
  moment = h.moment;
  values = h.values;
  stood = earlier h.stood;
  since = h.since;
  until = omega (arith, h.until);
  agree = λ v x r. exact_answered h.values nothing_pending T.accesses v x h.exact r;
}

-- the invariant after a call that commits nothing: the order stays as it is
pub same_order : {a b : View} {L L' : Ledger} {order : List Transaction} → Invariant a L order → Grows L L'
    → all_committed L'.ended ≡ all_committed L.ended → ((v : ℕ) → b.shared v ≡ a.shared v) → Latest L'.moments b.shared
    → ((t : ℕ) → b.facts.active t ≡ true → Active b L' order t) → ((t : ℕ) → b.facts.active t ≡ false → L'.current t ≡ none)
    → ((T : Transaction) → Memᴰ T L'.ended → Settled L' T) → Invariant b L' order
same_order {a} {b} {L} {L'} {order} inv grows committed shared latest active idle settled = search rules
