-- A ledger only grows: whatever is known of an ended transaction, a moment or a rival stays known.
use Rattle.std.proofs.Common.{◌≡◌, ℕ, ◌<◌, ◌≤◌, ◌⊎◌, List, ◌∷◌, length, ℤ, sym, refl, ap, ◌∙◌, subst, inl, inr, arith, rules}
use native.Mathlib.Decide.{ℕ_discrete}
use mathlib.Core.List.Memᴰ
use mathlib.Core.List.{Memᴰ}
use mathlib.Core.Option.{Option, none, some}
use Rattle.history.specs.Update.{at}
use Rattle.history.specs.Transactions.{Access, got, put, Fate, unended, Transaction, Ledger, calls, nothing, opens, adds, ends, whole, note, longer, over_with, grown, closed}
use Rattle.history.specs.Alone.{Touches}
use Rattle.history.specs.Law.{Stood, just, earlier, OneMoment, HadTouched, Listed, Rival}
use Rattle.history.proofs.Logic.{at_same, at_other, no_some}
use Rattle.history.proofs.Invariant.{Settled}

pub stood_below : {ss : List (ℕ → ℤ)} {i : ℕ} {s : ℕ → ℤ} → Stood ss i s → i < length ss
stood_below just = omega arith
stood_below (earlier h) = let k = stood_below h in omega arith

-- the transaction that a current one has become
pub record Follows (L L' : Ledger) (t : ℕ) (T : Transaction) : Type 0 where
  pub next : Transaction
  pub task : next.task ≡ T.task
  pub first : next.first ≡ T.first
  pub touched : (v k : ℕ) → HadTouched T v k → HadTouched next v k
  pub lasts : (L'.current t ≡ some next) ⊎ (Memᴰ next L'.ended × (calls L ≤ next.last))

-- what a call leaves of a ledger: moments and ended transactions stay, current ones go on or end
pub record Grows (L L' : Ledger) : Type 0 where
  pub moments : (i : ℕ) (s : ℕ → ℤ) → Stood L.moments i s → Stood L'.moments i s
  pub longer : calls L < calls L'
  pub ended : (T : Transaction) → Memᴰ T L.ended → Memᴰ T L'.ended
  pub current : (t : ℕ) (T : Transaction) → T.fate ≡ unended → L.current t ≡ some T → Follows L L' t T

-- what a task has now is unended
abbrev pub AllUnended : Ledger → Type 0
AllUnended L = (t : ℕ) (T : Transaction) → L.current t ≡ some T → T.fate ≡ unended

pub touches_later : (k l v : ℕ) (d : Access) → k ≤ l → Touches k v d → Touches l v d
touches_later k l v (got n w y) h r = (r.0, omega arith)
touches_later k l v (put n w y) h r = (r.0, omega arith)

pub touched_later : (T : Transaction) (v k l : ℕ) → k ≤ l → HadTouched T v k → HadTouched T v l
touched_later T v k l h (inl r) = inl (r.0, r.1, touches_later k l v r.0 h r.2)
touched_later T v k l h (inr r) = inr (r.0, omega arith)

pub rival_later : {L : Ledger} {t first k v : ℕ} (l : ℕ) → k ≤ l → Rival L t first k v → Rival L t first l v
rival_later {L} {t} {first} {k} {v} l h r = search rules

pub rival_grows : {L L' : Ledger} {t first k v : ℕ} → Grows L L' → AllUnended L → first ≤ calls L → Rival L t first k v → Rival L' t first k v
rival_grows {L} {L'} {t} {first} {k} {v} g all h r = go r.lasts
  where
    go : (Memᴰ r.rival L.ended × (first ≤ r.rival.last)) ⊎ (L.current r.rival.task ≡ some r.rival) → Rival L' t first k v
    go (inl m) = record { rival = r.rival; other = r.other; lasts = inl (g.ended r.rival m.0, m.1); began = r.began; touched = r.touched }
    go (inr e) =
        let f : Follows L L' r.rival.task r.rival = g.current r.rival.task r.rival (all r.rival.task r.rival e) e in
        record {
          rival = f.next;
          other = λ q. r.other (sym f.task ∙ q);
          lasts = elim f.lasts [
            | inl q ↦ inr (ap L'.current f.task ∙ q)
            | inr q ↦ inl (q.0, omega arith)
          ];
          began = rw f.first r.began;
          touched = f.touched v k r.touched;
        }

pub moment_grows : {L L' : Ledger} {T : Transaction} → Grows L L' → OneMoment L T → OneMoment L' T
moment_grows g h = search rules

pub settled_grows : {L L' : Ledger} {T : Transaction} → Grows L L' → AllUnended L → Settled L T → Settled L' T
settled_grows {L} {L'} {T} g all h = record {
  begun = let k = g.longer in let j = h.begun in omega arith;
  moment = moment_grows g h.moment;
  rival = λ asked passed e. let r = h.rival asked passed e in record {
    variable = r.variable;
    wanted = r.wanted;
    rival = let j = h.begun in rival_grows g all (omega arith) r.rival;
  };
}

unlisted : (T : Transaction) (v : ℕ) → T.fate ≡ unended → Listed T.fate v → ⊥
unlisted T v e c = subst (λ (f : Fate). Listed f v) e c

pub nothing_grows : (s : ℕ → ℤ) (L : Ledger) → Grows L (note nothing s L)
nothing_grows s L = record {
  moments = λ i r m. earlier m;
  longer = omega arith;
  ended = λ T m. m;
  current = λ u T f e. record { next = T; task = refl; first = refl; touched = λ v k r. r; lasts = inl e };
}

module _ (t : ℕ) (s : ℕ → ℤ) (L : Ledger) where
  pub opens_grows : L.current t ≡ none → Grows L (note (opens t) s L)
  opens_grows h = record {
    moments = λ i r m. earlier m;
    longer = omega arith;
    ended = λ T m. m;
    current = λ u T f e. record {
      next = T;
      task = refl;
      first = refl;
      touched = λ v k r. r;
      lasts = inl (at_other L.current t _ u (λ (q : u ≡ t). no_some h (ap L.current (sym q) ∙ e)) ∙ e);
    };
  }

  pub adds_grows : (ds : List Access) → Grows L (note (adds t ds) s L)
  adds_grows ds = record {
    moments = λ i r m. earlier m;
    longer = omega arith;
    ended = λ T m. m;
    current = λ u T f e. go u T f e (ℕ_discrete u t);
  }
    where
      go : (u : ℕ) (T : Transaction) → T.fate ≡ unended → L.current u ≡ some T → Dec (u ≡ t) → Follows L (note (adds t ds) s L) u T
      go u T f e (yes q) = record {
        next = longer ds (calls L) T;
        task = refl;
        first = refl;
        touched = λ v k r. elim r [
          | inl d ↦ inl (d.0, Memᴰ.append_left ds d.1, d.2)
          | inr c ↦ absurd (unlisted T v f c.0.0)
        ];
        lasts = inl (rw q (at_same L.current t _ ∙ ap (grown ds (calls L)) (ap L.current (sym q) ∙ e)));
      }
      go u T f e (no q) = record {
        next = T;
        task = refl;
        first = refl;
        touched = λ v k r. r;
        lasts = inl (at_other L.current t _ u q ∙ e);
      }

  pub ends_grows : (z : Fate) → Grows L (note (ends t z) s L)
  ends_grows z = record {
    moments = λ i r m. earlier m;
    longer = omega arith;
    ended = λ T m. kept T m (L.current t);
    current = λ u T f e. go u T f e (ℕ_discrete u t);
  }
    where
      kept : (T : Transaction) → Memᴰ T L.ended → (o : Option Transaction) → Memᴰ T (closed z (calls L) o L.ended)
      kept T m none = m
      kept T m (some U) = Memᴰ.tail m

      go : (u : ℕ) (T : Transaction) → T.fate ≡ unended → L.current u ≡ some T → Dec (u ≡ t) → Follows L (note (ends t z) s L) u T
      go u T f e (yes q) = record {
        next = over_with z (calls L) T;
        task = refl;
        first = refl;
        touched = λ v k r. elim r [ inl d ↦ inl d | inr c ↦ absurd (unlisted T v f c.0.0) ];
        lasts = inr (subst (λ (o : Option Transaction). Memᴰ (over_with z (calls L) T) (closed z (calls L) o L.ended)) (sym e ∙ ap L.current q) (Memᴰ.head refl), omega arith);
      }
      go u T f e (no q) = record {
        next = T;
        task = refl;
        first = refl;
        touched = λ v k r. r;
        lasts = inl (at_other L.current t _ u q ∙ e);
      }

  pub whole_grows : (ds : List Access) (z : Fate) → Grows L (note (whole t ds z) s L)
  whole_grows ds z = record {
    moments = λ i r m. earlier m;
    longer = omega arith;
    ended = λ T m. Memᴰ.tail m;
    current = λ u T f e. record { next = T; task = refl; first = refl; touched = λ v k r. r; lasts = inl e };
  }

  -- the ledger once T, which task t has now, has gone on
  abbrev pub further : List Access → Transaction → Ledger
  further ds T = record { ended = L.ended; current = at L.current t (some (longer ds (calls L) T)); moments = s ∷ L.moments }

  pub adds_is : (ds : List Access) (T : Transaction) → L.current t ≡ some T → note (adds t ds) s L ≡ further ds T
  adds_is ds T e =
      ap (λ (o : Option Transaction). record { ended = L.ended; current = at L.current t (grown ds (calls L) o); moments = s ∷ L.moments }) e

  pub further_grows : (ds : List Access) (T : Transaction) → L.current t ≡ some T → Grows L (further ds T)
  further_grows ds T e = subst (λ (X : Ledger). Grows L X) (adds_is ds T e) (adds_grows ds)

  -- the ledger once T, which task t has now, has ended
  abbrev pub shut : Fate → Transaction → Ledger
  shut z T = record { ended = over_with z (calls L) T ∷ L.ended; current = at L.current t none; moments = s ∷ L.moments }

  pub ends_is : (z : Fate) (T : Transaction) → L.current t ≡ some T → note (ends t z) s L ≡ shut z T
  ends_is z T e =
      ap (λ (o : Option Transaction). record { ended = closed z (calls L) o L.ended; current = at L.current t none; moments = s ∷ L.moments }) e

  pub shut_grows : (z : Fate) (T : Transaction) → L.current t ≡ some T → Grows L (shut z T)
  shut_grows z T e = subst (λ (X : Ledger). Grows L X) (ends_is z T e) (ends_grows z)

  -- the end of a task that has no transaction adds nothing
  pub ends_nothing : (z : Fate) → L.current t ≡ none → note (ends t z) s L ≡ note nothing s L
  ends_nothing z e = search rules
