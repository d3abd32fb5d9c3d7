-- The rule of a granted commit: what was written is new to every other transaction.
use Rattle.std.specs.Prelude.{◌≡◌, ℕ, ◌+◌, ◌<◌, ◌≤◌, Bool, true, false, cond, ◌&&◌, ◌||◌, ◌⊎◌, is_some, Some, None, Option, refl}
use Rattle.std.proofs.Common.{sym, subst, ap, ◌∙◌, inl, inr, arith}
use Rattle.std.proofs.lemmas.Bool.{cases_Bool, both_ways, and_parts, and_from, or_cases, or_left, or_right, cond_both}
use Rattle.std.proofs.lemmas.Bool.Decides.{nat_tests}
use Rattle.policy.specs.Limits.{variables}
use Rattle.policy.specs.Facts.{Facts, some_below, may_commit}
use Rattle.policy.specs.Moves.{SameSets, Passed, Committed, Unchanged}
use Rattle.policy.proofs.SomeBelow.{some_below_member, some_below_witness, some_below_mono, some_below_all}
use Rattle.clock.specs.Held.{Held, Running, Sound, meaning, newer, writes_of}
use Rattle.clock.specs.Steps.{with_transaction, stamped, published, with_room}
use Rattle.clock.specs.Renumbered.{with_room_meaning, with_room_sound}
use Rattle.clock.specs.Putting.{put_same, put_only, put_unchanged}

-- from f to g the no-read set of every transaction gains what is in the set, and no other fact changes
record Publishes (set : ℕ → Bool) (f g : Facts) : Type 0 where
  active : (u : ℕ) → g.active u ≡ f.active u
  reads : (u v : ℕ) → g.reads u v ≡ f.reads u v
  writes : (u v : ℕ) → g.writes u v ≡ f.writes u v
  no_read : (u v : ℕ) → f.active u ≡ true → g.no_read u v ≡ (set v || f.no_read u v)

newer_stamped : (o : Option Running) (b : Bool) (clock n : ℕ) → is_some o ≡ true
    → ((x : Running) → o ≡ Some x → x.read_version ≤ clock)
    → newer o (cond b (clock + 1) n) ≡ (b || newer o n)
newer_stamped None b clock n a h = cc
newer_stamped (Some x) true clock n a h = let k : x.read_version ≤ clock = h x refl in grind (arith, nat_tests)
newer_stamped (Some x) false clock n a h = refl

stamped_publishes : (set : ℕ → Bool) (s : Held) → Sound s → Publishes set (meaning s) (meaning (stamped set s))
stamped_publishes set s sound =
    record {
      active = λ u. refl;
      reads = λ u v. refl;
      writes = λ u v. refl;
      no_read =
          λ u v a. newer_stamped (s.transaction u) (set v) s.clock (s.version v) a (sound.read_versions u);
    }

nothing_publishes : (set : ℕ → Bool) (f : Facts) → ((v : ℕ) → set v ≡ false) → Publishes set f f
nothing_publishes set f none =
    record {
      active = λ u. refl;
      reads = λ u v. refl;
      writes = λ u v. refl;
      no_read = λ u v a. sym (ap (λ b. b || f.no_read u v) (none v));
    }

-- a set of variables that has no member below the number of variables has none
none_at_all : (set : ℕ → Bool) → ((v : ℕ) → set v ≡ true → v < variables) → some_below variables set ≡ false
    → (v : ℕ) → set v ≡ false
none_at_all set inside e v =
    elim (cases_Bool (set v)) [
      | inl k ↦ some_below_all variables set e v (inside v k)
      | inr k ↦ k
    ]

publishes : (set : ℕ → Bool) (s : Held) → Sound s → ((v : ℕ) → set v ≡ true → v < variables)
    → Publishes set (meaning s) (meaning (published set s))
publishes set s sound inside =
    cond_both (some_below variables set) (stamped set (with_room s)) s (λ (r : Held). Publishes set (meaning s) (meaning r))
    (λ e.
    subst (λ (f : Facts). Publishes set f (meaning (stamped set (with_room s)))) (with_room_meaning s sound)
    (stamped_publishes set (with_room s) (with_room_sound s sound)))
    (λ e. nothing_publishes set (meaning s) (none_at_all set inside e))

-- another transaction, over the facts alone: it falls behind exactly if it had read what was written
module _ (t u : ℕ) (f g : Facts) (sets : SameSets f g u)
    (bars : (v : ℕ) → g.no_read u v ≡ (f.writes t v || f.no_read u v))
    (free : (v : ℕ) → g.no_write u v ≡ false)
    (inside : (v : ℕ) → f.reads u v ≡ true → v < variables)
    (behind-before : f.behind u ≡ some_below variables (λ v. f.reads u v && f.no_read u v))
    (behind-after : g.behind u ≡ some_below variables (λ v. g.reads u v && g.no_read u v)) where
  stays : f.behind u ≡ true → g.behind u ≡ true
  stays e =
      behind-after
      ∙ some_below_mono variables (λ v. f.reads u v && f.no_read u v) (λ v. g.reads u v && g.no_read u v)
      (λ v h k.
      let both : (f.reads u v ≡ true) × (f.no_read u v ≡ true) = and_parts (f.reads u v) (f.no_read u v) k in
      and_from (g.reads u v) (g.no_read u v) (sets.reads v ∙ both.0)
      (bars v ∙ or_right (f.writes t v) (f.no_read u v) both.1))
      (sym behind-before ∙ e)

  falls : (v : ℕ) → f.reads u v ≡ true → f.writes t v ≡ true → g.behind u ≡ true
  falls v r w =
      behind-after
      ∙ some_below_member variables (λ v. g.reads u v && g.no_read u v) v (inside v r)
      (and_from (g.reads u v) (g.no_read u v) (sets.reads v ∙ r)
      (bars v ∙ or_left (f.writes t v) (f.no_read u v) w))

  why : (v : ℕ) × (v < variables) × ((g.reads u v && g.no_read u v) ≡ true)
      → (f.behind u ≡ true) ⊎ ((v : ℕ) × (f.reads u v ≡ true) × (f.writes t v ≡ true))
  why (v, h, k) =
      let both : (g.reads u v ≡ true) × (g.no_read u v ≡ true) = and_parts (g.reads u v) (g.no_read u v) k in
      let r : f.reads u v ≡ true = sym (sets.reads v) ∙ both.0 in
      elim (or_cases (f.writes t v) (f.no_read u v) (sym (bars v) ∙ both.1)) [
        | inl w ↦ inr (v, r, w)
        | inr n ↦
            inl
            (behind-before
            ∙ some_below_member variables (λ v. f.reads u v && f.no_read u v) v h
            (and_from (f.reads u v) (f.no_read u v) r n))
      ]

  passed : Passed t f g u
  passed =
      record {
        sets = sets;
        stays_behind = stays;
        falls_behind = falls;
        only_so = λ e. why (some_below_witness variables (λ v. g.reads u v && g.no_read u v) (sym behind-after ∙ e));
        fenced =
            λ _. record {
              kept = λ v k. bars v ∙ or_right (f.writes t v) (f.no_read u v) k;
              gains = λ v k. bars v ∙ or_left (f.writes t v) (f.no_read u v) k;
            };
        near =
            λ _. record {
              no_read =
                  λ v k.
                  elim (or_cases (f.writes t v) (f.no_read u v) (sym (bars v) ∙ k)) [ inl w ↦ inr w | inr n ↦ inl n ];
              no_write = λ v k. absurd (both_ways (g.no_write u v) (free v) k);
            };
      }

-- a granted commit
pub committed : (t : ℕ) (s : Held) → Sound s → is_some (s.transaction t) ≡ true → may_commit false (meaning s) t ≡ true
    → Committed false t (meaning s) (meaning (with_transaction t None (published (writes_of (s.transaction t)) s)))
committed t s sound a may =
    let set : ℕ → Bool = writes_of (s.transaction t) in
    let r : Held = published set s in
    let p : Publishes set (meaning s) (meaning r) = publishes set s sound (sound.written_below t) in
    record {
      was = a;
      granted = may;
      gone = ap is_some (put_same t None r);
      only = λ u h. put_only t None r u h ∙ p.active u;
      others =
          λ u h k.
          let e : Unchanged (meaning r) (meaning (with_transaction t None r)) u = put_unchanged t None r u h in
          passed t u (meaning s) (meaning (with_transaction t None r))
          (record {
            reads = λ v. e.sets.reads v ∙ p.reads u v;
            writes = λ v. e.sets.writes v ∙ p.writes u v;
          })
          (λ v. e.bars.no_read v ∙ p.no_read u v k)
          (λ v. refl)
          (sound.read_below u)
          refl
          refl;
    }
