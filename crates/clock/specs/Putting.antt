-- A change of one task's transaction alone: the rules of begin, read, write and of an end with nothing shared.
use Rattle.std.specs.Prelude.{◌≡◌, ℕ, true, false, ◌&&◌, ◌≢◌, is_some, Some, None, Option, ◌==◌, nat_lt, refl}
use Rattle.std.proofs.Common.{sym, ap, ◌∙◌}
use Rattle.std.proofs.lemmas.Bool.{both_ways, eq-eqb, ne_eqb, cond-true, cond-false, le-ltb}
use Rattle.policy.specs.Limits.{variables}
use Rattle.policy.specs.Facts.{some_below}
use Rattle.policy.specs.Moves.{Only, Unchanged, Begun, Beside, Ended}
use Rattle.policy.proofs.SomeBelow.{some_below_empty}
use Rattle.clock.specs.Held.{Held, Running, Sound, meaning, newer, reads_of, writes_of}
use Rattle.clock.specs.Steps.{with_transaction, begun}

module _ (t : ℕ) (x : Option Running) (s : Held) where
  pub put_same : (with_transaction t x s).transaction t ≡ x
  put_same = cond-true (t == t) x (s.transaction t) (eq-eqb t t refl)

  pub put_other : (u : ℕ) → u ≢ t → (with_transaction t x s).transaction u ≡ s.transaction u
  put_other u h = cond-false (u == t) x (s.transaction u) (ne_eqb u t h)

  -- no other task's transaction is opened or closed
  pub put_only : Only t (meaning s) (meaning (with_transaction t x s))
  put_only u h = ap is_some (put_other u h)

  -- nothing of another task changes
  pub put_unchanged : (u : ℕ) → u ≢ t → Unchanged (meaning s) (meaning (with_transaction t x s)) u
  put_unchanged u h =
      let e : (with_transaction t x s).transaction u ≡ s.transaction u = put_other u h in
      record {
        sets =
            record {
              reads = λ v. ap (λ (o : Option Running). reads_of o v) e;
              writes = λ v. ap (λ (o : Option Running). writes_of o v) e;
            };
        behind =
            ap (λ (o : Option Running). some_below variables (λ v. reads_of o v && newer o (s.version v))) e;
        bars =
            record {
              no_read = λ v. ap (λ (o : Option Running). newer o (s.version v)) e;
              no_write = λ v. refl;
            };
      }

  -- another task after an access to v
  pub beside : (v u : ℕ) → u ≢ t → Beside v (meaning s) (meaning (with_transaction t x s)) u
  beside v u h =
      let e : Unchanged (meaning s) (meaning (with_transaction t x s)) u = put_unchanged u h in
      record {
        sets = e.sets;
        behind = e.behind;
        no_read_kept = λ w k. e.bars.no_read w ∙ k;
        no_read_gain = λ w k. e.bars.no_read w;
        no_write_kept = λ w k. e.bars.no_write w ∙ k;
        no_write_gain = λ w k. e.bars.no_write w;
      }

-- a transaction that ends with nothing shared
pub ended : (t : ℕ) (s : Held) → is_some (s.transaction t) ≡ true → Ended t (meaning s) (meaning (with_transaction t None s))
ended t s a =
    record {
      was = a;
      gone = ap is_some (put_same t None s);
      only = put_only t None s;
      others =
          λ u h k.
          let e : Unchanged (meaning s) (meaning (with_transaction t None s)) u = put_unchanged t None s u h in
          record {
            sets = e.sets;
            behind = e.behind;
            no_read = λ v b. sym (e.bars.no_read v) ∙ b;
            no_write = λ v b. sym (e.bars.no_write v) ∙ b;
            fenced = λ _ v b. e.bars.no_read v ∙ b;
          };
    }

-- a transaction that begins
pub begins : (t : ℕ) (s : Held) → Sound s → is_some (s.transaction t) ≡ false
    → Begun t (meaning s) (meaning (with_transaction t (Some (begun s.clock)) s))
begins t s sound a =
    let x : Option Running = Some (begun s.clock) in
    let e : (with_transaction t x s).transaction t ≡ x = put_same t x s in
    record {
      was = a;
      active = ap is_some e;
      behind =
          ap (λ (o : Option Running). some_below variables (λ v. reads_of o v && newer o (s.version v))) e
          ∙ some_below_empty variables (λ v. false) (λ v h. refl);
      reads = λ v. ap (λ (o : Option Running). reads_of o v) e;
      writes = λ v. ap (λ (o : Option Running). writes_of o v) e;
      no_read =
          λ v b.
          absurd
          (both_ways (nat_lt s.clock (s.version v)) (le-ltb s.clock (s.version v) (sound.versions v))
          (sym (ap (λ (o : Option Running). newer o (s.version v)) e) ∙ b));
      no_write = λ v b. cc;
      only = put_only t x s;
      others = λ u h k. put_unchanged t x s u h;
    }
