-- An ownership policy keeps the rules, move by move.
use Rattle.std.specs.Prelude.{◌≡◌, ℕ, ◌<◌, true, false, ◌&&◌, ◌≢◌, ◌⊎◌, nat_eq, nat_lt, refl}
use Rattle.std.proofs.Common.{inl, inr, arith}
use Rattle.std.proofs.lemmas.Bool.{ne_eqb, lt-ltb, and_from, and_parts, or_cases}
use Rattle.std.proofs.lemmas.Bool.Decides.{nat_tests}
use Rattle.policy.specs.Limits.{variables}
use Rattle.policy.specs.Facts.{may_read, may_write, may_commit}
use Rattle.policy.specs.Moves.{Move, begin, read, write, read_refused, write_refused, commit, commit_refused, abort}
use Rattle.policy.specs.Moves.{Keeps, Begun, HasRead, HasWritten, Committed, Ended, Unchanged, Beside, Passed, Spared}
use Rattle.policy.specs.Answers.{fit_task, fit_access, fit_begin}
use Rattle.policy.proofs.SomeBelow.{some_below_witness, some_below_member}
use Rattle.transactions.specs.Sets.{Sound, begun, ended, has_written, conflict}
use Rattle.policy.specs.Due.{due}
use Rattle.transactions.proofs.Others.{same_bar, fewer_bars}
use Rattle.own.specs.Ownership.{State, lags, owned_by_other, facts_of, next}
use Rattle.own.specs.Bars.{owned_touched}

module _ (x : State) (h : Sound x.sets) (t : ℕ) where
  -- another task when t begins
  begin_other : x.sets.active t ≡ false → (u : ℕ) → u ≢ t → x.sets.active u ≡ true → Unchanged (facts_of x) (facts_of (next (begin t) x)) u
  begin_other n u ne on =
      let d : nat_eq u t ≡ false = ne_eqb u t ne in
      record {
        sets = record { reads = λ v. grind arith; writes = λ v. grind arith };
        behind = grind arith;
        bars = record {
          no_read = λ v. grind arith;
          no_write = λ v.
              same_bar ((begun t x.sets).active u) (x.sets.active u) (λ y. (begun t x.sets).writes y v) (λ y. x.sets.writes y v) u (grind arith)
              (λ y. let w = h.no_writes t v n in grind (arith, nat_tests));
        };
      }

  keeps_begin : fit_begin (facts_of x) t ≡ true → Begun t (facts_of x) (facts_of (next (begin t) x))
  keeps_begin e = record {
    was = grind arith;
    active = grind (arith, nat_tests);
    behind = grind (arith, nat_tests);
    reads = λ v. grind (arith, nat_tests);
    writes = λ v. grind (arith, nat_tests);
    no_read = λ v k. absurd (grind (arith, nat_tests));
    no_write = λ v. owned_touched x (begun t x.sets) h t v (λ u ne k. grind arith);
    only = λ u ne. let d = ne_eqb u t ne in grind arith;
    others = begin_other (grind arith);
  }

  -- another task when t ends, with or without a commit
  end_owned : (u v : ℕ) → x.sets.active u ≡ true → ((ended t x.sets).active u && owned_by_other (ended t x.sets) u v) ≡ true → (x.sets.active u && owned_by_other x.sets u v) ≡ true
  end_owned u v on =
      fewer_bars ((ended t x.sets).active u) (x.sets.active u) (λ y. (ended t x.sets).writes y v) (λ y. x.sets.writes y v) u on (λ y k. grind arith)

  end_other : (u : ℕ) → u ≢ t → x.sets.active u ≡ true → Spared (facts_of x) (facts_of (next (abort t) x)) u
  end_other u ne on =
      let d : nat_eq u t ≡ false = ne_eqb u t ne in
      record {
        sets = record { reads = λ v. grind arith; writes = λ v. grind arith };
        behind = grind arith;
        no_read = λ v k. grind arith;
        no_write = λ v. end_owned u v on;
        fenced = λ k v l. grind arith;
      }

  keeps_end : fit_task (facts_of x) t ≡ true → Ended t (facts_of x) (facts_of (next (abort t) x))
  keeps_end e = record {
    was = grind arith;
    gone = grind (arith, nat_tests);
    only = λ u ne. let d = ne_eqb u t ne in grind arith;
    others = end_other;
  }

  -- another task when t commits
  pass_other : (u : ℕ) → u ≢ t → x.sets.active u ≡ true → Passed t (facts_of x) (facts_of (next (commit t) x)) u
  pass_other u ne on =
      let d : nat_eq u t ≡ false = ne_eqb u t ne in
      record {
        sets = record { reads = λ v. grind arith; writes = λ v. grind arith };
        stays_behind = λ k. grind arith;
        falls_behind = λ v r w.
            let c : conflict x.sets u t ≡ true = some_below_member variables (λ y. x.sets.reads u y && x.sets.writes t y) v (h.read_below u v r) (and_from _ _ r w) in
            grind arith;
        only_so = λ k. why (or_cases (x.flags u) (conflict x.sets u t) (and_parts _ _ (and_parts _ _ k).1).0);
        fenced = λ k. record {
          kept = λ v l. grind arith;
          gains = λ v w. let l : nat_lt v variables ≡ true = lt-ltb v variables (h.written_below t v w) in grind arith;
        };
        near = λ k. record {
          no_read = λ v l. absurd (grind arith);
          no_write = λ v l. inl (end_owned u v on l);
        };
      }
    where
      named : (v : ℕ) × (v < variables) × ((x.sets.reads u v && x.sets.writes t v) ≡ true) → (v : ℕ) × (x.sets.reads u v ≡ true) × (x.sets.writes t v ≡ true)
      named w = let k = and_parts (x.sets.reads u w.0) (x.sets.writes t w.0) w.2 in (w.0, k.0, k.1)

      why : (x.flags u ≡ true) ⊎ (conflict x.sets u t ≡ true) → (lags x u ≡ true) ⊎ ((v : ℕ) × (x.sets.reads u v ≡ true) × (x.sets.writes t v ≡ true))
      why (inl k) = inl (and_from (x.sets.active u) (x.flags u) on k)
      why (inr k) = inr (named (some_below_witness variables (λ v. x.sets.reads u v && x.sets.writes t v) k))

  keeps_commit : (fit_task (facts_of x) t && may_commit true (facts_of x) t) ≡ true → Committed true t (facts_of x) (facts_of (next (commit t) x))
  keeps_commit e = record {
    was = grind arith;
    granted = grind arith;
    gone = grind (arith, nat_tests);
    only = λ u ne. let d = ne_eqb u t ne in grind arith;
    others = pass_other;
  }

  -- a read changes nothing but the read set of the reader
  read_other : (v u : ℕ) → u ≢ t → x.sets.active u ≡ true → Beside v (facts_of x) (facts_of (next (read t v) x)) u
  read_other v u ne on =
      let d : nat_eq u t ≡ false = ne_eqb u t ne in
      record {
        sets = record { reads = λ w. grind arith; writes = λ w. refl };
        behind = refl;
        no_read_kept = λ w k. k;
        no_read_gain = λ w k. refl;
        no_write_kept = λ w k. k;
        no_write_gain = λ w k. refl;
      }

  keeps_read : (v : ℕ) → (fit_access (facts_of x) t v && may_read (facts_of x) t v) ≡ true → HasRead t v (facts_of x) (facts_of (next (read t v) x))
  keeps_read v e = record {
    was = grind arith;
    granted = grind arith;
    active = grind arith;
    behind = refl;
    own = λ k. grind arith;
    shared = λ k. grind (arith, nat_tests);
    reads = λ w ne. let d = ne_eqb w v ne in grind arith;
    writes = λ w. refl;
    bars = record { no_read = λ w. refl; no_write = λ w. refl };
    only = λ u ne. refl;
    others = read_other v;
  }

  -- a write bars the others from the variable that is now owned
  write_other : (v u : ℕ) → u ≢ t → x.sets.active u ≡ true → Beside v (facts_of x) (facts_of (next (write t v) x)) u
  write_other v u ne on =
      let d : nat_eq u t ≡ false = ne_eqb u t ne in
      record {
        sets = record { reads = λ w. refl; writes = λ w. grind arith };
        behind = refl;
        no_read_kept = λ w k. k;
        no_read_gain = λ w k. refl;
        no_write_kept = λ w.
            fewer_bars (x.sets.active u) (x.sets.active u) (λ y. x.sets.writes y w) (λ y. (has_written t v x.sets).writes y w) u on (λ y k. grind arith);
        no_write_gain = λ w k.
            same_bar (x.sets.active u) (x.sets.active u) (λ y. (has_written t v x.sets).writes y w) (λ y. x.sets.writes y w) u refl
            (λ y. let l = ne_eqb w v k in grind arith);
      }

  keeps_write : (v : ℕ) → (fit_access (facts_of x) t v && may_write (facts_of x) t v) ≡ true → HasWritten t v (facts_of x) (facts_of (next (write t v) x))
  keeps_write v e = record {
    was = grind arith;
    granted = grind arith;
    active = grind arith;
    behind = refl;
    reads = λ w. refl;
    written = grind (arith, nat_tests);
    writes = λ w ne. let d = ne_eqb w v ne in grind arith;
    bars = record {
      no_read = λ w. refl;
      no_write = λ w.
          same_bar (x.sets.active t) (x.sets.active t) (λ y. (has_written t v x.sets).writes y w) (λ y. x.sets.writes y w) t refl (λ y. grind arith);
    };
    only = λ u ne. refl;
    others = write_other v;
  }

pub keeps : (x : State) → Sound x.sets → (m : Move) → due true m (facts_of x) ≡ true → Keeps true m (facts_of x) (facts_of (next m x))
keeps x h (begin t) e = keeps_begin x h t e
keeps x h (read t v) e = keeps_read x h t v e
keeps x h (write t v) e = keeps_write x h t v e
keeps x h (read_refused t v) e = record { barred = grind arith; ended = keeps_end x h t (grind arith) }
keeps x h (write_refused t v) e = record { barred = grind arith; ended = keeps_end x h t (grind arith) }
keeps x h (commit t) e = keeps_commit x h t e
keeps x h (commit_refused t) e = record { barred = grind arith; ended = keeps_end x h t (grind arith) }
keeps x h (abort t) e = keeps_end x h t e
