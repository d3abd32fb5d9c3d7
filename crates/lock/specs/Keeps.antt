-- A lock policy keeps the rules, move by move.
use Rattle.std.specs.Prelude.{◌≡◌, ℕ, true, false, ◌&&◌, ◌≢◌, ◌==◌, nat_eq, refl}
use Rattle.std.proofs.Common.{inl, arith}
use Rattle.std.proofs.lemmas.Bool.{ne_eqb, both_ways}
use Rattle.std.proofs.lemmas.Bool.Decides.{nat_tests}
use Rattle.policy.specs.Facts.{Touched, may_read, may_write}
use Rattle.policy.specs.Moves.{Move, begin, read, write, read_refused, write_refused, commit, commit_refused, abort}
use Rattle.policy.specs.Moves.{Keeps, Begun, HasRead, HasWritten, Committed, Ended, Unchanged, Beside, Passed, Spared, SameSets}
use Rattle.policy.specs.Answers.{fit_task, fit_access, fit_begin}
use Rattle.transactions.specs.Sets.{Sets, Sound, begun, ended, has_read, has_written}
use Rattle.policy.specs.Due.{due}
use Rattle.transactions.specs.Moved.{moved}
use Rattle.transactions.proofs.Others.{same_bar, fewer_bars}
use Rattle.lock.specs.Locks.{locked, Apart, barred, facts_of}
use Rattle.lock.specs.Bars.{barred_touched}

module _ (s : Sets) (h : Sound s) (a : Apart s) (t : ℕ) where
  -- another task when t begins
  begin_other : s.active t ≡ false → (u : ℕ) → u ≢ t → s.active u ≡ true → Unchanged (facts_of s) (facts_of (begun t s)) u
  begin_other n u ne on =
      let d : nat_eq u t ≡ false = ne_eqb u t ne in
      let bars : (v : ℕ) → barred (begun t s) u v ≡ barred s u v =
      λ v. same_bar ((begun t s).active u) (s.active u) (λ x. locked (begun t s) x v) (λ x. locked s x v) u (grind arith)
      (λ x.
      let r = h.no_reads t v n in
      let w = h.no_writes t v n in
      grind (arith, nat_tests)) in
      record {
        sets = record { reads = λ v. grind arith; writes = λ v. grind arith };
        behind = refl;
        bars = record { no_read = bars; no_write = bars };
      }

  keeps_begin : fit_begin (facts_of s) t ≡ true → Begun t (facts_of s) (facts_of (begun t s))
  keeps_begin e =
      let touched : (v : ℕ) → barred (begun t s) t v ≡ true → Touched (facts_of s) t v =
      λ v. barred_touched s (begun t s) h t v (λ x ne k. grind arith) in
      record {
        was = grind arith;
        active = grind (arith, nat_tests);
        behind = refl;
        reads = λ v. grind (arith, nat_tests);
        writes = λ v. grind (arith, nat_tests);
        no_read = touched;
        no_write = touched;
        only = λ u ne. let d = ne_eqb u t ne in grind arith;
        others = begin_other (grind arith);
      }

  -- another task when t ends, with or without a commit
  end_sets : (u : ℕ) → u ≢ t → SameSets (facts_of s) (facts_of (ended t s)) u
  end_sets u ne = let d = ne_eqb u t ne in record { reads = λ v. grind arith; writes = λ v. grind arith }

  end_bars : (u v : ℕ) → s.active u ≡ true → barred (ended t s) u v ≡ true → barred s u v ≡ true
  end_bars u v on = fewer_bars ((ended t s).active u) (s.active u) (λ x. locked (ended t s) x v) (λ x. locked s x v) u on (λ x k. grind arith)

  end_other : (u : ℕ) → u ≢ t → s.active u ≡ true → Spared (facts_of s) (facts_of (ended t s)) u
  end_other u ne on = record {
    sets = end_sets u ne;
    behind = refl;
    no_read = λ v. end_bars u v on;
    no_write = λ v. end_bars u v on;
    fenced = λ e. absurd (both_ways false refl e);
  }

  keeps_end : fit_task (facts_of s) t ≡ true → Ended t (facts_of s) (facts_of (ended t s))
  keeps_end e = record {
    was = grind arith;
    gone = grind (arith, nat_tests);
    only = λ u ne. let d = ne_eqb u t ne in grind arith;
    others = end_other;
  }

  -- what another task has read t has not written, so nobody falls behind
  pass_other : (u : ℕ) → u ≢ t → s.active u ≡ true → Passed t (facts_of s) (facts_of (ended t s)) u
  pass_other u ne on = record {
    sets = end_sets u ne;
    stays_behind = λ e. e;
    falls_behind = λ v r w. let d = ne_eqb u t ne in let k = a u t v in grind arith;
    only_so = λ e. absurd (both_ways false refl e);
    fenced = λ e. absurd (both_ways false refl e);
    near = λ e. record { no_read = λ v k. inl (end_bars u v on k); no_write = λ v k. inl (end_bars u v on k) };
  }

  keeps_commit : fit_task (facts_of s) t ≡ true → Committed true t (facts_of s) (facts_of (ended t s))
  keeps_commit e = record {
    was = grind arith;
    granted = refl;
    gone = grind (arith, nat_tests);
    only = λ u ne. let d = ne_eqb u t ne in grind arith;
    others = pass_other;
  }

  -- an access that leaves the open tasks and all but t's lock on v as they are
  module _ (r : Sets) (v : ℕ) (same : (u : ℕ) → r.active u ≡ s.active u) (more : (x w : ℕ) → locked s x w ≡ true → locked r x w ≡ true)
      (only : (x w : ℕ) → (x == t && w == v) ≡ false → locked r x w ≡ locked s x w) where
    access_bars : (w : ℕ) → barred r t w ≡ barred s t w
    access_bars w = same_bar (r.active t) (s.active t) (λ x. locked r x w) (λ x. locked s x w) t (same t) (λ x. let o = only x w in grind arith)

    access_kept : (u w : ℕ) → barred s u w ≡ true → barred r u w ≡ true
    access_kept u w e = fewer_bars (s.active u) (r.active u) (λ x. locked s x w) (λ x. locked r x w) u (let k = same u in grind arith) (λ x k. let m = more x w in grind arith) e

    access_gain : (u w : ℕ) → w ≢ v → barred r u w ≡ barred s u w
    access_gain u w ne = same_bar (r.active u) (s.active u) (λ x. locked r x w) (λ x. locked s x w) u (same u) (λ x. let d = ne_eqb w v ne in let o = only x w in grind arith)

    access_other : (u : ℕ) → SameSets (facts_of s) (facts_of r) u → Beside v (facts_of s) (facts_of r) u
    access_other u e = record {
      sets = e;
      behind = refl;
      no_read_kept = access_kept u;
      no_read_gain = access_gain u;
      no_write_kept = access_kept u;
      no_write_gain = access_gain u;
    }

  keeps_read : (v : ℕ) → (fit_access (facts_of s) t v && may_read (facts_of s) t v) ≡ true → HasRead t v (facts_of s) (facts_of (has_read t v s))
  keeps_read v e = record {
    was = grind arith;
    granted = grind arith;
    active = grind arith;
    behind = refl;
    own = λ k. grind arith;
    shared = λ k. grind (arith, nat_tests);
    reads = λ w ne. let d = ne_eqb w v ne in grind arith;
    writes = λ w. refl;
    bars = record { no_read = bars; no_write = bars };
    only = λ u ne. refl;
    others = λ u ne on.
        access_other (has_read t v s) v (λ x. refl) (λ x w k. grind arith) (λ x w k. grind arith) u
        (record { reads = λ w. let d = ne_eqb u t ne in grind arith; writes = λ w. refl });
  }
    where
      bars : (w : ℕ) → barred (has_read t v s) t w ≡ barred s t w
      bars = access_bars (has_read t v s) v (λ x. refl) (λ x w k. grind arith) (λ x w k. grind arith)

  keeps_write : (v : ℕ) → (fit_access (facts_of s) t v && may_write (facts_of s) t v) ≡ true → HasWritten t v (facts_of s) (facts_of (has_written t v s))
  keeps_write v e = record {
    was = grind arith;
    granted = grind arith;
    active = grind arith;
    behind = refl;
    reads = λ w. refl;
    written = grind (arith, nat_tests);
    writes = λ w ne. let d = ne_eqb w v ne in grind arith;
    bars = record { no_read = bars; no_write = bars };
    only = λ u ne. refl;
    others = λ u ne on.
        access_other (has_written t v s) v (λ x. refl) (λ x w k. grind arith) (λ x w k. grind arith) u
        (record { reads = λ w. refl; writes = λ w. let d = ne_eqb u t ne in grind arith });
  }
    where
      bars : (w : ℕ) → barred (has_written t v s) t w ≡ barred s t w
      bars = access_bars (has_written t v s) v (λ x. refl) (λ x w k. grind arith) (λ x w k. grind arith)

pub keeps : (s : Sets) → Sound s → Apart s → (m : Move) → due true m (facts_of s) ≡ true → Keeps true m (facts_of s) (facts_of (moved m s))
keeps s h a (begin t) e = keeps_begin s h a t e
keeps s h a (read t v) e = keeps_read s h a t v e
keeps s h a (write t v) e = keeps_write s h a t v e
keeps s h a (read_refused t v) e = record { barred = grind arith; ended = keeps_end s h a t (grind arith) }
keeps s h a (write_refused t v) e = record { barred = grind arith; ended = keeps_end s h a t (grind arith) }
keeps s h a (commit t) e = keeps_commit s h a t (grind arith)
keeps s h a (commit_refused t) e = record { barred = grind arith; ended = keeps_end s h a t (grind arith) }
keeps s h a (abort t) e = keeps_end s h a t e
