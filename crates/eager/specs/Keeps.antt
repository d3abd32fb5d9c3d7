-- The layer keeps the rules if the policy below does, move by move: f and g are the facts below, before and after.
use Rattle.std.specs.Prelude.{◌≡◌, ℕ, ◌<◌, Bool, true, false, cond, ◌⊎◌, nat_lt}
use Rattle.std.proofs.Common.{sym, subst, arith}
use Rattle.std.proofs.lemmas.Bool.{lt-ltb, ltb-true, and_parts, not-true}
use Rattle.policy.specs.Limits.{variables}
use Rattle.policy.specs.Facts.{Facts, Proper, Touched}
use Rattle.policy.specs.Moves.{Move, begin, read, write, read_refused, write_refused, commit, commit_refused, abort}
use Rattle.policy.specs.Moves.{Keeps, Begun, HasRead, HasWritten, Committed, Ended, Beside, Passed, Spared, SameBars}
use Rattle.policy.specs.Due.{due}
use Rattle.eager.specs.Layer.{fenced, below_move}

-- a fenced set holds only variables that there are
below : (b : Bool) (n : Bool) (v : ℕ) → (n ≡ true → v < variables) → cond b (nat_lt v variables) n ≡ true → v < variables
below true n v h e = ltb-true v variables e
below false n v h e = h e

pub proper : (f : Facts) → Proper f → Proper (fenced f)
proper f p = record {
  no_reads = p.no_reads;
  no_writes = p.no_writes;
  not_behind = p.not_behind;
  may_read_all = λ t v e. let b = p.not_behind t e in let n = p.may_read_all t v e in grind arith;
  may_write_all = λ t v e. let b = p.not_behind t e in let n = p.may_write_all t v e in grind arith;
  task = p.task;
  read_below = p.read_below;
  written_below = p.written_below;
  no_read_below = λ t v. below (f.behind t) (f.no_read t v) v (p.no_read_below t v);
  no_write_below = λ t v. below (f.behind t) (f.no_write t v) v (p.no_write_below t v);
}

-- who may go on as before below may so above
same_bars : (f g : Facts) (u : ℕ) → g.behind u ≡ f.behind u → SameBars f g u → SameBars (fenced f) (fenced g) u
same_bars f g u b s = record {
  no_read = λ v. let e = s.no_read v in grind arith;
  no_write = λ v. let e = s.no_write v in grind arith;
}

touched : (f : Facts) (t v : ℕ) → Touched f t v → Touched (fenced f) t v
touched f t v w = record { by = w.by; other = w.other; active = w.active; touched = w.touched }

begun : (t : ℕ) (f g : Facts) → Begun t f g → Begun t (fenced f) (fenced g)
begun t f g k = record {
  was = k.was;
  active = k.active;
  behind = k.behind;
  reads = k.reads;
  writes = k.writes;
  no_read = λ v e. touched f t v (k.no_read v (let b = k.behind in grind arith));
  no_write = λ v e. touched f t v (k.no_write v (let b = k.behind in grind arith));
  only = k.only;
  others = λ u ne on.
      let o = k.others u ne on in
      record { sets = record { reads = o.sets.reads; writes = o.sets.writes }; behind = o.behind; bars = same_bars f g u o.behind o.bars };
}

beside : (v : ℕ) (f g : Facts) (u : ℕ) → Beside v f g u → Beside v (fenced f) (fenced g) u
beside v f g u k = record {
  sets = record { reads = k.sets.reads; writes = k.sets.writes };
  behind = k.behind;
  no_read_kept = λ w e. let b = k.behind in let h : f.no_read u w ≡ true → g.no_read u w ≡ true = k.no_read_kept w in grind arith;
  no_read_gain = λ w ne. let b = k.behind in let h = k.no_read_gain w ne in grind arith;
  no_write_kept = λ w e. let b = k.behind in let h : f.no_write u w ≡ true → g.no_write u w ≡ true = k.no_write_kept w in grind arith;
  no_write_gain = λ w ne. let b = k.behind in let h = k.no_write_gain w ne in grind arith;
}

has_read : (strict : Bool) (t v : ℕ) (f g : Facts) → due strict (read t v) (fenced f) ≡ true → HasRead t v f g → HasRead t v (fenced f) (fenced g)
has_read strict t v f g e k = record {
  was = k.was;
  granted = (and_parts _ _ e).1;
  active = k.active;
  behind = k.behind;
  own = k.own;
  shared = k.shared;
  reads = k.reads;
  writes = k.writes;
  bars = same_bars f g t k.behind k.bars;
  only = k.only;
  others = λ u ne on. beside v f g u (k.others u ne on);
}

has_written : (strict : Bool) (t v : ℕ) (f g : Facts) → due strict (write t v) (fenced f) ≡ true → HasWritten t v f g → HasWritten t v (fenced f) (fenced g)
has_written strict t v f g e k = record {
  was = k.was;
  granted = (and_parts _ _ e).1;
  active = k.active;
  behind = k.behind;
  reads = k.reads;
  written = k.written;
  writes = k.writes;
  bars = same_bars f g t k.behind k.bars;
  only = k.only;
  others = λ u ne on. beside v f g u (k.others u ne on);
}

passed : (t : ℕ) (f g : Facts) (u : ℕ) → Proper f → Passed t f g u → Passed t (fenced f) (fenced g) u
passed t f g u p k = record {
  sets = record { reads = k.sets.reads; writes = k.sets.writes };
  stays_behind = k.stays_behind;
  falls_behind = k.falls_behind;
  only_so = k.only_so;
  fenced = λ b. record {
    kept = λ v e. let l = lt-ltb v variables (below (f.behind u) (f.no_read u v) v (p.no_read_below u v) e) in grind arith;
    gains = λ v w. let l = lt-ltb v variables (p.written_below t v w) in grind arith;
  };
  near = λ b.
      let n : f.behind u ≡ false = in_time b in
      record {
        no_read = λ v e. subst (λ y. (cond y (nat_lt v variables) (f.no_read u v) ≡ true) ⊎ (f.writes t v ≡ true)) (sym n) ((k.near b).no_read v (grind arith));
        no_write = λ v e. subst (λ y. (cond y (nat_lt v variables) (f.no_write u v) ≡ true) ⊎ (f.writes t v ≡ true)) (sym n) ((k.near b).no_write v (grind arith));
      };
}
  where
    in_time : g.behind u ≡ false → f.behind u ≡ false
    in_time b = let s : f.behind u ≡ true → g.behind u ≡ true = k.stays_behind in grind arith

committed : (strict : Bool) (t : ℕ) (f g : Facts) → Proper f → Committed strict t f g → Committed strict t (fenced f) (fenced g)
committed strict t f g p k = record {
  was = k.was;
  granted = k.granted;
  gone = k.gone;
  only = k.only;
  others = λ u ne on. passed t f g u p (k.others u ne on);
}

spared : (f g : Facts) (u : ℕ) → Spared f g u → Spared (fenced f) (fenced g) u
spared f g u k = record {
  sets = record { reads = k.sets.reads; writes = k.sets.writes };
  behind = k.behind;
  no_read = λ v e. let b = k.behind in let h : g.no_read u v ≡ true → f.no_read u v ≡ true = k.no_read v in grind arith;
  no_write = λ v e. let b = k.behind in let h : g.no_write u v ≡ true → f.no_write u v ≡ true = k.no_write v in grind arith;
  fenced = λ b v e. let s = k.behind in grind arith;
}

ended : (t : ℕ) (f g : Facts) → Ended t f g → Ended t (fenced f) (fenced g)
ended t f g k = record {
  was = k.was;
  gone = k.gone;
  only = k.only;
  others = λ u ne on. spared f g u (k.others u ne on);
}

-- whichever of an abort and a refusal happened below, the transaction ended
either_ended : (strict : Bool) (b : Bool) (m : Move) (t : ℕ) (f g : Facts) → (Keeps strict m f g → Ended t f g) → Keeps strict (cond b (abort t) m) f g → Ended t f g
either_ended strict true m t f g h k = k
either_ended strict false m t f g h k = h k

pub keeps : (strict : Bool) (m : Move) (f g : Facts) → Proper f → due strict m (fenced f) ≡ true → Keeps strict (below_move f m) f g → Keeps strict m (fenced f) (fenced g)
keeps strict (begin t) f g p e k = begun t f g k
keeps strict (read t v) f g p e k = has_read strict t v f g e k
keeps strict (write t v) f g p e k = has_written strict t v f g e k
keeps strict (read_refused t v) f g p e k = record {
  barred = not-true _ (and_parts _ _ e).1;
  ended = ended t f g (either_ended strict (f.behind t) (read_refused t v) t f g (λ r. r.ended) k);
}
keeps strict (write_refused t v) f g p e k = record {
  barred = not-true _ (and_parts _ _ e).1;
  ended = ended t f g (either_ended strict (f.behind t) (write_refused t v) t f g (λ r. r.ended) k);
}
keeps strict (commit t) f g p e k = committed strict t f g p k
keeps strict (commit_refused t) f g p e k = record { barred = k.barred; ended = ended t f g k.ended }
keeps strict (abort t) f g p e k = ended t f g k
