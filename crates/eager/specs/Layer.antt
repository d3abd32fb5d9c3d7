-- The eager layer: over any policy, a task that is behind may neither read nor write any more.
use Rattle.std.specs.Prelude.{◌≡◌, Bool, true, cond, nat_lt}
use Rattle.policy.specs.Limits.{variables}
use Rattle.policy.specs.Facts.{Facts}
use Rattle.policy.specs.Moves.{Move, begin, read, write, read_refused, write_refused, commit, commit_refused, abort}
use Rattle.policy.specs.Due.{due}

-- the facts below, except that both bars are all variables while the task is behind
abbrev pub fenced : Facts → Facts
fenced f = record {
  active = f.active;
  reads = f.reads;
  writes = f.writes;
  behind = f.behind;
  no_read = λ t v. cond (f.behind t) (nat_lt v variables) (f.no_read t v);
  no_write = λ t v. cond (f.behind t) (nat_lt v variables) (f.no_write t v);
}

-- the move that the policy below makes: what the layer refuses itself, it aborts below
abbrev pub below_move : Facts → Move → Move
below_move f (begin t) = begin t
below_move f (read t v) = read t v
below_move f (write t v) = write t v
below_move f (read_refused t v) = cond (f.behind t) (abort t) (read_refused t v)
below_move f (write_refused t v) = cond (f.behind t) (abort t) (write_refused t v)
below_move f (commit t) = commit t
below_move f (commit_refused t) = commit_refused t
below_move f (abort t) = abort t

-- the layer's move m takes the policy below from p to q
module _ {P : Type 0} (facts : P → Facts) (strict : Bool) (after : P → Move → P → Type 0) where
  pub record After (p : P) (m : Move) (q : P) : Type 0 where
    pub call : due strict m (fenced (facts p)) ≡ true
    pub below : after p (below_move (facts p) m) q
