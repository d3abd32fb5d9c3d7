-- The ten rows: each reply is what its call computes to.
use Rattle.std.proofs.Common.{◌≡◌, true, reverse, ap, ◌∙◌, rules}
use mathlib.Core.Option.{some}
use Rattle.policy.specs.Facts.{Fresh, some_below}
use Rattle.clock.specs.Different.{among, different, different_below}
use Rattle.clock.specs.Steps.{read_versions}
use Rattle.history.specs.Steps.{State}
use Rattle.worked.specs.Policies.{Kind, PolicyOf, stated, Made}
use Rattle.worked.specs.Requests.{AskedInTurn}
use Rattle.worked.specs.Rows.{Left, nothing_more, variable_is, clock_is, Row, Leaves, Holds, AllHold, Played, rows}
use Rattle.worked.specs.Rows.{locked, both_read, too_new, newly_read, behind_reads_on, behind_is_barred, behind_writer, eagerly_barred, owned, renumbered}
use Rattle.worked.proofs.Replays.{picture}
use Rattle.worked.proofs.Schedules.{◌and◌, all_plain}
use Rattle.worked.proofs.Playing.{MovesRight, requests_for, has_run}
use Rattle.worked.proofs.Policies.{Held, held, clock_in, clock_held, shown, RightOver, runs_over}

-- the table, seen by what its policy holds, is left as a row says
abbrev pub LeftSo : (k : Kind) → Left → State (Held k) → Type 0
LeftSo k nothing_more x = Unit {0}
LeftSo k (variable_is v n) x = x.shared v ≡ n
LeftSo k (clock_is n) x = clock_in k x.policy ≡ some n

-- the row comes out right when its lines are replayed
pub record WorkedOut (row : Row) : Type 0 where
  pub plain : all_plain (reverse row.lines) ≡ true
  pub right : RightOver row.over (reverse row.lines)
  pub moves : MovesRight row.over (reverse row.lines)
  pub left : LeftSo row.over row.left (shown row.over (reverse row.lines))

leaves : (k : Kind) (l : Left) (b : State (PolicyOf k)) (x : State (Held k)) → picture (held k) b ≡ x → LeftSo k l x → Leaves k l b
leaves k nothing_more b x e h = tt
leaves k (variable_is v n) b x e h = ap (λ (s : State (Held k)). s.shared v) e ∙ h
leaves k (clock_is n) b x e h = clock_held k b.policy ∙ ap (λ (s : State (Held k)). clock_in k s.policy) e ∙ h

holds : (row : Row) → WorkedOut row → Holds row
holds row w a b h run =
    let r = runs_over row.over (reverse row.lines) w.plain w.right a b h run.new run.made run.run run.calls in
    (r.answers, leaves row.over row.left b (shown row.over (reverse row.lines)) r.ends w.left)

-- a policy that was asked for the row's requests is the one that a run of its calls leaves
pub plays : (row : Row) → WorkedOut row → (p q : PolicyOf row.over) → Fresh ((stated row.over).facts p) → Made row.over p
    → AskedInTurn (stated row.over) (requests_for (reverse row.lines)) p q → Played row q
plays row w = has_run row w.plain w.right w.moves

pub locked_worked : WorkedOut locked
unfolding some_below
locked_worked = search rules

pub both_read_worked : WorkedOut both_read
unfolding some_below
both_read_worked = search rules

pub too_new_worked : WorkedOut too_new
unfolding some_below
too_new_worked = search rules

pub newly_read_worked : WorkedOut newly_read
unfolding some_below
newly_read_worked = search rules

pub behind_reads_on_worked : WorkedOut behind_reads_on
unfolding some_below
behind_reads_on_worked = search rules

pub behind_is_barred_worked : WorkedOut behind_is_barred
unfolding some_below
behind_is_barred_worked = search rules

pub behind_writer_worked : WorkedOut behind_writer
unfolding some_below
behind_writer_worked = search rules

pub eagerly_barred_worked : WorkedOut eagerly_barred
unfolding some_below
eagerly_barred_worked = search rules

pub owned_worked : WorkedOut owned
unfolding some_below
owned_worked = search rules

pub renumbered_worked : WorkedOut renumbered
unfolding some_below among different different_below read_versions
renumbered_worked = search rules

pub all_hold : AllHold rows
all_hold =
    holds locked locked_worked and holds both_read both_read_worked and
    holds too_new too_new_worked and holds newly_read newly_read_worked and
    holds behind_reads_on behind_reads_on_worked and holds behind_is_barred behind_is_barred_worked and
    holds behind_writer behind_writer_worked and holds eagerly_barred eagerly_barred_worked and
    holds owned owned_worked and holds renumbered renumbered_worked and tt
