use Rattle.std.proofs.Common.{rules, ◌≡◌, ◌<◌, Bool, true, false, get_or, None, sym, ap, ◌∙◌, arith}
use Rattle.policy.specs.Limits.{tasks}
use Rattle.clock.specs.Different.{different_below}
use Rattle.clock.specs.Steps.{read_versions}
use Rattle.clock.specs.Rows.{rows, new_number}
use Rattle.clock.specs.Counting.{below_none, below_counts}
use Rattle.clock.specs.ReadVersions.{read_versions_none}
use Rattle.clock.proofs.Counted.{is_new_below, counted_row}
use Rattle.clock.proofs.renumbering.different_below.Goals as goal
use Rattle.clock.proofs.renumbering.different_below.Goals.{then-is_some_and, else-is_some_and}

pub loop-t-init : goal.loop-t-init
loop-t-init c = (
  sym
      (ap (λ ns. different_below ns c.args.bound) (read_versions_none (rows c.args.transactions.now))
      ∙ below_none c.args.bound),
  omega arith,
)

pub loop-t-preserved : goal.loop-t-preserved
loop-t-preserved c =
    let ts = c.args.transactions.now.rows in
    let t = c.loop-t.t-counter in
    let new : c.is_some_and.result ≡ is_new_below ts t c.args.bound (get_or ts t None) = search rules in
    let there : t < tasks = omega arith in
    let more = λ (b : Bool) (e : b ≡ c.is_some_and.result). counted_row c.args.transactions.now t c.args.bound b there (e ∙ new) in
    elim c.if-is_some_and.branch [
      | then-is_some_and w ↦ let e = more true (sym w.if-is_some_and.true) in (omega arith, omega arith)
      | else-is_some_and w ↦ let e = more false (sym w.if-is_some_and.false) in (omega arith, omega arith)
    ]

pub returns : goal.returns
returns c =
    let end : c.loop-t.t-counter ≡ tasks = omega arith in
    let e : c.loop-t.different ≡ new_number c.args.transactions.now c.args.bound =
    c.loop-t.invariant.0
    ∙ ap (λ t. different_below (read_versions t (rows c.args.transactions.now)) c.args.bound) end in
    record {
      number = e;
      counts = e ∙ below_counts (read_versions tasks (rows c.args.transactions.now)) c.args.bound;
    }
