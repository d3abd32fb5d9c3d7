use Rattle.std.proofs.Common.{◌≡◌, ℕ, ◌+◌, length, replicate, pos, sym, refl, ap, ◌∙◌, arith, w32, to_z, of_z, rules, drop}
use Rattle.std.proofs.lemmas.List.{drop-set-lt, drop-drop}
use Rattle.table.proofs.ListChecks.{named_at}
use Rattle.table.proofs.ListReads.{none_read, one_more, barred_at, all_read}
use Rattle.table.proofs.table.Table.read_list.Goals as goal

pub loop-place-init : goal.loop-place-init
loop-place-init g c = (refl, refl, refl, λ l. none_read g.P.Policy g.met.P.Policy.keeps c.args.task c.args.list.now c.args.self.now c.args.reply.now)

pub invariant_of-variable : goal.invariant_of-variable
invariant_of-variable g c = named_at 0 c.args.list.now c.loop-place.place c.requires.named c.loop-place-test.true

pub returns-in-Err : goal.returns-in-Err
returns-in-Err g c =
    let i = c.loop-place.place in
    let h = c.loop-place-test.true in
    record {
      reads = λ l. barred_at g.P.Policy g.met.P.Policy.keeps c.args.task c.args.list.now c.args.self.now i c.loop-place.self c.read.new.self
          c.loop-place.reply h l (c.loop-place.invariant.3 l) (g.met.P.Policy.proper c.loop-place.self.policy)
          (named_at 0 c.args.list.now i c.requires.named h) c.from.ensures.0 c.from-in-loop-place.ensures.0 c.in-Err.ensures.answer c.in-Err.ensures.moved;
      leaves = c.clear.ensures ∙ ap (λ (n : ℕ). replicate n (pos 0)) (omega arith);
      stages = c.loop-place.invariant.1;
      shared = c.loop-place.invariant.2;
    }

pub loop-place-preserved : goal.loop-place-preserved
loop-place-preserved g c =
    let i = c.loop-place.place in
    let x = to_z w32 (of_z w32 c.look-value.result) in
    let z : x ≡ c.look-value.result = search rules in
    let rest =
    drop-set-lt (i + 1) c.loop-place.reply i x (omega arith) ∙ sym (drop-drop 1 i c.loop-place.reply) ∙ ap (drop 1) c.loop-place.invariant.0
    ∙ drop-drop 1 i c.args.reply.now
    in (
      rest,
      c.loop-place.invariant.1,
      c.loop-place.invariant.2,
      λ l. one_more g.P.Policy g.met.P.Policy.keeps c.args.task c.args.list.now c.args.self.now i c.loop-place.self c.read.new.self
          c.loop-place.reply c.loop-place-test.true l (c.loop-place.invariant.3 l) x (omega arith) c.loop-place.invariant.1 c.loop-place.invariant.2
          c.from.ensures.0 c.from-in-loop-place.ensures.0 c.in-Ok.ensures.moved (z ∙ c.look-value.ensures),
    )

pub returns : goal.returns
returns g c =
    let e : c.loop-place.place ≡ length c.args.list.now = omega arith in
    record {
      reads = λ l. all_read g.P.Policy g.met.P.Policy.keeps c.args.task c.args.list.now c.args.self.now c.loop-place.place
          c.loop-place.self.policy c.loop-place.reply e (c.loop-place.invariant.3 l);
      leaves = rw e at c.loop-place.invariant.0;
      stages = c.loop-place.invariant.1;
      shared = c.loop-place.invariant.2;
    }
