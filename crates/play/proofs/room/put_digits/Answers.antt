use Rattle.std.proofs.Common.{ℕ, ◌+◌, ◌-◌, ◌%◌, List, ◌++◌, length, decimal, sym, refl, ap, ◌∙◌, append-nil, arith}
use Rattle.std.proofs.lemmas.Fmt.{decimal_nonempty}
use Rattle.std.proofs.lemmas.List.{take-set-le}
use Rattle.play.proofs.Digits.{one_digit_more, one_digit, digit_before, digit_first, digits_left, nothing_after}
use Rattle.play.proofs.room.put_digits.Goals as goal

pub loop-left-init : goal.loop-left-init
loop-left-init c = (
  refl,
  omega arith,
  sym (append-nil (decimal c.args.n)) ∙ ap (λ (x : List ℕ). decimal c.args.n ++ x) (sym (nothing_after c.args.end c.args.room.now)),
  refl,
)

pub overflow_sub-at : goal.overflow_sub-at
overflow_sub-at c = let i = c.loop-left.invariant in let s = decimal_nonempty c.loop-left.left i.1 in omega (arith, i.0, s, c.requires.digits)

pub bounds-room-at : goal.bounds-room-at
bounds-room-at c =
    let i = c.loop-left.invariant in
    let d = digits_left c.args.n c.loop-left.left c.loop-left.at c.args.end c.loop-left.room c.requires.digits i.0 i.1 i.2 in
    omega (arith, d.0, d.1, c.requires.room, c.loop-left.auto.room)

pub loop-left-preserved : goal.loop-left-preserved
loop-left-preserved c =
    let i = c.loop-left.invariant in
    let m = one_digit_more c.loop-left.left (omega arith) i.1 in
    let d = digits_left c.args.n c.loop-left.left c.loop-left.at c.args.end c.loop-left.room c.requires.digits i.0 i.1 i.2 in
    let b = 48 + c.loop-left.left % 10 in (
      omega (arith, i.0, m, d.0),
      omega (arith, i.1),
      digit_before c.args.n c.loop-left.left c.loop-left.at c.args.end b c.loop-left.room (omega arith) i.1 refl
          d.0 d.1 (omega (arith, c.requires.room, c.loop-left.auto.room)) i.2,
      take-set-le (c.args.end - length (decimal c.args.n)) c.loop-left.room (c.loop-left.at - 1) b (omega (arith, i.0, m, d.0)) ∙ i.3,
    )

pub overflow_sub-room : goal.overflow_sub-room
overflow_sub-room c = let i = c.loop-left.invariant in let s = decimal_nonempty c.loop-left.left i.1 in omega (arith, i.0, s, c.requires.digits)

pub bounds-room-at-2 : goal.bounds-room-at-2
bounds-room-at-2 c =
    let i = c.loop-left.invariant in
    let d = digits_left c.args.n c.loop-left.left c.loop-left.at c.args.end c.loop-left.room c.requires.digits i.0 i.1 i.2 in
    omega (arith, d.0, d.1, c.requires.room, c.loop-left.auto.room)

pub returns : goal.returns
returns c =
    let i = c.loop-left.invariant in
    let m = one_digit c.loop-left.left (omega arith) in
    let d = digits_left c.args.n c.loop-left.left c.loop-left.at c.args.end c.loop-left.room c.requires.digits i.0 i.1 i.2 in
    digit_first c.args.n c.loop-left.left c.loop-left.at c.args.end (c.args.end - length (decimal c.args.n)) (48 + c.loop-left.left)
    c.loop-left.room c.args.room.now (omega arith) refl (omega (arith, i.0, m, c.requires.digits)) d.1
    (omega (arith, c.requires.room, c.loop-left.auto.room)) i.2 i.3
