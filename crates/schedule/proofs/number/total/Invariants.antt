-- What is left of the digits, read on from the sum so far, gives the answer.
use Rattle.std.proofs.Common.{◌≡◌, ◌≤◌, drop}
use Rattle.schedule.specs.Numbers.{digits_after}
use Rattle.schedule.proofs.number.total.Given as goal

abbrev pub invariant-loop-d : goal.invariant-loop-d
invariant-loop-d l = (l.sum ≤ l.top) × (digits_after l.top l.sum (drop l.d-index l.digits) ≡ digits_after l.top 0 l.digits)
