-- What stands from `at` on are the digits after those of what is left.
use Rattle.std.proofs.Common.{◌≡◌, ◌+◌, ◌-◌, ◌^◌, ◌<◌, ◌++◌, length, take, drop, decimal}
use Rattle.play.proofs.room.put_digits.Given as goal

abbrev pub invariant-loop-left : goal.invariant-loop-left
invariant-loop-left l =
    (l.at + length (decimal l.n) ≡ l.end + length (decimal l.left)) × (l.left < 2 ^ 64)
    × (decimal l.n ≡ decimal l.left ++ drop l.at (take l.end l.room))
    × (take (l.end - length (decimal l.n)) l.room ≡ take (l.end - length (decimal l.n)) l.initial.room)

abbrev pub decreases-loop-left : goal.decreases-loop-left
decreases-loop-left l = l.left
