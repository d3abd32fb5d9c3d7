use Rattle.std.proofs.Common.{drop}
use Rattle.worked.specs.Requests.{AskedInTurn}
use Rattle.worked.proofs.plays.play.Given as goal

-- whatever the rest of the requests leads to from here, all of them lead to from the start
abbrev pub invariant-loop-request : goal.invariant-loop-request
invariant-loop-request g l =
    (q : _) → AskedInTurn g.P.Policy (drop l.request-index l.requests) l.policy q → AskedInTurn g.P.Policy l.requests l.fn.policy q
