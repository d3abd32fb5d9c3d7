-- Requests to a policy: what it answers to each and where it goes then, and a list of them made in order.
use Rattle.std.specs.Prelude.{◌≡◌, Bool, List, [], ◌∷◌, Result}
use Rattle.policy.specs.declared.Policy.{Ghosts}
use Rattle.policy.specs.declared.PolicyFault.{PolicyFault}
use Rattle.policy.specs.declared.Granted.{Granted}
use Rattle.policy.specs.Facts.{Facts}
use Rattle.policy.specs.Moves.{Move, read_refused, write_refused, commit_refused}
use Rattle.policy.specs.Moves.{begin as begins, read as reads_variable, write as writes_variable, commit as commits}
use Rattle.policy.specs.Answers.{Moved, begin_answer, read_answer, write_answer, commit_answer}
use Rattle.worked.specs.declared.plays.Request.{Request}
use Rattle.worked.specs.declared.plays.Request.TheVariants.{Begin, Read, Write, Commit}

-- the policy's answer
abbrev pub answer_to : Bool → Request → Facts → Result Granted PolicyFault
answer_to strict (Begin t) f = begin_answer f t
answer_to strict (Read t v) f = read_answer f t v
answer_to strict (Write t v) f = write_answer f t v
answer_to strict (Commit t) f = commit_answer strict f t

-- the move that it makes if it grants the request
abbrev pub granted_move : Request → Move
granted_move (Begin t) = begins t
granted_move (Read t v) = reads_variable t v
granted_move (Write t v) = writes_variable t v
granted_move (Commit t) = commits t

-- the move that it makes if it refuses the request
abbrev pub refused_move : Request → Move
refused_move (Begin t) = begins t
refused_move (Read t v) = read_refused t v
refused_move (Write t v) = write_refused t v
refused_move (Commit t) = commit_refused t

-- a policy that is asked for one thing at p answers as its facts say, and is then at q
abbrev pub Asked : {P : Type 0} → Ghosts P → Request → P → P → Type 0
Asked stated c p q = Moved stated.after (granted_move c) (refused_move c) p q (answer_to stated.STRICT c (stated.facts p))

-- asked for several things, one after another, it goes from p to q
abbrev pub AskedInTurn : {P : Type 0} → Ghosts P → List Request → P → P → Type 0
AskedInTurn stated [] p q = q ≡ p
AskedInTurn {P} stated (c ∷ cs) p q = (mid : P) × Asked stated c p mid × AskedInTurn stated cs mid q
