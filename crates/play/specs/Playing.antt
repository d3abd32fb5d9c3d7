-- A schedule's lines, run one after another on a table over any policy.
use Rattle.std.specs.Prelude.{◌≡◌, ℕ, ◌+◌, List, [], ◌∷◌, ◌++◌, Ok, Err}
use Rattle.schedule.specs.Grammar.{parsed}
use Rattle.schedule.specs.declared.command.Command.{Command}
use Rattle.schedule.specs.declared.command.Misfit.{Misfit}
use Rattle.policy.specs.Limits.{tasks}
use Rattle.policy.specs.declared.Policy.{Ghosts}
use Rattle.history.specs.Calls.{Answer}
use Rattle.history.specs.Steps.{State, Step}
use Rattle.history.specs.Runs.{Sound, New}
use Rattle.table.specs.Making.{AbortedBelow}
use Rattle.play.specs.Printed.{granted_text, refused_text, answer_text, printed}
use Rattle.play.specs.Performing.{call_of}

-- the number of a line that is no command
abbrev pub no_command_number : ℕ
no_command_number = 5

-- over a policy, by what it states of itself
module _ {P : Type 0} (stated : Ghosts P) where
  -- what the line l does to a table and what is told of it: one that is no command changes nothing, and a command is one call
  pub data Obeys (l : List ℕ) (a : State P) : List ℕ → State P → Type 0 where
    no_command : (why : Misfit) → parsed l ≡ Err why → Obeys l a (refused_text no_command_number) a
    performed : (c : Command) (r : Answer) (b : State P) → parsed l ≡ Ok c → Step stated.facts stated.after stated.STRICT (call_of c) a r b → Obeys l a (answer_text r) b

  -- the line does so, and stages and policy agree after it
  pub record Obeyed (l : List ℕ) (a : State P) (text : List ℕ) (b : State P) : Type 0 where
    pub obeys : Obeys l a text b
    pub sound : Sound stated.facts b

  -- the first n lines of a text, of which ls come after the first, have printed `out` and led from the table a to b
  pub data Plays (a : State P) : ℕ → List (List ℕ) → List ℕ → State P → Type 0 where
    first_line : Plays a 1 [] (printed 1 granted_text) a
    next_line : {n : ℕ} {ls : List (List ℕ)} {out : List ℕ} {b : State P} (l text : List ℕ) (d : State P) → Plays a n ls out b → Obeys l b text d
        → Plays a (n + 1) (ls ++ (l ∷ [])) (out ++ printed (n + 1) text) d

  -- a text with the lines ls after the first prints `out` from a new table over the policy p
  pub record Over (p : P) (ls : List (List ℕ)) (out : List ℕ) : Type 0 where
    pub made : State P
    pub new : New stated.facts made
    pub aborted : AbortedBelow stated tasks p made.policy
    pub lines : ℕ
    pub reached : State P
    pub plays : Plays made lines ls out reached
