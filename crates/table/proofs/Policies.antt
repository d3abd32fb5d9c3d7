-- What every policy keeps, by what it states of itself.
use Rattle.policy.specs.Facts.{Proper}
use Rattle.policy.specs.Moves.{Move, Keeps}
use Rattle.policy.specs.declared.Policy.{Ghosts}

-- each of its moves does to the facts what such a move may do
abbrev pub Keeping : {P : Type 0} → Ghosts P → Type 0
Keeping {P} stated = (p q : P) (m : Move) → stated.after p m q → Keeps stated.STRICT m (stated.facts p) (stated.facts q)

-- its facts are always proper
abbrev pub AlwaysProper : {P : Type 0} → Ghosts P → Type 0
AlwaysProper {P} stated = (p : P) → Proper (stated.facts p)
