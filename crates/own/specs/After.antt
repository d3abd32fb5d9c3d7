-- What an ownership policy holds after each move.
use Rattle.std.specs.Prelude.{◌≡◌, true}
use Rattle.policy.specs.Facts.{Facts}
use Rattle.policy.specs.Moves.{Move}
use Rattle.policy.specs.Due.{due}
use Rattle.transactions.specs.Rows.{sets, notes}
use Rattle.own.specs.Ownership.{State, state_of, facts_of, next}
use Rattle.own.specs.declared.Own.{Own}

abbrev pub state : Own → State
state p = state_of (sets p.transactions) (notes p.transactions)

abbrev pub facts : Own → Facts
facts p = facts_of (state p)

-- q is p after the move m: the state is the one that the move makes
pub record After (p : Own) (m : Move) (q : Own) : Type 0 where
  pub call : due true m (facts p) ≡ true
  pub holds : state q ≡ next m (state p)
