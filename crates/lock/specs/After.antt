-- What a lock policy holds after each move.
use Rattle.std.specs.Prelude.{◌≡◌, true}
use Rattle.policy.specs.Facts.{Facts}
use Rattle.policy.specs.Moves.{Move}
use Rattle.transactions.specs.Sets.{Sets}
use Rattle.policy.specs.Due.{due}
use Rattle.transactions.specs.Moved.{moved}
use Rattle.transactions.specs.Rows.{sets}
use Rattle.lock.specs.Locks.{facts_of}
use Rattle.lock.specs.declared.Lock.{Lock}

-- which tasks are open, and what each has read and written
abbrev pub held : Lock → Sets
held p = sets p.transactions

abbrev pub facts : Lock → Facts
facts p = facts_of (held p)

-- q is p after the move m: the sets are those that the move makes, and the policy holds nothing else
pub record After (p : Lock) (m : Move) (q : Lock) : Type 0 where
  pub call : due true m (facts p) ≡ true
  pub sets : held q ≡ moved m (held p)
