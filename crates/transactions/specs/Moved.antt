-- What each move makes of the read sets and write sets; the same under every policy.
use Rattle.policy.specs.Moves.{Move, begin, read, write, read_refused, write_refused, commit, commit_refused, abort}
use Rattle.transactions.specs.Sets.{Sets, begun, ended, has_read, has_written}

-- the sets after the move
abbrev pub moved : Move → Sets → Sets
moved (begin t) s = begun t s
moved (read t v) s = has_read t v s
moved (write t v) s = has_written t v s
moved (read_refused t v) s = ended t s
moved (write_refused t v) s = ended t s
moved (commit t) s = ended t s
moved (commit_refused t) s = ended t s
moved (abort t) s = ended t s
