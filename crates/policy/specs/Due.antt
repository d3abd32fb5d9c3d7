-- When a move may be made: what its call finds in the facts before it.
use Rattle.std.specs.Prelude.{Bool, not, ◌&&◌}
use Rattle.policy.specs.Facts.{Facts, may_read, may_write, may_commit}
use Rattle.policy.specs.Moves.{Move, begin, read, write, read_refused, write_refused, commit, commit_refused, abort}
use Rattle.policy.specs.Answers.{fit_task, fit_access, fit_begin}

-- the call is fit, and the facts before it grant or refuse it as the move says
abbrev pub due : Bool → Move → Facts → Bool
due strict (begin t) f = fit_begin f t
due strict (read t v) f = fit_access f t v && may_read f t v
due strict (write t v) f = fit_access f t v && may_write f t v
due strict (read_refused t v) f = fit_access f t v && not (may_read f t v)
due strict (write_refused t v) f = fit_access f t v && not (may_write f t v)
due strict (commit t) f = fit_task f t && may_commit strict f t
due strict (commit_refused t) f = fit_task f t && not (may_commit strict f t)
due strict (abort t) f = fit_task f t
