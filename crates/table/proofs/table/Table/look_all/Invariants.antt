use Rattle.std.proofs.Common.{◌≡◌, ℕ, ◌<◌, length, get_or, pos}
use Rattle.table.specs.Views.{sight}
use Rattle.table.proofs.table.Table.look_all.Given as goal

-- the values before this place are what the task sees
abbrev pub invariant-loop-place : goal.invariant-loop-place
invariant-loop-place g l =
    (length l.value-items ≡ length l.self.shared) × ((v : ℕ) → v < l.place → get_or l.value-items v (pos 0) ≡ sight g.P.Policy.facts l.self l.task v)
