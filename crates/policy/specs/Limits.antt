-- How many tasks and variables there are. Every other number of tasks or variables is one of these.
use Rattle.std.specs.Prelude.{ℕ}

abbrev pub tasks : ℕ
tasks = 8

abbrev pub variables : ℕ
variables = 64
