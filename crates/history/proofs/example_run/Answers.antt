use Rattle.history.proofs.example_run.Goals as goal
use Rattle.history.proofs.ExampleRun.{example}

pub returns-clause-run : goal.returns-clause-run
returns-clause-run c = example
