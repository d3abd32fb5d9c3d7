use Rattle.schedule.specs.Texts.{header_of}
use Rattle.play.specs.Output.{command_lines}
use Rattle.play.proofs.FirstLine.{named, fronts_fault, lines_within}
use Rattle.std.proofs.Common.{rules}
use Rattle.play.proofs.choosing.run_text.Goals as goal

pub returns-in-Ok-clause-within : goal.returns-in-Ok-clause-within
returns-in-Ok-clause-within c =
    let s = c.args.text.now in
    let w = c.run_choice.ensures.within in
    let l = lines_within s (named s c.in-Ok.choice c.in-Ok.ensures).0 in search rules

pub returns-in-Err-clause-fronts : goal.returns-in-Err-clause-fronts
returns-in-Err-clause-fronts c =
    let s = c.args.text.now in
    fronts_fault (header_of s) c.in-Err.fault c.line.result (command_lines s) c.args.output.now c.put_line.new.self
    c.put_line.result c.in-Err.ensures c.line.ensures c.put_line.ensures.added
