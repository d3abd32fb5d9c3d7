-- What is printed of a line.
use Rattle.std.specs.Prelude.{ℕ, List, [], ◌∷◌, ◌++◌, ℤ, Ok, Err, codes, decimal, Result}
use Rattle.std.specs.Fmt.{signed_decimal}
use Rattle.schedule.specs.Pieces.{line_feed}
use Rattle.schedule.specs.Faults.{fault_number}
use Rattle.schedule.specs.declared.fault.TextFault.{TextFault}
use Rattle.history.specs.Calls.{Answer, done, value, values, refused, number}
use Rattle.table.specs.Faults.{numbered}
use Rattle.table.specs.declared.fault.TableFault.{TableFault}
use Rattle.play.specs.declared.outcome.Outcome.{Outcome}
use Rattle.play.specs.declared.outcome.Outcome.TheVariants.{Done, Value}

-- a granted line
abbrev pub granted_text : List ℕ
granted_text = codes " ok"

-- a granted read, with its value
abbrev pub value_text : ℤ → List ℕ
value_text x = codes " = " ++ signed_decimal x

-- a refusal, by its number
abbrev pub refused_text : ℕ → List ℕ
refused_text k = codes " no " ++ decimal k

-- a printed line: the line's number, what is told of it, and LF
abbrev pub printed : ℕ → List ℕ → List ℕ
printed n text = decimal n ++ (text ++ (line_feed ∷ []))

-- what is told of a line by what it came to; a fault is told by the innermost number
abbrev pub reply_text : Result Outcome (TextFault TableFault) → List ℕ
reply_text (Ok Done) = granted_text
reply_text (Ok (Value x)) = value_text x
reply_text (Err fault) = refused_text (fault_number numbered fault)

-- what is told of a command by the table's answer; no command answers a list
abbrev pub answer_text : Answer → List ℕ
answer_text done = granted_text
answer_text (value x) = value_text x
answer_text (values xs count) = granted_text
answer_text (refused why) = refused_text (number why)

-- how long what is told of a line is at most
abbrev pub longest_reply : ℕ
longest_reply = 14

-- how long a printed line is at most
abbrev pub longest_line : ℕ
longest_line = 35
