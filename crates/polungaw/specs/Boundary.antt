-- What a C caller is told of a text.
use Rattle.std.specs.Prelude.{◌≡◌, ℕ, ◌≤◌, true, List, length, ℤ, pos, negsuc, is_ok, Ok, Err, Result}
use Rattle.play.specs.declared.outcome.NoRoom.{NoRoom}
use Rattle.play.specs.Output.{Filled, most_printed}

-- the output's length, or -1 where there is no room for it
abbrev pub code : Result ℕ NoRoom → ℤ
code (Ok n) = pos n
code (Err why) = negsuc 0

-- the buffer is filled and the number says how; where it has room for the most that is printed of such a text, it is never refused
pub record Answered (text before : List ℕ) (number : ℤ) (after : List ℕ) : Type 0 where
  pub result : Result ℕ NoRoom
  pub filled : Filled text before result after
  pub told : number ≡ code result
  pub enough : most_printed text ≤ length before → is_ok result ≡ true

-- how many bytes a table takes, and may take at most
abbrev pub table_bytes : ℕ
table_bytes = 2856

abbrev pub table_limit : ℕ
table_limit = 8192
