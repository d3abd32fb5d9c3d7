-- Text at the front of a caller's buffer.
use Rattle.std.specs.Prelude.{◌≡◌, ℕ, ◌+◌, ◌-◌, ◌<◌, ◌≤◌, List, ◌++◌, length, take, Ok, Err, Result}
use Rattle.play.specs.declared.outcome.NoRoom.{NoRoom}
use Rattle.play.specs.declared.room.Output.{Output}

-- the text that stands in the buffer
abbrev pub text_of : Output → List ℕ
text_of o = take o.used o.room.now

-- how long the buffer is
abbrev pub size_of : Output → ℕ
size_of o = length o.room.now

-- both are outputs in one buffer
abbrev pub SameBuffer : Output → Output → Type 0
SameBuffer before after = (after.room.ghost_name ≡ before.room.ghost_name) × (size_of after ≡ size_of before)

-- bs is added behind the text; or there is no room for it
abbrev pub Adds : List ℕ → Output → Result (Unit {0}) NoRoom → Output → Type 0
Adds bs before (Ok done) after = (after.used ≡ before.used + length bs) × (text_of after ≡ text_of before ++ bs)
Adds bs before (Err why) after = size_of before < before.used + length bs

-- at most k bytes were added, and a refusal means that there is no room for so many
abbrev pub Within : ℕ → Output → Result (Unit {0}) NoRoom → Output → Type 0
Within k before (Ok done) after = after.used ≤ before.used + k
Within k before (Err why) after = size_of before < before.used + k

-- what is said of some first of the lines ls is longer than the room
pub record TooLong (Says : List (List ℕ) → List ℕ → Type 0) (ls : List (List ℕ)) (room : ℕ) : Type 0 where
  pub done : List (List ℕ)
  pub rest : List (List ℕ)
  pub out : List ℕ
  pub split : ls ≡ done ++ rest
  pub says : Says done out
  pub longer : room < length out

-- what is said of the lines ls is added behind the text; or there is no room for it
abbrev pub Fronts : (List (List ℕ) → List ℕ → Type 0) → List (List ℕ) → Output → Result (Unit {0}) NoRoom → Output → Type 0
Fronts Says ls before (Ok done) after = (out : List ℕ) × Says ls out × Adds out before (Ok done) after
Fronts Says ls before (Err why) after = TooLong Says ls (size_of before - before.used)
