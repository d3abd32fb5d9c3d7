-- The lines of a worked schedule, and when the answers of a run are theirs.
use Rattle.std.specs.Prelude.{◌≡◌, ℕ, List, [], ◌∷◌, map, ℤ}
use Rattle.history.specs.Calls.{Call, Refusal, number, Answer, done, value, refused}
use Rattle.history.specs.Transactions.{Entry, History}

-- an answer as a line states it: granted, granted with a value, or refused with a number and a reason
pub data Reply : Type 0 where
  ok : Reply
  the_value : ℤ → Reply
  refusal : ℕ → Refusal → Reply

-- a call and its reply
pub record Line : Type 0 where
  pub call : Call
  pub reply : Reply

infix 70 ◌gives◌
abbrev pub ◌gives◌ : Call → Reply → Line
c gives r = record { call = c; reply = r }

-- the answer is as stated: a refusal has this reason, and this reason has this number
abbrev pub Is : Reply → Answer → Type 0
Is ok r = r ≡ done
Is (the_value x) r = r ≡ value x
Is (refusal n why) r = (r ≡ refused why) × (number why ≡ n)

-- the calls of a history
abbrev pub calls_made : History → List Call
calls_made h = map (λ (e : Entry). e.call) h

-- the calls of some lines
abbrev pub line_calls : List Line → List Call
line_calls ls = map (λ (l : Line). l.call) ls

-- the answers of a history are those of the lines, one by one
abbrev pub AnswersAre : List Line → History → Type 0
AnswersAre [] [] = Unit {0}
AnswersAre [] (e ∷ h) = ⊥
AnswersAre (l ∷ ls) [] = ⊥
AnswersAre (l ∷ ls) (e ∷ h) = Is l.reply e.answer × AnswersAre ls h
