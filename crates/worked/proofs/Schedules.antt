-- A schedule replayed line by line: if each reply is the answer at the state that the lines before it make, every run of its calls is answered so.
use Rattle.std.proofs.Common.{◌≡◌, Bool, true, ◌&&◌, List, [], ◌∷◌, pos, sym, refl, ap, ◌∙◌, subst, rules}
use Rattle.std.proofs.lemmas.Bool.{and_parts}
use mathlib.Core.Path.{fun_ext}
use Rattle.policy.specs.Facts.{Facts}
use Rattle.policy.specs.Moves.{Move}
use Rattle.history.specs.Calls.{Call, Answer, done, value, refused}
use Rattle.history.specs.Answers.{idle}
use Rattle.history.specs.Steps.{State, Step}
use Rattle.history.specs.Transactions.{History}
use Rattle.history.specs.Runs.{New, Leads, none_yet, then}
use Rattle.worked.specs.Lines.{Reply, ok, the_value, refusal, Line, Is, calls_made, line_calls, AnswersAre}
use Rattle.worked.proofs.Replays.{picture, plain, replied, replayed, step_replied, step_replayed}

-- a pair; what is shown of a list is shown of each line `and` of the next ones
infixr 30 ◌and◌
abbrev pub ◌and◌ : {A B : Type 0} → A → B → A × B
a and b = (a, b)

-- the answer that a reply states
abbrev pub answer_of : Reply → Answer
answer_of ok = done
answer_of (the_value x) = value x
answer_of (refusal n why) = refused why

pub is_stated : (y : Reply) (r : Answer) → Is y r → r ≡ answer_of y
is_stated = search rules

-- no call of the lines reads a list
abbrev pub all_plain : List Line → Bool
all_plain [] = true
all_plain (l ∷ ls) = plain l.call && all_plain ls

-- a new table whose policy holds x
abbrev pub new_table : {H : Type 0} → H → State H
new_table x = record { policy = x; stage = λ t. idle; pending = λ t v. pos 0; shared = λ v. pos 0 }

module _ {H : Type 0} (meaning : H → Facts) (next : Move → H → H) where
  -- the table after some lines, newest first
  abbrev pub after_lines : List Line → State H → State H
  after_lines [] x = x
  after_lines (l ∷ ls) x = replayed meaning next l.call (answer_of l.reply) (after_lines ls x)

  -- the reply of each line, newest first, is the answer to its call after the lines before it
  abbrev pub Right : Bool → List Line → State H → Type 0
  Right strict [] x = Unit {0}
  Right strict (l ∷ ls) x = Is l.reply (replied meaning strict l.call (after_lines ls x)) × Right strict ls x

  -- what a run of the calls of some lines shows
  pub record Replay (ls : List Line) (h : History) (a b : State H) : Type 0 where
    pub answers : AnswersAre ls h
    pub ends : b ≡ after_lines ls a

module _ {P H : Type 0} (held : P → H) (meaning : H → Facts) (next : Move → H → H) (after : P → Move → P → Type 0) (strict : Bool)
    (follows : (p q : P) (m : Move) → after p m q → held q ≡ next m (held p)) where
  one_more : (x : State H) (c : Call) (r : Answer) (b d : State P) (h : History) (l : Line) (ls : List Line) → Replay meaning next ls h x (picture held b)
      → Step (λ p. meaning (held p)) after strict c b r d → c ≡ l.call → plain l.call ≡ true
      → Is l.reply (replied meaning strict l.call (after_lines meaning next ls x))
      → Replay meaning next (l ∷ ls) (record { call = c; answer = r; shared = d.shared } ∷ h) x (picture held d)
  one_more x c r b d h l ls before step same e right = record { answers = (is_right, before.answers); ends = ends }
    where
      is_plain : plain c ≡ true
      is_plain = ap plain same ∙ e

      answered : r ≡ replied meaning strict l.call (after_lines meaning next ls x)
      answered = step_replied held meaning next after strict follows c r b d step is_plain ∙ (λ i. replied meaning strict (same i) (before.ends i))

      is_right : Is l.reply r
      is_right = subst (Is l.reply) (sym answered) right

      ends : picture held d ≡ after_lines meaning next (l ∷ ls) x
      ends =
          step_replayed held meaning next after strict follows c r b d step is_plain
          ∙ (λ i. replayed meaning next (same i) (is_stated l.reply r is_right i) (before.ends i))

  replay : (a : State P) {b : State P} {h : History} → Leads (λ p. meaning (held p)) after strict a b h → (ls : List Line) → calls_made h ≡ line_calls ls
      → all_plain ls ≡ true → Right meaning next strict ls (picture held a) → Replay meaning next ls h (picture held a) (picture held b)
  replay a none_yet [] same e right = record { answers = tt; ends = refl }
  replay a none_yet (l ∷ ls) same e right = absurd (cc)
  replay a (then c r run step) [] same e right = absurd (cc)
  replay a (then {b = b} {d = d} {h = h} c r run step) (l ∷ ls) same e right =
      let both = and_parts (plain l.call) (all_plain ls) e in
      one_more (picture held a) c r b d h l ls (replay a run ls (cc) both.1 right.1) step (cc) both.0 right.0

  starts : (a : State P) (x : H) → New (λ p. meaning (held p)) a → held a.policy ≡ x → picture held a ≡ new_table x
  starts a x new holds =
      λ i. record { policy = holds i; stage = fun_ext new.stage i; pending = fun_ext (λ t. fun_ext (new.pending t)) i; shared = fun_ext new.shared i }

  -- every run of the calls of some lines, from a new table whose policy holds x
  pub runs : (x : H) (ls : List Line) → all_plain ls ≡ true → Right meaning next strict ls (new_table x) → (a b : State P) (h : History)
      → New (λ p. meaning (held p)) a → held a.policy ≡ x → Leads (λ p. meaning (held p)) after strict a b h → calls_made h ≡ line_calls ls
      → Replay meaning next ls h (new_table x) (picture held b)
  runs x ls e right a b h new holds run same =
      let s : picture held a ≡ new_table x = starts a x new holds in
      subst (λ (y : State H). Replay meaning next ls h y (picture held b)) s
      (replay a run ls same e (subst (λ (y : State H). Right meaning next strict ls y) (sym s) right))
