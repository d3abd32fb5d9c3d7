-- Runs built from the requests made of a policy, one by one, and how it answered.
use Rattle.std.proofs.Common.{◌≡◌, true, List, [], ◌∷◌, ◌++◌, reverse, Ok, Err, Result, sym, refl, ap, ◌∙◌, subst, rules}
use Rattle.std.proofs.lemmas.Bool.{and_parts}
use mathlib.Core.Option.{Option, none, some}
use Rattle.policy.specs.declared.PolicyFault.{PolicyFault}
use Rattle.policy.specs.declared.PolicyFault.TheVariants.{Unfit, ReadBarred, WriteBarred, CommitRefused}
use Rattle.policy.specs.declared.Granted.{Granted}
use Rattle.policy.specs.declared.Policy.{Ghosts}
use Rattle.policy.specs.Facts.{Facts, Fresh}
use Rattle.policy.specs.Moves.{Move}
use Rattle.policy.specs.Answers.{Moved}
use Rattle.history.specs.Calls.{Call, begin, read, write, collect, snapshot, commit, abort, task}
use Rattle.history.specs.Steps.{State, in_case, Chain}
use Rattle.history.specs.Transactions.{History}
use Rattle.history.specs.Runs.{New, Leads, none_yet, then}
use Rattle.worked.specs.Policies.{Kind, lock, own, clock, eager_clock, PolicyOf, stated, Made}
use Rattle.worked.specs.Lines.{Line, Is, calls_made, line_calls}
use Rattle.worked.specs.Rows.{Row, Played}
use Rattle.worked.specs.declared.plays.Request.{Request}
use Rattle.worked.specs.declared.plays.Request.TheVariants.{Begin, Read, Write, Commit}
use Rattle.worked.specs.Requests.{answer_to, granted_move, refused_move, AskedInTurn}
use Rattle.worked.proofs.Replays.{picture, plain, moves, replied}
use Rattle.worked.proofs.PlainSteps.{continued, plain_step}
use Rattle.worked.proofs.Schedules.{all_plain, new_table, answer_of, is_stated}
use Rattle.worked.proofs.Policies.{Held, held, meaning, shown, RightOver, runs_over}

-- what a table answers over a policy, by what the policy holds
replied_held : (k : Kind) (c : Call) (a : State (PolicyOf k))
    → replied (stated k).facts (stated k).STRICT c a ≡ replied (meaning k) (stated k).STRICT c (picture (held k) a)
replied_held lock c a = refl
replied_held own c a = refl
replied_held (clock start) c a = refl
replied_held (eager_clock start) c a = refl

facts_held : (k : Kind) (p : PolicyOf k) → (stated k).facts p ≡ meaning k (held k p)
facts_held lock p = refl
facts_held own p = refl
facts_held (clock start) p = refl
facts_held (eager_clock start) p = refl

-- the moves that a policy's answer tells of
abbrev pub told_moves : Move → Move → Result Granted PolicyFault → List Move
told_moves done barred (Ok g) = done ∷ []
told_moves done barred (Err Unfit) = []
told_moves done barred (Err (ReadBarred v)) = barred ∷ []
told_moves done barred (Err (WriteBarred v)) = barred ∷ []
told_moves done barred (Err CommitRefused) = barred ∷ []

told_chain : {P : Type 0} (after : P → Move → P → Type 0) (done barred : Move) (p q : P) (r : Result Granted PolicyFault) → Moved after done barred p q r
    → Chain after (told_moves done barred r) p q
told_chain = search rules

-- the request that a table makes for a call
abbrev pub request_for : Call → Option Request
request_for (begin t) = some (Begin t)
request_for (read t v) = some (Read t v)
request_for (write t v x) = some (Write t v)
request_for (collect t vs room) = none
request_for (snapshot t vs room) = none
request_for (commit t) = some (Commit t)
request_for (abort t) = none

-- the request that it makes for the call of a line, if the call comes so far
abbrev pub requested : Line → Option Request
requested l = in_case (answer_of l.reply) (request_for l.call) (λ why. request_for l.call) none

abbrev pub one_or_none : Option Request → List Request
one_or_none none = []
one_or_none (some c) = c ∷ []

-- the requests for the calls of some lines, newest first, in their order
abbrev pub requests_for : List Line → List Request
requests_for [] = []
requests_for (l ∷ ls) = requests_for ls ++ one_or_none (requested l)

-- the moves that the policy makes for a request, if there is one, after some lines
abbrev pub moves_for : (k : Kind) → Option Request → List Line → List Move
moves_for k none ls = []
moves_for k (some c) ls = told_moves (granted_move c) (refused_move c) (answer_to (stated k).STRICT c (meaning k (shown k ls).policy))

-- they are the moves of the table's step, line by line
abbrev pub MovesRight : Kind → List Line → Type 0
MovesRight k [] = Unit {0}
MovesRight k (l ∷ ls) = (moves_for k (requested l) ls ≡ moves l.call ((shown k ls).stage (task l.call)) (answer_of l.reply)) × MovesRight k ls

asked_split : {P : Type 0} (policy : Ghosts P) (cs ds : List Request) (p q : P) → AskedInTurn policy (cs ++ ds) p q
    → (mid : P) × AskedInTurn policy cs p mid × AskedInTurn policy ds mid q
asked_split policy [] ds p q asked = (p, refl, asked)
asked_split policy (c ∷ cs) ds p q asked =
    let rest = asked_split policy cs ds asked.0 q asked.2 in
    (rest.0, (asked.0, asked.1, rest.1), rest.2)

-- a run of the calls of some lines, newest first, has left a policy at p
record Reached (k : Kind) (ls : List Line) (p : PolicyOf k) : Type 0 where
  pub start : State (PolicyOf k)
  pub end : State (PolicyOf k)
  pub history : History
  pub new : New (stated k).facts start
  pub made : Made k start.policy
  pub run : Leads (stated k).facts (stated k).after (stated k).STRICT start end history
  pub same : calls_made history ≡ line_calls ls
  pub policy : end.policy ≡ p

unplayed : (k : Kind) (p q : PolicyOf k) → Fresh ((stated k).facts p) → Made k p → q ≡ p → Reached k [] q
unplayed k p q fresh made same = record {
  start = new_table p;
  end = new_table p;
  history = [];
  new = record { fresh = fresh; stage = λ t. refl; pending = λ t v. refl; shared = λ v. refl };
  made = made;
  run = none_yet;
  same = refl;
  policy = sym same;
}

module _ (k : Kind) (ls : List Line) (e : all_plain ls ≡ true) (right : RightOver k ls) (p : PolicyOf k) (so_far : Reached k ls p) where
  -- what the table shows so far
  shows : picture (held k) so_far.end ≡ shown k ls
  shows =
      (runs_over k ls e right so_far.start so_far.end so_far.history so_far.new so_far.made so_far.run so_far.same).ends

  -- the facts that the policy has so far
  facts_so_far : (stated k).facts p ≡ meaning k (shown k ls).policy
  facts_so_far =
      facts_held k p ∙ ap (λ (x : PolicyOf k). meaning k (held k x)) (sym so_far.policy)
      ∙ ap (λ (x : State (Held k)). meaning k x.policy) shows

  -- one more call, for which the policy makes these moves
  moved_on : (l : Line) (q : PolicyOf k) → plain l.call ≡ true → Is l.reply (replied (meaning k) (stated k).STRICT l.call (shown k ls))
      → Chain (stated k).after (moves l.call ((shown k ls).stage (task l.call)) (answer_of l.reply)) p q → Reached k (l ∷ ls) q
  moved_on l q plain-call reply chain = record {
    start = so_far.start;
    end = continued (stated k).facts l.call (answer_of l.reply) so_far.end q;
    history = record { call = l.call; answer = answer_of l.reply; shared = _ } ∷ so_far.history;
    new = so_far.new;
    made = so_far.made;
    run = then l.call (answer_of l.reply) so_far.run
        (plain_step (stated k).facts (stated k).after (stated k).STRICT l.call (answer_of l.reply) so_far.end q plain-call answered chained);
    same = ap (λ (cs : List Call). l.call ∷ cs) so_far.same;
    policy = refl;
  }
    where
      answered : answer_of l.reply ≡ replied (stated k).facts (stated k).STRICT l.call so_far.end
      answered =
          sym (replied_held k l.call so_far.end ∙ ap (replied (meaning k) (stated k).STRICT l.call) shows
          ∙ is_stated l.reply (replied (meaning k) (stated k).STRICT l.call (shown k ls)) reply)

      chained : Chain (stated k).after (moves l.call (so_far.end.stage (task l.call)) (answer_of l.reply)) so_far.end.policy q
      chained =
          subst (λ (x : State (Held k)). Chain (stated k).after (moves l.call (x.stage (task l.call)) (answer_of l.reply)) so_far.end.policy q)
          (sym shows)
          (subst (λ (x : PolicyOf k). Chain (stated k).after (moves l.call ((shown k ls).stage (task l.call)) (answer_of l.reply)) x q)
          (sym so_far.policy) chain)

  -- the moves that the policy makes for one more request, if there is one
  told : (r : Option Request) (q : PolicyOf k) → AskedInTurn (stated k) (one_or_none r) p q → Chain (stated k).after (moves_for k r ls) p q
  told none q asked = asked
  told (some c) q asked =
      subst (Chain (stated k).after (moves_for k (some c) ls) p) (sym asked.2)
      (told_chain (stated k).after (granted_move c) (refused_move c) p asked.0 (answer_to (stated k).STRICT c (meaning k (shown k ls).policy))
      (subst (λ (f : Facts). Moved (stated k).after (granted_move c) (refused_move c) p asked.0 (answer_to (stated k).STRICT c f)) facts_so_far asked.1))

reached : (k : Kind) (ls : List Line) (p q : PolicyOf k) → all_plain ls ≡ true → RightOver k ls → MovesRight k ls → Fresh ((stated k).facts p)
    → Made k p → AskedInTurn (stated k) (requests_for ls) p q → Reached k ls q
reached k [] p q e right ms fresh made asked = unplayed k p q fresh made asked
reached k (l ∷ ls) p q e right ms fresh made asked =
    let both = and_parts (plain l.call) (all_plain ls) e in
    let parts = asked_split (stated k) (requests_for ls) (one_or_none (requested l)) p q asked in
    let so_far : Reached k ls parts.0 = reached k ls p parts.0 both.1 right.1 ms.1 fresh made parts.1 in
    moved_on k ls both.1 right.1 parts.0 so_far l q both.0 right.0
    (subst (λ (l : List Move). Chain (stated k).after l parts.0 q) ms.0 (told k ls both.1 right.1 parts.0 so_far (requested l) q parts.2))

-- a row whose requests a new policy was asked for has a run
pub has_run : (row : Row) → all_plain (reverse row.lines) ≡ true → RightOver row.over (reverse row.lines) → MovesRight row.over (reverse row.lines)
    → (p q : PolicyOf row.over) → Fresh ((stated row.over).facts p) → Made row.over p
    → AskedInTurn (stated row.over) (requests_for (reverse row.lines)) p q → Played row q
has_run row e right ms p q fresh made asked =
    let r = reached row.over (reverse row.lines) p q e right ms fresh made asked in
    record {
      start = r.start;
      end = r.end;
      history = r.history;
      run = record { new = r.new; made = r.made; run = r.run; calls = r.same };
      policy = r.policy;
    }
