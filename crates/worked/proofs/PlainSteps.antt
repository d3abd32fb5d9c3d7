-- The step of a plain call, built from the answer that it computes to and the moves that the policy makes.
use Rattle.std.proofs.Common.{◌≡◌, ℕ, ◌≤◌, Bool, true, List, [], ◌∷◌, ◌++◌, map, length, ℤ, sym, refl, ap, ◌∙◌, subst, arith}
use Rattle.policy.specs.Facts.{Facts}
use Rattle.policy.specs.Moves.{Move}
use Rattle.policy.specs.Moves.{read as reads_variable}
use Rattle.history.specs.Update.{at}
use Rattle.history.specs.Calls.{Call, task, Answer}
use Rattle.history.specs.Answers.{checked, wrong, untimely, barred}
use Rattle.history.specs.Steps.{State, Chain, ReadsFor, none_made, made, Step, answer, sees}
use Rattle.history.specs.Steps.{granted_reads, last_moves, stage_after, pending_after, shared_after}
use Rattle.history.proofs.Logic.{at_same, at_other}
use Rattle.worked.proofs.Replays.{plain, moves, replied, no_first_moves, no_count, few_reads}

chain_split : {P : Type 0} (after : P → Move → P → Type 0) (ms ns : List Move) (p q : P) → Chain after (ms ++ ns) p q
    → (mid : P) × Chain after ms p mid × Chain after ns mid q
chain_split after [] ns p q c = (p, refl, c)
chain_split after (m ∷ ms) ns p q c = let rest = chain_split after ms ns c.0 q c.2 in (rest.0, (c.0, c.1, rest.1), rest.2)

one_made : (vs : List ℕ) → length vs ≤ 1 → ReadsFor vs vs
one_made [] h = none_made
one_made (v ∷ []) h = made v none_made
one_made (v ∷ (w ∷ vs)) h = absurd (omega arith)

module _ {P : Type 0} (facts : P → Facts) where
  -- the table after a plain call that is answered r and leaves the policy at q
  abbrev pub continued : Call → Answer → State P → P → State P
  continued c r a q = record {
    policy = q;
    stage = at a.stage (task c) (stage_after c r (a.stage (task c)));
    pending = at a.pending (task c) (pending_after c r (a.pending (task c)));
    shared = shared_after c r (sees facts c a a.policy) a.shared;
  }

module _ {P : Type 0} (facts : P → Facts) (after : P → Move → P → Type 0) (strict : Bool) where
  any_count : (c : Call) (a : State P) (k : ℕ) → plain c ≡ true → answer facts strict c a a.policy k ≡ replied facts strict c a
  any_count c a k e =
      ap (checked (wrong c) (untimely c (a.stage (task c))) (barred strict (facts a.policy) c)) (no_count c (sees facts c a a.policy) k e)

  -- the step of a plain call, from its moves
  pub plain_step : (c : Call) (r : Answer) (a : State P) (q : P) → plain c ≡ true → r ≡ replied facts strict c a
      → Chain after (moves c (a.stage (task c)) r) a.policy q → Step facts after strict c a r (continued facts c r a q)
  plain_step c r a q e answered chain =
      let parts = chain_split after (map (reads_variable (task c)) (granted_reads c r)) (last_moves c (a.stage (task c)) r) a.policy q chain in
      record {
        opened = a.policy;
        between = parts.0;
        reads = granted_reads c r;
        answered = answered ∙ sym (any_count c a (length (granted_reads c r)) e);
        opening = subst (λ (ms : List Move). Chain after ms a.policy a.policy) (sym (no_first_moves c r e)) refl;
        reads_made = one_made (granted_reads c r) (few_reads c r e);
        reading = parts.1;
        closing = parts.2;
        stage = at_same a.stage (task c) (stage_after c r (a.stage (task c)));
        pending = λ v. ap (λ (p : ℕ → ℤ). p v) (at_same a.pending (task c) (pending_after c r (a.pending (task c))));
        shared = λ v. refl;
        other_stages = at_other a.stage (task c) (stage_after c r (a.stage (task c)));
        other_pending = λ u ne v. ap (λ (p : ℕ → ℤ). p v) (at_other a.pending (task c) (pending_after c r (a.pending (task c))) u ne);
      }
