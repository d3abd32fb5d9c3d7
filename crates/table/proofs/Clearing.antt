-- Aborting every task that a policy has open.
use Rattle.std.proofs.Common.{◌≡◌, ℕ, suc, ◌+◌, ◌<◌, ◌≤◌, true, false, ltb, ◌≢◌, ◌⊎◌, List, [], ◌∷◌, ◌++◌, Ok, Err, Result, sym, refl, ap, ◌∙◌, subst, inl, inr, add-one, arith}
use native.Mathlib.Decide.{ℕ_discrete}
use Rattle.std.proofs.lemmas.Bool.{cases_Bool}
use Rattle.policy.specs.Limits.{tasks}
use Rattle.policy.specs.Facts.{Fresh}
use Rattle.policy.specs.Moves.{Move, Ended, abort}
use Rattle.policy.specs.Answers.{Moved, granted, abort_answer}
use Rattle.policy.specs.declared.PolicyFault.{PolicyFault}
use Rattle.policy.specs.declared.PolicyFault.TheVariants.{Unfit}
use Rattle.policy.specs.declared.Granted.{Granted}
use Rattle.history.specs.Steps.{Chain}
use Rattle.table.specs.Making.{aborts_below, AbortedBelow}
use Rattle.policy.specs.declared.Policy.{Ghosts}
use Rattle.table.proofs.Policies.{Keeping, AlwaysProper}

module _ {P : Type 0} (stated : Ghosts P) where
  chain_join : (ms ns : List Move) (p q r : P) → Chain stated.after ms p q → Chain stated.after ns q r → Chain stated.after (ms ++ ns) p r
  chain_join [] ns p q r e c = subst (λ (x : P). Chain stated.after ns x r) e c
  chain_join (m ∷ ms) ns p q r c d = (c.0, c.1, chain_join ms ns c.0 q r c.2 d)

  -- the tasks below n are done, and the others are as they were
  pub record Cleared (p : P) (n : ℕ) (q : P) : Type 0 where
    pub aborted : AbortedBelow stated n p q
    pub gone : (u : ℕ) → u < n → (stated.facts q).active u ≡ false
    pub rest : (u : ℕ) → n ≤ u → (stated.facts q).active u ≡ (stated.facts p).active u

  pub cleared_none : (p : P) → Cleared p 0 p
  unfolding aborts_below
  cleared_none p = record { aborted = refl; gone = λ u h. absurd (omega arith); rest = λ u h. refl }

  more_active : (p q r : P) (n : ℕ) → AbortedBelow stated n p q → (stated.facts p).active n ≡ true → stated.after q (abort n) r → AbortedBelow stated (suc n) p r
  unfolding aborts_below
  more_active p q r n c e a =
      rw e (chain_join (aborts_below (stated.facts p) n) (abort n ∷ []) p q r c (r, a, refl))

  more_idle : (p q r : P) (n : ℕ) → AbortedBelow stated n p q → (stated.facts p).active n ≡ false → r ≡ q → AbortedBelow stated (suc n) p r
  unfolding aborts_below
  more_idle p q r n c e a =
      rw e (chain_join (aborts_below (stated.facts p) n) [] p q r c a)

  module _ (keeps : Keeping stated) where
    pub cleared_more : (p q r : P) (n : ℕ) (s : Result Granted PolicyFault) → n < tasks → Cleared p n q
        → s ≡ abort_answer (stated.facts q) n → Moved stated.after (abort n) (abort n) q r s → Cleared p (n + 1) r
    cleared_more p q r n s below k e m = rw add-one (go (cases_Bool ((stated.facts q).active n)))
      where
        at : {x : Result Granted PolicyFault} → abort_answer (stated.facts q) n ≡ x → Moved stated.after (abort n) (abort n) q r x
        at i = subst (Moved stated.after (abort n) (abort n) q r) (e ∙ i) m

        is_task : ltb n tasks ≡ true
        is_task = grind arith

        open_answer : (stated.facts q).active n ≡ true → stated.after q (abort n) r
        open_answer a = at {x = Ok granted} (rw (is_task, a))

        idle_answer : (stated.facts q).active n ≡ false → r ≡ q
        idle_answer a = at {x = Err Unfit} (rw (is_task, a))

        gone_now : (u : ℕ) → u < suc n → Dec (u ≡ n) → (u ≡ n → (stated.facts r).active u ≡ false) → (u ≢ n → (stated.facts r).active u ≡ (stated.facts q).active u) → (stated.facts r).active u ≡ false
        gone_now u h (yes i) here else = here i
        gone_now u h (no ne) here else = else ne ∙ k.gone u (omega arith)

        go : ((stated.facts q).active n ≡ true) ⊎ ((stated.facts q).active n ≡ false) → Cleared p (suc n) r
        go (inl a) =
            let x : Ended n (stated.facts q) (stated.facts r) = keeps q r (abort n) (open_answer a) in
            record {
              aborted = more_active p q r n k.aborted (sym (k.rest n (omega arith)) ∙ a) (open_answer a);
              gone = λ u h. gone_now u h (ℕ_discrete u n) (λ i. ap (stated.facts r).active i ∙ x.gone) (x.only u);
              rest = λ u h. x.only u (omega arith) ∙ k.rest u (omega arith);
            }
        go (inr a) = record {
          aborted = more_idle p q r n k.aborted (sym (k.rest n (omega arith)) ∙ a) (idle_answer a);
          gone = λ u h. gone_now u h (ℕ_discrete u n) (λ i. ap (stated.facts r).active i ∙ same n ∙ a) (λ ne. same u);
          rest = λ u h. same u ∙ k.rest u (omega arith);
        }
          where
            same : (u : ℕ) → (stated.facts r).active u ≡ (stated.facts q).active u
            same u = ap (λ (x : P). (stated.facts x).active u) (idle_answer a)

  pub cleared_all : (proper : AlwaysProper stated) (p q : P) → Cleared p tasks q → Fresh (stated.facts q)
  cleared_all proper p q k u = go (cases_Bool ((stated.facts q).active u))
    where
      go : ((stated.facts q).active u ≡ true) ⊎ ((stated.facts q).active u ≡ false) → (stated.facts q).active u ≡ false
      go (inl a) = k.gone u ((proper q).task u a)
      go (inr a) = a
