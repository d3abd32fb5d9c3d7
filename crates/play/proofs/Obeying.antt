-- A line is no command and changes nothing, or it is one call on the table.
use Rattle.std.proofs.Common.{◌≡◌, ℕ, List, Ok, Err, Result, sym, refl, subst, arith}
use mathlib.Core.Option.{Option, none, some}
use Rattle.std.specs.Result.{MatchResult, IsErrAnd}
use Rattle.schedule.specs.Grammar.{parsed}
use Rattle.schedule.specs.Texts.{command_at}
use Rattle.schedule.specs.declared.command.Command.{Command}
use Rattle.schedule.specs.declared.command.Misfit.{Misfit}
use Rattle.schedule.specs.declared.fault.BadLine.{BadLine}
use Rattle.schedule.specs.declared.fault.TextFault.{TextFault}
use Rattle.schedule.specs.declared.fault.TextFault.TheVariants.{Misshapen, Refused}
use Rattle.policy.specs.declared.Policy.{Ghosts}
use Rattle.history.specs.Calls.{Refusal}
use Rattle.history.specs.Steps.{State}
use Rattle.history.specs.Runs.{Sound}
use Rattle.table.specs.Faults.{refusal_of, number_or_unfit}
use Rattle.table.specs.Views.{refusing, Makes, Stepped}
use Rattle.table.specs.declared.fault.TableFault.{TableFault}
use Rattle.play.specs.declared.outcome.Outcome.{Outcome}
use Rattle.play.specs.declared.outcome.Outcome.TheVariants.{Done, Value}
use Rattle.play.specs.Printed.{refused_text, reply_text}
use Rattle.play.specs.Performing.{call_of, outcome_or}
use Rattle.play.specs.Playing.{Obeys, no_command, performed, Obeyed}

-- the command of a line is what the line was parsed as
pub command_parsed : (n : ℕ) (x : Result Command Misfit) (c : Command) → Ok c ≡ command_at n x → x ≡ Ok c
command_parsed n (Ok d) c e = cc
command_parsed n (Err why) c e = let z : ◌≡◌ {A = ℕ} 0 1 = cc in absurd (omega arith)

pub no_command_parsed : (n : ℕ) (x : Result Command Misfit) (bad : BadLine) → Err bad ≡ command_at n x → (why : Misfit) × (x ≡ Err why)
no_command_parsed n (Ok d) bad e = let z : ◌≡◌ {A = ℕ} 0 1 = cc in absurd (omega arith)
no_command_parsed n (Err why) bad e = (why, refl)

-- what turns a fault keeps what was granted
pub kept : {T E F : Type 0} (r : Result T E) (m : Result T F) (Q : E → F → Type 0) (x : T) → m ≡ Ok x
    → MatchResult r (λ y. m ≡ Ok y) (λ why. IsErrAnd m (Q why)) → r ≡ Ok x
kept (Ok y) m Q x e h = cc
kept (Err why) m Q x e h = absurd (subst (λ z. IsErrAnd z (Q why)) e h)

-- and a turned fault comes from a fault
pub turned : {T E F : Type 0} (r : Result T E) (m : Result T F) (Q : E → F → Type 0) (f : F) → m ≡ Err f
    → MatchResult r (λ y. m ≡ Ok y) (λ why. IsErrAnd m (Q why)) → (why : E) × (r ≡ Err why) × Q why f
turned (Ok y) m Q f e h = let z : ◌≡◌ {A = ℕ} 0 1 = cc in absurd (omega arith)
turned (Err why) m Q f e h = (why, refl, subst (λ z. IsErrAnd z (Q why)) e h)

module _ {P : Type 0} (stated : Ghosts P) where
  refused_obeys : (l : List ℕ) (c : Command) (a b : State P) (o : Option Refusal) → parsed l ≡ Ok c → Makes stated (call_of c) a (refusing o) b
      → Obeys stated l a (refused_text (number_or_unfit o)) b
  refused_obeys l c a b none e m = absurd m
  refused_obeys l c a b (some why) e m = performed c _ b e m

  pub granted_line : {l : List ℕ} (n : ℕ) {c : Command} {a b : State P} (x : Outcome) → Ok c ≡ command_at n (parsed l)
      → Stepped stated (call_of c) a (outcome_or (Ok x)) b → Obeyed stated l a (reply_text (Ok x)) b
  granted_line {l} n {c} {a} {b} Done e s = record { obeys = performed c _ b (command_parsed n (parsed l) c e) s.makes; sound = s.sound }
  granted_line {l} n {c} {a} {b} (Value x) e s = record { obeys = performed c _ b (command_parsed n (parsed l) c e) s.makes; sound = s.sound }

  pub refused_line : {l : List ℕ} {n : ℕ} {c : Command} {a b : State P} {why : TableFault} {f : TextFault TableFault} → f ≡ Refused n why
      → Ok c ≡ command_at n (parsed l) → Stepped stated (call_of c) a (outcome_or (Err why)) b
      → Obeyed stated l a (reply_text (Err f)) b
  refused_line {l} {n} {c} {a} {b} {why} {f} q e s =
      subst (λ (x : TextFault TableFault). Obeyed stated l a (reply_text (Err x)) b) (sym q) record {
        obeys = refused_obeys l c a b (refusal_of why) (command_parsed n (parsed l) c e) s.makes;
        sound = s.sound;
      }

  pub bad_line : {l : List ℕ} (n : ℕ) {a : State P} (bad : BadLine) {f : TextFault TableFault} {r : Result Outcome (TextFault TableFault)} → r ≡ Err f
      → f ≡ Misshapen bad.line bad.misfit → Err bad ≡ command_at n (parsed l) → Sound stated.facts a → Obeyed stated l a (reply_text r) a
  bad_line {l} n {a} bad {f} {r} p q e s =
      let w = no_command_parsed n (parsed l) bad e in
      let h : r ≡ Err (Misshapen bad.line bad.misfit) = cc in
      subst (λ (x : Result Outcome (TextFault TableFault)). Obeyed stated l a (reply_text x) a)
      (sym h)
      (record { obeys = no_command w.0 w.1; sound = s })
