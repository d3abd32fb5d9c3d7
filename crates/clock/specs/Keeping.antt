-- Each call keeps the rules of the interface.
use Rattle.std.specs.Prelude.{◌≡◌, ℕ, ◌<◌, Bool, true, false, not, ◌&&◌, is_some, Some, None, Option, ◌≢◌, nat_lt, refl}
use Rattle.std.proofs.Common.{inl, inr, arith}
use Rattle.std.proofs.lemmas.Bool.{and_parts, ltb-true, not-true, cases_lt}
use Rattle.policy.specs.Limits.{tasks, variables}
use Rattle.policy.specs.Facts.{Proper, some_below, may_read, may_write, may_commit}
use Rattle.policy.specs.Moves.{Move, Keeps, begin, read, write, read_refused, write_refused, commit, commit_refused, abort}
use Rattle.policy.specs.Answers.{fit_access, fit_task}
use Rattle.policy.specs.Due.{due}
use Rattle.policy.proofs.SomeBelow.{some_below_empty}
use Rattle.clock.specs.Held.{Held, Running, Sound, meaning, newer, reads_of, writes_of}
use Rattle.clock.specs.Steps.{next}
use Rattle.clock.specs.Putting.{begins, ended}
use Rattle.clock.specs.Accesses.{has_read, has_written}
use Rattle.clock.specs.Publishing.{committed}

idle_reads : (o : Option Running) (v : ℕ) → is_some o ≡ false → reads_of o v ≡ false
idle_reads None v e = refl
idle_reads (Some x) v e = cc

idle_writes : (o : Option Running) (v : ℕ) → is_some o ≡ false → writes_of o v ≡ false
idle_writes None v e = refl
idle_writes (Some x) v e = cc

idle_newer : (o : Option Running) (n : ℕ) → is_some o ≡ false → newer o n ≡ false
idle_newer None n e = refl
idle_newer (Some x) n e = cc

idle_behind : (o : Option Running) (version : ℕ → ℕ) → is_some o ≡ false
    → some_below variables (λ v. reads_of o v && newer o (version v)) ≡ false
idle_behind None version e = some_below_empty variables (λ v. false) (λ v h. refl)
idle_behind (Some x) version e = cc

newer_zero : (o : Option Running) (n : ℕ) → n ≡ 0 → newer o n ≢ true
newer_zero None n z e = cc
newer_zero (Some x) n z e = omega (arith, ltb-true x.read_version n e)

-- what is held of tasks and variables is of ones that there are
pub proper : (s : Held) → Sound s → Proper (meaning s)
proper s sound =
    record {
      no_reads = λ t v. idle_reads (s.transaction t) v;
      no_writes = λ t v. idle_writes (s.transaction t) v;
      not_behind = λ t. idle_behind (s.transaction t) s.version;
      may_read_all = λ t v. idle_newer (s.transaction t) (s.version v);
      may_write_all = λ t v e. refl;
      task = sound.task;
      read_below = sound.read_below;
      written_below = sound.written_below;
      no_read_below =
          λ t v e.
          elim (cases_lt v variables) [
            | inl h ↦ h
            | inr h ↦ absurd (newer_zero (s.transaction t) (s.version v) (sound.unwritten v h) e)
          ];
      no_write_below = λ t v e. cc;
    }

module _ (s : Held) (t v : ℕ) (may : Bool) (d : (fit_access (meaning s) t v && may) ≡ true) where
  tests : (nat_lt v variables ≡ true) × (is_some (s.transaction t) ≡ true)
  tests =
      and_parts (nat_lt v variables) (is_some (s.transaction t))
      (and_parts (nat_lt t tasks) (nat_lt v variables && is_some (s.transaction t))
      (and_parts (fit_access (meaning s) t v) may d).0
      ).1

  there : v < variables
  there = ltb-true v variables tests.0

  running : is_some (s.transaction t) ≡ true
  running = tests.1

  said : may ≡ true
  said = (and_parts (fit_access (meaning s) t v) may d).1

module _ (s : Held) (t : ℕ) (may : Bool) (d : (fit_task (meaning s) t && may) ≡ true) where
  ending : is_some (s.transaction t) ≡ true
  ending = (and_parts (nat_lt t tasks) (is_some (s.transaction t)) (and_parts (fit_task (meaning s) t) may d).0).1

  decided : may ≡ true
  decided = (and_parts (fit_task (meaning s) t) may d).1

-- the rules, of every call that is due
pub keeps : (m : Move) (s : Held) → Sound s → due false m (meaning s) ≡ true
    → Keeps false m (meaning s) (meaning (next m s))
keeps (begin t) s sound d =
    begins t s sound
    (not-true (is_some (s.transaction t)) (and_parts (nat_lt t tasks) (not (is_some (s.transaction t))) d).1)
keeps (read t v) s sound d =
    let may : Bool = may_read (meaning s) t v in
    has_read t v s (there s t v may d) (running s t v may d) (said s t v may d)
keeps (write t v) s sound d =
    let may : Bool = may_write (meaning s) t v in has_written t v s (there s t v may d) (running s t v may d)
keeps (read_refused t v) s sound d =
    let may : Bool = may_read (meaning s) t v in
    record { barred = not-true may (said s t v (not may) d); ended = ended t s (running s t v (not may) d) }
keeps (write_refused t v) s sound d =
    let may : Bool = may_write (meaning s) t v in
    record { barred = not-true may (said s t v (not may) d); ended = ended t s (running s t v (not may) d) }
keeps (commit t) s sound d =
    let may : Bool = may_commit false (meaning s) t in committed t s sound (ending s t may d) (decided s t may d)
keeps (commit_refused t) s sound d =
    let may : Bool = may_commit false (meaning s) t in
    record { barred = not-true may (decided s t (not may) d); ended = ended t s (ending s t (not may) d) }
keeps (abort t) s sound d = ended t s (and_parts (nat_lt t tasks) (is_some (s.transaction t)) d).1
