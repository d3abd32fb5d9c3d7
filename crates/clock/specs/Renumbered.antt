-- Renumbering changes no fact.
use Rattle.std.specs.Prelude.{◌≡◌, ℕ, ◌≤◌, true, false, ◌&&◌, List, is_some, Some, None, Option, ◌==◌, refl}
use Rattle.std.proofs.Common.{sym, ap, ap₂, ◌∙◌, arith}
use Rattle.std.proofs.Math.Path.{fun_ext}
use Rattle.std.proofs.lemmas.Bool.{cond_both}
use Rattle.policy.specs.Limits.{tasks, variables}
use Rattle.policy.specs.Facts.{some_below}
use Rattle.clock.specs.Different.{among, different, different_below}
use Rattle.clock.specs.Held.{Held, Running, Sound, meaning, newer, reads_of, writes_of, stale}
use Rattle.clock.specs.Steps.{read_versions, at_version, renumbered, with_room, top}
use Rattle.clock.specs.Counting.{below_order, below_all, below_zero, different_le}
use Rattle.clock.specs.ReadVersions.{among_read_versions, length_read_versions}

module _ (number : ℕ → ℕ) where
  active_at : (o : Option Running) → is_some (at_version number o) ≡ is_some o
  active_at None = refl
  active_at (Some x) = refl

  reads_at : (o : Option Running) (v : ℕ) → reads_of (at_version number o) v ≡ reads_of o v
  reads_at None v = refl
  reads_at (Some x) v = refl

  writes_at : (o : Option Running) (v : ℕ) → writes_of (at_version number o) v ≡ writes_of o v
  writes_at None v = refl
  writes_at (Some x) v = refl

newer_at : (ns : List ℕ) (o : Option Running) (n : ℕ) → ((x : Running) → o ≡ Some x → among ns x.read_version ≡ true)
    → newer (at_version (different_below ns) o) (different_below ns n) ≡ newer o n
newer_at ns None n h = refl
newer_at ns (Some x) n h = below_order ns x.read_version n (h x refl)

read_version_at : (ns : List ℕ) (o : Option Running) (x : Running) → at_version (different_below ns) o ≡ Some x
    → x.read_version ≤ different ns
read_version_at ns None x e = cc
read_version_at ns (Some y) x e =
    let same : different_below ns y.read_version ≡ x.read_version = cc in
    omega (arith, below_all ns y.read_version)

module _ (s : Held) (sound : Sound s) where
  known : (t : ℕ) (x : Running) → s.transaction t ≡ Some x
      → among (read_versions tasks s.transaction) x.read_version ≡ true
  known t x e = among_read_versions tasks s.transaction t x (sound.task t (ap is_some e)) e

  no_read_same : (t v : ℕ) → (meaning (renumbered s)).no_read t v ≡ (meaning s).no_read t v
  no_read_same t v = newer_at (read_versions tasks s.transaction) (s.transaction t) (s.version v) (known t)

  stale_same : (t : ℕ) → stale (renumbered s) t ≡ stale s t
  stale_same t =
      fun_ext
      (λ v. ap₂ ◌&&◌ (reads_at (different_below (read_versions tasks s.transaction)) (s.transaction t) v) (no_read_same t v))

  -- a policy means the same before and after
  pub renumbered_meaning : meaning (renumbered s) ≡ meaning s
  renumbered_meaning =
      λ i. record {
        active = fun_ext (λ t. active_at (different_below (read_versions tasks s.transaction)) (s.transaction t)) i;
        reads = fun_ext (λ t. fun_ext (reads_at (different_below (read_versions tasks s.transaction)) (s.transaction t))) i;
        writes = fun_ext (λ t. fun_ext (writes_at (different_below (read_versions tasks s.transaction)) (s.transaction t))) i;
        behind = fun_ext (λ t. ap (some_below variables) (stale_same t)) i;
        no_read = fun_ext (λ t. fun_ext (no_read_same t)) i;
        no_write = λ t v. false;
      }

  pub renumbered_sound : Sound (renumbered s)
  renumbered_sound =
      let ns : List ℕ = read_versions tasks s.transaction in
      record {
        versions = λ v. below_all ns (s.version v);
        read_versions = λ t x e. read_version_at ns (s.transaction t) x e;
        task = λ t e. sound.task t (sym (active_at (different_below ns) (s.transaction t)) ∙ e);
        unwritten = λ v h. ap (different_below ns) (sound.unwritten v h) ∙ below_zero ns;
        read_below = λ t v e. sound.read_below t v (sym (reads_at (different_below ns) (s.transaction t) v) ∙ e);
        written_below = λ t v e. sound.written_below t v (sym (writes_at (different_below ns) (s.transaction t) v) ∙ e);
      }

  -- the clock is then at most the number of tasks
  pub renumbered_clock : (renumbered s).clock ≤ tasks
  renumbered_clock =
      let ns : List ℕ = read_versions tasks s.transaction in
      omega (arith, different_le ns, length_read_versions tasks s.transaction)

  pub with_room_meaning : meaning (with_room s) ≡ meaning s
  with_room_meaning =
      cond_both (s.clock == top) (renumbered s) s (λ (r : Held). meaning r ≡ meaning s) (λ e. renumbered_meaning) (λ e. refl)

  pub with_room_sound : Sound (with_room s)
  with_room_sound = cond_both (s.clock == top) (renumbered s) s Sound (λ e. renumbered_sound) (λ e. sound)
