-- Numbers and transactions that were renumbered or stamped are what the steps say.
use Rattle.std.proofs.Common.{◌≡◌, ℕ, ◌+◌, ◌≤◌, Bool, false, cond, ltb, List, length, get_or, sym, refl, ap, ◌∙◌, arith}
use Rattle.std.proofs.lemmas.Bool.{cond_both, cond-false, le-ltb}
use Rattle.policy.specs.Limits.{tasks, variables}
use Rattle.transactions.specs.declared.Transactions.{Transactions}
use Rattle.clock.specs.Different.{different_below}
use Rattle.clock.specs.Held.{Held, Sound}
use Rattle.clock.specs.Steps.{read_versions, renumbered, stamped}
use Rattle.clock.specs.Rows.{rows, numbers, new_number, RenumberedRows, RenumberedVersions, StampedVersions}
use Rattle.clock.specs.Counting.{below_bound, below_zero}
use Rattle.clock.specs.ReadVersions.{read_versions_below}
use Rattle.clock.proofs.Reading.{same_held, numbers_from, number_at}

-- a clock, versions and transactions as what is held
abbrev pub holding : ℕ → List ℕ → Transactions ℕ → Held
holding clock ns ts = record { clock = clock; version = numbers ns; transaction = rows ts }

number_past : (ns : List ℕ) (v : ℕ) → variables ≤ v → numbers ns v ≡ 0
number_past ns v h = cond-false (ltb v variables) (get_or ns v 0) 0 (le-ltb v variables h)

module _ (clock : ℕ) (ns : List ℕ) (ts : Transactions ℕ) (sound : Sound (holding clock ns ts)) (wide : length ns ≡ variables) where
  pub renumbered_fields : (clock' : ℕ) (ns' : List ℕ) (ts' : Transactions ℕ)
      → clock' ≡ new_number ts (clock + 1)
      → RenumberedVersions (new_number ts) ns ns'
      → RenumberedRows ts ts'
      → holding clock' ns' ts' ≡ renumbered (holding clock ns ts)
  renumbered_fields clock' ns' ts' c n r =
      let versions : List ℕ = read_versions tasks (rows ts) in
      let number : ℕ → ℕ = different_below versions in
      same_held (holding clock' ns' ts') (renumbered (holding clock ns ts))
      (c
      ∙ below_bound versions (clock + 1)
      (read_versions_below tasks (rows ts) (clock + 1)
      (λ t x e. let h : x.read_version ≤ clock = sound.read_versions t x e in omega arith)))
      (numbers_from ns' (λ v. number (numbers ns v))
      (λ v h. n v h ∙ ap number (sym (number_at ns v h)))
      (λ v h. ap number (number_past ns v h) ∙ below_zero versions))
      r

  pub stamped_fields : (set : ℕ → Bool) (ns' : List ℕ) → ((v : ℕ) → variables ≤ v → set v ≡ false)
      → StampedVersions set (clock + 1) ns ns'
      → holding (clock + 1) ns' ts ≡ stamped set (holding clock ns ts)
  stamped_fields set ns' outside n =
      same_held (holding (clock + 1) ns' ts) (stamped set (holding clock ns ts)) refl
      (numbers_from ns' (λ v. cond (set v) (clock + 1) (numbers ns v))
      (λ v h. n v h ∙ ap (cond (set v) (clock + 1)) (sym (number_at ns v h)))
      (λ v h. cond-false (set v) (clock + 1) (numbers ns v) (outside v h) ∙ number_past ns v h))
      (λ t. refl)

-- stamping keeps every number at or below the clock
pub stamped_sound : (set : ℕ → Bool) (s : Held) → Sound s → ((v : ℕ) → variables ≤ v → set v ≡ false) → Sound (stamped set s)
stamped_sound set s sound outside =
    record {
      versions =
          λ v.
          cond_both (set v) (s.clock + 1) (s.version v) (λ (n : ℕ). n ≤ s.clock + 1) (λ e. omega arith)
          (λ e. let h : s.version v ≤ s.clock = sound.versions v in omega arith);
      read_versions = λ t x e. let h : x.read_version ≤ s.clock = sound.read_versions t x e in omega arith;
      task = sound.task;
      unwritten = λ v h. cond-false (set v) (s.clock + 1) (s.version v) (outside v h) ∙ sound.unwritten v h;
      read_below = sound.read_below;
      written_below = sound.written_below;
    }
