-- The rules of a granted read and of a granted write.
use Rattle.std.specs.Prelude.{◌≡◌, ℕ, ◌<◌, Bool, true, false, cond, not, ◌&&◌, ◌||◌, ltb, ◌≢◌, is_some, Some, None, Option, nat_lt, refl}
use Rattle.std.proofs.Common.{ap, ap₂, ◌∙◌, inl, inr, arith}
use Rattle.std.proofs.lemmas.Bool.{cases_eq}
use Rattle.std.proofs.lemmas.Bool.Decides.{nat_tests}
use Rattle.policy.specs.Limits.{variables}
use Rattle.policy.specs.Facts.{some_below, may_read}
use Rattle.policy.specs.Moves.{HasRead, HasWritten}
use Rattle.policy.proofs.SomeBelow.{some_below_same}
use Rattle.varset.specs.Members.{plus}
use Rattle.clock.specs.Held.{Held, Running, meaning, newer, reads_of, writes_of}
use Rattle.clock.specs.Steps.{with_transaction, with_read, with_write}
use Rattle.clock.specs.Putting.{put_same, put_only, beside}

module _ (set : ℕ → Bool) (v : ℕ) where
  plus_same : v < variables → plus set v v ≡ true
  plus_same h = grind (arith, nat_tests)

  plus_other : (w : ℕ) → w ≢ v → plus set v w ≡ set w
  plus_other w h = grind (arith, nat_tests)

  -- a set that gains v where a test fails at v gains nothing of the test
  plus_outside : (test : ℕ → Bool) → test v ≡ false → (w : ℕ) → (plus set v w && test w) ≡ (set w && test w)
  plus_outside test h w =
      elim (cases_eq w v) [
        | inl e ↦ let k : test w ≡ false = ap test e ∙ h in grind (arith, nat_tests)
        | inr e ↦ let k : plus set v w ≡ set w = plus_other w e in cc
      ]

module _ (v : ℕ) where
  read_active : (o : Option Running) → is_some (with_read v o) ≡ is_some o
  read_active None = refl
  read_active (Some x) = refl

  read_writes : (o : Option Running) (w : ℕ) → writes_of (with_read v o) w ≡ writes_of o w
  read_writes None w = refl
  read_writes (Some x) w = refl

  read_newer : (o : Option Running) (n : ℕ) → newer (with_read v o) n ≡ newer o n
  read_newer None n = refl
  read_newer (Some x) n = refl

  read_own : (o : Option Running) → writes_of o v ≡ true → reads_of (with_read v o) v ≡ reads_of o v
  read_own None e = refl
  read_own (Some x) e = ap (λ b. cond b x.reads (plus x.reads v) v) e

  read_shared : (o : Option Running) → v < variables → is_some o ≡ true → writes_of o v ≡ false
      → reads_of (with_read v o) v ≡ true
  read_shared None h a e = a
  read_shared (Some x) h a e = ap (λ b. cond b x.reads (plus x.reads v) v) e ∙ plus_same x.reads v h

  read_other : (o : Option Running) (w : ℕ) → w ≢ v → reads_of (with_read v o) w ≡ reads_of o w
  read_other None w h = refl
  read_other (Some x) w h =
      elim (x.writes v) as (λ b. cond b x.reads (plus x.reads v) w ≡ x.reads w)
      [ true ↦ refl | false ↦ plus_other x.reads v w h ]

  read_stale : (o : Option Running) (version : ℕ → ℕ) → (writes_of o v || not (newer o (version v))) ≡ true → (w : ℕ)
      → (reads_of (with_read v o) w && newer (with_read v o) (version w)) ≡ (reads_of o w && newer o (version w))
  read_stale None version e w = refl
  read_stale (Some x) version e w =
      (elim (x.writes v) as
      (λ b. (b || not (nat_lt x.read_version (version v))) ≡ true
      → (cond b x.reads (plus x.reads v) w && nat_lt x.read_version (version w))
      ≡ (x.reads w && nat_lt x.read_version (version w))) [
        | true ↦ λ _. refl
        | false ↦ λ k. plus_outside x.reads v (λ u. ltb x.read_version (version u)) (grind (arith, nat_tests)) w
      ])
      e

  write_active : (o : Option Running) → is_some (with_write v o) ≡ is_some o
  write_active None = refl
  write_active (Some x) = refl

  write_reads : (o : Option Running) (w : ℕ) → reads_of (with_write v o) w ≡ reads_of o w
  write_reads None w = refl
  write_reads (Some x) w = refl

  write_newer : (o : Option Running) (n : ℕ) → newer (with_write v o) n ≡ newer o n
  write_newer None n = refl
  write_newer (Some x) n = refl

  write_written : (o : Option Running) → v < variables → is_some o ≡ true → writes_of (with_write v o) v ≡ true
  write_written None h a = a
  write_written (Some x) h a = plus_same x.writes v h

  write_other : (o : Option Running) (w : ℕ) → w ≢ v → writes_of (with_write v o) w ≡ writes_of o w
  write_other None w h = refl
  write_other (Some x) w h = plus_other x.writes v w h

module _ (t v : ℕ) (s : Held) (there : v < variables) (open' : is_some (s.transaction t) ≡ true) where
  pub has_read : may_read (meaning s) t v ≡ true → HasRead t v (meaning s) (meaning (with_transaction t (with_read v (s.transaction t)) s))
  has_read may =
      let o : Option Running = s.transaction t in
      let x : Option Running = with_read v o in
      let e : (with_transaction t x s).transaction t ≡ x = put_same t x s in
      record {
        was = open';
        granted = may;
        active = ap is_some e ∙ read_active v o ∙ open';
        behind =
            ap (λ (p : Option Running). some_below variables (λ w. reads_of p w && newer p (s.version w))) e
            ∙ some_below_same variables (λ w. reads_of x w && newer x (s.version w))
            (λ w. reads_of o w && newer o (s.version w)) (λ w _. read_stale v o s.version may w);
        own = λ k. ap (λ (p : Option Running). reads_of p v) e ∙ read_own v o k;
        shared = λ k. ap (λ (p : Option Running). reads_of p v) e ∙ read_shared v o there open' k;
        reads = λ w k. ap (λ (p : Option Running). reads_of p w) e ∙ read_other v o w k;
        writes = λ w. ap (λ (p : Option Running). writes_of p w) e ∙ read_writes v o w;
        bars =
            record {
              no_read = λ w. ap (λ (p : Option Running). newer p (s.version w)) e ∙ read_newer v o (s.version w);
              no_write = λ w. refl;
            };
        only = put_only t x s;
        others = λ u h k. beside t x s v u h;
      }

  pub has_written : HasWritten t v (meaning s) (meaning (with_transaction t (with_write v (s.transaction t)) s))
  has_written =
      let o : Option Running = s.transaction t in
      let x : Option Running = with_write v o in
      let e : (with_transaction t x s).transaction t ≡ x = put_same t x s in
      record {
        was = open';
        granted = refl;
        active = ap is_some e ∙ write_active v o ∙ open';
        behind =
            ap (λ (p : Option Running). some_below variables (λ w. reads_of p w && newer p (s.version w))) e
            ∙ some_below_same variables (λ w. reads_of x w && newer x (s.version w))
            (λ w. reads_of o w && newer o (s.version w)) (λ w _. ap₂ ◌&&◌ (write_reads v o w) (write_newer v o (s.version w)));
        reads = λ w. ap (λ (p : Option Running). reads_of p w) e ∙ write_reads v o w;
        written = ap (λ (p : Option Running). writes_of p v) e ∙ write_written v o there open';
        writes = λ w k. ap (λ (p : Option Running). writes_of p w) e ∙ write_other v o w k;
        bars =
            record {
              no_read = λ w. ap (λ (p : Option Running). newer p (s.version w)) e ∙ write_newer v o (s.version w);
              no_write = λ w. refl;
            };
        only = put_only t x s;
        others = λ u h k. beside t x s v u h;
      }
