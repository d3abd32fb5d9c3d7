-- What a set of variables means: which variables are in it.
use Rattle.std.specs.Prelude.{◌≡◌, ℕ, ◌/◌, ◌%◌, ◌^◌, ◌<◌, Bool, true, false, not, ◌&&◌, ◌||◌, Some, None, Option, ◌==◌, nat_lt}
use Rattle.policy.specs.Limits.{variables}
use Rattle.varset.specs.declared.VarSet.{VarSet}

-- the bit of x at place v
unfoldable pub bit : ℕ → ℕ → Bool
bit x v = x / 2 ^ v % 2 == 1

-- v is in the set; nothing at or above the number of variables is
unfoldable pub member : VarSet → ℕ → Bool
member s v = nat_lt v variables && bit s.mask v

-- the set r holds exactly what the test says
abbrev pub Holds : VarSet → (ℕ → Bool) → Type 0
Holds r test = (v : ℕ) → member r v ≡ test v

-- nothing
abbrev pub nothing : ℕ → Bool
nothing v = false

-- every variable that there is
abbrev pub everything : ℕ → Bool
everything v = nat_lt v variables

-- what the test says, and w if there is such a variable
abbrev pub plus : (ℕ → Bool) → ℕ → ℕ → Bool
plus test w v = test v || (v == w && nat_lt w variables)

-- what the test says, and not w
abbrev pub minus : (ℕ → Bool) → ℕ → ℕ → Bool
minus test w v = test v && not (v == w)

-- what either test says
abbrev pub either : (ℕ → Bool) → (ℕ → Bool) → ℕ → Bool
either s t v = s v || t v

-- what both tests say
abbrev pub both : (ℕ → Bool) → (ℕ → Bool) → ℕ → Bool
both s t v = s v && t v

-- the test says nothing
abbrev pub Empty : (ℕ → Bool) → Type 0
Empty test = (v : ℕ) → test v ≡ false

-- w is the least that the test says
pub record Least (test : ℕ → Bool) (w : ℕ) : Type 0 where
  pub in_set : test w ≡ true
  pub none_below : (v : ℕ) → v < w → test v ≡ false

-- the first member, if there is any
abbrev pub First : (ℕ → Bool) → Option ℕ → Type 0
First test None = Empty test
First test (Some w) = Least test w

-- from the members `before`, the first is handed out and those `after` are still to come; or there is none
abbrev pub HandsOut : (ℕ → Bool) → Option ℕ → (ℕ → Bool) → Type 0
HandsOut before None after = Empty before × Empty after
HandsOut before (Some w) after = Least before w × ((v : ℕ) → after v ≡ minus before w v)
