-- How a reader of fields goes from field to field.
use Rattle.std.specs.Prelude.{◌≡◌, ℕ, List, [], ◌∷◌, Some, None, Ok, Err, Option, Result}
use Rattle.std.specs.Borrow.{Bor}
use Rattle.std.specs.Option.{ok_or}
use Rattle.schedule.specs.declared.command.Misfit.{Misfit}

-- the first of the fields to come, and what is then to come
abbrev pub Next : List (List ℕ) → Option (Bor (List ℕ)) → List (List ℕ) → Type 0
Next before None after = (before ≡ []) × (after ≡ [])
Next before (Some f) after = before ≡ f.now ∷ after

-- the first of the fields to come, as `reads` has it
abbrev pub read_first : {X : Type 0} → (List ℕ → Option X) → List (List ℕ) → Option X
read_first reads [] = None
read_first reads (f ∷ fs) = reads f

abbrev pub others : List (List ℕ) → List (List ℕ)
others [] = []
others (f ∷ fs) = fs

-- the first field is read, or `wrong` is told
pub record Takes {X : Type 0} (reads : List ℕ → Option X) (wrong : Misfit) (before : List (List ℕ)) (r : Result X Misfit) (after : List (List ℕ)) : Type 0 where
  pub value : r ≡ ok_or (read_first reads before) wrong
  pub rest : after ≡ others before

-- no field is to come, or `wrong` is told
abbrev pub Ends : Misfit → List (List ℕ) → Result (Unit {0}) Misfit → Type 0
Ends wrong [] r = r ≡ Ok tt
Ends wrong (f ∷ fs) r = r ≡ Err wrong
