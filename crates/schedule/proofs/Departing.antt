-- A line that is refused departs from every command first in the field that the refusal names.
use Rattle.std.proofs.Common.{◌≡◌, ℕ, suc, ◌-◌, ◌≤◌, Bool, true, false, cond, eqb, ◌⊎◌, List, [], ◌∷◌, ℤ, pos, Some, None, Ok, Err, decimal, Option, Result, sym, refl, ap, ◌∙◌, subst, inl, inr, arith, eq-eqb, eqb-true}
use Rattle.std.specs.Fmt.{signed_decimal}
use Rattle.schedule.specs.declared.command.Command.{Command}
use Rattle.schedule.specs.declared.command.Command.TheVariants.{Begin, Read, Write, Commit, Abort}
use Rattle.schedule.specs.declared.command.Misfit.{Misfit}
use Rattle.schedule.specs.Pieces.{fields}
use Rattle.schedule.specs.Numbers.{number_field, value_field, highest_index}
use Rattle.schedule.specs.Grammar.{no_letter, no_task, no_variable, no_value, no_end, given, next, ends, last, made, last_task, last_variable, last_value, read_of, write_of, lettered, command_of, parsed}
use Rattle.schedule.specs.Written.{written, InValue, InRange, Agree, Departs}
use Rattle.schedule.proofs.Numerals.{value_reads, value_written}
use Rattle.schedule.proofs.Writing.{task_fields, read_fields, write_fields, index_reads, index_is, but_b, but_r, but_w, but_c}

-- the letter of a command, and the fields after it
abbrev letter : Command → ℕ
letter (Begin t) = 66
letter (Read t v) = 82
letter (Write t v n) = 87
letter (Commit t) = 67
letter (Abort t) = 65

abbrev numbers : Command → List (List ℕ)
numbers (Begin t) = decimal t ∷ []
numbers (Read t v) = decimal t ∷ decimal v ∷ []
numbers (Write t v n) = decimal t ∷ decimal v ∷ signed_decimal n ∷ []
numbers (Commit t) = decimal t ∷ []
numbers (Abort t) = decimal t ∷ []

-- the fields of what is written of a command are its letter and its numbers
command_fields : (c : Command) → InRange c → fields (written c) ≡ (letter c ∷ []) ∷ numbers c
command_fields (Begin t) h = task_fields 66 t refl h
command_fields (Read t v) h = read_fields t v h
command_fields (Write t v n) h = write_fields t v n h
command_fields (Commit t) h = task_fields 67 t refl h
command_fields (Abort t) h = task_fields 65 t refl h

-- after the letter l, the fields fs agree with some command in m fields, and with none in more
record Tail (l : ℕ) (fs : List (List ℕ)) (m : ℕ) : Type 0 where
  so_far : (c : Command) × (letter c ≡ l) × InRange c × Agree m fs (numbers c)
  no_further : (c : Command) → letter c ≡ l → InRange c → Agree (suc m) fs (numbers c) → ⊥

tail_departs : (s : List ℕ) (l : ℕ) (fs : List (List ℕ)) (m : ℕ) (w : Misfit) → fields s ≡ (l ∷ []) ∷ fs → w.field ≡ suc (suc m) → Tail l fs m → Departs s w
tail_departs s l fs m w e q h =
    let p = h.so_far in
    let less : w.field - 1 ≡ suc m = omega arith in
    record {
      so_far = (p.0, p.2, subst (λ (k : ℕ). Agree k (fields s) (fields (written p.0))) (sym less) (agrees p.0 p.1 p.2 p.3));
      no_further = λ c r a. none_agrees c r (subst (λ (k : ℕ). Agree k (fields s) (fields (written c))) q a);
    }
  where
    agrees : (c : Command) → letter c ≡ l → InRange c → Agree m fs (numbers c) → Agree (suc m) (fields s) (fields (written c))
    agrees c k r a = rw (e, command_fields c r, k) (refl, a)

    none_agrees : (c : Command) → InRange c → Agree (suc (suc m)) (fields s) (fields (written c)) → ⊥
    none_agrees c r a =
        let b = subst (λ (gs : List (List ℕ)). Agree (suc (suc m)) gs ((letter c ∷ []) ∷ numbers c)) e
        (subst (λ (gs : List (List ℕ)). Agree (suc (suc m)) (fields s) gs) (command_fields c r) a) in
        let same : letter c ≡ l = cc b.0 in
        h.no_further c same r b.1

-- what holds of each command with a letter holds of every command that has it
begin_only : (P : Command → Type 0) → ((t : ℕ) → P (Begin t)) → (c : Command) → letter c ≡ 66 → P c
begin_only P h (Begin t) e = h t
begin_only P h (Read t v) e = absurd (omega arith)
begin_only P h (Write t v n) e = absurd (omega arith)
begin_only P h (Commit t) e = absurd (omega arith)
begin_only P h (Abort t) e = absurd (omega arith)

read_only : (P : Command → Type 0) → ((t v : ℕ) → P (Read t v)) → (c : Command) → letter c ≡ 82 → P c
read_only P h (Begin t) e = absurd (omega arith)
read_only P h (Read t v) e = h t v
read_only P h (Write t v n) e = absurd (omega arith)
read_only P h (Commit t) e = absurd (omega arith)
read_only P h (Abort t) e = absurd (omega arith)

write_only : (P : Command → Type 0) → ((t v : ℕ) (n : ℤ) → P (Write t v n)) → (c : Command) → letter c ≡ 87 → P c
write_only P h (Begin t) e = absurd (omega arith)
write_only P h (Read t v) e = absurd (omega arith)
write_only P h (Write t v n) e = h t v n
write_only P h (Commit t) e = absurd (omega arith)
write_only P h (Abort t) e = absurd (omega arith)

commit_only : (P : Command → Type 0) → ((t : ℕ) → P (Commit t)) → (c : Command) → letter c ≡ 67 → P c
commit_only P h (Begin t) e = absurd (omega arith)
commit_only P h (Read t v) e = absurd (omega arith)
commit_only P h (Write t v n) e = absurd (omega arith)
commit_only P h (Commit t) e = h t
commit_only P h (Abort t) e = absurd (omega arith)

abort_only : (P : Command → Type 0) → ((t : ℕ) → P (Abort t)) → (c : Command) → letter c ≡ 65 → P c
abort_only P h (Begin t) e = absurd (omega arith)
abort_only P h (Read t v) e = absurd (omega arith)
abort_only P h (Write t v n) e = absurd (omega arith)
abort_only P h (Commit t) e = absurd (omega arith)
abort_only P h (Abort t) e = h t

-- a field as it is read and as it is written
record Form {X : Type 0} (reads : List ℕ → Option X) (writes : X → List ℕ) (Fits : X → Type 0) : Type 0 where
  back : (x : X) → Fits x → reads (writes x) ≡ Some x
  only : (f : List ℕ) (x : X) → reads f ≡ Some x → (f ≡ writes x) × Fits x

index_form : Form (number_field highest_index) decimal (λ n. n ≤ highest_index)
index_form = record { back = index_reads; only = index_is }

value_form : Form value_field signed_decimal InValue
value_form = record { back = value_reads; only = λ f n e. value_written n f e }

module _ {X : Type 0} {reads : List ℕ → Option X} {writes : X → List ℕ} {Fits : X → Type 0} (form : Form reads writes Fits) (wrong : Misfit) where
  -- no field x is the next
  abbrev NoneNext : List (List ℕ) → Type 0
  NoneNext fs = (x : X) → Fits x → (gs : List (List ℕ)) → Agree 1 fs (writes x ∷ gs) → ⊥

  -- the next field is x
  record IsNext (fs : List (List ℕ)) (x : X) (rest : List (List ℕ)) : Type 0 where
    fits : Fits x
    agrees : (m : ℕ) (gs : List (List ℕ)) → Agree m rest gs → Agree (suc m) fs (writes x ∷ gs)
    beyond : (m : ℕ) (y : X) (gs : List (List ℕ)) → Agree (suc m) fs (writes y ∷ gs) → Agree m rest gs

  -- where reading goes wrong: at the next field, or after it
  abbrev NextErrs : {A : Type 0} → List (List ℕ) → (X → List (List ℕ) → Result A Misfit) → Misfit → Type 0
  NextErrs fs more w = ((w ≡ wrong) × NoneNext fs) ⊎ ((x : X) × (rest : List (List ℕ)) × IsNext fs x rest × (more x rest ≡ Err w))

  -- the last field is wrong, or another follows it
  abbrev LastErrs : ℕ → List (List ℕ) → Misfit → Type 0
  LastErrs n fs w = ((w ≡ wrong) × NoneNext fs) ⊎ ((x : X) × (rest : List (List ℕ)) × IsNext fs x rest × (w ≡ no_end n) × (Agree 1 rest [] → ⊥))

  unread : (f : List ℕ) (rest : List (List ℕ)) → reads f ≡ None → NoneNext (f ∷ rest)
  unread f rest e x h gs a = let b = form.back x h in let q = ap reads a.0 in cc

  is_next : (f : List ℕ) (rest : List (List ℕ)) (x : X) → reads f ≡ Some x → IsNext (f ∷ rest) x rest
  is_next f rest x e =
      let o = form.only f x e in
      record { fits = o.1; agrees = λ m gs a. (o.0, a); beyond = λ m y gs a. a.1 }

  next_errs : {A : Type 0} (fs : List (List ℕ)) (more : X → List (List ℕ) → Result A Misfit) (w : Misfit) → next reads wrong fs more ≡ Err w
      → NextErrs fs more w
  next_errs [] more w e = inl (cc, λ x h gs a. a)
  next_errs {A} (f ∷ fs) more w e = by (reads f) refl e
    where
      by : (o : Option X) → reads f ≡ o → given o wrong (λ x. more x fs) ≡ Err w → NextErrs (f ∷ fs) more w
      by None q h = inl (cc, unread f fs q)
      by (Some x) q h = inr (x, fs, is_next f fs x q, h)

  last_errs : (n : ℕ) (fs : List (List ℕ)) (w : Misfit) → last reads wrong n fs ≡ Err w → LastErrs n fs w
  last_errs n fs w e = by (next_errs fs (λ x rest. ends n rest x) w e)
    where
      more : (x : X) (rest : List (List ℕ)) → ends n rest x ≡ Err w → (w ≡ no_end n) × (Agree 1 rest [] → ⊥)
      more x [] h = absurd (cc)
      more x (g ∷ gs) h = (cc, λ a. a)

      by : NextErrs fs (λ x rest. ends n rest x) w → LastErrs n fs w
      by (inl h) = inl h
      by (inr h) = let k = more h.0 h.1 h.3 in inr (h.0, h.1, h.2, k.0, k.1)

made_errs : {X : Type 0} (make : X → Command) (r : Result X Misfit) (w : Misfit) → made make r ≡ Err w → r ≡ Err w
made_errs make (Ok x) w e = absurd (cc)
made_errs make (Err v) w e = cc

-- where the fields after a letter go wrong
abbrev Errs : ℕ → List (List ℕ) → Misfit → Type 0
Errs l fs w = (m : ℕ) × (w.field ≡ suc (suc m)) × Tail l fs m

-- or where the letter is wrong
abbrev LetterErrs : ℕ → List (List ℕ) → Misfit → Type 0
LetterErrs l fs w = Errs l fs w ⊎ ((w ≡ no_letter) × ((c : Command) → l ≡ letter c → ⊥))

-- a letter with a task
task_errs : (make : ℕ → Command) (l : ℕ) (fs : List (List ℕ)) (w : Misfit)
    → ((t : ℕ) → letter (make t) ≡ l) → ((t : ℕ) → t ≤ highest_index → InRange (make t)) → ((t : ℕ) → numbers (make t) ≡ decimal t ∷ [])
    → ((P : Command → Type 0) → ((t : ℕ) → P (make t)) → (c : Command) → letter c ≡ l → P c)
    → ((t : ℕ) → InRange (make t) → t ≤ highest_index)
    → made make (last_task fs) ≡ Err w → Errs l fs w
task_errs make l fs w has range form only small e = by (last_errs index_form no_task 3 fs w (made_errs make (last_task fs) w e))
  where
    none : ((t : ℕ) → t ≤ highest_index → (gs : List (List ℕ)) → Agree 1 fs (decimal t ∷ gs) → ⊥) → (c : Command) → letter c ≡ l → InRange c → Agree 1 fs (numbers c) → ⊥
    none h = only (λ c. InRange c → Agree 1 fs (numbers c) → ⊥) (λ t r a. h t (small t r) [] (subst (Agree 1 fs) (form t) a))

    beyond : (rest : List (List ℕ)) → ((m y : ℕ) (gs : List (List ℕ)) → Agree (suc m) fs (decimal y ∷ gs) → Agree m rest gs) → (Agree 1 rest [] → ⊥)
        → (c : Command) → letter c ≡ l → InRange c → Agree 2 fs (numbers c) → ⊥
    beyond rest b h = only (λ c. InRange c → Agree 2 fs (numbers c) → ⊥) (λ t r a. h (b 1 t [] (subst (Agree 2 fs) (form t) a)))

    by : LastErrs index_form no_task 3 fs w → Errs l fs w
    by (inl h) = (0, ap (λ (v : Misfit). v.field) h.0, record { so_far = (make 0, has 0, range 0 (omega arith), tt); no_further = none h.1 })
    by (inr h) = (
      1,
      ap (λ (v : Misfit). v.field) h.3,
      record {
        so_far = (make h.0, has h.0, range h.0 h.2.fits, subst (Agree 1 fs) (sym (form h.0)) (h.2.agrees 0 [] tt));
        no_further = beyond h.1 h.2.beyond h.4;
      },
    )

read_errs : (fs : List (List ℕ)) (w : Misfit) → read_of fs ≡ Err w → Errs 82 fs w
read_errs fs w e = by (next_errs index_form no_task fs (λ t more. made (Read t) (last_variable more)) w e)
  where
    after : (t : ℕ) (more : List (List ℕ)) → IsNext index_form no_task fs t more → LastErrs index_form no_variable 4 more w → Errs 82 fs w
    after t more n (inl h) = (
      1,
      ap (λ (v : Misfit). v.field) h.0,
      record {
        so_far = (Read t 0, refl, (n.fits, omega arith), n.agrees 0 (decimal 0 ∷ []) tt);
        no_further = read_only (λ c. InRange c → Agree 2 fs (numbers c) → ⊥) (λ u v r a. h.1 v r.1 [] (n.beyond 1 u (decimal v ∷ []) a));
      },
    )
    after t more n (inr h) = (
      2,
      ap (λ (v : Misfit). v.field) h.3,
      record {
        so_far = (Read t h.0, refl, (n.fits, h.2.fits), n.agrees 1 (decimal h.0 ∷ []) (h.2.agrees 0 [] tt));
        no_further = read_only (λ c. InRange c → Agree 3 fs (numbers c) → ⊥)
            (λ u v r a. h.4 (h.2.beyond 1 v [] (n.beyond 2 u (decimal v ∷ []) a)));
      },
    )

    by : NextErrs index_form no_task fs (λ t more. made (Read t) (last_variable more)) w → Errs 82 fs w
    by (inl h) = (
      0,
      ap (λ (v : Misfit). v.field) h.0,
      record {
        so_far = (Read 0 0, refl, (omega arith, omega arith), tt);
        no_further = read_only (λ c. InRange c → Agree 1 fs (numbers c) → ⊥) (λ u v r a. h.1 u r.0 (decimal v ∷ []) a);
      },
    )
    by (inr h) = after h.0 h.1 h.2 (last_errs index_form no_variable 4 h.1 w (made_errs (Read h.0) (last_variable h.1) w h.3))

write_errs : (fs : List (List ℕ)) (w : Misfit) → write_of fs ≡ Err w → Errs 87 fs w
write_errs fs w e = by (next_errs index_form no_task fs (λ t more. next (number_field highest_index) no_variable more (λ v most. made (Write t v) (last_value most))) w e)
  where
    third : (t v : ℕ) (more most : List (List ℕ)) → IsNext index_form no_task fs t more → IsNext index_form no_variable more v most
        → LastErrs value_form no_value 5 most w → Errs 87 fs w
    third t v more most a b (inl h) = (
      2,
      ap (λ (x : Misfit). x.field) h.0,
      record {
        so_far = (Write t v (pos 0), refl, (a.fits, b.fits, omega arith), a.agrees 1 _ (b.agrees 0 (signed_decimal (pos 0) ∷ []) tt));
        no_further = write_only (λ c. InRange c → Agree 3 fs (numbers c) → ⊥)
            (λ u x n r g. h.1 n r.2 [] (b.beyond 1 x (signed_decimal n ∷ []) (a.beyond 2 u (decimal x ∷ signed_decimal n ∷ []) g)));
      },
    )
    third t v more most a b (inr h) = (
      3,
      ap (λ (x : Misfit). x.field) h.3,
      record {
        so_far = (Write t v h.0, refl, (a.fits, b.fits, h.2.fits), a.agrees 2 _ (b.agrees 1 _ (h.2.agrees 0 [] tt)));
        no_further = write_only (λ c. InRange c → Agree 4 fs (numbers c) → ⊥)
            (λ u x n r g. h.4 (h.2.beyond 1 n [] (b.beyond 2 x (signed_decimal n ∷ []) (a.beyond 3 u (decimal x ∷ signed_decimal n ∷ []) g))));
      },
    )

    second : (t : ℕ) (more : List (List ℕ)) → IsNext index_form no_task fs t more
        → NextErrs index_form no_variable more (λ v most. made (Write t v) (last_value most)) w → Errs 87 fs w
    second t more a (inl h) = (
      1,
      ap (λ (x : Misfit). x.field) h.0,
      record {
        so_far = (Write t 0 (pos 0), refl, (a.fits, omega arith, omega arith), a.agrees 0 _ tt);
        no_further = write_only (λ c. InRange c → Agree 2 fs (numbers c) → ⊥)
            (λ u x n r g. h.1 x r.1 (signed_decimal n ∷ []) (a.beyond 1 u (decimal x ∷ signed_decimal n ∷ []) g));
      },
    )
    second t more a (inr h) =
        third t h.0 more h.1 a h.2 (last_errs value_form no_value 5 h.1 w (made_errs (Write t h.0) (last_value h.1) w h.3))

    by : NextErrs index_form no_task fs (λ t more. next (number_field highest_index) no_variable more (λ v most. made (Write t v) (last_value most))) w → Errs 87 fs w
    by (inl h) = (
      0,
      ap (λ (x : Misfit). x.field) h.0,
      record {
        so_far = (Write 0 0 (pos 0), refl, (omega arith, omega arith, omega arith), tt);
        no_further = write_only (λ c. InRange c → Agree 1 fs (numbers c) → ⊥) (λ u x n r g. h.1 u r.0 (decimal x ∷ signed_decimal n ∷ []) g);
      },
    )
    by (inr h) = second h.0 h.1 h.2 (next_errs index_form no_variable h.1 (λ v most. made (Write h.0 v) (last_value most)) w h.3)

-- a line whose first field is no command's letter
letter_departs : (s : List ℕ) (gs : List (List ℕ)) → fields s ≡ gs → ((c : Command) → Agree 1 gs ((letter c ∷ []) ∷ numbers c) → ⊥) → Departs s no_letter
letter_departs s gs e h = record {
  so_far = (Begin 0, omega arith, tt);
  no_further = λ c r a.
      h c (subst (λ (x : List (List ℕ)). Agree 1 x ((letter c ∷ []) ∷ numbers c)) e (subst (Agree 1 (fields s)) (command_fields c r) a));
}

apart : (l k : ℕ) → eqb l k ≡ false → l ≡ k → ⊥
apart l k q e = let t = eq-eqb l k e in let z : true ≡ false = sym t ∙ q in grind arith

-- a letter and its fields that are refused: in a field after the letter, or for the letter
lettered_errs : (l : ℕ) (fs : List (List ℕ)) (w : Misfit) → lettered l fs ≡ Err w → LetterErrs l fs w
lettered_errs l fs w e = letter_b (eqb l 66) refl e
  where
    is : (k : ℕ) → eqb l k ≡ true → Errs k fs w → LetterErrs l fs w
    is k q h = inl (subst (λ (x : ℕ). Errs x fs w) (sym (eqb-true l k q)) h)

    letter_a : eqb l 66 ≡ false → eqb l 82 ≡ false → eqb l 87 ≡ false → eqb l 67 ≡ false → (t : Bool) → eqb l 65 ≡ t
        → cond t (made Abort (last_task fs)) (Err no_letter) ≡ Err w → LetterErrs l fs w
    letter_a b r x c true q h = is 65 q (task_errs Abort 65 fs w (λ t. refl) (λ t z. z) (λ t. refl) abort_only (λ t z. z) h)
    letter_a b r x c false q h = inr (cc, none)
      where
        none : (d : Command) → l ≡ letter d → ⊥
        none (Begin t) p = apart l 66 b p
        none (Read t v) p = apart l 82 r p
        none (Write t v n) p = apart l 87 x p
        none (Commit t) p = apart l 67 c p
        none (Abort t) p = apart l 65 q p

    letter_c : eqb l 66 ≡ false → eqb l 82 ≡ false → eqb l 87 ≡ false → (t : Bool) → eqb l 67 ≡ t
        → cond t (made Commit (last_task fs)) (but_c l fs) ≡ Err w → LetterErrs l fs w
    letter_c b r x true q h = is 67 q (task_errs Commit 67 fs w (λ t. refl) (λ t z. z) (λ t. refl) commit_only (λ t z. z) h)
    letter_c b r x false q h = letter_a b r x q (eqb l 65) refl h

    letter_w : eqb l 66 ≡ false → eqb l 82 ≡ false → (t : Bool) → eqb l 87 ≡ t
        → cond t (write_of fs) (but_w l fs) ≡ Err w → LetterErrs l fs w
    letter_w b r true q h = is 87 q (write_errs fs w h)
    letter_w b r false q h = letter_c b r q (eqb l 67) refl h

    letter_r : eqb l 66 ≡ false → (t : Bool) → eqb l 82 ≡ t
        → cond t (read_of fs) (but_r l fs) ≡ Err w → LetterErrs l fs w
    letter_r b true q h = is 82 q (read_errs fs w h)
    letter_r b false q h = letter_w b q (eqb l 87) refl h

    letter_b : (t : Bool) → eqb l 66 ≡ t → cond t (made Begin (last_task fs)) (but_b l fs) ≡ Err w → LetterErrs l fs w
    letter_b true q h = is 66 q (task_errs Begin 66 fs w (λ t. refl) (λ t z. z) (λ t. refl) begin_only (λ t z. z) h)
    letter_b false q h = letter_r q (eqb l 82) refl h

departs_by : (s : List ℕ) (gs : List (List ℕ)) (w : Misfit) → fields s ≡ gs → command_of gs ≡ Err w → Departs s w
departs_by s [] w q e = subst (Departs s) (cc) (letter_departs s [] q (λ c a. a))
departs_by s ([] ∷ fs) w q e =
    subst (Departs s) (cc) (letter_departs s ([] ∷ fs) q (λ c a. let p = a.0 in cc))
departs_by s ((l ∷ []) ∷ fs) w q e = by (lettered_errs l fs w e)
  where
    by : LetterErrs l fs w → Departs s w
    by (inl h) = tail_departs s l fs h.0 w q h.1 h.2
    by (inr h) = subst (Departs s) (sym h.0) (letter_departs s ((l ∷ []) ∷ fs) q (λ c a. let p = a.0 in h.1 c (cc)))
departs_by s ((l ∷ b ∷ r) ∷ fs) w q e =
    subst (Departs s) (cc) (letter_departs s ((l ∷ b ∷ r) ∷ fs) q (λ c a. let p = a.0 in cc))

-- a refused line departs in the field that is named
pub departs : (s : List ℕ) (w : Misfit) → parsed s ≡ Err w → Departs s w
departs s w e = departs_by s (fields s) w refl e
