-- The law of parsing: a line is taken as a command exactly if it is what is written of that command.
use Rattle.std.proofs.Common.{◌≡◌, ℕ, ◌≤◌, Bool, true, false, cond, eqb, List, [], ◌∷◌, ◌++◌, ℤ, Some, None, Ok, Err, decimal, Option, Result, sym, refl, ap, ◌∙◌, subst, arith, eqb-true}
use Rattle.std.proofs.lemmas.List.{append-nil}
use Rattle.std.specs.Fmt.{signed_decimal}
use Rattle.schedule.specs.declared.command.Command.{Command}
use Rattle.schedule.specs.declared.command.Command.TheVariants.{Begin, Read, Write, Commit, Abort}
use Rattle.schedule.specs.declared.command.Misfit.{Misfit}
use Rattle.schedule.specs.Pieces.{space, longer, fields, Clear}
use Rattle.schedule.specs.Numbers.{number_field, value_field, highest_index}
use Rattle.schedule.specs.Grammar.{no_letter, no_task, no_variable, no_value, given, next, ends, last, made, last_task, last_variable, last_value, read_of, write_of, lettered, command_of, parsed}
use Rattle.schedule.specs.Written.{with_task, written, InRange}
use Rattle.schedule.proofs.Cuts.{fields_whole, fields_before}
use Rattle.schedule.proofs.Numerals.{number_written, number_reads, value_written, value_reads, decimal_clear, signed_clear}

-- each field with a space in front
abbrev spaced : List (List ℕ) → List ℕ
spaced [] = []
spaced (f ∷ fs) = space ∷ (f ++ spaced fs)

spaced_fields : (s : List ℕ) → spaced (fields s) ≡ space ∷ s
spaced_fields [] = refl
spaced_fields (b ∷ s) = by (eqb b space) refl (fields s) (spaced_fields s)
  where
    by : (t : Bool) → eqb b space ≡ t → (fs : List (List ℕ)) → spaced fs ≡ space ∷ s
        → spaced (cond t ([] ∷ fs) (longer b fs)) ≡ space ∷ b ∷ s
    by true q fs h = let e = eqb-true b space q in cc
    by false q [] h = absurd (cc)
    by false q (f ∷ fs) h = let e : f ++ spaced fs ≡ s = cc in ap (λ (x : List ℕ). space ∷ b ∷ x) e

-- a line has just the fields that it was joined from
same_line : (s t : List ℕ) (fs : List (List ℕ)) → fields s ≡ fs → spaced fs ≡ space ∷ t → s ≡ t
same_line s t fs e h = let k = spaced_fields s in cc

-- what was read by a step of the grammar that went well
made_is : {X : Type 0} (make : X → Command) (r : Result X Misfit) {c : Command} → made make r ≡ Ok c → (x : X) × (r ≡ Ok x) × (make x ≡ c)
made_is make (Ok x) e = (x, refl, cc)
made_is make (Err w) e = absurd (cc)

module _ {A X : Type 0} (reads : List ℕ → Option X) (wrong : Misfit) where
  next_is : (fs : List (List ℕ)) (more : X → List (List ℕ) → Result A Misfit) {a : A} → next reads wrong fs more ≡ Ok a
      → (f : List ℕ) × (rest : List (List ℕ)) × (x : X) × (fs ≡ f ∷ rest) × (reads f ≡ Some x) × (more x rest ≡ Ok a)
  next_is [] more e = absurd (cc)
  next_is (f ∷ fs) more {a} e = by (reads f) refl e
    where
      by : (o : Option X) → reads f ≡ o → given o wrong (λ x. more x fs) ≡ Ok a
          → (g : List ℕ) × (rest : List (List ℕ)) × (x : X) × ((f ∷ fs) ≡ g ∷ rest) × (reads g ≡ Some x) × (more x rest ≡ Ok a)
      by None q h = absurd (cc)
      by (Some x) q h = (f, fs, x, refl, q, h)

ends_is : {A : Type 0} (n : ℕ) (fs : List (List ℕ)) (x : A) {a : A} → ends n fs x ≡ Ok a → (fs ≡ []) × (x ≡ a)
ends_is n [] x e = (refl, cc)
ends_is n (f ∷ fs) x e = absurd (cc)

-- the last field
last_is : {X : Type 0} (reads : List ℕ → Option X) (wrong : Misfit) (n : ℕ) (fs : List (List ℕ)) {x : X} → last reads wrong n fs ≡ Ok x
    → (f : List ℕ) × (fs ≡ f ∷ []) × (reads f ≡ Some x)
last_is reads wrong n fs e =
    let p = next_is reads wrong fs (λ x rest. ends n rest x) e in
    let q = ends_is n p.1 p.2 p.5 in
    (p.0, p.3 ∙ ap (λ (r : List (List ℕ)). p.0 ∷ r) q.0, p.4 ∙ ap Some q.1)

-- the line of letter l and the fields fs is what is written of c
abbrev LineOf : ℕ → List (List ℕ) → Command → Type 0
LineOf l fs c = InRange c × (spaced ((l ∷ []) ∷ fs) ≡ space ∷ written c)

pub index_is : (f : List ℕ) (n : ℕ) → number_field highest_index f ≡ Some n → (f ≡ decimal n) × (n ≤ highest_index)
index_is f n e = number_written highest_index n f (omega arith) e

-- one, two or three fields after the letter, each known
line_one : (l t : ℕ) {fs : List (List ℕ)} {f : List ℕ} → fs ≡ f ∷ [] → f ≡ decimal t → spaced ((l ∷ []) ∷ fs) ≡ space ∷ with_task l t
line_one l t e g =
    ap (λ (fs : List (List ℕ)). space ∷ l ∷ spaced fs) (e ∙ ap (λ (f : List ℕ). f ∷ []) g)
    ∙ ap (λ (s : List ℕ). space ∷ l ∷ space ∷ s) (append-nil (decimal t))

line_two : (l t : ℕ) {fs more : List (List ℕ)} {f s : List ℕ} → fs ≡ f ∷ more → f ≡ decimal t → spaced more ≡ s
    → spaced ((l ∷ []) ∷ fs) ≡ space ∷ (with_task l t ++ s)
line_two l t e g h = rw (e, g, h) refl

spaced_last : {fs : List (List ℕ)} {f s : List ℕ} → fs ≡ f ∷ [] → f ≡ s → spaced fs ≡ space ∷ s
spaced_last {s = s} e g = rw (e, g, append-nil s) refl

spaced_more : {fs more : List (List ℕ)} {f g s : List ℕ} → fs ≡ f ∷ more → f ≡ g → spaced more ≡ s → spaced fs ≡ space ∷ (g ++ s)
spaced_more e g h = rw (e, g, h) refl

by_task : (make : ℕ → Command) (l : ℕ) (fs : List (List ℕ)) (c : Command)
    → ((t : ℕ) → t ≤ highest_index → InRange (make t)) → ((t : ℕ) → written (make t) ≡ with_task l t)
    → made make (last_task fs) ≡ Ok c → LineOf l fs c
by_task make l fs c range form e =
    let p = made_is make (last_task fs) e in
    let q = last_is (number_field highest_index) no_task 3 fs p.1 in
    let w = index_is q.0 p.0 q.2 in
    subst (LineOf l fs) p.2
    (range p.0 w.1, line_one l p.0 q.1 w.0 ∙ ap (λ (s : List ℕ). space ∷ s) (sym (form p.0)))

by_read : (fs : List (List ℕ)) (c : Command) → read_of fs ≡ Ok c → LineOf 82 fs c
by_read fs c e =
    let a = next_is (number_field highest_index) no_task fs (λ t more. made (Read t) (last_variable more)) e in
    let p = made_is (Read a.2) (last_variable a.1) a.5 in
    let q = last_is (number_field highest_index) no_variable 4 a.1 p.1 in
    let t = index_is a.0 a.2 a.4 in
    let v = index_is q.0 p.0 q.2 in
    subst (LineOf 82 fs) p.2
    ((t.1, v.1), line_two 82 a.2 a.3 t.0 (spaced_last q.1 v.0))

by_write : (fs : List (List ℕ)) (c : Command) → write_of fs ≡ Ok c → LineOf 87 fs c
by_write fs c e =
    let a = next_is (number_field highest_index) no_task fs (λ t more. next (number_field highest_index) no_variable more (λ v most. made (Write t v) (last_value most))) e in
    let b = next_is (number_field highest_index) no_variable a.1 (λ v most. made (Write a.2 v) (last_value most)) a.5 in
    let p = made_is (Write a.2 b.2) (last_value b.1) b.5 in
    let q = last_is value_field no_value 5 b.1 p.1 in
    let t = index_is a.0 a.2 a.4 in
    let v = index_is b.0 b.2 b.4 in
    let n = value_written p.0 q.0 q.2 in
    subst (LineOf 87 fs) p.2 (
      (t.1, v.1, n.1),
      line_two 87 a.2 a.3 t.0 (spaced_more b.3 v.0 (spaced_last q.1 n.0)),
    )

-- the letters that are left to try after B, after R, and so on
abbrev pub but_c : ℕ → List (List ℕ) → Result Command Misfit
but_c l fs = cond (eqb l 65) (made Abort (last_task fs)) (Err no_letter)

abbrev pub but_w : ℕ → List (List ℕ) → Result Command Misfit
but_w l fs = cond (eqb l 67) (made Commit (last_task fs)) (but_c l fs)

abbrev pub but_r : ℕ → List (List ℕ) → Result Command Misfit
but_r l fs = cond (eqb l 87) (write_of fs) (but_w l fs)

abbrev pub but_b : ℕ → List (List ℕ) → Result Command Misfit
but_b l fs = cond (eqb l 82) (read_of fs) (but_r l fs)

-- a letter with its fields that is taken
lettered_is : (l : ℕ) (fs : List (List ℕ)) (c : Command) → lettered l fs ≡ Ok c → LineOf l fs c
lettered_is l fs c e = letter_b (eqb l 66) refl e
  where
    is : (x : ℕ) → eqb l x ≡ true → LineOf x fs c → LineOf l fs c
    is x q h = subst (λ (y : ℕ). LineOf y fs c) (sym (eqb-true l x q)) h

    letter_a : (t : Bool) → eqb l 65 ≡ t → cond t (made Abort (last_task fs)) (Err no_letter) ≡ Ok c → LineOf l fs c
    letter_a true q h = is 65 q (by_task Abort 65 fs c (λ t r. r) (λ t. refl) h)
    letter_a false q h = absurd (cc)

    letter_c : (t : Bool) → eqb l 67 ≡ t → cond t (made Commit (last_task fs)) (but_c l fs) ≡ Ok c → LineOf l fs c
    letter_c true q h = is 67 q (by_task Commit 67 fs c (λ t r. r) (λ t. refl) h)
    letter_c false q h = letter_a (eqb l 65) refl h

    letter_w : (t : Bool) → eqb l 87 ≡ t → cond t (write_of fs) (but_w l fs) ≡ Ok c → LineOf l fs c
    letter_w true q h = is 87 q (by_write fs c h)
    letter_w false q h = letter_c (eqb l 67) refl h

    letter_r : (t : Bool) → eqb l 82 ≡ t → cond t (read_of fs) (but_r l fs) ≡ Ok c → LineOf l fs c
    letter_r true q h = is 82 q (by_read fs c h)
    letter_r false q h = letter_w (eqb l 87) refl h

    letter_b : (t : Bool) → eqb l 66 ≡ t → cond t (made Begin (last_task fs)) (but_b l fs) ≡ Ok c → LineOf l fs c
    letter_b true q h = is 66 q (by_task Begin 66 fs c (λ t r. r) (λ t. refl) h)
    letter_b false q h = letter_r (eqb l 82) refl h

pub command_is : (s : List ℕ) (fs : List (List ℕ)) (c : Command) → fields s ≡ fs → command_of fs ≡ Ok c → InRange c × (s ≡ written c)
command_is s [] c q e = absurd (cc)
command_is s ([] ∷ fs) c q e = absurd (cc)
command_is s ((l ∷ []) ∷ fs) c q e =
    let h = lettered_is l fs c e in
    (h.0, same_line s (written c) ((l ∷ []) ∷ fs) q h.1)
command_is s ((l ∷ b ∷ r) ∷ fs) c q e = absurd (cc)

-- the fields of what is written
index_clear : (n : ℕ) → n ≤ highest_index → Clear space (decimal n)
index_clear n h = decimal_clear n space (omega arith) (omega arith)

pub index_reads : (n : ℕ) → n ≤ highest_index → number_field highest_index (decimal n) ≡ Some n
index_reads n h = number_reads highest_index n (omega arith) h

pub task_fields : (l t : ℕ) → eqb l space ≡ false → t ≤ highest_index → fields (with_task l t) ≡ (l ∷ []) ∷ decimal t ∷ []
task_fields l t q h = rw (q, fields_whole (decimal t) (index_clear t h)) refl

task_more : (l t : ℕ) (s : List ℕ) → eqb l space ≡ false → t ≤ highest_index → fields (with_task l t ++ (space ∷ s)) ≡ (l ∷ []) ∷ decimal t ∷ fields s
task_more l t s q h = rw (q, fields_before (decimal t) s (index_clear t h)) refl

pub read_fields : (t v : ℕ) → InRange (Read t v) → fields (written (Read t v)) ≡ (82 ∷ []) ∷ decimal t ∷ decimal v ∷ []
read_fields t v h =
    task_more 82 t (decimal v) refl h.0
    ∙ ap (λ (fs : List (List ℕ)). (82 ∷ []) ∷ decimal t ∷ fs) (fields_whole (decimal v) (index_clear v h.1))

pub write_fields : (t v : ℕ) (n : ℤ) → InRange (Write t v n) → fields (written (Write t v n)) ≡ (87 ∷ []) ∷ decimal t ∷ decimal v ∷ signed_decimal n ∷ []
write_fields t v n h =
    task_more 87 t (decimal v ++ (space ∷ signed_decimal n)) refl h.0
    ∙ ap (λ (fs : List (List ℕ)). (87 ∷ []) ∷ decimal t ∷ fs)
    (fields_before (decimal v) (signed_decimal n) (index_clear v h.1)
    ∙ ap (λ (fs : List (List ℕ)). decimal v ∷ fs) (fields_whole (signed_decimal n) (signed_clear n h.2)))

-- what is written of a command is read as that command
pub reads_back : (c : Command) → InRange c → parsed (written c) ≡ Ok c
reads_back (Begin t) h = ap command_of (task_fields 66 t refl h) ∙ rw (index_reads t h) refl
reads_back (Read t v) h = ap command_of (read_fields t v h) ∙ rw (index_reads t h.0, index_reads v h.1) refl
reads_back (Write t v n) h =
    ap command_of (write_fields t v n h) ∙ rw (index_reads t h.0, index_reads v h.1, value_reads n h.2) refl
reads_back (Commit t) h = ap command_of (task_fields 67 t refl h) ∙ rw (index_reads t h) refl
reads_back (Abort t) h = ap command_of (task_fields 65 t refl h) ∙ rw (index_reads t h) refl
