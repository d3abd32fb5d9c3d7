-- From the first line of a text to what is printed of all its lines.
use Rattle.std.proofs.Common.{decimal, length-append, ◌≡◌, ℕ, ◌+◌, ◌*◌, ◌<◌, ◌≤◌, Bool, true, false, cond, eqb, ltb, List, [], ◌∷◌, ◌++◌, length, Ok, Err, Result, refl, ap, subst, arith, ltb-false}
use Rattle.schedule.specs.Pieces.{line_feed, longer, lines}
use Rattle.schedule.specs.Texts.{longest_text, named_by, header_of}
use Rattle.schedule.specs.Faults.{fault_line, fault_number}
use Rattle.schedule.specs.declared.choice.Choice.{Choice}
use Rattle.schedule.specs.declared.fault.TextFault.{TextFault}
use Rattle.schedule.specs.declared.fault.TextFault.TheVariants.{TooLong}
use Rattle.policy.specs.declared.Policy.{Ghosts}
use Rattle.table.specs.Faults.{numbered}
use Rattle.table.specs.declared.fault.TableFault.{TableFault}
use Rattle.play.specs.declared.outcome.NoRoom.{NoRoom}
use Rattle.play.specs.declared.room.Output.{Output}
use Rattle.play.specs.Room.{Adds, Fronts}
use Rattle.play.specs.Printed.{printed, refused_text, longest_line}
use Rattle.play.specs.Playing.{Over}
use Rattle.play.specs.Output.{From, Runs, Says, most_printed}

-- a text has at most as many lines as bytes
longer_by_one : (b : ℕ) (ps : List (List ℕ)) → length (longer b ps) ≤ length ps + 1
longer_by_one b [] = omega arith
longer_by_one b (p ∷ ps) = omega arith

pub lines_few : (s : List ℕ) → length (lines s) ≤ length s
lines_few [] = omega arith
lines_few (b ∷ s) = by (eqb b line_feed) (lines s) (lines_few s)
  where
    by : (t : Bool) (ls : List (List ℕ)) → length ls ≤ length s → length (cond t ([] ∷ ls) (longer b ls)) ≤ length (b ∷ s)
    by true ls h = omega (arith, h)
    by false ls h = let l = longer_by_one b ls in omega (arith, h, l)

-- a text whose first line names a policy is not too long, and has a first line
pub named : (s : List ℕ) (c : Choice) → Ok c ≡ header_of {F = TableFault} s → (length s ≤ longest_text) × (0 < length (lines s))
named s c e = by (ltb longest_text (length s)) refl (lines s) e
  where
    by : (t : Bool) → ltb longest_text (length s) ≡ t → (ls : List (List ℕ)) → ◌≡◌ {A = Result Choice (TextFault TableFault)} (Ok c) (cond t (Err TooLong) (named_by ls))
        → (length s ≤ longest_text) × (0 < length ls)
    by true q ls x = let z : ◌≡◌ {A = ℕ} 0 1 = cc in absurd (omega arith)
    by false q [] x = let z : ◌≡◌ {A = ℕ} 0 1 = cc in absurd (omega arith)
    by false q (l ∷ ls) x = (let h = ltb-false longest_text (length s) q in omega (arith, h), omega arith)

-- what is true of the choice is true of the first line that names it
pub fronts_chosen : (h : Result Choice (TextFault TableFault)) (c : Choice) (ls : List (List ℕ)) (o p : Output) (r : Result (Unit {0}) NoRoom) → Ok c ≡ h
    → Fronts (Runs c) ls o r p → Fronts (Says h) ls o r p
fronts_chosen h c ls o p r e = subst (λ (x : Result Choice (TextFault TableFault)). Fronts (Says x) ls o r p) e

printed_some : (n : ℕ) (text : List ℕ) → 0 < length (printed n text)
printed_some n text =
    let l = length-append (decimal n) (text ++ (line_feed ∷ [])) in
    let m = length-append text (line_feed ∷ []) in omega (arith, l, m)

-- a text without a policy prints one line
pub fronts_fault : (h : Result Choice (TextFault TableFault)) (f : TextFault TableFault) (n : ℕ) (ls : List (List ℕ)) (o p : Output)
    (r : Result (Unit {0}) NoRoom) → Err f ≡ h → n ≡ fault_line f → Adds (printed n (refused_text (fault_number numbered f))) o r p
    → Fronts (Says h) ls o r p
fronts_fault h f n ls o p (Ok done) e q x =
    subst (λ (y : Result Choice (TextFault TableFault)). Fronts (Says y) ls o (Ok done) p) e
    (printed n (refused_text (fault_number numbered f)), ap (λ (m : ℕ). printed m (refused_text (fault_number numbered f))) q, x)
fronts_fault h f n ls o p (Err why) e q x =
    subst (λ (y : Result Choice (TextFault TableFault)). Fronts (Says y) ls o (Err why) p) e
    (record {
      done = [];
      rest = ls;
      out = printed n (refused_text (fault_number numbered f));
      split = refl;
      says = ap (λ (m : ℕ). printed m (refused_text (fault_number numbered f))) q;
      longer = (let l = printed_some n (refused_text (fault_number numbered f)) in omega (arith, x, l));
    })

pub lines_within : (s : List ℕ) → length s ≤ longest_text → longest_line * length (lines s) ≤ most_printed s
lines_within s h = let l = lines_few s in omega (arith, h, l)

pub line_enough : (s : List ℕ) → longest_line ≤ most_printed s
line_enough s = omega arith

-- what holds of one account of the lines holds of another that follows from it
pub fronts_so : (S T : List (List ℕ) → List ℕ → Type 0) (ls : List (List ℕ)) (o p : Output) (r : Result (Unit {0}) NoRoom)
    → ((done : List (List ℕ)) (out : List ℕ) → S done out → T done out) → Fronts S ls o r p → Fronts T ls o r p
fronts_so S T ls o p (Ok done) so x = (x.0, so ls x.0 x.1, x.2)
fronts_so S T ls o p (Err why) so x = record {
  done = x.done;
  rest = x.rest;
  out = x.out;
  split = x.split;
  says = so x.done x.out x.says;
  longer = x.longer;
}

-- a policy that starts so is one of those that do
pub over_fronts : {P : Type 0} (stated : Ghosts P) (Starts : P → Type 0) (ls : List (List ℕ)) (o q : Output) (r : Result (Unit {0}) NoRoom) (p : P)
    → Starts p → Fronts (Over stated p) ls o r q → Fronts (From stated Starts) ls o r q
over_fronts stated Starts ls o q r p h =
    fronts_so (Over stated p) (From stated Starts) ls o q r (λ done out x. record { policy = p; starts = h; over = x })
