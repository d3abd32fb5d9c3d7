-- A text of which some lines have been run.
use Rattle.std.proofs.Common.{◌-◌, ◌≡◌, ℕ, ◌+◌, ◌*◌, ◌<◌, ◌≤◌, List, [], ◌∷◌, ◌++◌, length, Ok, sym, refl, ap, ◌∙◌, subst, append_assoc, append-nil, arith, length-append}
use Rattle.policy.specs.Limits.{tasks}
use Rattle.policy.specs.declared.Policy.{Ghosts}
use Rattle.history.specs.Steps.{State}
use Rattle.history.specs.Runs.{Sound, New}
use Rattle.table.specs.Making.{AbortedBelow}
use Rattle.play.specs.declared.room.Output.{Output}
use Rattle.play.specs.Room.{text_of, size_of, Adds, TooLong}
use Rattle.play.specs.Printed.{granted_text, printed, longest_line}
use Rattle.play.specs.Playing.{Obeyed, Plays, first_line, next_line, Over}

module _ {P : Type 0} (stated : Ghosts P) where
  -- of the lines `all` after the first, all but `left` were run, from the table a to b, and n lines have added what they printed to the text in o
  pub record Standing (o : Output) (a : State P) (all left : List (List ℕ)) (n : ℕ) (p : Output) (b : State P) : Type 0 where
    pub done : List (List ℕ)
    pub out : List ℕ
    pub split : all ≡ done ++ left
    pub plays : Plays stated a n done out b
    pub adds : Adds out o (Ok tt) p
    pub sound : Sound stated.facts b
    pub counted : n ≡ length done + 1
    pub short : p.used ≤ o.used + longest_line * n

  -- after the first line
  pub standing_first : {a : State P} {all left : List (List ℕ)} {n : ℕ} (o p : Output) → all ≡ left → n ≡ 1 → Sound stated.facts a
      → Adds (printed 1 granted_text) o (Ok tt) p → p.used ≤ o.used + longest_line → Standing o a all left n p a
  standing_first {a} {all} {left} {n} o p q e h x w = record {
    done = [];
    out = printed 1 granted_text;
    split = q;
    plays = subst (λ (k : ℕ). Plays stated a k [] (printed 1 granted_text) a) (sym e) first_line;
    adds = x;
    sound = h;
    counted = e;
    short = omega (arith, w, e);
  }

  -- the lines so far, with one more
  grown : (o : Output) (a b d : State P) (all left : List (List ℕ)) (l : List ℕ) (n k : ℕ) (p : Output) (text : List ℕ) → k ≡ n + 1
      → (x : Standing o a all (l ∷ left) n p b) → Obeyed stated l b text d → Plays stated a k (x.done ++ (l ∷ [])) (x.out ++ printed k text) d
  grown o a b d all left l n k p text e x y =
      subst (λ (m : ℕ). Plays stated a m (x.done ++ (l ∷ [])) (x.out ++ printed m text) d) (sym e) (next_line l text d x.plays y.obeys)

  -- one more line
  pub standing_next : {o : Output} {a b d : State P} {all before left : List (List ℕ)} {l : List ℕ} {n k number : ℕ} {text : List ℕ} {p : Output} (q : Output)
      → before ≡ l ∷ left → k ≡ n + 1 → number ≡ n + 1 → Standing o a all before n p b → Obeyed stated l b text d
      → Adds (printed number text) p (Ok tt) q → q.used ≤ p.used + longest_line → Standing o a all left k q d
  standing_next {o} {a} {b} {d} {all} {before} {left} {l} {n} {k} {number} {text} {p} q e e' e'' x y h w =
      let z = subst (λ (s : List (List ℕ)). Standing o a all s n p b) e x in
      let same : number ≡ k = e'' ∙ sym e' in
      let f = length-append z.out (printed k text) in
      let m = ap (λ (i : ℕ). length (printed i text)) same in record {
        done = z.done ++ (l ∷ []);
        out = z.out ++ printed k text;
        split = z.split ∙ sym (append_assoc z.done (l ∷ []) left);
        plays = grown o a b d all left l n k p text e' z y;
        adds = (
          omega (arith, h.0, z.adds.0, f, m),
          h.1 ∙ ap (λ (i : ℕ). text_of p ++ printed i text) same ∙ ap (λ (s : List ℕ). s ++ printed k text) z.adds.1
              ∙ append_assoc (text_of o) z.out (printed k text),
        );
        sound = y.sound;
        counted = (let c = length-append z.done (l ∷ []) in omega (arith, c, e', z.counted));
        short = omega (arith, w, e', z.short);
      }

  -- the first line finds no room
  pub first_too_long : (p : P) (a : State P) (all : List (List ℕ)) (room : ℕ) → New stated.facts a → AbortedBelow stated tasks p a.policy
      → room < length (printed 1 granted_text) → TooLong (Over stated p) all room
  first_too_long p a all room new aborted h = record {
    done = [];
    rest = all;
    out = printed 1 granted_text;
    split = refl;
    says = record { made = a; new = new; aborted = aborted; lines = 1; reached = a; plays = first_line };
    longer = h;
  }

  -- one more line finds no room
  pub next_too_long : (policy : P) {o : Output} {a b d : State P} {all before left : List (List ℕ)} {l : List ℕ} {n k : ℕ} {text : List ℕ} {p : Output}
      → size_of p ≡ size_of o → New stated.facts a → AbortedBelow stated tasks policy a.policy → before ≡ l ∷ left → k ≡ n + 1
      → Standing o a all before n p b → Obeyed stated l b text d → p.used ≤ size_of p → size_of p < p.used + length (printed k text)
      → TooLong (Over stated policy) all (size_of o - o.used)
  next_too_long policy {o} {a} {b} {d} {all} {before} {left} {l} {n} {k} {text} {p} same new aborted e e' x y fits h =
      let z = subst (λ (s : List (List ℕ)). Standing o a all s n p b) e x in record {
        done = z.done ++ (l ∷ []);
        rest = left;
        out = z.out ++ printed k text;
        split = z.split ∙ sym (append_assoc z.done (l ∷ []) left);
        says = record { made = a; new = new; aborted = aborted; lines = k; reached = d; plays = grown o a b d all left l n k p text e' z y };
        longer = (let f = length-append z.out (printed k text) in omega (arith, f, z.adds.0, fits, h, same));
      }

  -- all lines were run
  pub all_played : (policy : P) {o : Output} {a b : State P} {all left : List (List ℕ)} {n : ℕ} {p : Output} → New stated.facts a
      → AbortedBelow stated tasks policy a.policy → left ≡ [] → Standing o a all left n p b
      → (out : List ℕ) × Over stated policy all out × Adds out o (Ok tt) p
  all_played policy {o} {a} {b} {all} {left} {n} {p} new aborted e x = (
    x.out,
    record {
      made = a;
      new = new;
      aborted = aborted;
      lines = n;
      reached = b;
      plays = (let y : all ≡ x.done = x.split ∙ ap (λ (z : List (List ℕ)). x.done ++ z) e ∙ append-nil x.done in
          subst (λ (z : List (List ℕ)). Plays stated a n z x.out b) (sym y) x.plays);
    },
    x.adds,
  )

  -- the lines that were run and those that are left are all lines
  pub lines_counted : {o : Output} {a b : State P} {all left : List (List ℕ)} {n : ℕ} {p : Output} → Standing o a all left n p b → n + length left ≡ length all + 1
  lines_counted {o} {a} {b} {all} {left} {n} {p} x = let h = ap length x.split in let l = length-append x.done left in omega (arith, h, l, x.counted)
