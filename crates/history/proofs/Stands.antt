-- The law, from the invariant, over any run.
use Rattle.std.proofs.Common.{◌≡◌, ℕ, Bool, true, false, ◌⊎◌, List, [], ℤ, sym, refl, ap, subst, inl, inr, arith, rules}
use Rattle.std.proofs.lemmas.Bool.{cases_Bool, both_ways}
use mathlib.Core.Path.{fun_ext}
use mathlib.Core.List.Permᴰ
use mathlib.Core.Option.{some}
use Rattle.policy.specs.Facts.{Facts, Proper}
use Rattle.policy.specs.Moves.{Move, Keeps}
use Rattle.history.specs.Steps.{State}
use Rattle.history.specs.Transactions.{unended, Transaction, Ledger, History, new_ledger, read_off}
use Rattle.history.specs.Law.{OneMoment, Lawful}
use Rattle.history.specs.Runs.{UnrefusedAlone, Sound, New, Leads, none_yet, then, LawStands, StaysSound}
use Rattle.history.proofs.Logic.{no_some}
use Rattle.history.proofs.Accesses.{exact_answered}
use Rattle.history.proofs.Views.{View, view}
use Rattle.history.proofs.Invariant.{Held, Active, Invariant}
use Rattle.history.proofs.Others.{unended_all}
use Rattle.history.proofs.Keeping.{step_keeps}
use Rattle.history.proofs.Soundness.{new_sound, step_sound}

held_moment : {L : Ledger} {T : Transaction} → Held L T → OneMoment L T
held_moment {L} {T} h = search (rules, exact_answered)

pub invariant_lawful : (a : View) (h : History) (order : List Transaction) → Invariant a (read_off h) order → Lawful h a.shared
invariant_lawful a h order inv = record {
  serial_order = record {
    order = order;
    each_once = inv.each_once;
    exact = inv.exact;
    ends = λ v. ap (λ (s : ℕ → ℤ). s v) inv.ends;
    in_order = inv.in_order;
  };
  one_moment = λ T k. elim k [ inl m ↦ (inv.settled T m).moment | inr c ↦ current_moment c.0 T c.1 (cases_Bool (a.facts.active c.0)) ];
  rivals = λ T asked passed k e. elim k [
    | inl m ↦ (inv.settled T m).rival asked passed e
    | inr c ↦ (let q : T.fate ≡ unended = unended_all inv c.0 T c.1 in absurd (cc))
  ];
}
  where
    current_moment : (t : ℕ) (T : Transaction) → (read_off h).current t ≡ some T → (a.facts.active t ≡ true) ⊎ (a.facts.active t ≡ false)
        → OneMoment (read_off h) T
    current_moment t T e (inl l) =
        let o : Active a (read_off h) order t = inv.active t l in
        let i = o.is in
        let q : o.transaction ≡ T = cc in
        subst (λ (X : Transaction). OneMoment (read_off h) X) q (held_moment o.standing.held)
    current_moment t T e (inr l) = absurd (no_some (inv.idle t l) e)

-- the rival of a refused transaction overlaps it
pub lawful_alone : (h : History) (now : ℕ → ℤ) → Lawful h now → UnrefusedAlone h
lawful_alone h now l T asked passed k alone e =
    let r = (l.rivals T asked passed k e).rival in
    alone r.rival (record { other = r.other; began = let j = r.began in omega arith; lasts = r.lasts })

module _ {P : Type 0} (facts : P → Facts) (after : P → Move → P → Type 0) (strict : Bool)
    (keeps : (p q : P) (m : Move) → after p m q → Keeps strict m (facts p) (facts q)) (proper : (p : P) → Proper (facts p)) where
  new_invariant : {a : State P} → New facts a → Invariant (view facts a) new_ledger []
  new_invariant n = record {
    each_once = Permᴰ.nil;
    exact = tt;
    ends = sym (fun_ext n.shared);
    in_order = tt;
    bounded = λ U m. elim m [ ];
    latest = tt;
    active = λ t h. absurd (both_ways _ (n.fresh t) h);
    idle = λ t h. refl;
    settled = λ T m. elim m [ ];
  }

  -- what every state that a run reaches is known to be
  record Reached (a : State P) (h : History) : Type 0 where
    order : List Transaction
    invariant : Invariant (view facts a) (read_off h) order
    sound : Sound facts a

  run_reaches : {a b : State P} {h : History} → New facts a → Leads facts after strict a b h → Reached b h
  run_reaches n none_yet = record { order = []; invariant = new_invariant n; sound = new_sound facts n }
  run_reaches n (then {b = b} {d = d} {h = h} c r run s) =
      let g : Reached b h = run_reaches n run in
      let k = step_keeps facts after strict keeps proper b d (read_off h) g.order g.invariant g.sound c r s in
      record { order = k.0; invariant = k.1; sound = step_sound facts after strict keeps proper s g.sound }

  pub law : LawStands facts after strict
  law a b h n run = let g : Reached b h = run_reaches n run in invariant_lawful (view facts b) h g.order g.invariant

  pub stays_sound : StaysSound facts after strict
  stays_sound = record { new = λ a n. new_sound facts n; step = λ c r a b s sound. step_sound facts after strict keeps proper s sound }
