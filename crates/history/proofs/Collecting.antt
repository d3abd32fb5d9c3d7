-- A collect or a snapshot on its way: what has been read so far, one variable after another, and the step that it ends in.
use Rattle.std.proofs.Common.{◌≡◌, ℕ, suc, Bool, true, false, ◌≢◌, List, [], ◌∷◌, ◌++◌, map, length, sym, refl, ap, ◌∙◌, subst, arith, length-append}
use Rattle.std.proofs.Math.Seq.{take-append_seam}
use mathlib.Core.List.{Memᴰ}
use mathlib.Core.Option.{none, some}
use Rattle.policy.specs.Facts.{Facts, may_read}
use Rattle.policy.specs.Moves.{Move, Keeps, read_refused}
use Rattle.policy.specs.Moves.{begin as begins, read as reads_variable, commit as commits}
use Rattle.history.specs.Calls.{collect, snapshot, listed, read_barred, by_policy, values, refused}
use Rattle.history.specs.Answers.{wrong, untimely, first_barred}
use Rattle.history.specs.Steps.{State, Chain, ReadsFor, none_made, made, left_out, Step, sees, stage_after, pending_after}
use Rattle.history.proofs.Logic.{no_some}
use Rattle.history.proofs.GrantedReads.{ReadAll, made_covers, made_reads}
use Rattle.history.proofs.Building.{reads_more, granted_more, barred_here, reads_may, answers_granted, answers_barred}

-- what a list with no bar holds may be read
pub may_read_in : (f : Facts) (t i : ℕ) (vs : List ℕ) (v : ℕ) → first_barred f t i vs ≡ none → Memᴰ v vs → may_read f t v ≡ true
may_read_in f t i [] v h m = elim m [ ]
may_read_in f t i (w ∷ vs) v h m = go (may_read_in f t (suc i) vs v) (may_read f t w) refl m
  where
    go : (first_barred f t (suc i) vs ≡ none → Memᴰ v vs → may_read f t v ≡ true) → (may : Bool) → may_read f t w ≡ may → Memᴰ v (w ∷ vs)
        → may_read f t v ≡ true
    go later true e (Memᴰ.head q) = ap (may_read f t) q ∙ e
    go later true e (Memᴰ.tail k) = later (rw e at h) k
    go later false e k = absurd (no_some (rw e at h) refl)

module _ {P : Type 0} (facts : P → Facts) (after : P → Move → P → Type 0) (strict : Bool)
    (keeps : (p q : P) (m : Move) → after p m q → Keeps strict m (facts p) (facts q)) (t : ℕ) where
  -- from the policy p, task t was granted the variables `done` with `count` reads, which left the policy at q
  pub record Collecting (done : List ℕ) (p q : P) (count : ℕ) : Type 0 where
    pub reads : List ℕ
    pub made_for : ReadsFor done reads
    pub chain : Chain after (map (reads_variable t) reads) p q
    pub granted : first_barred (facts p) t 0 done ≡ none
    pub counted : length reads ≡ count

  pub nothing_collected : (p : P) → Collecting [] p p 0
  nothing_collected p = record { reads = []; made_for = none_made; chain = refl; granted = refl; counted = refl }

  pub so_far : {done : List ℕ} {p q : P} {count : ℕ} → (facts p).active t ≡ true → Collecting done p q count → ReadAll t done (facts p) (facts q)
  so_far {done} {p} {q} l c = made_reads facts after strict keeps t done c.reads p q l c.made_for c.chain

  -- one more read of the policy
  pub collect_one : {done : List ℕ} {p q : P} {count : ℕ} (v : ℕ) (r : P) → (facts p).active t ≡ true → Collecting done p q count
      → may_read (facts q) t v ≡ true → after q (reads_variable t v) r → Collecting (done ++ (v ∷ [])) p r (suc count)
  collect_one {done} {p} {q} {count} v r l c may h = record {
    reads = c.reads ++ (v ∷ []);
    made_for = made v c.made_for;
    chain = reads_more after t c.reads v p q r c.chain h;
    granted = granted_more (facts p) t 0 done v c.granted (sym (reads_may (so_far l c) v) ∙ may);
    counted = let e = c.counted in rw (length-append c.reads (v ∷ [])) (omega arith);
  }

  -- a variable that was collected before
  pub collect_again : {done : List ℕ} {p q : P} {count : ℕ} (v : ℕ) → Memᴰ v done → Collecting done p q count → Collecting (done ++ (v ∷ [])) p q count
  collect_again {done} {p} v m c = record {
    reads = c.reads;
    made_for = left_out v (made_covers c.made_for v m) c.made_for;
    chain = c.chain;
    granted = granted_more (facts p) t 0 done v c.granted (may_read_in (facts p) t 0 done v c.granted m);
    counted = c.counted;
  }

  module _ (room : ℕ) (a b : State P) (shared : (v : ℕ) → b.shared v ≡ a.shared v)
      (stages : (u : ℕ) → u ≢ t → b.stage u ≡ a.stage u) (pendings : (u : ℕ) → u ≢ t → (v : ℕ) → b.pending u v ≡ a.pending u v) where
    pub collect_step : (vs : List ℕ) (count : ℕ) → wrong (collect t vs room) ≡ none → untimely (collect t vs room) (a.stage t) ≡ none
        → Collecting vs a.policy b.policy count → b.stage t ≡ a.stage t → ((v : ℕ) → b.pending t v ≡ a.pending t v)
        → Step facts after strict (collect t vs room) a (values (map (sees facts (collect t vs room) a a.policy) vs) count) b
    collect_step vs count fine timely c stage pending = record {
      opened = a.policy;
      between = b.policy;
      reads = c.reads;
      answered = ap (values (map (sees facts (collect t vs room) a a.policy) vs)) (sym c.counted)
          ∙ answers_granted facts strict (collect t vs room) a a.policy (length c.reads) fine timely c.granted;
      opening = refl;
      reads_made = c.made_for;
      reading = c.chain;
      closing = refl;
      stage = stage;
      pending = pending;
      shared = shared;
      other_stages = stages;
      other_pending = pendings;
    }

    pub collect_barred : (done : List ℕ) (v : ℕ) (ws : List ℕ) (q : P) (count : ℕ) → wrong (collect t (done ++ (v ∷ ws)) room) ≡ none
        → untimely (collect t (done ++ (v ∷ ws)) room) (a.stage t) ≡ none → (facts a.policy).active t ≡ true
        → Collecting done a.policy q count → may_read (facts q) t v ≡ false → after q (read_refused t v) b.policy
        → b.stage t ≡ stage_after (collect t (done ++ (v ∷ ws)) room) (refused (by_policy (read_barred (listed (length done)) v))) (a.stage t)
        → ((w : ℕ) → b.pending t w ≡ pending_after (collect t (done ++ (v ∷ ws)) room) (refused (by_policy (read_barred (listed (length done)) v))) (a.pending t) w)
        → Step facts after strict (collect t (done ++ (v ∷ ws)) room) a (refused (by_policy (read_barred (listed (length done)) v))) b
    collect_barred done v ws q count fine timely l c may h stage pending = record {
      opened = a.policy;
      between = q;
      reads = c.reads;
      answered = answers_barred facts strict (collect t (done ++ (v ∷ ws)) room) a a.policy (length c.reads) (read_barred (listed (length done)) v) fine timely
          (barred_here (facts a.policy) t 0 done v ws c.granted (sym (reads_may (so_far l c) v) ∙ may) ∙ ap (λ (n : ℕ). some (read_barred (listed n) v)) (omega arith));
      opening = refl;
      reads_made = subst (λ (vs : List ℕ). ReadsFor vs c.reads) (sym (take-append_seam done (v ∷ ws))) c.made_for;
      reading = c.chain;
      closing = (b.policy, h, refl);
      stage = stage;
      pending = pending;
      shared = shared;
      other_stages = stages;
      other_pending = pendings;
    }

    pub snapshot_step : (vs : List ℕ) (opened q : P) (count : ℕ) → wrong (snapshot t vs room) ≡ none → untimely (snapshot t vs room) (a.stage t) ≡ none
        → after a.policy (begins t) opened → Collecting vs opened q count → after q (commits t) b.policy
        → b.stage t ≡ a.stage t → ((v : ℕ) → b.pending t v ≡ a.pending t v)
        → Step facts after strict (snapshot t vs room) a (values (map (sees facts (snapshot t vs room) a opened) vs) count) b
    snapshot_step vs opened q count fine timely begun c ended stage pending = record {
      opened = opened;
      between = q;
      reads = c.reads;
      answered = ap (values (map (sees facts (snapshot t vs room) a opened) vs)) (sym c.counted)
          ∙ answers_granted facts strict (snapshot t vs room) a opened (length c.reads) fine timely c.granted;
      opening = (opened, begun, refl);
      reads_made = c.made_for;
      reading = c.chain;
      closing = (b.policy, ended, refl);
      stage = stage;
      pending = pending;
      shared = shared;
      other_stages = stages;
      other_pending = pendings;
    }

    pub snapshot_barred : (done : List ℕ) (v : ℕ) (ws : List ℕ) (opened q : P) (count : ℕ) → wrong (snapshot t (done ++ (v ∷ ws)) room) ≡ none
        → untimely (snapshot t (done ++ (v ∷ ws)) room) (a.stage t) ≡ none → after a.policy (begins t) opened
        → Collecting done opened q count → may_read (facts q) t v ≡ false → after q (read_refused t v) b.policy
        → b.stage t ≡ a.stage t → ((w : ℕ) → b.pending t w ≡ a.pending t w)
        → Step facts after strict (snapshot t (done ++ (v ∷ ws)) room) a (refused (by_policy (read_barred (listed (length done)) v))) b
    snapshot_barred done v ws opened q count fine timely begun c may h stage pending = record {
      opened = opened;
      between = q;
      reads = c.reads;
      answered = answers_barred facts strict (snapshot t (done ++ (v ∷ ws)) room) a opened (length c.reads) (read_barred (listed (length done)) v) fine timely
          (barred_here (facts opened) t 0 done v ws c.granted (sym (reads_may (so_far (keeps a.policy opened (begins t) begun).active c) v) ∙ may)
          ∙ ap (λ (n : ℕ). some (read_barred (listed n) v)) (omega arith));
      opening = (opened, begun, refl);
      reads_made = subst (λ (vs : List ℕ). ReadsFor vs c.reads) (sym (take-append_seam done (v ∷ ws))) c.made_for;
      reading = c.chain;
      closing = (b.policy, h, refl);
      stage = stage;
      pending = pending;
      shared = shared;
      other_stages = stages;
      other_pending = pendings;
    }
