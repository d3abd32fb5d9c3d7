use Rattle.std.proofs.Common.{◌≡◌, ℕ, ◌<◌, rules, get_or, Some, None, Option, sym, refl, ap, ◌∙◌, inl, inr, arith}
use Rattle.std.proofs.lemmas.Bool.{cases_lt}
use Rattle.policy.specs.Limits.{tasks}
use Rattle.transactions.specs.declared.transaction.Transaction.{Transaction}
use Rattle.transactions.specs.declared.Transactions.{Transactions}
use Rattle.clock.specs.Steps.{at_version}
use Rattle.clock.specs.Rows.{row, new_number}
use Rattle.clock.specs.Told.{rows_at, rows_past}
use Rattle.clock.proofs.Mapping.{mapped_at}
use Rattle.clock.proofs.renumbering.renumbered_transactions.Goals as goal

-- a row under its new read version
abbrev renumbered_row : (ℕ → ℕ) → Option (Transaction ℕ) → Option (Transaction ℕ)
renumbered_row number None = None
renumbered_row number (Some x) = Some (record { reads = x.reads; writes = x.writes; note = number x.note })

renumbered_holds : (number : ℕ → ℕ) (o : Option (Transaction ℕ)) → row (renumbered_row number o) ≡ at_version number (row o)
renumbered_holds number None = refl
renumbered_holds number (Some x) = refl

pub returns : goal.returns
returns c t =
    let x : Transactions ℕ = c.args.transactions.now in
    let y : Transactions ℕ = record { rows = c.map.result } in
    let number : ℕ → ℕ = new_number x in
    let mapped : t < tasks → get_or c.map.result t None ≡ renumbered_row number (get_or x.rows t None) =
    λ h. mapped_at _ (renumbered_row number) _ (λ o r q k. search rules) x.rows c.map.result 0 tasks c.map.ensures.items.each t None None (omega arith) h in
    elim (cases_lt t tasks) [
      | inl h ↦
          rows_at y t h ∙ ap row (mapped h) ∙ renumbered_holds number (get_or x.rows t None) ∙ ap (at_version number) (sym (rows_at x t h))
      | inr h ↦ rows_past y t h ∙ ap (at_version number) (sym (rows_past x t h))
    ]
