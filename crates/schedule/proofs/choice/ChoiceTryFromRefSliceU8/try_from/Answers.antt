use Rattle.std.proofs.Common.{◌≡◌, option_map, Bor, ◌∙◌, rules, tests}
use Rattle.std.proofs.lemmas.Iterator.{YieldsList-from_slice}
use Rattle.std.proofs.lemmas.Iterator.Search.{find_from_yields_List}
use Rattle.std.specs.Str.{bytes_eq}
use Rattle.schedule.specs.declared.choice.Choice.{Choice}
use Rattle.schedule.specs.Choices.{first_line, choices, chosen}
use Rattle.schedule.proofs.FirstLine.{named}
use Rattle.schedule.proofs.choice.ChoiceTryFromRefSliceU8.try_from.Goals as goal

pub returns : goal.returns
returns c =
    let e : option_map (λ (x : Bor Choice). x.now) c.find.result ≡ chosen c.args.line.now =
    find_from_yields_List (λ x. bytes_eq c.args.line.now (first_line x)) _ _ c.find.result c.find.ensures.ran
    (YieldsList-from_slice choices cc) (λ x b q k. search (rules, tests)) in
    named c.args.line.now c.copied.result c.ok_or.result (c.copied.ensures ∙ e) c.ok_or.ensures.value
