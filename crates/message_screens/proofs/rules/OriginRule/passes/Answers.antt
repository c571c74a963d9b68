use Rattle.std.proofs.Common.{sym, ap, ◌∙◌}
use Rattle.std.specs.List.{list_all}
use Rattle.std.proofs.lemmas.List.Folds.{list_all-map}
use Rattle.spec_exchange.specs.Screens.{names_network}
use Rattle.http_message.specs.Reading.{header_view}
use Rattle.message_screens.proofs.rules.OriginRule.passes.Goals as goal

pub returns : goal.returns
returns c =
    let named = names_network c.args.plmn.now in
    (rw c.as_str.ensures.value at c.all_name.ensures)
    ∙ (sym (list_all-map named header_view c.headers.result.now) ∙ ap (list_all named) c.headers.ensures)
