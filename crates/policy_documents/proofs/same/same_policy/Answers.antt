use Rattle.std.proofs.Common.{◌≡◌, map, sym, ◌∙◌}
use Rattle.policy_documents.specs.Words.{sort_view}
use Rattle.policy_documents.proofs.SameLemmas.{types_same}
use Rattle.policy_documents.proofs.same.same_policy.Goals as goal

pub returns-then-is_same_types : goal.returns-then-is_same_types
returns-then-is_same_types c =
    let mappings : c.args.one.now.mappings ≡ c.args.other.now.mappings = sym c.mappings.ensures ∙ c.in-None.ensures.value ∙ c.mappings-2.ensures in
    let same = types_same c.is_same_types.result (map sort_view c.types.result.now) (map sort_view c.types-in-None.result.now) c.is_same_types.ensures c.if-is_same_types.true in
    let sorts : c.args.one.now.sorts ≡ c.args.other.now.sorts = sym c.types.ensures ∙ same ∙ c.types-in-None.ensures in
    λ i. record { mappings = mappings i; sorts = sorts i }
