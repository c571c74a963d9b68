-- Pairs and headers as named things, and what is kept of their names.
use Rattle.std.specs.Prelude.{Vec, ◌≡◌, ℕ, List, [], map, Bool, false, not, unwrap_or, Option, Some, None, option_map, if◌then◌else◌}
use Rattle.std.specs.Global.{Global}
use Rattle.std.specs.Option.{option_map_or}
use Rattle.std.specs.Borrow.{Bor}
use Rattle.std.specs.BTreeMap.{BTreeMap, get_by}
use Rattle.spec_documents.specs.Tree.{name_cmp}
use Rattle.spec_messages.specs.Policy as spec
use Rattle.http_message.specs.Reading.{part_view}
use Rattle.message_differences.specs.declared.named.Named.{Named}
use Rattle.message_differences.specs.declared.names.Place.{Place}
use Rattle.message_differences.specs.declared.names.Place.TheVariants.{Query, Headers}

abbrev pub named_view : Named → spec.Named
named_view n = (n.name.now, option_map (λ p. part_view p.now) n.value)

-- what a map keeps under a name
abbrev pub items_of : List ℕ → BTreeMap (Bor (List ℕ)) (Vec Named Global) → List Named
items_of q groups = option_map_or (λ g. g.items) (get_by (λ k. name_cmp q k.now) groups) []

-- the named of a name
abbrev pub group : List ℕ → BTreeMap (Bor (List ℕ)) (Vec Named Global) → List spec.Named
group q groups = option_map_or (λ g. map named_view g.items) (get_by (λ k. name_cmp q k.now) groups) []

-- the lists of a name differ
abbrev pub differ : BTreeMap (Bor (List ℕ)) (Vec Named Global) → BTreeMap (Bor (List ℕ)) (Vec Named Global) → List ℕ → Bool
differ before after q = not (spec.same_list spec.same_named (group q before) (group q after))

abbrev pub verdict : List ℕ → BTreeMap (Bor (List ℕ)) Bool → Option Bool
verdict q verdicts = get_by (λ k. name_cmp q k.now) verdicts

-- a name isn't known to have changed
abbrev pub stays : BTreeMap (Bor (List ℕ)) Bool → List ℕ → Bool
stays verdicts q = not (unwrap_or (verdict q verdicts) false)

-- the verdicts are those of these names
abbrev pub Known : (List ℕ → Bool) → List (List ℕ) → BTreeMap (Bor (List ℕ)) Bool → Type 0
Known changed names verdicts = (q : List ℕ) → verdict q verdicts ≡ (if spec.is_in names q then Some (changed q) else None)

abbrev pub address_of : Place → List ℕ → spec.Address
address_of Query x = spec.query x
address_of Headers x = spec.header_at x

abbrev pub order_of : Place → spec.LinePart
order_of Query = spec.line_query_order
order_of Headers = spec.line_header_order
