-- The addresses of the definitions that the program's are.
use Rattle.spec_messages.specs.Policy as spec
use Rattle.policy_tables.specs.declared.address.LinePart.{LinePart}
use Rattle.policy_tables.specs.declared.address.LinePart.TheVariants as parts
use Rattle.policy_tables.specs.declared.address.Address.{Address}
use Rattle.policy_tables.specs.declared.address.Address.TheVariants as addresses
use Rattle.policy_tables.specs.declared.address.Site.{Site}
use Rattle.policy_tables.specs.declared.address.Site.TheVariants as sites

abbrev pub line_view : LinePart → spec.LinePart
line_view parts.Kind = spec.line_kind
line_view parts.Method = spec.line_method
line_view parts.Scheme = spec.line_scheme
line_view parts.Authority = spec.line_authority
line_view parts.Version = spec.line_version
line_view parts.Path = spec.line_path
line_view parts.QueryOrder = spec.line_query_order
line_view parts.HeaderOrder = spec.line_header_order
line_view parts.Status = spec.line_status

abbrev pub address_view : Address → spec.Address
address_view (addresses.Line l) = spec.line (line_view l)
address_view (addresses.PathVar x) = spec.path_var x
address_view (addresses.Query x) = spec.query x
address_view (addresses.Header x) = spec.header_at x
address_view (addresses.Body q) = spec.body_at q

abbrev pub site_view : Site → spec.Address
site_view (sites.Line l) = spec.line (line_view l)
site_view (sites.PathVar x) = spec.path_var x.now
site_view (sites.Query x) = spec.query x.now
site_view (sites.Header x) = spec.header_at x.now
site_view (sites.Body q) = spec.body_at q.now
