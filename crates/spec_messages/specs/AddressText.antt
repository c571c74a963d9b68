-- The text of an address, by which a refusal names what differs (own).
use Rattle.std.specs.Prelude.{ℕ, List, ◌++◌, codes}
use Rattle.spec_documents.specs.Place.{pointer_text}
use Rattle.spec_messages.specs.Policy.{LinePart, line_kind, line_method, line_scheme, line_authority, line_version, line_path, line_query_order, line_header_order, line_status, Address, line, path_var, query, header_at, body_at}

abbrev pub line_word : LinePart → List ℕ
line_word line_kind = codes "kind"
line_word line_method = codes "method"
line_word line_scheme = codes "scheme"
line_word line_authority = codes "authority"
line_word line_version = codes "version"
line_word line_path = codes "path"
line_word line_query_order = codes "query-order"
line_word line_header_order = codes "header-order"
line_word line_status = codes "status"

abbrev pub address_text : Address → List ℕ
address_text (line l) = codes "line:" ++ line_word l
address_text (path_var x) = codes "path:" ++ x
address_text (query x) = codes "query:" ++ x
address_text (header_at x) = codes "header:" ++ x
address_text (body_at q) = codes "body:" ++ pointer_text q
