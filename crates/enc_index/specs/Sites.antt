-- A block filled node by node, by where each node stands.
use Rattle.std.specs.Prelude.{ℕ, List, Bool, Option, None, if◌then◌else◌, bytes_eq, codes}
use Rattle.spec_documents.specs.Tree.{Tree, null, truth, whole, words, items, members, Trees, no_items, item, Members, no_members, member}
use Rattle.spec_documents.specs.Hole.{has_mark, hole_index, object_or, filled_path, filled_query}
use Rattle.enc_index.specs.declared.site.Site.{Site}
use Rattle.enc_index.specs.declared.site.Site.TheVariants.{Block, RequestLine, Path, Query, Headers, Header, HeaderValue, Payload, Item, Value, Elsewhere}

abbrev pub item_site : Site → Site
item_site Headers = Header
item_site Payload = Item
item_site Value = Value
item_site _ = Elsewhere

abbrev pub block_site : List ℕ → Site
block_site k = if bytes_eq k (codes "requestLine") then RequestLine else (if bytes_eq k (codes "headers") then Headers else (if bytes_eq k (codes "payload") then Payload else Elsewhere))

abbrev pub line_site : List ℕ → Site
line_site k = if bytes_eq k (codes "path") then Path else (if bytes_eq k (codes "queryFragment") then Query else Elsewhere)

abbrev pub value_site : Site → List ℕ → Site
value_site s k = if bytes_eq k (codes "value") then s else Elsewhere

abbrev pub member_site : Site → List ℕ → Site
member_site Block k = block_site k
member_site RequestLine k = line_site k
member_site Header k = value_site HeaderValue k
member_site Item k = value_site Value k
member_site Value k = Value
member_site _ k = Elsewhere

-- a header's value is looked into where it has the mark
abbrev pub entered_site : Site → Bool → Site
entered_site HeaderValue marked = if marked then Value else Elsewhere
entered_site s marked = s

-- the index of an object that is a hole, where one may stand
abbrev pub hole_at : Site → Tree → Option ℕ
hole_at Value t = hole_index t
hole_at _ t = None

abbrev pub filled_words : Site → List Tree → List ℕ → List ℕ
filled_words Path vs s = filled_path vs s
filled_words Query vs s = filled_query vs s
filled_words _ vs s = s

abbrev mutual
  pub filled_at : Site → List Tree → Tree → Tree
  filled_at site vs null = null
  filled_at site vs (truth b) = truth b
  filled_at site vs (whole z) = whole z
  filled_at site vs (words s) = words (filled_words site vs s)
  filled_at site vs (items ts) = items (filled_items (item_site site) vs ts)
  filled_at site vs (members ms) = object_or (hole_at (entered_site site (has_mark ms)) (members ms)) vs (filled_members (entered_site site (has_mark ms)) vs ms)

  pub filled_items : Site → List Tree → Trees → Trees
  filled_items site vs no_items = no_items
  filled_items site vs (item t ts) = item (filled_at site vs t) (filled_items site vs ts)

  pub filled_members : Site → List Tree → Members → Members
  filled_members site vs no_members = no_members
  filled_members site vs (member k t ms) = member k (filled_at (member_site site k) vs t) (filled_members site vs ms)
