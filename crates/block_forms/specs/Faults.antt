-- What an answer tells of the first fault of a block, and of what there is too much.
use Rattle.std.specs.Prelude.{◌≡◌, ⊤, ℕ, List, [], Option, Some, None, Result, nat_lt, codes}
use Rattle.spec_documents.specs.Tree.{Tree, get_member}
use Rattle.spec_documents.specs.Hole.{HolePlace, HoleFault, bad_hole, twice, missing, places}
use Rattle.spec_messages.specs.Block.{members_of}
use Rattle.spec_messages.specs.Limits.{Limit, many_headers, many_items, many_values, long_block, full_wire, long_document, many_records}
use Rattle.spec_messages.specs.Fault.{BlockFault, bad_member, beyond, ie_path, overlap, bad_holes, deep, first_of, when, as_fault, first_pathless, first_overlap, hole_fault, items_depth, limit_fault, list_of}
use Rattle.enc_index.specs.Places.{place_view}
use Rattle.block_forms.specs.declared.fault.LimitName.{LimitName}
use Rattle.block_forms.specs.declared.fault.LimitName.TheVariants.{Headers, Payload, Values, Block, Wire, Alter, Records}
use Rattle.block_forms.specs.declared.fault.BlockWhy.{BlockWhy}
use Rattle.block_forms.specs.declared.fault.BlockWhy.TheVariants as why
use Rattle.block_forms.specs.declared.fault.BlockRead.{BlockRead}
use Rattle.block_forms.specs.declared.fault.BlockRead.TheVariants.{Refused, NoMemory}

abbrev pub limit_view : LimitName → Limit
limit_view Headers = many_headers
limit_view Payload = many_items
limit_view Values = many_values
limit_view Block = long_block
limit_view Wire = full_wire
limit_view Alter = long_document
limit_view Records = many_records

abbrev pub limit_of : ℕ → ℕ → ℕ → Option Limit
limit_of headers payload count = first_of (when (nat_lt 256 headers) many_headers) (first_of (when (nat_lt 4096 payload) many_items) (when (nat_lt 1024 count) many_values))

-- the fault that an answer names
abbrev pub Tells : BlockWhy → Option BlockFault → Type 0
Tells (why.Member name) fault = fault ≡ Some (bad_member name)
Tells (why.Limit which) fault = fault ≡ Some (beyond (limit_view which))
Tells (why.IePath k) fault = fault ≡ Some (ie_path k)
Tells (why.Overlap k) fault = fault ≡ Some (overlap k)
Tells (why.BadHole place) fault = fault ≡ Some (bad_holes (bad_hole (place_view place)))
Tells (why.Twice n) fault = fault ≡ Some (bad_holes (twice n))
Tells (why.Missing n) fault = fault ≡ Some (bad_holes (missing n))
Tells why.Depth fault = fault ≡ Some deep

abbrev pub IsFault : Option BlockWhy → Option BlockFault → Type 0
IsFault None fault = fault ≡ None
IsFault (Some w) fault = Tells w fault

abbrev pub Refuses : BlockRead → Option BlockFault → Type 0
Refuses (Refused why) fault = Tells why fault
Refuses NoMemory fault = ⊤

-- the faults of the paths of items
abbrev pub paths_fault : List Tree → Option BlockFault
paths_fault payload = first_of (as_fault ie_path (first_pathless 1 payload)) (as_fault overlap (first_overlap 1 [] payload))

-- the faults of the holes and of the depth, once the paths are right
abbrev pub values_fault : List Tree → Result (List HolePlace) HoleFault → Option BlockFault
values_fault payload found = first_of (as_fault bad_holes (hole_fault found)) (when (nat_lt 64 (items_depth payload)) deep)

-- the faults of items, once the members and the limits are right
abbrev pub later_fault : List Tree → Result (List HolePlace) HoleFault → Option BlockFault
later_fault payload found =
    first_of (as_fault ie_path (first_pathless 1 payload))
    (first_of (as_fault overlap (first_overlap 1 [] payload))
    (values_fault payload found))

-- the faults once the members are right
abbrev pub past_members : Tree → ℕ → Option BlockFault
past_members j n = first_of (as_fault beyond (limit_fault j n)) (later_fault (list_of (get_member (codes "payload") (members_of j))) (places j n))
