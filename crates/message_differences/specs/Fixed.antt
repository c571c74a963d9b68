-- The first of a list of addresses that isn't modifiable.
use Rattle.std.specs.Prelude.{◌≡◌, List, [], ◌∷◌, ◌++◌, Bool, not, Option, Some, None, option_map, Result, IfOk, find, bytes_eq}
use Rattle.spec_messages.specs.Message.{Part, Line}
use Rattle.spec_messages.specs.Policy.{Pattern, fixed, variable, Address, line, path_var, line_method, line_scheme, line_authority, line_version, line_path, LinePart, is_modifiable, unless, same_path, same_option, same_part}
use Rattle.http_message.specs.Reading.{message_view}
use Rattle.n32_values.specs.declared.memory.NoMemory.{NoMemory}
use Rattle.policy_tables.specs.declared.address.Address.{Address as Answer}
use Rattle.policy_tables.specs.View.{address_view}
use Rattle.message_differences.specs.declared.change.Change.{Change}

-- an address isn't modifiable
abbrev pub fixed_by : Change → Address → Bool
fixed_by c a = not (is_modifiable c.policy.now c.mapping (message_view c.before.now) (message_view c.after.now) a c.ipx.now)

-- the answer, where there is one, is the first of these that isn't modifiable
abbrev pub FirstFixed : Change → Result (Option Answer) NoMemory → List Address → Type 0
FirstFixed c result addresses = IfOk result (λ found. option_map address_view found ≡ find (fixed_by c) addresses)

-- the parts of the line that differ, variables and query apart, and then the rest
abbrev pub parts_then : List Pattern → Line → Line → List Address → List Address
parts_then ps a b rest =
    unless (bytes_eq a.method b.method) (line line_method)
    ++ unless (bytes_eq a.scheme b.scheme) (line line_scheme)
    ++ unless (bytes_eq a.authority b.authority) (line line_authority)
    ++ unless (bytes_eq a.version b.version) (line line_version)
    ++ unless (same_path ps 0 a.segments b.segments) (line line_path)
    ++ rest

-- a list, whatever its rest, begins with a part of the line, or is that rest
abbrev pub Begins : Option LinePart → (List Address → List Address) → Type 0
Begins None list = (rest : List Address) → list rest ≡ rest
Begins (Some l) list = (rest : List Address) → (more : List Address) × (list rest ≡ line l ∷ more)

-- a variable's address, where its segments differ
abbrev pub variable_changed : Pattern → Option Part → Option Part → List Address
variable_changed (fixed s) r q = []
variable_changed (variable x) r s = unless (same_option same_part r s) (path_var x)
