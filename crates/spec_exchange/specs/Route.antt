-- The intermediaries that a document may pass, in order, over the texts of their identities (own).
use Rattle.std.specs.Prelude.{ℕ, Bool, true, false, List, [], ◌∷◌, ◌++◌, if◌then◌else◌, bytes_eq}
use Rattle.std.specs.List.{list_any}

-- the first list is the second with some of its texts left out
abbrev pub is_subsequence : List (List ℕ) → List (List ℕ) → Bool
is_subsequence [] route = true
is_subsequence (x ∷ xs) [] = false
is_subsequence (x ∷ xs) (y ∷ route) = if bytes_eq x y then is_subsequence xs route else is_subsequence (x ∷ xs) route

-- the authorized intermediary, where the peer has announced it, and then the own ones
abbrev pub route : (authorized : List ℕ) (peer_ipx own_ipx : List (List ℕ)) → List (List ℕ)
route authorized peer_ipx own_ipx = (if list_any (bytes_eq authorized) peer_ipx then authorized ∷ [] else []) ++ own_ipx

-- the identities of the entries so far are in the route
abbrev pub in_route : (identities route : List (List ℕ)) → Bool
in_route identities route = is_subsequence identities route
