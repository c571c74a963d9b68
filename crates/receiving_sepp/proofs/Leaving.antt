-- What entries leave of a message.
use Rattle.std.proofs.Common.{◌≡◌, List, [], ◌∷◌, length, Bool, true, false, Option, Some, None, Result, Ok, refl, ap, sym, subst}
use Rattle.std.specs.Prelude.{if◌then◌else◌, nat_le, ◌&&◌}
use Rattle.spec_documents.specs.Tree.{Tree}
use Rattle.spec_documents.specs.Chain.{◌>>=◌}
use Rattle.spec_documents.specs.Gives.{Tells}
use Rattle.spec_documents.proofs.Chains.{tells_on}
use Rattle.spec_messages.specs.Message.{Message, body_depth}
use Rattle.spec_messages.specs.Split.{fill_whole, has_texts}
use Rattle.spec_exchange.specs.EntryChecks.{Terms, Verifying, entries_applied}
use Rattle.spec_exchange.specs.AcceptRefusals.{Refusal}
use Rattle.receiving_sepp.specs.Groups.{Rebuilt, changed}
use Rattle.receiving_sepp.specs.Refilling.{Stands}

-- an entry is refused
pub refused_change : (t : Terms) (v : Verifying) (m : Rebuilt) (es : List Tree) (told all : Option Refusal) → all ≡ told → Tells told (entries_applied t v m.block m.holed es) → Tells all (changed t v m es)
refused_change t v m es told all same h = subst (λ c. Tells c (changed t v m es)) (sym same) (tells_on told (entries_applied t v m.block m.holed es) (λ p. Ok (fill_whole m.values p.holed)) h)

pub no_items : (es : List Tree) → length es ≡ 0 → es ≡ []
no_items [] e = refl
no_items (x ∷ xs) e = cc

chosen : (b : Bool) (x y : Message) → (if b then Some x else None) ≡ Some y → x ≡ y
chosen true x y e = cc
chosen false x y e = cc

-- without entries it stays
pub unchanged : (t : Terms) (v : Verifying) (m : Rebuilt) (es : List Tree) → Stands m → es ≡ [] → changed t v m es ≡ Ok m.content
unfolding ◌>>=◌
unchanged t v m [] stands e = ap (λ (x : Message). let r : Result Message Refusal = Ok x in r) (chosen (has_texts m.values m.holed && nat_le (body_depth (fill_whole m.values m.holed).body) 64) (fill_whole m.values m.holed) m.content stands.filled)
unchanged t v m (x ∷ xs) stands e = cc
