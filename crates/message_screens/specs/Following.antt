-- A test in the program that answers what a rule on messages says.
use Rattle.std.specs.Prelude.{◌≡◌, ℕ, List, Bool}
use Rattle.std.specs.Fn.{Shared}
use denote.Ref.{Bor}
use Rattle.spec_exchange.specs.Screens.{Passes}
use Rattle.http_message.specs.Reading.{message_view}
use Rattle.http_message.specs.declared.message.Message.{Message}

-- it may be called on each message and PLMN id, and answers whether the rule passes the message
pub record Follows {F : Type 0} (calls : Shared F (Bor Message × (Bor (List ℕ) × Unit {0})) Bool) (test : F) (passes : Passes) : Type 0 where
  pub callable : (m : Bor Message) (plmn : Bor (List ℕ)) → calls.pre test (m, (plmn, tt))
  pub tells : (m : Bor Message) (plmn : Bor (List ℕ)) (r : Bool) → calls.post test (m, (plmn, tt)) r → r ≡ passes (message_view m.now) plmn.now
