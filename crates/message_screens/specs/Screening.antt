-- A screen whose test follows its rule.
use Rattle.std.specs.Prelude.{ℕ, List, Bool}
use Rattle.std.specs.Fn.{Shared}
use denote.Ref.{Bor}
use Rattle.spec_exchange.specs.Screens.{Passes}
use Rattle.http_message.specs.declared.message.Message.{Message}
use Rattle.message_screens.specs.Following.{Follows}
use Rattle.message_screens.specs.declared.screen.Screen.{Screen}

abbrev pub rule_of : {F R : Type 0} → Screen F R → R
rule_of s = s.rule

abbrev pub IsScreen : {F R : Type 0} → Shared F (Bor Message × (Bor (List ℕ) × Unit {0})) Bool → (R → Passes) → Screen F R → Type 0
IsScreen calls passes s = Follows calls s.test (passes s.rule)
