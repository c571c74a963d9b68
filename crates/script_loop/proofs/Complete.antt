-- A script within the limits meets none of them.
use Rattle.std.proofs.Common.{◌≡◌, ◌+◌, ◌-◌, ◌≤◌, ℕ, List, length, take, get_or, ap, sym, subst, ◌∙◌, arith, Some, None, IfSome}
use Rattle.std.specs.Prelude.{Option, slice_get, unwrap_or}
use Rattle.std.proofs.lemmas.List.{take_all}
use Rattle.std.proofs.lemmas.Option.{slice_get_within, unwrap_or-slice_get}
use Rattle.script_loop.specs.Limits.{line_limit, script_limit}
use Rattle.spec_documents.specs.Lines.{lines_of, Gives}
use Rattle.script_loop.specs.Lines.{IsShort, IsFirstLong, IsWithin}
use Rattle.script_loop.specs.InPart.{GivesUp}
use Rattle.script_loop.specs.Ends.{Ends, MeetsNoLimit}
use Rattle.script_loop.specs.declared.ending.Ending.{Ending}
use Rattle.script_loop.specs.declared.ending.Ending.TheVariants.{Done, ReadFault, WriteFault, LineTooLong, ScriptTooLarge, NoMemory}

-- no line is too long
within_long : (script : List ℕ) (n : ℕ) → IsWithin script → IsFirstLong n (lines_of (take (script_limit + 1) script)) → ⊥
within_long script n within f =
    let whole : take (script_limit + 1) script ≡ script = take_all (script_limit + 1) script (omega (arith, within.size)) in
    let there : slice_get (lines_of script) (n - 1) ≡ Some f.line = ap (λ z. slice_get (lines_of z) (n - 1)) (sym whole) ∙ f.there in
    let is : get_or (lines_of script) (n - 1) f.line ≡ f.line = sym (unwrap_or-slice_get (lines_of script) (n - 1) f.line) ∙ ap (λ o. unwrap_or o f.line) there in
    let short : length f.line ≤ line_limit = subst IsShort is (within.lines (n - 1) f.line (slice_get_within (lines_of script) (n - 1) f.line there)) in
    omega (arith, short, f.long)

meets_none : {M : Type 0} (gives : Gives M) (gives_up : GivesUp M) (script : List ℕ) (left : Option (List ℕ)) (old new : M) (before after : Option (List ℕ)) (ending : Ending)
    → Ends gives gives_up script left old new before after ending → IsWithin script → MeetsNoLimit ending
meets_none gives gives_up script left old new before after Done e within = tt
meets_none gives gives_up script left old new before after ReadFault e within = tt
meets_none gives gives_up script left old new before after WriteFault e within = tt
meets_none gives gives_up script left old new before after NoMemory e within = tt
meets_none gives gives_up script left old new before after (LineTooLong n) e within = within_long script n within e.0
meets_none gives gives_up script left old new before after ScriptTooLarge e within = absurd (omega (arith, within.size, e.0.size))

pub complete_told : {M : Type 0} (gives : Gives M) (gives_up : GivesUp M) (first left : Option (List ℕ)) (old new : M) (before after : Option (List ℕ)) (ending : Ending)
    → IfSome first (λ script. Ends gives gives_up script left old new before after ending)
    → IfSome first (λ script. IsWithin script → MeetsNoLimit ending)
complete_told gives gives_up None left old new before after ending ends = tt
complete_told gives gives_up (Some script) left old new before after ending ends = λ within. meets_none gives gives_up script left old new before after ending ends within
