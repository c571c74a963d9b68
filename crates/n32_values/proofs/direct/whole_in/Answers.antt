use Rattle.std.proofs.Common.{◌≡◌, Option, Some, drop, get_or, true, false, ◌==◌, sym, ap, ◌∙◌, subst, arith, take_all, length-drop, option_and_then}
use Rattle.std.specs.Prelude.{IfSome}
use Rattle.fast_float.specs.Text.{scan}
use Rattle.serde_json.specs.Data.{Num}
use Rattle.serde_json.specs.Find.{as_integer}
use Rattle.serde_json.specs.Read.{number_of, number_from}
use Rattle.n32_values.proofs.direct.whole_in.Goals as goal

pub returns-then-is_signed : goal.returns-then-is_signed
unfolding number_of
returns-then-is_signed c =
    let s = c.as_bytes-bytes.result.now in
    let signed : (get_or s 0 0 == 45) ≡ true = sym c.if-is_signed.ensures.value in
    let read : number_from true (scan (drop 1 s)) ≡ number_of s = rw signed in
    let same = ap (λ ds. number_from true (scan ds)) (take_all _ (drop 1 s) (omega (arith, length-drop 1 s))) ∙ read ∙ ap number_of c.as_bytes-bytes.ensures.value in
    subst (λ (o : Option Num). IfSome c.below_zero.result (λ w. option_and_then as_integer o ≡ Some w)) same c.below_zero.ensures

pub returns-else-is_signed : goal.returns-else-is_signed
unfolding number_of
returns-else-is_signed c =
    let s = c.as_bytes-bytes.result.now in
    let positive : (get_or s 0 0 == 45) ≡ false = sym c.if-is_signed.ensures.value in
    let read : number_from false (scan s) ≡ number_of s = rw positive in
    let same = read ∙ ap number_of c.as_bytes-bytes.ensures.value in
    subst (λ (o : Option Num). IfSome c.unsigned.result (λ w. option_and_then as_integer o ≡ Some w)) same c.unsigned.ensures
