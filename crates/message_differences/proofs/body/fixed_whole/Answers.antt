use Rattle.std.proofs.Common.{rules, ◌≡◌, [], ◌∷◌, true, false, map, sym, ap, ◌∙◌}
use Rattle.std.specs.List.{find}
use Rattle.spec_messages.specs.Policy.{body_at}
use Rattle.n32_values.specs.View.{tree_of}
use Rattle.message_differences.specs.Fixed.{fixed_by}
use Rattle.message_differences.proofs.TurnLemmas.{unless_is, unless_not}
use Rattle.message_differences.proofs.body.fixed_whole.Goals as goal

pub returns-then-is_same_doc : goal.returns-then-is_same_doc
returns-then-is_same_doc c =
    let same : tree_of c.args.before.now ≡ tree_of c.args.after.now = c.is_same_doc.ensures.0 (search rules) in
    sym (ap (λ ps. find (fixed_by c.args.change.now) (map body_at ps)) (unless_is c.args.place.now _ _ same))

pub returns : goal.returns
returns c =
    let result : c.is_same_doc.result ≡ false = search rules in
    let apart : tree_of c.args.before.now ≡ tree_of c.args.after.now → ⊥ = λ e. (let clash : true ≡ false = sym (c.is_same_doc.ensures.1 e) ∙ result in cc) in
    c.if_fixed.ensures ∙ ap (λ p. find (fixed_by c.args.change.now) (body_at p ∷ [])) c.in_ok-copy.ensures
    ∙ sym (ap (λ ps. find (fixed_by c.args.change.now) (map body_at ps)) (unless_not c.args.place.now _ _ apart))
