use Rattle.std.proofs.Common.{Some, ap, sym, ◌∙◌}
use Rattle.spec_messages.proofs.PieceLemmas.{cut_pieces, pieces_after}
use Rattle.doc_forms.proofs.Cutting.{cut_found, cut_none}
use Rattle.doc_forms.proofs.cuts.cut.Goals as goal

pub returns-in-Some-clause-before : goal.returns-in-Some-clause-before
returns-in-Some-clause-before c = let h = c.in-Some.ensures.byte c.requires (λ w o f. f) in h.0 ∙ sym (ap (λ x. x.0) (cut_found c.args.at c.args.text.now h.2))

pub returns-in-Some-clause-after : goal.returns-in-Some-clause-after
returns-in-Some-clause-after c = let h = c.in-Some.ensures.byte c.requires (λ w o f. f) in ap Some h.1 ∙ sym (ap (λ x. x.1) (cut_found c.args.at c.args.text.now h.2))

pub returns-in-None-clause-before : goal.returns-in-None-clause-before
returns-in-None-clause-before c = let h = c.in-None.ensures.byte c.requires (λ w o f. f) in sym (ap (λ x. x.0) (cut_none c.args.at c.args.text.now h))

pub returns-in-None-clause-after : goal.returns-in-None-clause-after
returns-in-None-clause-after c = let h = c.in-None.ensures.byte c.requires (λ w o f. f) in sym (ap (λ x. x.1) (cut_none c.args.at c.args.text.now h))

pub returns-in-Some-clause-pieces : goal.returns-in-Some-clause-pieces
returns-in-Some-clause-pieces c =
    let h = c.in-Some.ensures.byte c.requires (λ w o f. f) in
    cut_pieces c.args.at c.args.text.now ∙ ap (pieces_after c.args.at) (cut_found c.args.at c.args.text.now h.2 ∙ (λ i. (sym h.0 i, Some (sym h.1 i))))

pub returns-in-None-clause-pieces : goal.returns-in-None-clause-pieces
returns-in-None-clause-pieces c =
    let h = c.in-None.ensures.byte c.requires (λ w o f. f) in
    cut_pieces c.args.at c.args.text.now ∙ ap (pieces_after c.args.at) (cut_none c.args.at c.args.text.now h)
