use Rattle.std.proofs.Common.{◌≡◌, ◌+◌, ◌++◌, [], ◌∷◌, map, drop, subst, sym, ap, ◌∙◌}
use Rattle.std.proofs.lemmas.Result.{err_from_is_err_and}
use Rattle.n32_values.specs.View.{tree_of}
use Rattle.n32c_handshake.specs.View.{capability_view}
use Rattle.spec_handshake.specs.Documents.{capability_of}
use Rattle.spec_records.specs.RecordDocument.{no_record}
use Rattle.n32c_handshake.specs.Reading.{known_words}
use Rattle.n32c_handshake.proofs.Words.{with_front, known_at, other_at, refused_at}
use Rattle.n32c_handshake.proofs.lists.known_capabilities.Goals as goal
use Rattle.n32c_handshake.proofs.lists.known_capabilities.Goals.{in-Some+in_ok-push, in_default}

pub returns-in_err-word : goal.returns-in_err-word
returns-in_err-word c =
    let p = err_from_is_err_and c.from_residual.result c.from_residual.ensures.1 in
    rw (p.1, p.2) (refused_at capability_of (map capability_view c.loop-i.capabilities) c.args.list.now c.loop-i.i (tree_of c.item.result.now) c.in_err-word.field-0.0 _ c.item.ensures c.loop-i.invariant c.in_err-word.ensures)

pub loop-i-preserved : goal.loop-i-preserved
loop-i-preserved c = elim c.match-capability_of.branch [
  | in-Some+in_ok-push w ↦
      let more : c.match-capability_of.capabilities ≡ c.loop-i.capabilities ++ w.in-Some.capability ∷ [] = w.capabilities-is ∙ w.in_ok-push.ensures.ok in
      subst (λ z. with_front (map capability_view z) (known_words capability_of (drop (c.loop-i.i + 1) c.args.list.now)) ≡ known_words capability_of c.args.list.now) (sym more)
      (known_at capability_view capability_of c.loop-i.capabilities c.args.list.now c.loop-i.i (tree_of c.item.result.now) c.in_ok-word.word.now no_record w.in-Some.capability _ c.item.ensures c.in_ok-word.ensures c.loop-i.invariant (w.in-Some.ensures ∙ ap capability_of c.as_str.ensures))
  | in_default w ↦
      subst (λ z. with_front (map capability_view z) (known_words capability_of (drop (c.loop-i.i + 1) c.args.list.now)) ≡ known_words capability_of c.args.list.now) (sym w.capabilities-is)
      (other_at capability_view capability_of c.loop-i.capabilities c.args.list.now c.loop-i.i (tree_of c.item.result.now) c.in_ok-word.word.now no_record _ c.item.ensures c.in_ok-word.ensures c.loop-i.invariant (w.in_default.ensures ∙ ap capability_of c.as_str.ensures))
]
