use Rattle.std.proofs.Common.{◌∷◌, [], length, sym, ap, ◌∙◌, inl, inr, refl, append-nil, arith, length-append}
use Rattle.std.proofs.lemmas.Result.{err_from_is_err_and, IfErr-weaker}
use Rattle.script_loop.proofs.Steps.{feeds_part, feeds_line}
use Rattle.script_loop.proofs.Stopping.{stops_part, stops_line, stops_in_line}
use Rattle.script_loop.proofs.line_buffer.LineBuffer.feed.Goals as goal

pub returns-in_err-extend-clause-err : goal.returns-in_err-extend-clause-err
returns-in_err-extend-clause-err g c =
    let p = err_from_is_err_and c.from_residual.result c.from_residual.ensures.1 in
    rw (p.1, p.2) (stops_part g.M.Machine.gives g.M.Machine.gives_up _ _ _ _ _ _ _ _ _ _ _ _ c.loop-part.invariant.fed c.in-Some.ensures.found c.in-Some.ensures.plain (inr (c.in-Some.after.now, refl)) c.in_err-extend.ensures.err)

pub returns-in_err-end_line-clause-err : goal.returns-in_err-end_line-clause-err
returns-in_err-end_line-clause-err g c =
    let p = err_from_is_err_and c.from_residual-in_err-end_line.result c.from_residual-in_err-end_line.ensures.1 in
    let begun = feeds_part g.M.Machine.gives _ _ _ _ _ c.extend.new.self.number _ c.in-Some.part.now (10 ∷ c.in-Some.after.now) _ c.extend.new.self.line.items _ _ c.loop-part.invariant.fed c.in-Some.ensures.found c.in_ok-extend.ensures.number c.in_ok-extend.ensures.ok c.in-Some.ensures.plain c.in_ok-extend.ensures.short in
    rw (p.1, p.2) (stops_line g.M.Machine.gives g.M.Machine.gives_up _ _ _ _ _ _ _ c.in_err-end_line.ensures.which (stops_in_line g.M.Machine.gives g.M.Machine.gives_up _ _ _ _ _ _ _ _ _ _ _ _ begun c.in_err-end_line.ensures.err))

pub loop-part-preserved : goal.loop-part-preserved
loop-part-preserved g c =
    let begun = feeds_part g.M.Machine.gives _ _ _ _ _ c.extend.new.self.number _ c.in-Some.part.now (10 ∷ c.in-Some.after.now) _ c.extend.new.self.line.items _ _ c.loop-part.invariant.fed c.in-Some.ensures.found c.in_ok-extend.ensures.number c.in_ok-extend.ensures.ok c.in-Some.ensures.plain c.in_ok-extend.ensures.short in
    let cut = ap length c.in-Some.ensures.found ∙ length-append c.in-Some.part.now (10 ∷ c.in-Some.after.now) in
    record {
      fed = feeds_line g.M.Machine.gives _ _ _ _ _ _ _ _ _ _ _ _ _ begun c.in_ok-end_line.ensures.ok c.in_ok-end_line.ensures.number c.in_ok-end_line.ensures.line;
      few = omega (arith, cut, c.in_ok-end_line.ensures.number, c.in_ok-extend.ensures.number);
      ready = c.in_ok-end_line.ensures.ready;
      kept = g.met.M.Machine.goes_on _ _ _ c.loop-part.invariant.kept c.in_ok-end_line.ensures.later;
      later = omega (arith, c.in_ok-end_line.ensures.cause.later);
    }

pub returns-clause-err : goal.returns-clause-err
returns-clause-err g c =
    IfErr-weaker c.extend-2.result _ _ (λ ending why. stops_part g.M.Machine.gives g.M.Machine.gives_up _ _ _ _ _ _ c.loop-part.rest.now [] _ _ _ ending c.loop-part.invariant.fed (sym (append-nil c.loop-part.rest.now)) (c.in_default.ensures.none) (inl refl) why) c.extend-2.ensures.err
