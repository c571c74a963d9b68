use Rattle.std.proofs.Common.{◌≡◌, is_some, true, false, refl, Ok, Err}
use Rattle.n32_values.specs.View.{tree_of}
use Rattle.error_reports.specs.View.{report_view}
use Rattle.spec_reports.specs.Document.{report_in, no_report}
use Rattle.spec_script.specs.Steps as spec
use Rattle.spec_script.specs.Events.{Reported}
use Rattle.script_lines.specs.declared.refusal.Refusal.TheVariants as refusals
use Rattle.replay_world.specs.Outsiders.{all_pass, idle, by, unasked}
use Rattle.replay_world.specs.Worlds.{sites_view, state_of}
use Rattle.replay_world.proofs.Documents.{idles_reported}
use Rattle.replay_world.proofs.EventSteps.{unknown_reported, no_report_told}
use Rattle.replay_world.proofs.Handling.{alone_done, alone_refused, alone_memory}
use Rattle.replay_world.proofs.reporting.reported.Goals as goal

pub returns-then-not-is_known : goal.returns-then-not-is_known
returns-then-not-is_known c =
    let unknown : is_some (spec.plmn_at (sites_view c.args.world.now.sites) c.args.node.now) ≡ false = cc in
    alone_refused (unasked (Reported c.args.node.now (tree_of c.args.document))) c.args.world.now c.args.number refusals.NodeUnknown (λ e. cc) c.requires.sound
    (λ records f. unknown_reported all_pass (state_of c.args.world.now records) (by idle f) c.args.node.now (tree_of c.args.document) unknown)

pub returns-in-Ok-reported_text : goal.returns-in-Ok-reported_text
returns-in-Ok-reported_text c =
    let known : is_some (spec.plmn_at (sites_view c.args.world.now.sites) c.args.node.now) ≡ true = cc in
    let good : report_in (tree_of c.args.document) ≡ Ok (report_view c.in-Ok.report) = rw c.from_shallow.ensures at c.in-Ok.ensures in
    alone_done (unasked (Reported c.args.node.now (tree_of c.args.document))) c.args.world.now c.args.world.now c.args.number c.in-Ok-reported_text.text
    (idles_reported c.args.world.now c.args.number c.in-Ok-reported_text.text c.args.node.now (tree_of c.args.document) (report_view c.in-Ok.report) known good c.in-Ok-reported_text.ensures)
    c.requires.sound

pub returns-in-Ok : goal.returns-in-Ok
returns-in-Ok c = alone_memory (unasked (Reported c.args.node.now (tree_of c.args.document))) c.args.world.now c.args.world.now c.args.number c.requires.sound refl

pub returns-in-Err-Form : goal.returns-in-Err-Form
returns-in-Err-Form c =
    let known : is_some (spec.plmn_at (sites_view c.args.world.now.sites) c.args.node.now) ≡ true = cc in
    let bad : report_in (tree_of c.args.document) ≡ Err no_report = rw (c.from_shallow.ensures, c.in-Err-Form.field-0-is) at c.in-Err-Form.ensures in
    alone_refused (unasked (Reported c.args.node.now (tree_of c.args.document))) c.args.world.now c.args.number refusals.Report (λ e. cc) c.requires.sound
    (λ records f. no_report_told all_pass (state_of c.args.world.now records) (by idle f) c.args.node.now (tree_of c.args.document) no_report known bad)

pub returns : goal.returns
returns c = alone_memory (unasked (Reported c.args.node.now (tree_of c.args.document))) c.args.world.now c.args.world.now c.args.number c.requires.sound refl
