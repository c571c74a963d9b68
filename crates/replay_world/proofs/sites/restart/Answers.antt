use Rattle.std.proofs.Common.{◌≡◌, is_some, true, false, refl}
use Rattle.spec_script.specs.Steps as spec
use Rattle.spec_script.specs.Events.{Restart}
use Rattle.script_lines.specs.declared.refusal.Refusal.TheVariants as refusals
use Rattle.replay_world.specs.Outsiders.{all_pass, idle, by, unasked}
use Rattle.replay_world.specs.Worlds.{sites_view, state_of}
use Rattle.replay_world.proofs.EventSteps.{unknown_restart}
use Rattle.replay_world.proofs.Handling.{alone_done, alone_refused}
use Rattle.replay_world.proofs.Nodes.{idles_restarted, forgotten}
use Rattle.replay_world.proofs.sites.restart.Goals as goal

pub returns-then-not-is_known : goal.returns-then-not-is_known
returns-then-not-is_known c =
    let unknown : is_some (spec.plmn_at (sites_view c.args.world.now.sites) c.args.node.now) ≡ false = cc in
    alone_refused (unasked (Restart c.args.node.now)) c.args.world.now c.args.number refusals.NodeUnknown (λ e. cc) c.requires
    (λ records f. unknown_restart all_pass (state_of c.args.world.now records) (by idle f) c.args.node.now unknown)

pub returns : goal.returns
returns c =
    let known : is_some (spec.plmn_at (sites_view c.args.world.now.sites) c.args.node.now) ≡ true = cc in
    alone_done (unasked (Restart c.args.node.now)) c.args.world.now _ c.args.number c.in_ok-text.text
    (idles_restarted c.args.world.now _ c.args.number c.in_ok-text.text c.args.node.now known c.in_ok-text.ensures refl c.drop_node.ensures refl (forgotten c.args.world.now.store c.forget.new.self c.forget.ensures.records c.forget.ensures.stale))
    (record { nodes = c.requires.nodes; wire = c.requires.wire; bytes = c.requires.bytes })
