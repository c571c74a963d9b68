use Rattle.std.proofs.Common.{◌≡◌, is_some, true, false, refl}
use Rattle.spec_script.specs.Steps as spec
use Rattle.spec_script.specs.Events.{AddNode}
use Rattle.script_lines.specs.declared.refusal.Refusal.TheVariants as refusals
use Rattle.replay_world.specs.Outsiders.{all_pass, idle, by, unasked}
use Rattle.replay_world.specs.Worlds.{sites_view, state_of}
use Rattle.replay_world.proofs.Parts.{stays_itself}
use Rattle.replay_world.proofs.EventSteps.{node_exists}
use Rattle.replay_world.proofs.Handling.{alone_done, alone_refused}
use Rattle.replay_world.proofs.Nodes.{idles_added, distinct_more, sites_more}
use Rattle.replay_world.proofs.sites.add_node.Goals as goal

pub returns-then-is_known : goal.returns-then-is_known
returns-then-is_known c =
    let known : is_some (spec.plmn_at (sites_view c.args.world.now.sites) c.args.node) ≡ true = cc in
    alone_refused (unasked (AddNode c.args.node c.args.plmn)) c.args.world.now c.args.number refusals.NodeExists (λ e. cc) c.requires
    (λ records f. node_exists all_pass (state_of c.args.world.now records) (by idle f) c.args.node c.args.plmn known)

pub returns : goal.returns
returns c =
    let unknown : is_some (spec.plmn_at (sites_view c.args.world.now.sites) c.args.node) ≡ false = cc in
    alone_done (unasked (AddNode c.args.node c.args.plmn)) c.args.world.now _ c.args.number c.in_ok-text.text
    (idles_added c.args.world.now _ c.args.number c.in_ok-text.text (record { node = c.args.node; plmn = c.args.plmn }) unknown c.in_ok-text.ensures c.in_ok-push.ensures.ok refl refl (stays_itself c.args.world.now.store))
    (record {
      nodes = rw (sites_more c.args.world.now.sites c.push.new.self (record { node = c.args.node; plmn = c.args.plmn }) c.in_ok-push.ensures.ok) (distinct_more (sites_view c.args.world.now.sites) (record { node = c.args.node; plmn = c.args.plmn }) c.requires.nodes unknown);
      wire = c.requires.wire;
      bytes = c.requires.bytes;
    })
