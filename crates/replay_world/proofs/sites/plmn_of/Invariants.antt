use Rattle.std.proofs.Common.{◌≡◌, drop}
use Rattle.spec_script.specs.Steps as spec
use Rattle.replay_world.specs.Worlds.{sites_view}
use Rattle.replay_world.proofs.sites.plmn_of.Given as goal

abbrev pub invariant-loop-site : goal.invariant-loop-site
invariant-loop-site l = spec.plmn_at (sites_view (drop l.site-index l.site-items)) l.node ≡ spec.plmn_at (sites_view l.sites) l.node
