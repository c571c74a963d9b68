use Rattle.std.proofs.Common.{◌≡◌, is_some, drop}
use Rattle.spec_script.specs.Steps as spec
use Rattle.replay_world.specs.Worlds.{sites_view}
use Rattle.replay_world.proofs.sites.is_known.Given as goal

abbrev pub invariant-loop-site : goal.invariant-loop-site
invariant-loop-site l = is_some (spec.plmn_at (sites_view (drop l.site-index l.site-items)) l.node) ≡ is_some (spec.plmn_at (sites_view l.sites) l.node)
