use Rattle.std.proofs.Common.{◌+◌, ◌*◌, length}
use Rattle.json_patch6902.proofs.change.+change.Given as goal

abbrev pub decreases-change_at : goal.decreases-change_at
decreases-change_at l = 2 * length l.path.now

abbrev pub decreases-change_in_item : goal.decreases-change_in_item
decreases-change_in_item l = 2 * length l.rest.now + 1

abbrev pub decreases-change_in_member : goal.decreases-change_in_member
decreases-change_in_member l = 2 * length l.rest.now + 1
