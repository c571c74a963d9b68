use Rattle.std.proofs.Common.{refl}
use Rattle.spec_documents.specs.Tree.{members, put_member}
use Rattle.json_patch6902.proofs.place.takes_child.Goals as goal

pub returns-in_ok-new_place-in-Items : goal.returns-in_ok-new_place-in-Items
returns-in_ok-new_place-in-Items c = rw c.in-Items.is c.in_ok-new_place-in-Items.ensures.takes

pub returns-in-Members : goal.returns-in-Members
returns-in-Members c = rw c.in-Members.is (λ v. (members (put_member c.args.token.now v c.in-Members.field-0), refl))
