-- What the machine of `replay`, which was lent a world, a keeper, a signer, a verifier and a screen, gives and keeps from line to line.
use Rattle.std.specs.Prelude.{◌≡◌, ℕ, ◌≤◌, List, refl}
use Rattle.std.proofs.Common.{◌∙◌}
use Rattle.std.proofs.Math.Nat.{le_refl, le_trans}
use Rattle.replay_world.specs.declared.world.World.{World}
use Rattle.replay_world.specs.Worlds.{Steps}
use Rattle.replay_world.specs.Stepping.{GivesUp}
use Rattle.replay_world.specs.Outsiders.{Outsiders, Told, OthersStay, Acted, line_steps}

-- line n is answered over the records that are held, the keeper's count hasn't fallen, and the others stay
pub record AnswersLine (before after_ : Told) (old new : World) (number : ℕ) (line text : List ℕ) : Type 0 where
  pub steps : Steps before after_ old new number line text
  pub later : before.keeper_faults ≤ after_.keeper_faults
  pub others : OthersStay before.others after_.others

-- memory is refused at the line, over what is held, the keeper's count hasn't fallen, and the others stay
pub record GivesUpLine (before after_ : Told) (old new : World) (line : List ℕ) : Type 0 where
  pub left : Acted before.others after_.others (λ x. GivesUp (line_steps before.others.screen x line) before.held after_.held old new)
  pub later : before.keeper_faults ≤ after_.keeper_faults
  pub others : OthersStay before.others after_.others

-- what signer, verifier and screen tell stays, from one line to the next
others_refl : (x : Outsiders) → OthersStay x x
others_refl x = record {
  signer = record { same_algorithm = refl; same_meaning = refl; later = le_refl x.signer.faults };
  verifier = record { same_meaning = refl; later = le_refl x.verifier.faults };
  same_screen = refl;
}

others_trans : (x y z : Outsiders) → OthersStay x y → OthersStay y z → OthersStay x z
others_trans x y z p q = record {
  signer = record {
    same_algorithm = q.signer.same_algorithm ∙ p.signer.same_algorithm;
    same_meaning = q.signer.same_meaning ∙ p.signer.same_meaning;
    later = le_trans p.signer.later q.signer.later;
  };
  verifier = record {
    same_meaning = q.verifier.same_meaning ∙ p.verifier.same_meaning;
    later = le_trans p.verifier.later q.verifier.later;
  };
  same_screen = q.same_screen ∙ p.same_screen;
}

-- the same keeper, whose count hasn't fallen, and the same signer and verifier, which stay
pub record IsLater {N L V : Type 0} (keeper keeper' : N) (signer signer' : L) (verifier verifier' : V) (before after_ : ℕ) (others others' : Outsiders) : Type 0 where
  pub same_keeper : keeper' ≡ keeper
  pub same_signer : signer' ≡ signer
  pub same_verifier : verifier' ≡ verifier
  pub later : before ≤ after_
  pub others_stay : OthersStay others others'

pub later_refl : {N L V : Type 0} (keeper : N) (signer : L) (verifier : V) (faults : ℕ) (others : Outsiders) → IsLater keeper keeper signer signer verifier verifier faults faults others others
later_refl keeper signer verifier faults others = record { same_keeper = refl; same_signer = refl; same_verifier = refl; later = le_refl faults; others_stay = others_refl others }

pub later_trans : {N L V : Type 0} (a b c : N) (d e f : L) (u v w : V) (i j k : ℕ) (x y z : Outsiders) → IsLater a b d e u v i j x y → IsLater b c e f v w j k y z → IsLater a c d f u w i k x z
later_trans a b c d e f u v w i j k x y z p q = record {
  same_keeper = q.same_keeper ∙ p.same_keeper;
  same_signer = q.same_signer ∙ p.same_signer;
  same_verifier = q.same_verifier ∙ p.same_verifier;
  later = le_trans p.later q.later;
  others_stay = others_trans x y z p.others_stay q.others_stay;
}
