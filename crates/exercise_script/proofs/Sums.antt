-- A summary that has taken some answers is theirs.
use Rattle.std.proofs.Common.{◌≡◌, ℕ, ◌^◌, ◌<◌, List, [], ◌∷◌, ◌++◌, length, count_by, refl, sym, ap, ◌∙◌, append_assoc, arith, codes}
use Rattle.std.proofs.lemmas.List.Sums.{count_by-le-length}
use Rattle.hex.specs.Hex.{encode_lower}
use Rattle.sha2.specs.Sha256.{sha256}
use Rattle.spec_exercise.specs.Summary.{answer_has, answer_lines, named, five_lines, summary_text}
use Rattle.exercise_script.specs.Sums.{HasTaken}
use Rattle.exercise_script.specs.declared.summary.Summary.{Summary}

-- a line of a name and a value, before what follows
before : (name value rest following : List ℕ) → rest ≡ following → name ++ 32 ∷ (value ++ 10 ∷ rest) ≡ named name value ++ following
before name value rest following e =
    ap (λ t. name ++ 32 ∷ (value ++ 10 ∷ t)) e
    ∙ sym (append_assoc name (32 ∷ (value ++ 10 ∷ [])) following ∙ ap (λ t. name ++ 32 ∷ t) (append_assoc value (10 ∷ []) following))

pub lines_join : (messages answers delivered refused digest : List ℕ)
    → codes "messages " ++ (messages ++ (codes "\nanswers " ++ (answers ++ (codes "\ndelivered " ++ (delivered ++ (codes "\nrefused " ++ (refused ++ (codes "\nsha256 " ++ (digest ++ 10 ∷ [])))))))))
    ≡ named (codes "messages") messages ++ (named (codes "answers") answers ++ (named (codes "delivered") delivered ++ (named (codes "refused") refused ++ named (codes "sha256") digest)))
lines_join messages answers delivered refused digest =
    before (codes "messages") messages _ _ (before (codes "answers") answers _ _ (before (codes "delivered") delivered _ _ (before (codes "refused") refused _ _ refl)))

pub summary_is : (s : Summary) (messages : ℕ) (answers : List (List ℕ)) (digest text : List ℕ) → HasTaken s answers → length answers < 2 ^ 64
    → digest ≡ encode_lower (sha256 (answer_lines answers)) → text ≡ five_lines messages s.answers s.delivered s.refused digest
    → text ≡ summary_text messages answers
summary_is s messages answers digest text taken few digest_is text_is =
    let all : s.answers ≡ length answers = omega (arith, taken.answers_are, few) in
    let delivered : s.delivered ≡ count_by (answer_has (codes "delivered")) answers =
    omega (arith, taken.delivered_are, few, count_by-le-length (answer_has (codes "delivered")) answers) in
    let refused : s.refused ≡ count_by (answer_has (codes "refused")) answers =
    omega (arith, taken.refused_are, few, count_by-le-length (answer_has (codes "refused")) answers) in
    text_is ∙ (λ i. five_lines messages (all i) (delivered i) (refused i) (digest_is i))
