use Rattle.std.proofs.Common.{refl, codes}
use Rattle.policy_documents.proofs.WordLemmas.{no_word}
use Rattle.policy_documents.proofs.words.IeType.of_word.Goals as goal

pub returns-in_default : goal.returns-in_default
returns-in_default c =
    rw (
      no_word (codes "UEID") c.args.word.now c.in_default.not-UEID,
      no_word (codes "LOCATION") c.args.word.now c.in_default.not-LOCATION,
      no_word (codes "KEY_MATERIAL") c.args.word.now c.in_default.not-KEY_MATERIAL,
      no_word (codes "AUTHENTICATION_MATERIAL") c.args.word.now c.in_default.not-AUTHENTICATION_MATERIAL,
      no_word (codes "AUTHORIZATION_TOKEN") c.args.word.now c.in_default.not-AUTHORIZATION_TOKEN,
      no_word (codes "OTHER") c.args.word.now c.in_default.not-OTHER,
      no_word (codes "NONSENSITIVE") c.args.word.now c.in_default.not-NONSENSITIVE,
    ) refl
