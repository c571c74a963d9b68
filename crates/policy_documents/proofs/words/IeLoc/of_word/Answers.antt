use Rattle.std.proofs.Common.{refl, codes}
use Rattle.policy_documents.proofs.WordLemmas.{no_word}
use Rattle.policy_documents.proofs.words.IeLoc.of_word.Goals as goal

pub returns-in_default : goal.returns-in_default
returns-in_default c =
    rw (
      no_word (codes "URI_PARAM") c.args.word.now c.in_default.not-URI_PARAM,
      no_word (codes "HEADER") c.args.word.now c.in_default.not-HEADER,
      no_word (codes "BODY") c.args.word.now c.in_default.not-BODY,
      no_word (codes "MULTIPART_BINARY") c.args.word.now c.in_default.not-MULTIPART_BINARY,
    ) refl
