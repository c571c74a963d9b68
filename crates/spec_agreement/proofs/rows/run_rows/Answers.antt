use Rattle.std.proofs.Common.{◌≡◌, refl, inl, inr}
use Rattle.json.specs.Print.{escape_byte}
use Rattle.spec_documents.specs.Chain as chain
use Rattle.spec_documents.specs.Ids.{id_text}
use Rattle.spec_handshake.specs.Rows.{context_a, context_b}
use Rattle.spec_records.specs.Records.{A128Gcm, A256Gcm}
use Rattle.spec_agreement.proofs.rows.run_rows.Goals as goal

pub returns-clause-opened : goal.returns-clause-opened
unfolding chain.◌>>=◌ escape_byte id_text
returns-clause-opened c = refl

pub returns-clause-by_handshakes : goal.returns-clause-by_handshakes
unfolding chain.◌>>=◌ escape_byte id_text
returns-clause-by_handshakes c = refl

pub returns-clause-forged : goal.returns-clause-forged
unfolding chain.◌>>=◌ escape_byte id_text
returns-clause-forged c = refl

pub returns-clause-not_by_handshakes : goal.returns-clause-not_by_handshakes
unfolding chain.◌>>=◌ escape_byte id_text
returns-clause-not_by_handshakes c = refl

pub returns-clause-disagree : goal.returns-clause-disagree
returns-clause-disagree c agrees =
    let both = agrees (record context_a { suite = A128Gcm }) context_b (inr (inr (inl refl))) (inr (inl refl)) (record { there = refl; there_id = refl; back = refl; back_id = refl }) in
    let same : A128Gcm ≡ A256Gcm = both.suite in
    cc
