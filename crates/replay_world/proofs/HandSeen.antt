-- What is told and sent of the calls of a handshake is what the definitions have.
use Rattle.std.proofs.Common.{◌≡◌, ℕ, Some, refl, sym, ap, subst, arith}
use Rattle.spec_documents.specs.Tree.{Tree}
use Rattle.spec_handshake.specs.Documents.{Document, document_tree}
use Rattle.spec_handshake.specs.Calls as calls
use Rattle.spec_handshake.specs.Runs.{reply_document, next_document}
use Rattle.spec_handshake.proofs.Depth.{document_level}
use Rattle.n32c_handshake.specs.Outcome.{IsDocument, IsClosing}
use Rattle.n32c_handshake.specs.Replies.{IsReplied}
use Rattle.n32c_handshake.specs.Progress.{IsFinished}
use Rattle.n32c_handshake.specs.declared.replying.Replied.{Replied}
use Rattle.n32c_handshake.specs.declared.replying.Replied.TheVariants as replied
use Rattle.n32c_handshake.specs.declared.finishing.Finished.{Finished}
use Rattle.n32c_handshake.specs.declared.finishing.Finished.TheVariants as finished
use Rattle.spec_script.specs.Steps.{Forwards, OpensAs, replied_answer, finished_answer}
use Rattle.replay_world.specs.Worlds.{IsShallow}
use Rattle.replay_world.specs.Shaking.{forwarded, replied_told, replied_sent, finished_told, finished_sent}
use Rattle.replay_world.proofs.Handshakes.{Seen}

-- a document is shallow
document_low : (t u : Tree) (d : Document) → t ≡ document_tree d → Some t ≡ Some u → IsShallow u
document_low t u d is e = let same : t ≡ u = cc in subst (λ (z : Tree). IsShallow z) same (rw is (omega (arith, document_level d)))

pub document_seen : (n : ℕ) (t : Tree) (d : Document) → IsDocument t d → Seen (Forwards (document_tree d) n) (Some d) (forwarded n t) (Some t)
document_seen n t d is = record { answer = ap (λ (z : Tree). Forwards z n) (sym is); document = ap (λ (z : Tree). Some z) (sym is); fine = refl; low = λ u e. document_low t u d is e }

pub closing_seen : (n : ℕ) (t : Tree) (c : calls.Closing) → IsClosing t c → Seen (Forwards (document_tree c.document) n) (Some c.document) (forwarded n t) (Some t)
closing_seen n t c is = document_seen n t c.document is

pub replied_seen : (n : ℕ) (x : Replied) (r : calls.Replied) → IsReplied x r → Seen (replied_answer n r) (reply_document r) (replied_told n x) (replied_sent x)
replied_seen n (replied.Selected t) (calls.Chose d) is = document_seen n t d is
replied_seen n (replied.Selected t) (calls.OpenedBy d y) is = absurd is
replied_seen n (replied.Opened t id) (calls.Chose d) is = absurd is
replied_seen n (replied.Opened t id) (calls.OpenedBy d y) is = record { answer = rw (is.0, is.1) refl; document = ap (λ (z : Tree). Some z) (sym (is.0)); fine = refl; low = λ u e. document_low t u d is.0 e }

pub finished_seen : (n : ℕ) (x : Finished) (r : calls.Finished) → IsFinished x r → Seen (finished_answer n r) (next_document r) (finished_told n x) (finished_sent x)
finished_seen n (finished.Next t) (calls.Next d) is = document_seen n t d is
finished_seen n (finished.Next t) (calls.OpenedAs y) is = absurd is
finished_seen n (finished.Next t) calls.EndedTls is = absurd is
finished_seen n (finished.Opened id) (calls.Next d) is = absurd is
finished_seen n (finished.Opened id) (calls.OpenedAs y) is = record { answer = ap OpensAs (sym is); document = refl; fine = refl; low = λ u e. cc }
finished_seen n (finished.Opened id) calls.EndedTls is = absurd is
finished_seen n finished.EndedTls (calls.Next d) is = absurd is
finished_seen n finished.EndedTls (calls.OpenedAs y) is = absurd is
finished_seen n finished.EndedTls calls.EndedTls is = record { answer = refl; document = refl; fine = refl; low = λ u e. cc }
