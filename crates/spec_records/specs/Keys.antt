-- The keys and nonces of a context's messages (TS 33.501 clause 13.2.4.4.2 in outline).
use Rattle.std.specs.Prelude.{ℕ, List, ◌++◌}
use Rattle.std.specs.Int.{w32, to_be_bytes}
use Rattle.spec_messages.specs.Message.{Kind, of_request, of_response}
use Rattle.spec_records.specs.Records.{OneKey, KeySet}

-- the key under which messages of the kind are sent
abbrev pub send_key : Kind → KeySet → OneKey
send_key of_request k = k.send_request
send_key of_response k = k.send_response

-- the key under which a peer sends messages of the kind
abbrev pub receive_key : Kind → KeySet → OneKey
receive_key of_request k = k.receive_request
receive_key of_response k = k.receive_response

-- the salt, and the sequence number as four bytes, the greatest first
abbrev pub nonce : OneKey → ℕ → List ℕ
nonce k seq = k.salt ++ to_be_bytes w32 seq
