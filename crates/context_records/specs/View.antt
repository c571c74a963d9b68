-- The record of the definitions that a value of the program is.
use Rattle.std.specs.Prelude.{ℕ, List}
use Rattle.spec_records.specs.Records as spec
use Rattle.http_message.specs.Reading.{kind_view}
pub use Rattle.jwe_flat.specs.View.{suite_view}
use Rattle.jwe_flat.specs.declared.key.ContentKey.{ContentKey}
use Rattle.jwe_flat.specs.declared.key.ContentKey.TheVariants.{Aes128, Aes256}
use Rattle.context_records.specs.declared.context.OneKey.{OneKey}
use Rattle.context_records.specs.declared.context.KeySet.{KeySet}
use Rattle.context_records.specs.declared.context.Context.{Context}
use Rattle.context_records.specs.declared.record.Record.{Record}
use Rattle.context_records.specs.declared.record.Record.TheVariants.{Offered, Opened, Keyed, Sent, Delivered, Closed}

-- the bytes of a key
abbrev pub key_view : ContentKey → List ℕ
key_view (Aes128 key) = key
key_view (Aes256 key) = key

abbrev pub one_key_view : OneKey → spec.OneKey
one_key_view k = record { key = key_view k.key; salt = k.salt }

abbrev pub key_set_view : KeySet → spec.KeySet
key_set_view k = record {
  send_request = one_key_view k.send_request;
  send_response = one_key_view k.send_response;
  receive_request = one_key_view k.receive_request;
  receive_response = one_key_view k.receive_response;
  first = k.first;
}

abbrev pub context_view : Context → spec.Context
context_view x = record {
  node = x.node;
  id = x.id.value;
  peer_node = x.peer_node;
  peer = x.peer.value;
  plmn = x.plmn;
  suite = suite_view x.suite;
  policy = x.policy;
  own_ipx = x.own_ipx;
  peer_ipx = x.peer_ipx;
}

abbrev pub record_view : Record → spec.Record
record_view (Offered node id) = spec.Offered node id.value
record_view (Opened x) = spec.Opened (context_view x.value)
record_view (Keyed node id keys) = spec.Keyed node id.value (key_set_view keys.value)
record_view (Sent kind seq node id message mapping) = spec.Sent node id.value (kind_view kind) seq message.value mapping
record_view (Delivered kind node id message mapping) = spec.Delivered node id.value (kind_view kind) message.value mapping
record_view (Closed node id) = spec.Closed node id.value

-- the keys of a direction
abbrev pub key_pair_view : OneKey × OneKey → spec.OneKey × spec.OneKey
key_pair_view p = (one_key_view p.0, one_key_view p.1)
