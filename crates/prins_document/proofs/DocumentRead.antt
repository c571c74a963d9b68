-- A document is read where its parts are.
use Rattle.std.proofs.Common.{◌≡◌, List, [], Ok, sym, ap, codes, ◌∙◌}
use Rattle.std.specs.Prelude.{option_and_then, unwrap_or}
use Rattle.spec_documents.specs.Tree.{Tree, null, truth, whole, words, items, members, Members, get_member, items_in}
use Rattle.spec_documents.proofs.Chains.{bind_at}
use Rattle.spec_messages.specs.Message.{wanted}
use Rattle.spec_messages.specs.Block.{members_of}
use Rattle.spec_sealing.specs.Header.{object_in}
use Rattle.spec_sealing.specs.Jwe.{Jwe, jwe_in}
use Rattle.spec_sealing.specs.Received.{Received, block_in, entries_in, parts_of, received}
use Rattle.prins_document.specs.View.{entries_of}

members_are : (t : Tree) (ms : Members) → wanted (object_in t) (codes "document") ≡ Ok ms → members_of t ≡ ms
members_are null ms e = cc
members_are (truth b) ms e = cc
members_are (whole z) ms e = cc
members_are (words s) ms e = cc
members_are (items ts) ms e = cc
members_are (members xs) ms e = cc

pub document_read : (t : Tree) (ms inner : Members) (w : Jwe) (j : Tree) (view : List Tree → Received)
    → wanted (object_in t) (codes "document") ≡ Ok ms → wanted (option_and_then object_in (get_member (codes "reformattedData") ms)) (codes "reformattedData") ≡ Ok inner → jwe_in inner ≡ Ok w → wanted (block_in w.aad) (codes "aad") ≡ Ok j
    → wanted (entries_in (get_member (codes "modificationsBlock") ms)) (codes "modificationsBlock") ≡ Ok (unwrap_or (items_in (get_member (codes "modificationsBlock") ms)) [])
    → ((entries : List Tree) → view entries ≡ parts_of w j entries) → received t ≡ Ok (view (unwrap_or (entries_of t) []))
document_read t ms inner w j view form inner_is jwe_is block_is entries_are whole_is =
    let read : received t ≡ Ok (parts_of w j (unwrap_or (items_in (get_member (codes "modificationsBlock") ms)) [])) =
    bind_at _ _ ms form ∙ (bind_at _ _ inner inner_is ∙ (bind_at _ _ w jwe_is ∙ (bind_at _ _ j block_is ∙ bind_at _ _ (unwrap_or (items_in (get_member (codes "modificationsBlock") ms)) []) entries_are))) in
    let same : parts_of w j (unwrap_or (items_in (get_member (codes "modificationsBlock") ms)) []) ≡ parts_of w j (unwrap_or (entries_of t) []) =
    ap (λ z. parts_of w j (unwrap_or (items_in (get_member (codes "modificationsBlock") z)) [])) (sym (members_are t ms form)) in
    read ∙ (ap (λ r. Ok r) same ∙ ap (λ r. Ok r) (sym (whole_is (unwrap_or (entries_of t) []))))
