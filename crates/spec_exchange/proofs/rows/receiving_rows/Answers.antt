use Rattle.std.proofs.Common.{◌≡◌, ℕ, ◌≤◌, List, [], ◌∷◌, length, codes, Some, Ok, Err, refl, ap, ◌∙◌}
use Rattle.std.proofs.lemmas.Bool.{le-leb}
use Rattle.spec_documents.specs.Tree.{Tree, null, words}
use Rattle.spec_documents.specs.Ids as ids
use Rattle.spec_messages.specs.Message.{Message, of_request, wanted}
use Rattle.spec_messages.specs.Policy.{path_var}
use Rattle.spec_messages.specs.Fault.{bad_member}
use Rattle.spec_messages.specs.Rebuilt.{not_text}
use Rattle.spec_messages.specs.Split.{cleared, fill_whole}
use Rattle.spec_records.specs.Records.{Record, record_limit}
use Rattle.spec_sealing.specs.Jwe.{Jwe}
use Rattle.spec_sealing.specs.Plaintext.{values_of}
use Rattle.spec_exchange.specs.Chain as chain
use Rattle.spec_exchange.specs.Chain.{unless, none_of, or_refused}
use Rattle.spec_exchange.specs.Rebuilding.{no_values, no_block, no_fill, read_block, filled_with}
use Rattle.spec_exchange.specs.ReceivingRefusals as receiving
use Rattle.spec_exchange.specs.ReceivingRefusals.{NoContext, NoReceiveKeys, Cipher, Integrity, Replay, Reconstruction, InClear, NoRoom, Form}
use Rattle.spec_exchange.specs.Stages.{keyed_context, opens, rebuilt, has_room}
use Rattle.spec_exchange.specs.Rows.{slices_policy, slices_request, keys_from, context_b, keyed_both, after_delivery, held_b, key_b, received_with, told_at_b, hidden_block, clear_block, OpensTo, AwaitsThird, always}
use Rattle.spec_documents.proofs.Chains.{bind_at, bind_err}
use Rattle.spec_sealing.specs.Entries.{entry_in}
use Rattle.spec_exchange.specs.Accepting.{stage, sealed_values, terms_of}
use Rattle.spec_exchange.specs.AcceptRefusals.{Receiving, OfEntry, Screened}
use Rattle.spec_exchange.specs.EntryRefusals.{BadForm}
use Rattle.spec_exchange.specs.EntryChecks.{Terms, Verifying, Progress, entry_applied, entries_applied, Signed}
use Rattle.spec_exchange.specs.Asked.{ItsHead}
use Rattle.spec_exchange.proofs.AcceptLemmas.{sealed_values-is}
use Rattle.spec_exchange.proofs.rows.receiving_rows.Goals as goal

-- ---- stages that pass

keyed : keyed_context (keyed_both 0) (codes "B") 177 ≡ Ok held_b
unfolding chain.◌>>=◌
keyed = refl

keyed_then : keyed_context after_delivery (codes "B") 177 ≡ Ok held_b
unfolding chain.◌>>=◌
keyed_then = refl

keyed_by : (rs : List Record) → AwaitsThird rs → keyed_context rs (codes "B") 177 ≡ Ok held_b
keyed_by rs h = bind_at _ _ context_b (ap (λ o. wanted o NoContext) h.context_is) ∙ bind_at _ _ (keys_from 0) (ap (λ o. wanted o NoReceiveKeys) h.keys_are)

opens_to : (w : Jwe) (plain : List ℕ) → OpensTo w plain → opens key_b w ≡ Ok plain
opens_to w plain h = bind_at _ _ tt (ap (none_of (λ z. Cipher z)) h.fits) ∙ ap (λ o. wanted o Integrity) h.opens_is

rebuilt_to : (block : Tree) (plain : List ℕ) (vs : List Tree) (holed content : Message) → values_of plain ≡ Some vs → read_block block (length vs) ≡ Ok holed → filled_with vs holed ≡ Ok content → rebuilt block plain ≡ Ok (record { holed = holed; content = content })
rebuilt_to block plain vs holed content listed read fill =
    bind_at _ _ vs (ap (λ o. wanted o (Reconstruction no_values)) listed)
    ∙ (bind_at _ _ holed (ap (or_refused (λ why. Reconstruction (no_block why))) read)
    ∙ bind_at _ _ content (ap (or_refused (λ why. Reconstruction (no_fill why))) fill))

abbrev imsi : List Tree
imsi = words (codes "imsi-001010000000001") ∷ []

hidden_read : read_block hidden_block 1 ≡ Ok (cleared slices_policy (Some 0) slices_request)
unfolding ids.id_text
hidden_read = refl

clear_read : read_block clear_block 0 ≡ Ok slices_request
unfolding ids.id_text
clear_read = refl

abbrev terms : Jwe → (plain : List ℕ) → Terms
terms w plain = terms_of context_b (received_with w hidden_block (null ∷ [])) (Some 0) (sealed_values plain)

-- before any entry
abbrev start : Progress
start = record { identities = []; block = hidden_block; holed = cleared slices_policy (Some 0) slices_request }

full : (rs : List Record) → record_limit ≤ length rs → has_room rs ≡ Err NoRoom
full rs le = ap (λ b. unless b NoRoom) (le-leb record_limit (length rs) le)

-- the values that are sealed fill the message
filled_by : (plain : List ℕ) → values_of plain ≡ Some imsi → fill_whole (sealed_values plain) (cleared slices_policy (Some 0) slices_request) ≡ slices_request
filled_by plain listed = ap (λ vs. fill_whole vs (cleared slices_policy (Some 0) slices_request)) (sealed_values-is plain imsi listed)

-- the message without a value in clear, before any entry
hidden_rebuilt : (plain : List ℕ) → values_of plain ≡ Some imsi → rebuilt hidden_block plain ≡ Ok (record { holed = cleared slices_policy (Some 0) slices_request; content = slices_request })
hidden_rebuilt plain listed = rebuilt_to hidden_block plain imsi (cleared slices_policy (Some 0) slices_request) slices_request listed hidden_read refl

-- ---- a stage that refuses

-- the values, the block or its fill
unrebuilt : (w : Jwe) (block : Tree) (plain : List ℕ) (e : receiving.Refusal) → OpensTo w plain → rebuilt block plain ≡ Err e → told_at_b (keyed_both 0) w block ≡ Err (Receiving e)
unrebuilt w block plain e h why = bind_at _ _ held_b (ap stage keyed) ∙ (bind_at _ _ plain (ap stage (opens_to w plain h)) ∙ (bind_at _ _ tt refl ∙ (bind_at _ _ ItsHead refl ∙ bind_err _ _ (Receiving e) (ap stage why))))

no_entry : entry_in null ≡ Err (codes "entry")
no_entry = bind_err _ _ (codes "entry") (bind_err _ _ (codes "entry") refl)

bad_entry : (t : Terms) (v : Verifying) (p : Progress) → entry_applied t v 1 p null ≡ Err (BadForm (codes "entry"))
bad_entry t v p = bind_err _ _ (BadForm (codes "entry")) (bind_err _ _ (BadForm (codes "entry")) (ap (or_refused (λ m. BadForm m)) no_entry))

bad_entries : (t : Terms) (v : Verifying) (block : Tree) (holed : Message) → entries_applied t v block holed (null ∷ []) ≡ Err (OfEntry 1 (BadForm (codes "entry")))
bad_entries t v block holed = bind_err _ _ (OfEntry 1 (BadForm (codes "entry"))) (ap (or_refused (OfEntry 1)) (bad_entry t v (record { identities = []; block = block; holed = holed })))

pub returns-clause-form : goal.returns-clause-form
unfolding chain.◌>>=◌
returns-clause-form c = refl

pub returns-clause-context : goal.returns-clause-context
returns-clause-context c w = bind_err _ _ (Receiving NoContext) (ap stage (bind_err _ _ NoContext refl))

pub returns-clause-no_keys : goal.returns-clause-no_keys
returns-clause-no_keys c w = bind_err _ _ (Receiving NoReceiveKeys) (ap stage (bind_at _ _ context_b refl ∙ bind_err _ _ NoReceiveKeys refl))

pub returns-clause-header : goal.returns-clause-header
returns-clause-header c w why e other = bind_at _ _ held_b (ap stage keyed) ∙ bind_err _ _ (Receiving (Cipher why)) (ap stage (bind_err _ _ (Cipher why) (ap (none_of (λ z. Cipher z)) e)))

pub returns-clause-tag : goal.returns-clause-tag
returns-clause-tag c w fits other = bind_at _ _ held_b (ap stage keyed_then) ∙ bind_err _ _ (Receiving Integrity) (ap stage (bind_at _ _ tt (ap (none_of (λ z. Cipher z)) fits) ∙ ap (λ o. wanted o Integrity) other))

pub returns-clause-again : goal.returns-clause-again
returns-clause-again c w plain h none = bind_at _ _ held_b (ap stage keyed_then) ∙ (bind_at _ _ plain (ap stage (opens_to w plain h)) ∙ bind_err _ _ (Receiving (Replay 4)) refl)

pub returns-clause-values : goal.returns-clause-values
returns-clause-values c w plain h none = unrebuilt w null plain (Reconstruction no_values) h (bind_err _ _ (Reconstruction no_values) (ap (λ o. wanted o (Reconstruction no_values)) none))

pub returns-clause-block : goal.returns-clause-block
returns-clause-block c w plain h listed =
    unrebuilt w null plain (Reconstruction (no_block (bad_member (codes "metaData")))) h
    (bind_at _ _ (null ∷ []) (ap (λ o. wanted o (Reconstruction no_values)) listed) ∙ bind_err _ _ (Reconstruction (no_block (bad_member (codes "metaData")))) refl)

pub returns-clause-fill : goal.returns-clause-fill
returns-clause-fill c w plain h listed =
    unrebuilt w hidden_block plain (Reconstruction (no_fill (not_text 0))) h
    (bind_at _ _ (null ∷ []) (ap (λ o. wanted o (Reconstruction no_values)) listed)
    ∙ (bind_at _ _ (cleared slices_policy (Some 0) slices_request) (ap (or_refused (λ why. Reconstruction (no_block why))) hidden_read)
    ∙ bind_err _ _ (Reconstruction (no_fill (not_text 0))) refl))

pub returns-clause-clear : goal.returns-clause-clear
returns-clause-clear c w plain o listed =
    bind_at _ _ held_b (ap stage keyed)
    ∙ (bind_at _ _ plain (ap stage (opens_to w plain o))
    ∙ (bind_at _ _ tt refl
    ∙ (bind_at _ _ ItsHead refl
    ∙ (bind_at _ _ _ (ap stage (rebuilt_to clear_block plain [] slices_request slices_request listed clear_read refl))
    ∙ bind_err _ _ (Receiving (InClear (path_var (codes "supi")))) refl))))

pub returns-clause-entry : goal.returns-clause-entry
returns-clause-entry c w plain o listed =
    bind_at _ _ held_b (ap stage keyed)
    ∙ (bind_at _ _ plain (ap stage (opens_to w plain o))
    ∙ (bind_at _ _ tt refl
    ∙ (bind_at _ _ ItsHead refl
    ∙ (bind_at _ _ _ (ap stage (hidden_rebuilt plain listed))
    ∙ (bind_at _ _ tt refl
    ∙ bind_err _ _ (OfEntry 1 (BadForm (codes "entry"))) (bad_entries (terms w plain) (always Signed) hidden_block (cleared slices_policy (Some 0) slices_request)))))))

pub returns-clause-screen : goal.returns-clause-screen
returns-clause-screen c rs w plain h le o listed =
    bind_at _ _ held_b (ap stage (keyed_by rs h))
    ∙ (bind_at _ _ plain (ap stage (opens_to w plain o))
    ∙ (bind_at _ _ tt (ap (λ z. stage (none_of (λ n. Replay n) z)) h.first)
    ∙ (bind_at _ _ ItsHead refl
    ∙ (bind_at _ _ _ (ap stage (hidden_rebuilt plain listed))
    ∙ (bind_at _ _ tt refl
    ∙ (bind_at _ _ start refl
    ∙ bind_err _ _ Screened refl))))))

pub returns-clause-room : goal.returns-clause-room
returns-clause-room c rs w plain h le o listed =
    bind_at _ _ held_b (ap stage (keyed_by rs h))
    ∙ (bind_at _ _ plain (ap stage (opens_to w plain o))
    ∙ (bind_at _ _ tt (ap (λ z. stage (none_of (λ n. Replay n) z)) h.first)
    ∙ (bind_at _ _ ItsHead refl
    ∙ (bind_at _ _ _ (ap stage (hidden_rebuilt plain listed))
    ∙ (bind_at _ _ tt refl
    ∙ (bind_at _ _ start refl
    ∙ (bind_at _ _ tt refl
    ∙ bind_err _ _ (Receiving NoRoom) (ap stage (full rs le)))))))))

pub returns-clause-delivered : goal.returns-clause-delivered
returns-clause-delivered c w plain o listed =
    bind_at _ _ held_b (ap stage keyed)
    ∙ (bind_at _ _ plain (ap stage (opens_to w plain o))
    ∙ (bind_at _ _ tt refl
    ∙ (bind_at _ _ ItsHead refl
    ∙ (bind_at _ _ _ (ap stage (hidden_rebuilt plain listed))
    ∙ (bind_at _ _ tt refl
    ∙ (bind_at _ _ start refl
    ∙ (bind_at _ _ tt refl
    ∙ (bind_at _ _ tt refl
    ∙ ap (λ m. Ok (record { content = m; node = codes "B"; id = 177; kind = of_request; message = 3; mapping = Some 0 })) (filled_by plain listed)))))))))
