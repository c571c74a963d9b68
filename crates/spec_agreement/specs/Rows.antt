-- Events and runs of the worked examples: the nodes A and B, and a handshake of A with B.
use Rattle.std.specs.Prelude.{ℕ, List, [], ◌∷◌, map, pos, Ok, codes}
use Rattle.spec_documents.specs.Tree.{items, trees}
use Rattle.spec_records.specs.Records.{Suite, A128Gcm, A256Gcm, Record, Offered, Opened}
use Rattle.spec_handshake.specs.Documents.{Prins, Selects, document_tree}
use Rattle.spec_handshake.specs.Rows.{node_a, node_b, tree_with, selection_with, context_a, context_b}
use Rattle.spec_messages.specs.PolicyDocument.{empty_policy}
use Rattle.spec_script.specs.Events.{Event, Inject, StartWith, AnswerTo, FinishBy}
use Rattle.spec_script.specs.Offers.{HandedOffer}
use Rattle.spec_script.specs.Steps.{State, after}
use Rattle.spec_script.specs.Output.{Numbered}
use Rattle.spec_script.specs.Rows.{row_step, well}
use Rattle.spec_agreement.specs.ByHandshakes.{Said}

abbrev pub handed_offer : ℕ → (ipx : List ℕ) → HandedOffer
handed_offer id ipx = record { id = id; capabilities = Prins ∷ []; suites = A256Gcm ∷ A128Gcm ∷ []; policy = tree_with ((codes "apiIeMappingList", items (trees [])) ∷ []); ipx = ipx ∷ [] }

-- A starts a handshake; the document of that number comes to B, which answers it, and to A, which goes on
abbrev pub begins_at_a : Event
begins_at_a = StartWith node_a node_b (handed_offer 161 (codes "ipx-a"))

abbrev pub to_b : ℕ → Event
to_b k = AnswerTo node_b (pos k) (handed_offer 177 (codes "ipx-b"))

abbrev pub to_a : ℕ → Event
to_a k = FinishBy node_a (pos k)

abbrev pub whole_handshake : List Event
whole_handshake = begins_at_a ∷ to_b 1 ∷ to_a 2 ∷ to_b 3 ∷ to_a 4 ∷ []

-- in place of what B selected a document comes to A that somebody wrote, with another suite
abbrev pub forged_selection : List Event
forged_selection = begins_at_a ∷ to_b 1 ∷ to_a 2 ∷ to_b 3 ∷ Inject (document_tree (Selects (selection_with node_b A128Gcm empty_policy))) ∷ to_a 5 ∷ []

-- the answers to events, and the state after them, where nothing fails
abbrev pub answers_from : State → List Event → List Numbered
answers_from s [] = []
answers_from s (e ∷ es) = (0, (row_step s well e).answer) ∷ answers_from (after s (row_step s well e)) es

abbrev pub state_after : State → List Event → State
state_after s [] = s
state_after s (e ∷ es) = state_after (after s (row_step s well e)) es

abbrev pub all_said : List Event → List Said
all_said events = map Ok events

-- what A and B hold after both opened, A with this suite
abbrev pub opened_with : Suite → List Record
opened_with suite = Offered node_a 161 ∷ Opened context_b ∷ Opened (record context_a { suite = suite }) ∷ []
