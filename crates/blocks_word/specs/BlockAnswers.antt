-- The answers of `blocks` (this project's own): each line's integrity-protected block under the empty policy, as TS 33.501 clause 13.2.4.3.1 has it in outline.
use Rattle.std.specs.Prelude.{◌≡◌, ℕ, ◌+◌, List, [], ◌∷◌, ◌++◌, if◌then◌else◌, None, Result, Ok, Err, pos, codes, take}
use Rattle.spec_documents.specs.Tree.{Tree, whole, items, members, no_members, member, trees}
use Rattle.spec_documents.specs.Compact.{compact_text}
use Rattle.spec_documents.specs.Place.{◌>>=◌}
use Rattle.spec_messages.specs.Message.{Message}
use Rattle.spec_messages.specs.Block.{Meta}
use Rattle.spec_messages.specs.Plain.{empty_policy}
use Rattle.spec_messages.specs.Splitting.{Parts, splitting}
use Rattle.spec_messages.specs.Limits.{Limit}
use Rattle.spec_documents.specs.Lines.{lines_of, is_blank}
use Rattle.spec_script.specs.Refusals.{Refusal, Beyond}
use Rattle.spec_script.specs.LineTree.{line_tree}
use Rattle.spec_script.specs.Messages.{message_in}
use Rattle.spec_script.specs.Answers.{refusal_tree}

-- the block is of no context and no message, and names no intermediary
abbrev pub no_meta : Meta
no_meta = record { context = codes "0000000000000000"; message = codes "0000000000000000"; ipx = codes "null" }

abbrev pub or_limit_refusal : Result Parts Limit → Result Parts Refusal
or_limit_refusal (Ok parts) = Ok parts
or_limit_refusal (Err limit) = Err (Beyond limit)

-- the block and the values of a message under the empty policy
abbrev pub plain_parts : Message → Result Parts Refusal
plain_parts m = or_limit_refusal (splitting empty_policy None m no_meta)

-- the block and the values of a line's message, or the first check that fails
abbrev pub line_parts : List ℕ → Result Parts Refusal
line_parts line =
    line_tree line >>= λ t.
    message_in t >>= λ m.
    plain_parts m

-- the document that answers line n
abbrev pub parts_tree : ℕ → Parts → Tree
parts_tree n parts = members
    (member (codes "block") parts.0
    (member (codes "line") (whole (pos n))
    (member (codes "values") (items (trees parts.1)) no_members)))

abbrev pub answer_tree : ℕ → Result Parts Refusal → Tree
answer_tree n (Ok parts) = parts_tree n parts
answer_tree n (Err refusal) = refusal_tree n refusal

-- the text that answers line n
abbrev pub block_answer : ℕ → List ℕ → List ℕ
block_answer n line = compact_text (answer_tree n (line_parts line))

-- the answers to lines, the first of them line n, each with a newline; a blank line has none
abbrev pub answers_from : ℕ → List (List ℕ) → List ℕ
answers_from n [] = []
answers_from n (line ∷ lines) = (if is_blank line then [] else block_answer n line ++ 10 ∷ []) ++ answers_from (n + 1) lines

-- the output for a script
abbrev pub blocks_output : List ℕ → List ℕ
blocks_output script = answers_from 1 (lines_of script)

-- the output for its first lines
abbrev pub first_answers : ℕ → List ℕ → List ℕ
first_answers count script = answers_from 1 (take count (lines_of script))

-- what the machine of `blocks`, which has no state, gives for line n
abbrev pub gives_block : {M : Type 0} → M → ℕ → List ℕ → List ℕ → M → Type 0
gives_block old n line text new = (text ≡ block_answer n line) × (new ≡ old)

-- where memory is refused it gives no answer
abbrev pub gives_none : {M : Type 0} → M → ℕ → List ℕ → M → Type 0
gives_none old n line new = new ≡ old

abbrev pub IsSame : {M : Type 0} → M → M → Type 0
IsSame old new = new ≡ old
