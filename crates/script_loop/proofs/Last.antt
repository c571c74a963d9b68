-- The last line, which no newline ends.
use Rattle.std.proofs.Common.{◌≡◌, ◌<◌, ℕ, List, [], ◌∷◌, length, sym, subst, arith}
use Rattle.std.specs.Prelude.{Option}
use Rattle.std.specs.Io.KnownBytes.{Appends}
use Rattle.spec_documents.specs.Lines.{lines_of, Gives, LineOutput, Outputs}
use Rattle.script_loop.specs.Progress.{IsPlain}
use Rattle.script_loop.proofs.Cuts.{lines_of_last}
use Rattle.script_loop.proofs.Runs.{Outputs-one}

pub last_line : (line : List ℕ) → 0 < length line → IsPlain line → lines_of line ≡ line ∷ []
last_line [] some plain = absurd (omega arith)
last_line (byte ∷ line) some plain = lines_of_last byte line plain

pub last_output : {M : Type 0} (gives : Gives M) (old : M) (number : ℕ) (line : List ℕ) (new : M) (before after : Option (List ℕ)) → 0 < length line → IsPlain line
    → (out : List ℕ) × LineOutput gives old number line out new × Appends before after out
    → (out : List ℕ) × Outputs gives old number (lines_of line) out new × Appends before after out
last_output gives old number line new before after some plain h =
    (h.0, subst (λ (ls : List (List ℕ)). Outputs gives old number ls h.0 new) (sym (last_line line some plain)) (Outputs-one gives old number line h.0 new h.1), h.2)
