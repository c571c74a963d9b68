-- The same, whether the source tells what it has left or not.
use Rattle.std.proofs.Common.{◌≡◌, ◌≢◌, ◌+◌, ◌≤◌, ◌<◌, ℕ, List, [], ◌∷◌, ◌++◌, length, take, get_or, ap, sym, subst, ◌∙◌, arith, length-append, Some, None, IfSome}
use Rattle.std.specs.Prelude.{Option}
use Rattle.std.specs.Io.KnownBytes.{Keeps, Consumes, IsAtEnd}
use Rattle.std.proofs.KnownBytes.{Consumes-trans}
use Rattle.script_loop.specs.Limits.{script_limit}
use Rattle.spec_documents.specs.Lines.{Gives}
use Rattle.script_loop.specs.InPart.{GivesUp}
use Rattle.script_loop.specs.Progress.{Feeds, Reaches}
use Rattle.script_loop.specs.Stops.{Stops, Finishes, PassesLimit}
use Rattle.script_loop.specs.Ends.{Ends}
use Rattle.script_loop.specs.declared.ending.Ending.{Ending}
use Rattle.script_loop.specs.declared.ending.Ending.TheVariants.{ReadFault}
use Rattle.script_loop.proofs.Steps.{feeds_on}
use Rattle.script_loop.proofs.Stopping.{stops_on}
use Rattle.script_loop.proofs.Endings.{parts_of, read_fault, finish_ends, past_ends, feed_ends}

pub read_fault_told : {M : Type 0} (gives : Gives M) (gives_up : GivesUp M) (first left left' : Option (List ℕ)) (old new : M) (taken count : ℕ) (line : List ℕ) (before after : Option (List ℕ))
    → Reaches gives old new taken count line first left before after → Keeps left left' → taken ≤ script_limit
    → IfSome first (λ script. Ends gives gives_up script left' old new before after ReadFault)
read_fault_told gives gives_up None left left' old new taken count line before after r kept size = tt
read_fault_told gives gives_up (Some script) left left' old new taken count line before after r kept size = read_fault gives gives_up script left left' old new taken count line before after r kept size

pub finish_told : {M : Type 0} (gives : Gives M) (gives_up : GivesUp M) (first left left' : Option (List ℕ)) (old mid new : M) (taken count : ℕ) (line : List ℕ) (before between after : Option (List ℕ)) (ending : Ending) (n : ℕ) (buffer : List ℕ)
    → Reaches gives old mid taken count line first left before between → Consumes left left' (take n buffer) × (n ≡ 0 → 0 < length buffer → IsAtEnd left') → n ≡ 0 → 0 < length buffer → taken ≤ script_limit → Finishes gives gives_up mid count line new between after ending
    → IfSome first (λ script. Ends gives gives_up script left' old new before after ending)
finish_told gives gives_up None left left' old mid new taken count line before between after ending n buffer r read none some size finishes = tt
finish_told gives gives_up (Some script) left left' old mid new taken count line before between after ending n buffer r read none some size finishes =
    finish_ends gives gives_up script left left' old mid new taken count line before between after ending r (subst (λ (k : ℕ). Consumes left left' (take k buffer)) none read.0) (read.1 none some) size finishes

pub past_told : {M : Type 0} (gives : Gives M) (gives_up : GivesUp M) (first left left' : Option (List ℕ)) (old new : M) (taken count byte : ℕ) (line : List ℕ) (before after : Option (List ℕ)) (ending : Ending)
    → Reaches gives old new taken count line first left before after → taken ≡ script_limit → Consumes left left' (byte ∷ []) → PassesLimit count line byte ending
    → IfSome first (λ script. Ends gives gives_up script left' old new before after ending)
past_told gives gives_up None left left' old new taken count byte line before after ending r full one why = tt
past_told gives gives_up (Some script) left left' old new taken count byte line before after ending r full one why = past_ends gives gives_up script left left' old new taken count byte line before after ending r full one why

pub feed_told : {M : Type 0} (gives : Gives M) (gives_up : GivesUp M) (first left left' : Option (List ℕ)) (old mid new : M) (taken count : ℕ) (line chunk : List ℕ) (before between after : Option (List ℕ)) (ending : Ending)
    → Reaches gives old mid taken count line first left before between → Consumes left left' chunk → taken + length chunk ≤ script_limit → Stops gives gives_up mid count (line ++ chunk) new between after ending
    → IfSome first (λ script. Ends gives gives_up script left' old new before after ending)
feed_told gives gives_up None left left' old mid new taken count line chunk before between after ending r read size stops = tt
feed_told gives gives_up (Some script) left left' old mid new taken count line chunk before between after ending r read size stops =
    let p = parts_of script left' (r.bytes ++ chunk) (Consumes-trans (Some script) left left' r.bytes chunk r.consumed read) in
    feed_ends gives gives_up script (r.bytes ++ chunk) p.0 left' old new before after ending p.2 p.1 (omega (arith, length-append r.bytes chunk, r.size)) (stops_on gives gives_up old 0 r.bytes mid count line chunk new before between after ending r.fed stops)

-- the next bytes were fed
pub reaches_on : {M : Type 0} (gives : Gives M) (first left left' : Option (List ℕ)) (old mid new : M) (taken count taken' count' : ℕ) (line chunk line' : List ℕ) (before between after : Option (List ℕ))
    → Reaches gives old mid taken count line first left before between → Consumes left left' chunk → taken' ≡ taken + length chunk → Feeds gives mid count (line ++ chunk) new count' line' [] between after
    → Reaches gives old new taken' count' line' first left' before after
reaches_on gives first left left' old mid new taken count taken' count' line chunk line' before between after r read size fed = record {
  bytes = r.bytes ++ chunk;
  consumed = Consumes-trans first left left' r.bytes chunk r.consumed read;
  size = omega (arith, length-append r.bytes chunk, r.size, size);
  fed = feeds_on gives old 0 r.bytes mid count line chunk new count' line' [] before between after r.fed fed;
}

-- what was taken so far, and then these bytes
pub takes : {M : Type 0} (gives : Gives M) (first left left' : Option (List ℕ)) (old mid : M) (taken count limit : ℕ) (line chunk : List ℕ) (before between : Option (List ℕ))
    → Reaches gives old mid taken count line first left before between → Consumes left left' chunk → taken + length chunk ≤ limit
    → (bytes : List ℕ) × (length bytes ≤ limit) × Consumes first left' bytes
takes gives first left left' old mid taken count limit line chunk before between r read size =
    (r.bytes ++ chunk, omega (arith, length-append r.bytes chunk, r.size), Consumes-trans first left left' r.bytes chunk r.consumed read)

-- the first byte of a buffer
pub one_byte : (buffer : List ℕ) (n byte : ℕ) → n ≤ 1 → n ≢ 0 → 0 < length buffer → byte ≡ get_or buffer 0 byte → take n buffer ≡ byte ∷ []
one_byte [] n byte most not some is = absurd (omega arith)
one_byte (first ∷ rest) n byte most not some is =
    let one : n ≡ 1 = omega arith in
    ap (λ k. take k (first ∷ rest)) one ∙ ap (λ b. b ∷ []) (sym is)
