-- A line's answer.
use Rattle.std.proofs.Common.{◌≡◌, ℕ, List, [], ◌∷◌, ◌++◌, false, refl, subst, arith, inl, length-append}
use Rattle.std.specs.declared.option.Option.{Option}
use Rattle.std.proofs.KnownBytes.{Appends-nil}
use Rattle.spec_documents.specs.Lines.{is_blank, Gives, LineOutput}
use Rattle.script_loop.specs.InPart.{GivesUp}
use Rattle.script_loop.specs.Progress.{WritesSome, StopsInLine}
use Rattle.script_loop.specs.declared.ending.Ending.{Ending}

pub line_output : {M : Type 0} (gives : Gives M) (old : M) (number : ℕ) (line answer : List ℕ) (new : M) → is_blank line ≡ false → gives old number line answer new → LineOutput gives old number line (answer ++ 10 ∷ []) new
line_output gives old number line answer new other given = rw other (answer, refl, given)

-- some of the answer was written, and not all
pub some_of_line : {M : Type 0} (gives : Gives M) (gives_up : GivesUp M) (old : M) (number : ℕ) (line answer : List ℕ) (new : M) (before after : Option (List ℕ)) (ending : Ending)
    → is_blank line ≡ false → gives old number line answer new → WritesSome (answer ++ 10 ∷ []) before after → StopsInLine gives gives_up old number line new before after ending
some_of_line gives gives_up old number line answer new before after ending other given w = record {
  front = w.front;
  stops = inl (record { rest = w.rest; some = w.some; output = subst (λ out. LineOutput gives old number line out new) w.parts (line_output gives old number line answer new other given) });
  written = w.written;
}

-- nothing of the answer was written
pub none_written : {M : Type 0} (gives : Gives M) (gives_up : GivesUp M) (old : M) (number : ℕ) (line answer : List ℕ) (new : M) (written : Option (List ℕ)) (ending : Ending)
    → is_blank line ≡ false → gives old number line answer new → StopsInLine gives gives_up old number line new written written ending
none_written gives gives_up old number line answer new written ending other given =
    some_of_line gives gives_up old number line answer new written written ending other given (record {
      front = [];
      rest = answer ++ 10 ∷ [];
      parts = refl;
      some = omega (arith, length-append answer (10 ∷ []));
      written = Appends-nil written;
    })
