-- The script of `exercise N` (this project's own): a SEPP that sends and one that receives get a context and its keys, and then N requests are sent, some of them changed on the way, and delivered, some of them twice.
use Rattle.std.specs.Prelude.{ℕ, zero, suc, ◌+◌, ◌*◌, ◌/◌, ◌%◌, ◌==◌, Bool, List, [], ◌∷◌, ◌++◌, flat_map, if◌then◌else◌}

pub data Sepp : Type 0 where
  Sender : Sepp
  Receiver : Sepp

pub data Line : Type 0 where
  AddNode : (sepp : Sepp) → Line
  AddContext : (sepp : Sepp) → Line
  AddKeys : (sepp : Sepp) → Line
  -- the request of a turn, with the number that is drawn for it
  Send : (turn drawn : ℕ) → Line
  -- the intermediary counts the number in the document of that number on the wire one up
  Pass : (wire drawn : ℕ) → Line
  -- the document of that number on the wire reaches the receiver
  Deliver : (wire : ℕ) → Line

abbrev pub opening : List Line
opening = AddNode Sender ∷ AddNode Receiver ∷ AddContext Sender ∷ AddContext Receiver ∷ AddKeys Sender ∷ AddKeys Receiver ∷ []

-- ---- turns

-- a turn: its number, from 0, the number that is drawn for it, and the number of its request on the wire
pub record Turn : Type 0 where
  pub number : ℕ
  pub drawn : ℕ
  pub wire : ℕ

abbrev pub is_passed : ℕ → Bool
is_passed drawn = drawn % 3 == 0

abbrev pub is_repeated : ℕ → Bool
is_repeated drawn = drawn % 5 == 0

-- what is passed on goes last on the wire: the number of the turn's latest document
abbrev pub latest : Turn → ℕ
latest t = if is_passed t.drawn then t.wire + 1 else t.wire

abbrev pub passing : Turn → List Line
passing t = if is_passed t.drawn then Pass t.wire t.drawn ∷ [] else []

abbrev pub repeating : Turn → List Line
repeating t = if is_repeated t.drawn then Deliver (latest t) ∷ [] else []

abbrev pub turn_lines : Turn → List Line
turn_lines t = Send t.number t.drawn ∷ (passing t ++ Deliver (latest t) ∷ repeating t)

-- ---- the numbers that are drawn, by a linear congruence: each turn has its x, and draws its upper bits

abbrev pub next_x : ℕ → ℕ
next_x x = (1103515245 * x + 12345) % 2147483648

abbrev pub drawn_from : ℕ → ℕ
drawn_from x = x / 65536

-- the turn of a number, with its x, after so many documents on the wire
abbrev pub turn_with : (number x wire : ℕ) → Turn
turn_with number x wire = record { number = number; drawn = drawn_from x; wire = wire + 1 }

-- so many turns, the first of this number, after the turn of this x and so many documents on the wire
abbrev pub turns_from : (count number x wire : ℕ) → List Turn
turns_from zero number x wire = []
turns_from (suc count) number x wire =
    turn_with number (next_x x) wire
    ∷ turns_from count (number + 1) (next_x x) (latest (turn_with number (next_x x) wire))

abbrev pub turns : ℕ → List Turn
turns n = turns_from n 0 1 0

abbrev pub script : ℕ → List Line
script n = opening ++ flat_map turn_lines (turns n)
