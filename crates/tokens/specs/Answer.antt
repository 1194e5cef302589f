-- The refusals by their numbers, and what comes of a call: its result, or why it is refused.
use Rattle.std.specs.Prelude.{ℕ, Bool, true, false, ⊤, List, Result, Ok, Err, codes}
use Rattle.tokens.specs.declared.answer.Refusal.{Refusal}
use Rattle.tokens.specs.declared.answer.Refusal.TheVariants.{Length, Region, Usage, Header, Direction, Checksum, Pad, Frame}
use Rattle.tokens.specs.declared.answer.Unwrapped.{Unwrapped}

-- the number of a refusal
abbrev pub number : Refusal → ℕ
number Length = 1
number Region = 2
number Usage = 3
number Header = 4
number Direction = 5
number Checksum = 6
number Pad = 7
number Frame = 9

-- the words of a refusal
abbrev pub words : Refusal → List ℕ
words Length = codes "a length is outside the limits"
words Region = codes "the region does not lie inside the buffer"
words Usage = codes "the usage is not 1 to 15"
words Header = codes "the first eight octets are not a header of this kind of token"
words Direction = codes "the direction octets are not those of the expected sender; a wrong key or strength shows so too"
words Checksum = codes "the checksum differs"
words Pad = codes "the last octet of the opened token is not 01"
words Frame = codes "not one whole frame"

-- what comes of a call: its result, or why it is refused
abbrev pub Outcome : Type 0 → Type 0
Outcome A = Result A Refusal

-- goes on where the test holds, and is refused otherwise. A chain of these gives the first refusal that applies
unfoldable pub require : {A : Type 0} → Bool → Refusal → Result A Refusal → Result A Refusal
require true r o = o
require false r o = Err r

-- goes on with what a step gives, and is refused where the step is
unfoldable pub and_then : {A B : Type 0} → Result A Refusal → (A → Result B Refusal) → Result B Refusal
and_then (Ok a) f = f a
and_then (Err r) f = Err r

-- ---- What a caller is told of an outcome

-- the number alone, 0 when done
abbrev pub status_number : {A : Type 0} → Result A Refusal → ℕ
status_number (Ok a) = 0
status_number (Err r) = number r

-- what a call answers of its result: the value that a function gives of it, as `Result::map` does
abbrev pub map_ok : {A B : Type 0} → (A → B) → Result A Refusal → Result B Refusal
map_ok f (Ok a) = Ok (f a)
map_ok f (Err r) = Err r

-- whether it is done
abbrev pub status_answer : {A : Type 0} → Result A Refusal → Result ⊤ Refusal
status_answer o = map_ok (λ a. tt) o

-- a number that is found, and 0 with a refusal
abbrev pub number_found : Result ℕ Refusal → ℕ
number_found (Ok n) = n
number_found (Err r) = 0

-- what a Wrap token holds: its sequence number, whether it is sealed, and the length of its message; zeros and false with a refusal
abbrev pub unwrapped_sequence : Result Unwrapped Refusal → ℕ
unwrapped_sequence (Ok u) = u.sequence
unwrapped_sequence (Err r) = 0

abbrev pub unwrapped_sealed : Result Unwrapped Refusal → Bool
unwrapped_sealed (Ok u) = u.sealed
unwrapped_sealed (Err r) = false

abbrev pub unwrapped_length : Result Unwrapped Refusal → ℕ
unwrapped_length (Ok u) = u.length
unwrapped_length (Err r) = 0

-- ---- Steps

-- what a step that makes one test answers
unfoldable pub tested : Bool → Refusal → Result ⊤ Refusal
tested true r = Ok tt
tested false r = Err r
