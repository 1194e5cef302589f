-- The lengths that the calls take, regions of a lent buffer, and what a call leaves of the buffer.
use Rattle.std.specs.Prelude.{ℕ, ◌+◌, Bool, ◌&&◌, List, ◌++◌, leb, length, take, drop, Ok, Err}
use Rattle.tokens.specs.Answer.{Outcome}

-- the most 16-bit units of a password
abbrev pub most_units : ℕ
most_units = 256

-- the most octets of a message
abbrev pub most_message : ℕ
most_message = 32768

-- a number lies from least to most
abbrev pub within : ℕ → ℕ → ℕ → Bool
within least most n = leb least n && leb n most

-- the region of n octets from start lies inside a buffer, the sum taken as a whole number
abbrev pub inside : ℕ → ℕ → List ℕ → Bool
inside start n buf = leb (start + n) (length buf)

-- the octets of a region
abbrev pub region : ℕ → ℕ → List ℕ → List ℕ
region start n buf = take n (drop start buf)

-- the buffer with these octets in it from start, and every other octet as it came
unfoldable pub placed : ℕ → List ℕ → List ℕ → List ℕ
placed start octets buf = take start buf ++ (octets ++ drop (start + length octets) buf)

-- the buffer after a call that places some octets of its result, and none with a refusal
abbrev pub buffer_after : {A : Type 0} → (A → List ℕ) → ℕ → List ℕ → Outcome A → List ℕ
buffer_after octets start buf (Ok a) = placed start (octets a) buf
buffer_after octets start buf (Err r) = buf
