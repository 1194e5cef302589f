-- The lengths that the calls take, in octets, and what a call answers that can refuse a length.
use Rattle.std.specs.Prelude.{ℕ, cond, ◌&&◌, nat_le, ⊤, Result, Ok, Err}
use Rattle.primitives.specs.declared.limits.LengthError.{LengthError}

-- the most octets to digest, or to run through RC4
abbrev pub most_octets : ℕ
most_octets = 65536

-- the most octets of an HMAC key, and of an HMAC text
abbrev pub most_hmac_key : ℕ
most_hmac_key = 65536

abbrev pub most_hmac_text : ℕ
most_hmac_text = 65472

-- an RC4 key has 1 to 256 octets
abbrev pub least_rc4_key : ℕ
least_rc4_key = 1

abbrev pub most_rc4_key : ℕ
most_rc4_key = 256

-- the one value of `LengthError`
abbrev pub length_error : LengthError
length_error = record {}

-- a length is taken from least to most, and refused otherwise
abbrev pub length_status : ℕ → ℕ → ℕ → Result ⊤ LengthError
length_status least most n = cond (nat_le least n && nat_le n most) (Ok tt) (Err length_error)

-- the first refusal of two
abbrev pub first_refusal : Result ⊤ LengthError → Result ⊤ LengthError → Result ⊤ LengthError
first_refusal (Ok taken) s = s
first_refusal (Err e) s = Err e

-- what goes with a status: a value when it is done, and another with a refusal
abbrev pub given : {A : Type 0} → Result ⊤ LengthError → A → A → A
given (Ok taken) value otherwise = value
given (Err e) value otherwise = otherwise

-- the value with a status that is done, or its refusal
abbrev pub answer : {A : Type 0} → Result ⊤ LengthError → A → Result A LengthError
answer (Ok taken) value = Ok value
answer (Err e) value = Err e
