-- The calls on whole slices, within the limits: what each answers, and what it leaves of a lent text.
use Rattle.std.specs.Prelude.{◌≡◌, ℕ, List, length, ⊤, Result}
use Rattle.primitives.specs.Limits.{most_octets, most_hmac_key, most_hmac_text, least_rc4_key, most_rc4_key, length_status, first_refusal, given, answer}
use Rattle.primitives.specs.Hash.{digest}
use Rattle.primitives.specs.Hmac.{hmac}
use Rattle.primitives.specs.Rc4 as Rc4
use Rattle.primitives.specs.declared.hash.Algorithm.{Algorithm}
use Rattle.primitives.specs.declared.limits.LengthError.{LengthError}

-- the digest of the data
abbrev pub digested : Algorithm → List ℕ → Result (List ℕ) LengthError
digested g octets = answer (length_status 0 most_octets (length octets)) (digest g octets)

-- the HMAC-MD5 of the text under the key
abbrev pub authenticated : List ℕ → List ℕ → Result (List ℕ) LengthError
authenticated key text =
    answer (first_refusal (length_status 0 most_hmac_key (length key)) (length_status 0 most_hmac_text (length text))) (hmac key text)

-- whether the key and the data are taken by RC4
abbrev pub rc4_status : List ℕ → List ℕ → Result ⊤ LengthError
rc4_status key text = first_refusal (length_status least_rc4_key most_rc4_key (length key)) (length_status 0 most_octets (length text))

-- what `rc4` promises: its answer, and the text that it leaves, which is the text as it came with a refusal
pub record Ciphered (key text : List ℕ) (answer : Result ⊤ LengthError) (left : List ℕ) : Type 0 where
  pub status : answer ≡ rc4_status key text
  pub text_left : left ≡ given (rc4_status key text) (Rc4.rc4 key text) text
