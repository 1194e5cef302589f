-- The digests, HMAC-MD5 and RC4 through the C interface: what a call of the primitives comes to, and what RC4 leaves behind its pointer.
use Rattle.std.specs.Prelude.{◌≡◌, List, ℕ, Result, Ok, Err}
use Rattle.primitives.specs.Limits.{given}
use Rattle.primitives.specs.Rc4.{rc4}
use Rattle.primitives.specs.Whole.{rc4_status}
use Rattle.primitives.specs.declared.limits.LengthError.{LengthError}
use Rattle.tokens.specs.Answer.{Outcome, status_number}
use Rattle.tokens.specs.declared.answer.Refusal.TheVariants as refusal

-- the result of a call, or the refusal of a length
abbrev pub outcome : {A : Type 0} → Result A LengthError → Outcome A
outcome (Ok a) = Ok a
outcome (Err e) = Err refusal.Length

-- a text run through RC4, or left as it came with a refusal
pub record TextOut (key text : List ℕ) (answer : ℕ) (out : List ℕ) : Type 0 where
  pub refusal : answer ≡ status_number (outcome (rc4_status key text))
  pub octets : out ≡ given (rc4_status key text) (rc4 key text) text
