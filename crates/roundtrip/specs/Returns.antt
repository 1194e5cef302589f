-- What comes back of what was written: the same parts. A refusal of the writer passes outward, and the buffer is as it came.
use Rattle.std.specs.Prelude.{◌≡◌, List, ℕ, ◌+◌, length, Ok, Err}
use Rattle.frame.specs.Wrap as FramedWrap
use Rattle.tokens.specs.Answer.{Outcome, status_number, number_found, unwrapped_sequence, unwrapped_sealed, unwrapped_length}
use Rattle.tokens.specs.Limits.{placed, buffer_after}
use Rattle.tokens.specs.Message as Message
use Rattle.tokens.specs.Wrap as Wrap
use Rattle.tokens.specs.declared.answer.Refusal.{Refusal}
use Rattle.tokens.specs.declared.answer.Unwrapped.{Unwrapped}
use Rattle.tokens.specs.declared.context.Context.{Context}
use Rattle.tokens.specs.declared.strength.Strength.{Strength}

-- an encrypted message: its confounder and message, as `decrypt` hands them back; and the buffer as both calls leave it
pub record MessageReturns (key : List ℕ) (strength : Strength) (usage : ℕ) (written : Outcome (List ℕ)) (p : Message.Parts) (start : ℕ) (buf : List ℕ) (answer : Outcome ℕ) (after : List ℕ) : Type 0 where
  pub back : (octets : List ℕ) → written ≡ Ok octets → Message.HandedBack p start (status_number answer) (number_found answer) after
  pub buffer : (octets : List ℕ) → written ≡ Ok octets
      → after ≡ buffer_after Message.plain (start + 16) (placed start octets buf) (Message.decryption key strength usage (placed start octets buf) start (length octets))
  pub outward : (q : Refusal) → written ≡ Err q → (answer ≡ Err q) × (after ≡ buf)

-- a MIC token, framed or not: its sequence number, and the token in the buffer
pub record MicReturns (written : Outcome (List ℕ)) (n : ℕ) (start : ℕ) (buf : List ℕ) (answer : Outcome ℕ) (after : List ℕ) : Type 0 where
  pub back : (octets : List ℕ) → written ≡ Ok octets → answer ≡ Ok n
  pub buffer : (octets : List ℕ) → written ≡ Ok octets → after ≡ placed start octets buf
  pub outward : (q : Refusal) → written ≡ Err q → (answer ≡ Err q) × (after ≡ buf)

-- a Wrap token: its sequence number, sealed or not, confounder and message, as `wrap_open` hands them back; and the buffer as both
-- calls leave it
pub record WrapReturns (context : Context) (written : Outcome (List ℕ)) (p : Wrap.Parts) (start : ℕ) (buf : List ℕ) (answer : Outcome Unwrapped) (after : List ℕ) : Type 0 where
  pub back : (octets : List ℕ) → written ≡ Ok octets → Wrap.HandedBack p start (status_number answer) (unwrapped_sequence answer) (unwrapped_sealed answer) (unwrapped_length answer) after
  pub buffer : (octets : List ℕ) → written ≡ Ok octets
      → after ≡ buffer_after Wrap.plain (start + 24) (placed start octets buf) (Wrap.wrap_opening context (placed start octets buf) start (length octets))
  pub outward : (q : Refusal) → written ≡ Err q → (answer ≡ Err q) × (after ≡ buf)

-- a framed Wrap token, as `framed_wrap_open` hands it back
pub record FramedWrapReturns (context : Context) (written : Outcome (List ℕ)) (p : Wrap.Parts) (start : ℕ) (buf : List ℕ) (answer : Outcome Unwrapped) (after : List ℕ) : Type 0 where
  pub back : (octets : List ℕ) → written ≡ Ok octets
      → FramedWrap.HandedBack p start (length octets) (status_number answer) (unwrapped_sequence answer) (unwrapped_sealed answer) (unwrapped_length answer) after
  pub buffer : (octets : List ℕ) → written ≡ Ok octets
      → after ≡ FramedWrap.opened_buffer context (placed start octets buf) start (length octets)
  pub outward : (q : Refusal) → written ≡ Err q → (answer ≡ Err q) × (after ≡ buf)
