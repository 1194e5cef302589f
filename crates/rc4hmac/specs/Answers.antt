-- The answers of the C interface: the number that a call answers, and what it leaves behind each pointer, zeros with a refusal.
use Rattle.std.specs.Prelude.{◌≡◌, Bool, true, false, cond, List, [], ◌∷◌, ℕ}
use Rattle.std.specs.Result.{result_unwrap_or}
use Rattle.billing.specs.Receive.{number, is_billed}
use Rattle.billing.specs.declared.receive.Received.{Received}
use Rattle.billing.specs.declared.window.Window.{Window}
use Rattle.tokens.specs.Answer.{Outcome, status_number, unwrapped_sequence, unwrapped_sealed, unwrapped_length}
use Rattle.tokens.specs.declared.answer.Unwrapped.{Unwrapped}

-- yes is 1, and no is 0
abbrev pub flag_number : Bool → ℕ
flag_number true = 1
flag_number false = 0

-- a value handed out: the number of the refusal, 0 when done, and the value, or another with a refusal
pub record ValueOut {A : Type 0} (value : Outcome A) (otherwise : A) (answer : ℕ) (out : A) : Type 0 where
  pub refusal : answer ≡ status_number value
  pub value_is : out ≡ result_unwrap_or value otherwise

-- what a Wrap token holds
pub record UnwrappedOut (unwrapped : Outcome Unwrapped) (answer sequence sealed length : ℕ) : Type 0 where
  pub refusal : answer ≡ status_number unwrapped
  pub sequence_is : sequence ≡ unwrapped_sequence unwrapped
  pub sealed_is : sealed ≡ flag_number (unwrapped_sealed unwrapped)
  pub length_is : length ≡ unwrapped_length unwrapped

-- a window as four numbers
abbrev pub window_words : Window → List ℕ
window_words w = w.first ∷ w.next ∷ w.seen ∷ w.billed ∷ []

-- the four numbers after a call: those of the window if a number was billed, and else as they came
abbrev pub words_after : Received → List ℕ → List ℕ
words_after received words = cond (is_billed received.status) (window_words received.window) words

-- what came of a number: the number of its status, 0 where there is none, and the window
pub record ReceivedOut (received : Received) (words after : List ℕ) (status : ℕ) : Type 0 where
  pub status_is : status ≡ number received.status
  pub window_is : after ≡ words_after received words
