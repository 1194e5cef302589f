-- Sessions: tokens received one after the other, from a new window on; and what holds of every one. A token is what its reader gave, a
-- number or a refusal. To read it, it is enough that `received` is what `receive` gives, and `missing` what `Window::missing` gives.
-- Lists of tokens and of numbers are newest first.
use Rattle.std.specs.Prelude.{◌≡◌, ℕ, ◌+◌, ◌<◌, ◌≤◌, false, cond, List, [], ◌∷◌, Option, Some, None, Ok, Err}
use Rattle.tokens.specs.Answer.{Outcome}
use Rattle.tokens.specs.Token.{sequence_numbers}
use Rattle.tokens.specs.declared.answer.Refusal.{Refusal}
use Rattle.billing.specs.Clerk.{member, distances, next_expected, clerk_billed, clerk_status, clerk_missing}
use Rattle.billing.specs.Receive.{is_billed, received}
use Rattle.billing.specs.Status.{distance, outside_from, late_most}
use Rattle.billing.specs.Window.{new_window, missing}
use Rattle.billing.specs.declared.status.Status.{Status}
use Rattle.billing.specs.declared.window.Window.{Window}

-- ---- What a window does in a session

-- the numbers that tokens presented: of those that opened
unfoldable pub presented : List (Outcome ℕ) → List ℕ
presented [] = []
presented (Ok n ∷ tokens) = n ∷ presented tokens
presented (Err refusal ∷ tokens) = presented tokens

-- the window after tokens
unfoldable pub window_after : ℕ → List (Outcome ℕ) → Window
window_after first [] = new_window first
window_after first (token ∷ tokens) = (received (window_after first tokens) token).window

-- the status that it gives to the next token
abbrev pub status_after : ℕ → List (Outcome ℕ) → Outcome ℕ → Option Status
status_after first tokens token = (received (window_after first tokens) token).status

-- the numbers that it billed
unfoldable pub billed_by : ℕ → List (Outcome ℕ) → List ℕ
billed_by first [] = []
billed_by first (Ok n ∷ tokens) =
    let billed : List ℕ = billed_by first tokens in
    cond (is_billed (status_after first tokens (Ok n))) (n ∷ billed) billed
billed_by first (Err refusal ∷ tokens) = billed_by first tokens

-- ---- What holds of every session

-- the clerk's status of the next token, after a history of numbers presented: none of a refused one
abbrev pub clerk_token_status : ℕ → List ℕ → Outcome ℕ → Option Status
clerk_token_status first history (Ok n) = Some (clerk_status first history n)
clerk_token_status first history (Err refusal) = None

-- every number of a list is a sequence number, below 2^32
abbrev pub SequenceNumbers : List ℕ → Type 0
SequenceNumbers [] = Unit {0}
SequenceNumbers (n ∷ ns) = (n < sequence_numbers) × SequenceNumbers ns

-- no number is in a list twice
abbrev pub Distinct : List ℕ → Type 0
Distinct [] = Unit {0}
Distinct (n ∷ ns) = (member n ns ≡ false) × Distinct ns

-- how many distinct numbers are in a list
unfoldable pub distinct_numbers : List ℕ → ℕ
distinct_numbers [] = 0
distinct_numbers (n ∷ ns) = cond (member n ns) 0 1 + distinct_numbers ns

-- Each number is billed once. For every first number and all tokens whose numbers are sequence numbers (`bills_once` of
-- `proofs/Laws.antt`): whatever token comes next, its status is the clerk's; the numbers billed are the clerk's; no number is billed
-- twice; the billed count is the number of distinct numbers billed; as many are missing as the clerk counts; a refused token never
-- reaches the window; and a number that is neither outside nor more than 64 below the next expected distance has been billed exactly if
-- it has been presented. So a number that is not outside, and below that distance by at most 64, is late if not yet seen, and else a
-- duplicate.
--
-- A number is handed in when a token that presents it was opened (`Receive`). The number of a MIC token and of a clear Wrap token is
-- under no checksum (RFC 4757, section 7). So each number that is PRESENTED in a token that opened is billed once; that it is the
-- number that the sender gave the token is not said.
pub record BillsOnce (first : ℕ) (tokens : List (Outcome ℕ)) : Type 0 where
  pub status_clerks : (token : Outcome ℕ) → SequenceNumbers (presented (token ∷ []))
      → status_after first tokens token ≡ clerk_token_status first (presented tokens) token
  pub billed_clerks : billed_by first tokens ≡ clerk_billed first (presented tokens)
  pub none_twice : Distinct (billed_by first tokens)
  pub count_distinct : (window_after first tokens).billed ≡ distinct_numbers (billed_by first tokens)
  pub missing_clerks : missing (window_after first tokens) ≡ clerk_missing first (presented tokens)
  pub never_reached : (refusal : Refusal) → window_after first (Err refusal ∷ tokens) ≡ window_after first tokens
  pub seen_billed : (n : ℕ) → distance first n < outside_from
      → next_expected (distances first (billed_by first tokens)) ≤ distance first n + late_most
      → member n (presented tokens) ≡ member n (billed_by first tokens)
