-- A session through the C interface: four numbers that `rc4hmac_window_new` makes, and calls of `rc4hmac_window_bill` and of the four that
-- receive tokens (`rc4hmac_receive_wrap`, `_mic`, `_framed_wrap`, `_framed_mic`) with them, in any order.
use Rattle.std.specs.Prelude.{◌≡◌, List, [], ◌∷◌, ℕ}
use Rattle.tokens.specs.Answer.{Outcome}
use Rattle.billing.specs.Receive.{received}
use Rattle.billing.specs.Session.{window_after}
use Rattle.billing.specs.Window.{new_window}
use Rattle.rc4hmac.specs.Answers.{window_words, words_after}
use Rattle.rc4hmac.specs.Arguments.{window_of}

-- the four numbers after some calls, newest first: each had a sequence number, its own or that of a token that opened, or a token that
-- was refused
unfoldable pub session_words : ℕ → List (Outcome ℕ) → List ℕ
session_words first [] = window_words (new_window first)
session_words first (token ∷ tokens) =
    let words : List ℕ = session_words first tokens in
    words_after (received (window_of words) token) words

-- They hold the window of the session, the one that `BillsOnce` of `billing` is about: so `BillsOnce` is said of the calls. For every
-- first number below 2^32 and all calls (`keeps_window` of `proofs/Session.antt`).
pub record KeepsWindow (first : ℕ) (tokens : List (Outcome ℕ)) : Type 0 where
  pub words_are : session_words first tokens ≡ window_words (window_after first tokens)
  pub read_as : window_of (session_words first tokens) ≡ window_after first tokens
