-- The four numbers of a session through the C interface hold the session's window.
use mathlib.Core.Path.{◌≡◌, refl, sym, ap, ap₂, ◌∙◌}
use mathlib.Core.Bool.{Bool, true, false, cond}
use mathlib.Core.List.{List, [], ◌∷◌}
use Prim.Native.Nat.{ℕ, ◌<◌}
use native.Mathlib.Nat.{mod-eq_of_lt}
use native.Mathlib.Omega.{arith}
use Rattle.std.specs.Prelude.{Ok, Err}
use Rattle.tokens.specs.Answer.{Outcome}
use Rattle.billing.specs.Receive.{received}
use Rattle.billing.specs.Session.{window_after}
use Rattle.billing.specs.Status.{is_billed}
use Rattle.billing.specs.Window.{step}
use Rattle.billing.specs.declared.window.Window.{Window}
use Rattle.billing.proofs.Laws.{unbilled_leaves, after_fits}
use Rattle.tokens.specs.Token.{sequence_numbers}
use Rattle.rc4hmac.specs.Answers.{window_words, words_after}
use Rattle.rc4hmac.specs.Arguments.{window_of}
use Rattle.rc4hmac.specs.Session.{session_words, KeepsWindow}

-- a window that fits is read back from its four numbers
read_back : (w : Window) → w.first < sequence_numbers → w.next < sequence_numbers → window_of (window_words w) ≡ w
read_back w first_fits next_fits = ap₂ window (mod-eq_of_lt first_fits) (mod-eq_of_lt next_fits)
  where
    window : ℕ → ℕ → Window
    window first next = record { first = first; next = next; seen = w.seen; billed = w.billed }

-- the window is written whether its number was billed or, being as it was, not
written : (w : Window) (token : Outcome ℕ) → words_after (received w token) (window_words w) ≡ window_words (received w token).window
written w (Err refusal) = refl
written w (Ok n) = at (is_billed (step w n).status) refl
  where
    at : (b : Bool) → is_billed (step w n).status ≡ b → cond b (window_words (step w n).window) (window_words w) ≡ window_words (step w n).window
    at true e = refl
    at false e = ap window_words (sym (unbilled_leaves w n e))

module _ (first : ℕ) (fits : first < sequence_numbers) where
  session_reads : (tokens : List (Outcome ℕ)) → window_of (window_words (window_after first tokens)) ≡ window_after first tokens
  session_reads tokens =
      let small = after_fits first tokens in
      read_back (window_after first tokens) (omega (arith, small.0)) (omega (arith, small.1))

  words_are : (tokens : List (Outcome ℕ)) → session_words first tokens ≡ window_words (window_after first tokens)
  unfolding session_words window_after
  words_are [] = refl
  words_are (token ∷ tokens) =
      ap (λ (words : List ℕ). words_after (received (window_of words) token) words) (words_are tokens)
      ∙ ap (λ (w : Window). words_after (received w token) (window_words (window_after first tokens))) (session_reads tokens)
      ∙ written (window_after first tokens) token

  pub keeps_window : (tokens : List (Outcome ℕ)) → KeepsWindow first tokens
  keeps_window tokens = record { words_are = words_are tokens; read_as = ap window_of (words_are tokens) ∙ session_reads tokens }
