-- What a crate above may cite: what holds of every session, and of one step from any window.
use Rattle.std.proofs.Common.{◌≡◌, ℕ, zero, suc, ◌<◌, ◌≤◌, false, List, [], ◌∷◌, map, reverse, get_or, sym, refl, ap, ◌∙◌, arith}
use mathlib.Core.List.{reverse_aux}
use Rattle.std.specs.Prelude.{Ok, Err}
use Rattle.tokens.specs.Answer.{Outcome}
use Rattle.tokens.specs.Token.{sequence_numbers}
use Rattle.billing.specs.Session.{presented, window_after, SequenceNumbers, distinct_numbers, BillsOnce}
use Rattle.billing.specs.Status.{outside_from, distance, is_billed}
use Rattle.billing.specs.Window.{is_marked, place_of, status_in, after, step}
use Rattle.billing.specs.declared.status.Status.{Status}
use Rattle.billing.specs.declared.status.Status.TheVariants.{InOrder, Gap, Late, Duplicate, Old, Outside}
use Rattle.billing.specs.declared.window.Window.{Window}
use Rattle.billing.proofs.Cases.{Case, case_of, outside, in_order, gap, late, duplicate, old}
use Rattle.billing.proofs.Counts as Counts
use Rattle.billing.proofs.Follows as Follows

-- ---- Every session

pub bills_once : (first : ℕ) (tokens : List (Outcome ℕ)) → SequenceNumbers (presented tokens) → BillsOnce first tokens
unfolding window_after
bills_once first tokens numbers =
    let history = presented tokens in
    let holds = Follows.window_holds first tokens numbers in
    let same = Follows.billed_clerks first tokens numbers in
    record {
      status_clerks = Follows.status_clerks first tokens numbers;
      billed_clerks = same;
      none_twice = rw same (Counts.clerk_distinct first history);
      count_distinct = holds.counts ∙ Counts.clerk_count first history numbers ∙ ap distinct_numbers (sym same);
      missing_clerks = Counts.missing_clerks first history (window_after first tokens) holds;
      never_reached = λ refusal. refl;
      seen_billed = rw same (λ n inside. Counts.clerk_seen first n inside history);
    }

-- ---- One step from any window

-- a number that is not billed leaves the window as it was
pub unbilled_leaves : (w : Window) (n : ℕ) → is_billed (step w n).status ≡ false → (step w n).window ≡ w
unfolding step
unbilled_leaves w n = at (status_in w (distance w.first n))
  where
    at : (s : Status) → is_billed s ≡ false → after s w (distance w.first n) ≡ w
    at InOrder e = cc
    at Gap e = cc
    at Late e = cc
    at Duplicate e = refl
    at Old e = refl
    at Outside e = refl

-- the first number stays, and no distance past the first that is outside becomes the next expected one
pub step_fits : (w : Window) (n : ℕ) → w.next ≤ outside_from → ((step w n).window.first ≡ w.first) × ((step w n).window.next ≤ outside_from)
unfolding step
step_fits w n most = at (status_in w d) (case_of w.next (is_marked w.seen (place_of w d)) d)
  where
    d : ℕ
    d = distance w.first n

    at : (s : Status) → Case w.next (is_marked w.seen (place_of w d)) d s → ((after s w d).first ≡ w.first) × ((after s w d).next ≤ outside_from)
    at s (outside h) = (refl, most)
    at s (in_order h e) = (refl, omega arith)
    at s (gap h g) = (refl, omega arith)
    at s (late h g l e) = (refl, most)
    at s (duplicate h g l e) = (refl, most)
    at s (old h g) = (refl, most)

-- so in every session
pub after_fits : (first : ℕ) (tokens : List (Outcome ℕ)) → ((window_after first tokens).first ≡ first) × ((window_after first tokens).next ≤ outside_from)
unfolding window_after
after_fits first [] = (refl, omega arith)
after_fits first (Ok n ∷ tokens) =
    let before = after_fits first tokens in
    let fits = step_fits (window_after first tokens) n before.1 in (fits.0 ∙ before.0, fits.1)
after_fits first (Err refusal ∷ tokens) = after_fits first tokens

-- ---- A session of numbers

-- tokens that all opened presented their numbers
pub presented_numbers : (ns : List ℕ) → presented (map Ok ns) ≡ ns
unfolding presented
presented_numbers [] = refl
presented_numbers (n ∷ ns) = ap (◌∷◌ n) (presented_numbers ns)

-- numbers in the order in which they come make a history
history_numbers : (ns history : List ℕ) → ((i : ℕ) → get_or ns i 0 < sequence_numbers) → SequenceNumbers history → SequenceNumbers (reverse_aux ns history)
history_numbers [] history fits before = before
history_numbers (n ∷ ns) history fits before = history_numbers ns (n ∷ history) (λ i. fits (suc i)) (fits zero, before)

pub reversed_numbers : (ns : List ℕ) → ((i : ℕ) → get_or ns i 0 < sequence_numbers) → SequenceNumbers (reverse ns)
reversed_numbers ns fits = history_numbers ns [] fits tt
