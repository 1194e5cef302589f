-- The window follows the clerk: after any tokens it holds what the clerk has billed, and its next status is the clerk's.
use Rattle.std.proofs.Common.{◌≡◌, ℕ, zero, suc, ◌+◌, ◌-◌, ◌%◌, ◌^◌, ◌<◌, ◌≤◌, Bool, true, false, cond, eqb, ◌⊎◌, List, [], ◌∷◌, length, sym, refl, ap, ◌∙◌, ap₂, inl, inr, arith, eqb-true}
use lib.Bits.{bit_or}
use borrow.Author.Tests.{eqb-false}
use Rattle.std.specs.Prelude.{Ok, Err, Option, Some}
use Rattle.tokens.specs.Answer.{Outcome}
use Rattle.tokens.specs.Token.{sequence_numbers}
use Rattle.billing.specs.Clerk.{member, distances, next_expected, status_among, recorded, clerk_billed, clerk_status}
use Rattle.billing.specs.Receive as Receive
use Rattle.billing.specs.Session.{presented, window_after, status_after, billed_by, clerk_token_status, SequenceNumbers}
use Rattle.billing.specs.Status.{distance, status_at, is_billed}
use Rattle.billing.specs.Window.{new_window, is_marked, shifted, advanced, filled, place_of, status_in, after, step}
use Rattle.billing.specs.declared.status.Status.{Status}
use Rattle.billing.specs.declared.window.Window.{Window}
use Rattle.billing.proofs.Cases.{Case, case_of, status_same, outside, in_order, gap, late, duplicate, old}
use Rattle.billing.proofs.Marks.{below_or_not, filled_at, filled_other, shifted_lowest, shifted_below, shifted_above}
use Rattle.billing.proofs.Members.{member_first, member_rest, member_above, member_distance, next_more}

-- the marks in use are those of the billed distances
abbrev Marked : ℕ → List ℕ → Type 0
Marked seen ds = (k : ℕ) → k < 64 → k < next_expected ds → is_marked seen k ≡ member (next_expected ds - 1 - k) ds

-- what a window holds of the distances billed
pub record Holds (first : ℕ) (ds : List ℕ) (w : Window) : Type 0 where
  pub begins : w.first ≡ first
  pub expects : w.next ≡ next_expected ds
  pub marks : Marked w.seen ds
  pub counts : w.billed ≡ length ds % 2 ^ 64

new_holds : (first : ℕ) → Holds first [] (new_window first)
unfolding next_expected
new_holds first = record { begins = refl; expects = refl; marks = λ k h g. absurd (omega arith); counts = refl }

-- ---- After the next expected distance, or a higher one

advanced_marks : (d n seen : ℕ) (ds : List ℕ) → n ≡ next_expected ds → n ≤ d → Marked seen ds
    → (i : ℕ) → i < 64 → i < d + 1 → is_marked (shifted seen (d - n + 1)) i ≡ member (d - i) (d ∷ ds)
advanced_marks d n seen ds en h marks zero l g = shifted_lowest seen (d - n + 1) ∙ sym (member_first (d - 0) d ds (omega arith))
advanced_marks d n seen ds en h marks (suc i) l g = at (below_or_not (suc i) (d - n + 1)) ∙ sym (member_rest (d - suc i) d ds (omega arith))
  where
    at : (suc i < d - n + 1) ⊎ (d - n + 1 ≤ suc i) → is_marked (shifted seen (d - n + 1)) (suc i) ≡ member (d - suc i) ds
    at (inl new) = shifted_below seen (d - n + 1) (suc i) (omega arith) new l ∙ sym (member_above (d - suc i) ds (omega arith))
    at (inr from-before) =
        let same : next_expected ds - 1 - (suc i - (d - n + 1)) ≡ d - suc i = omega arith in
        shifted_above seen (d - n + 1) (suc i) (omega arith) from-before l ∙ marks (suc i - (d - n + 1)) (omega arith) (omega arith) ∙ ap (λ (x : ℕ). member x ds) same

advanced_holds : (first d : ℕ) (ds : List ℕ) (w : Window) → next_expected ds ≤ d → Holds first ds w → Holds first (d ∷ ds) (advanced w d)
advanced_holds first d ds w h holds =
    let highest : next_expected (d ∷ ds) ≡ d + 1 = omega (arith, next_more d ds) in
    record {
      begins = holds.begins;
      expects = sym highest;
      marks = λ i l g.
          let same : next_expected (d ∷ ds) - 1 - i ≡ d - i = omega arith in
          advanced_marks d w.next w.seen ds holds.expects (omega arith) holds.marks i l (omega arith) ∙ ap (λ (x : ℕ). member x (d ∷ ds)) (sym same);
      counts = omega (arith, holds.counts);
    }

-- ---- After a late number

filled_marks : (d n seen : ℕ) (ds : List ℕ) → n ≡ next_expected ds → d < n → Marked seen ds
    → (i : ℕ) → i < 64 → i < n → is_marked (bit_or seen (2 ^ (n - 1 - d))) i ≡ member (n - 1 - i) (d ∷ ds)
filled_marks d n seen ds en h marks i l g = at (eqb i (n - 1 - d)) refl
  where
    at : (t : Bool) → eqb i (n - 1 - d) ≡ t → is_marked (bit_or seen (2 ^ (n - 1 - d))) i ≡ member (n - 1 - i) (d ∷ ds)
    at true e =
        let same = eqb-true i (n - 1 - d) e in
        ap (is_marked (bit_or seen (2 ^ (n - 1 - d)))) same ∙ filled_at seen (n - 1 - d) ∙ sym (member_first (n - 1 - i) d ds (omega arith))
    at false e =
        let other = eqb-false i (n - 1 - d) e in
        let same : next_expected ds - 1 - i ≡ n - 1 - i = omega arith in
        filled_other seen (n - 1 - d) i other ∙ marks i l (omega arith) ∙ ap (λ (x : ℕ). member x ds) same
        ∙ sym (member_rest (n - 1 - i) d ds (λ z. other (omega arith)))

filled_holds : (first d : ℕ) (ds : List ℕ) (w : Window) → d < next_expected ds → Holds first ds w → Holds first (d ∷ ds) (filled w (place_of w d))
filled_holds first d ds w h holds =
    let highest : next_expected (d ∷ ds) ≡ next_expected ds = omega (arith, next_more d ds) in
    record {
      begins = holds.begins;
      expects = holds.expects ∙ sym highest;
      marks = λ i l g.
          let same : next_expected (d ∷ ds) - 1 - i ≡ w.next - 1 - i = omega (arith, holds.expects) in
          filled_marks d w.next w.seen ds holds.expects (omega (arith, holds.expects)) holds.marks i l (omega (arith, holds.expects))
          ∙ ap (λ (x : ℕ). member x (d ∷ ds)) (sym same);
      counts = omega (arith, holds.counts);
    }

-- ---- A step

module _ (first : ℕ) (billed : List ℕ) (w : Window) (n : ℕ) (fits : n < sequence_numbers) (numbers : SequenceNumbers billed) (holds : Holds first (distances first billed) w) where
  same_status : (step w n).status ≡ status_among first billed n
  unfolding step
  same_status =
      ap (λ (f : ℕ). status_in w (distance f n)) holds.begins
      ∙ ap (λ (next : ℕ). status_at next (is_marked w.seen (next - 1 - distance first n)) (distance first n)) holds.expects
      ∙ status_same (next_expected (distances first billed)) (distance first n)
      (is_marked w.seen (next_expected (distances first billed) - 1 - distance first n)) (member n billed)
      (λ h g l.
      let next = next_expected (distances first billed) in
      let d = distance first n in
      let same : next - 1 - (next - 1 - d) ≡ d = omega arith in
      holds.marks (next - 1 - d) (omega arith) (omega arith) ∙ ap (λ (i : ℕ). member i (distances first billed)) same ∙ member_distance first n billed fits numbers)

  after_holds : Holds first (distances first (recorded (status_among first billed n) n billed)) (after (status_among first billed n) w (distance first n))
  after_holds = at (status_among first billed n) (case_of (next_expected (distances first billed)) (member n billed) (distance first n))
    where
      at : (s : Status) → Case (next_expected (distances first billed)) (member n billed) (distance first n) s
          → Holds first (distances first (recorded s n billed)) (after s w (distance first n))
      at s (outside h) = holds
      at s (in_order h e) = advanced_holds first (distance first n) (distances first billed) w (omega arith) holds
      at s (gap h g) = advanced_holds first (distance first n) (distances first billed) w (omega arith) holds
      at s (late h g l e) = filled_holds first (distance first n) (distances first billed) w g holds
      at s (duplicate h g l e) = holds
      at s (old h g) = holds

  step_holds : Holds first (distances first (recorded (status_among first billed n) n billed)) (step w n).window
  unfolding step
  step_holds =
      let same : (step w n).window ≡ after (status_among first billed n) w (distance first n) =
      ap₂ (λ (s : Status) (f : ℕ). after s w (distance f n)) same_status holds.begins in
      rw same after_holds

-- ---- After any tokens

recorded_numbers : (b : Bool) (n : ℕ) (ns : List ℕ) → n < sequence_numbers → SequenceNumbers ns → SequenceNumbers (cond b (n ∷ ns) ns)
recorded_numbers true n ns fits numbers = (fits, numbers)
recorded_numbers false n ns fits numbers = numbers

pub billed_numbers : (first : ℕ) (history : List ℕ) → SequenceNumbers history → SequenceNumbers (clerk_billed first history)
unfolding clerk_billed
billed_numbers first [] numbers = tt
billed_numbers first (n ∷ history) numbers =
    recorded_numbers (is_billed (status_among first (clerk_billed first history) n)) n (clerk_billed first history) numbers.0 (billed_numbers first history numbers.1)

pub window_holds : (first : ℕ) (tokens : List (Outcome ℕ)) → SequenceNumbers (presented tokens)
    → Holds first (distances first (clerk_billed first (presented tokens))) (window_after first tokens)
unfolding clerk_billed window_after presented
window_holds first [] numbers = new_holds first
window_holds first (Ok n ∷ tokens) numbers =
    step_holds first (clerk_billed first (presented tokens)) (window_after first tokens) n numbers.0 (billed_numbers first (presented tokens) numbers.1)
    (window_holds first tokens numbers.1)
window_holds first (Err refusal ∷ tokens) numbers = window_holds first tokens numbers

pub status_clerks : (first : ℕ) (tokens : List (Outcome ℕ)) → SequenceNumbers (presented tokens) → (token : Outcome ℕ) → SequenceNumbers (presented (token ∷ []))
    → status_after first tokens token ≡ clerk_token_status first (presented tokens) token
unfolding clerk_status presented
status_clerks first tokens numbers (Ok n) fits =
    ap Some (same_status first (clerk_billed first (presented tokens)) (window_after first tokens) n fits.0 (billed_numbers first (presented tokens) numbers)
    (window_holds first tokens numbers))
status_clerks first tokens numbers (Err refusal) fits = refl

-- the numbers that the window billed are those that the clerk billed
pub billed_clerks : (first : ℕ) (tokens : List (Outcome ℕ)) → SequenceNumbers (presented tokens) → billed_by first tokens ≡ clerk_billed first (presented tokens)
unfolding billed_by clerk_billed clerk_status presented
billed_clerks first [] numbers = refl
billed_clerks first (Ok n ∷ tokens) numbers =
    ap₂ (λ (s : Option Status) (ns : List ℕ). cond (Receive.is_billed s) (n ∷ ns) ns)
    (status_clerks first tokens numbers.1 (Ok n) (numbers.0, tt)) (billed_clerks first tokens numbers.1)
billed_clerks first (Err refusal ∷ tokens) numbers = billed_clerks first tokens numbers
