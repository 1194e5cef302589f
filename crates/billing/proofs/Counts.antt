-- What the clerk bills: no number twice, and what was presented of late; and the counts are right.
use Rattle.std.proofs.Common.{◌≡◌, ℕ, zero, suc, ◌+◌, ◌-◌, ◌%◌, ◌^◌, ◌<◌, ◌≤◌, min, Bool, true, false, cond, eqb, List, [], ◌∷◌, length, sym, refl, ap, ◌∙◌, ap₂, arith, eqb-true}
use native.Mathlib.Nat.{mod-one}
use lib.Count.{ones}
use borrow.Author.Tests.{eqb-false}
use Rattle.billing.specs.Clerk.{member, distances, next_expected, status_among, recorded, clerk_billed, unbilled, clerk_missing}
use Rattle.billing.specs.Session.{SequenceNumbers, Distinct, distinct_numbers}
use Rattle.billing.specs.Status.{outside_from, late_most, distance}
use Rattle.billing.specs.Window.{is_marked, missing}
use Rattle.billing.specs.declared.status.Status.{Status}
use Rattle.billing.specs.declared.window.Window.{Window}
use Rattle.billing.proofs.Cases.{Case, case_of, outside, in_order, gap, late, duplicate, old}
use Rattle.billing.proofs.Follows.{Holds, billed_numbers}
use Rattle.billing.proofs.Marks.{ones_more}
use Rattle.billing.proofs.Members.{member_first, member_rest, member_distance, not_member, next_more}

-- ---- What the clerk bills

-- A number is billed, being inside and not billed before; or it is not, and has been billed before unless it is outside or old.
data Recorded (first n : ℕ) (billed : List ℕ) : List ℕ → Type 0 where
  newly : distance first n < outside_from → member n billed ≡ false → Recorded first n billed (n ∷ billed)
  as_was : (distance first n < outside_from → next_expected (distances first billed) ≤ distance first n + late_most → member n billed ≡ true) → Recorded first n billed billed

recorded_is : (first n : ℕ) (billed : List ℕ) → Recorded first n billed (recorded (status_among first billed n) n billed)
recorded_is first n billed = at (status_among first billed n) (case_of (next_expected (distances first billed)) (member n billed) (distance first n))
  where
    at : (s : Status) → Case (next_expected (distances first billed)) (member n billed) (distance first n) s → Recorded first n billed (recorded s n billed)
    at s (outside h) = as_was (λ inside near. absurd (omega arith))
    at s (in_order h e) = newly h (not_member first n billed (omega arith))
    at s (gap h g) = newly h (not_member first n billed (omega arith))
    at s (late h g l e) = newly h e
    at s (duplicate h g l e) = as_was (λ inside near. e)
    at s (old h g) = as_was (λ inside near. absurd (omega arith))

-- no number twice
recorded_distinct : {first n : ℕ} {billed then : List ℕ} → Recorded first n billed then → Distinct billed → Distinct then
recorded_distinct (newly h new) distinct = (new, distinct)
recorded_distinct (as_was known) distinct = distinct

pub clerk_distinct : (first : ℕ) (history : List ℕ) → Distinct (clerk_billed first history)
unfolding clerk_billed
clerk_distinct first [] = tt
clerk_distinct first (n ∷ history) = recorded_distinct (recorded_is first n (clerk_billed first history)) (clerk_distinct first history)

-- no distance that is outside
recorded_inside : {first n : ℕ} {billed then : List ℕ} → Recorded first n billed then → next_expected (distances first billed) ≤ outside_from
    → next_expected (distances first then) ≤ outside_from
recorded_inside {first} {n} {billed} (newly h new) below = omega (arith, next_more (distance first n) (distances first billed))
recorded_inside (as_was known) below = below

billed_inside : (first : ℕ) (history : List ℕ) → next_expected (distances first (clerk_billed first history)) ≤ outside_from
unfolding clerk_billed next_expected
billed_inside first [] = omega arith
billed_inside first (n ∷ history) = recorded_inside (recorded_is first n (clerk_billed first history)) (billed_inside first history)

-- of the numbers that are neither outside nor old, those that were presented
module _ (first n : ℕ) (inside : distance first n < outside_from) where
  recorded_seen : (m : ℕ) (history : List ℕ) {billed then : List ℕ} → Recorded first m billed then
      → (next_expected (distances first billed) ≤ distance first n + late_most → member n history ≡ member n billed)
      → next_expected (distances first then) ≤ distance first n + late_most → member n (m ∷ history) ≡ member n then
  unfolding member
  recorded_seen m history {billed} (newly h new) before near =
      ap (λ (t : Bool). cond (eqb n m) true t) (before (omega (arith, next_more (distance first m) (distances first billed))))
  recorded_seen m history {billed} (as_was known) before near = at (eqb n m) refl
    where
      at : (t : Bool) → eqb n m ≡ t → cond t true (member n history) ≡ member n billed
      at true e =
          let same = eqb-true n m e in
          let far = ap (distance first) same in
          sym (ap (λ (i : ℕ). member i billed) same ∙ known (omega arith) (omega arith))
      at false e = before near

  pub clerk_seen : (history : List ℕ) → next_expected (distances first (clerk_billed first history)) ≤ distance first n + late_most
      → member n history ≡ member n (clerk_billed first history)
  unfolding clerk_billed
  clerk_seen [] near = refl
  clerk_seen (m ∷ history) near = recorded_seen m history (recorded_is first m (clerk_billed first history)) (clerk_seen history) near

-- ---- Distinct numbers below n are at most n

-- how many numbers below n are in a list
present : List ℕ → ℕ → ℕ
present ds zero = 0
present ds (suc n) = cond (member n ds) 1 0 + present ds n

present_none : (n : ℕ) → present [] n ≡ 0
unfolding present member
present_none zero = refl
present_none (suc n) = omega (arith, present_none n)

present_most : (ds : List ℕ) (n : ℕ) → present ds n ≤ n
unfolding present
present_most ds zero = omega arith
present_most ds (suc n) = at (member n ds) (present_most ds n)
  where
    at : (t : Bool) → present ds n ≤ n → cond t 1 0 + present ds n ≤ suc n
    at true h = omega arith
    at false h = omega arith

-- one number more, not below n
present_beyond : (d : ℕ) (ds : List ℕ) (n : ℕ) → n ≤ d → present (d ∷ ds) n ≡ present ds n
unfolding present
present_beyond d ds zero h = refl
present_beyond d ds (suc n) h = ap₂ (λ (t : Bool) (m : ℕ). cond t 1 0 + m) (member_rest n d ds (omega arith)) (present_beyond d ds n (omega arith))

-- one number more, below n
present_more : (d : ℕ) (ds : List ℕ) (n : ℕ) → member d ds ≡ false → d < n → present (d ∷ ds) n ≡ suc (present ds n)
unfolding present
present_more d ds zero new h = absurd (omega arith)
present_more d ds (suc n) new h = at (eqb n d) refl (present_more d ds n new)
  where
    at : (t : Bool) → eqb n d ≡ t → (d < n → present (d ∷ ds) n ≡ suc (present ds n))
        → cond (member n (d ∷ ds)) 1 0 + present (d ∷ ds) n ≡ suc (cond (member n ds) 1 0 + present ds n)
    at true e ih =
        let same = eqb-true n d e in
        ap₂ (λ (t : Bool) (m : ℕ). cond t 1 0 + m) (member_first n d ds same) (present_beyond d ds n (omega arith))
        ∙ sym (ap (λ (t : Bool). suc (cond t 1 0 + present ds n)) (ap (λ (m : ℕ). member m ds) same ∙ new) ∙ omega arith)
    at false e ih =
        let other = eqb-false n d e in
        let l : d < n = omega arith in
        ap₂ (λ (t : Bool) (m : ℕ). cond t 1 0 + m) (member_rest n d ds other) (ih l) ∙ omega arith

all_present : (ds : List ℕ) (n : ℕ) → Distinct ds → next_expected ds ≤ n → length ds ≡ present ds n
all_present [] n distinct h = sym (present_none n)
all_present (d ∷ ds) n distinct h =
    let e = next_more d ds in
    ap suc (all_present ds n distinct.1 (omega arith)) ∙ sym (present_more d ds n distinct.0 (omega arith))

-- ---- The count

distances_length : (first : ℕ) (ns : List ℕ) → length (distances first ns) ≡ length ns
distances_length first [] = refl
distances_length first (n ∷ ns) = ap suc (distances_length first ns)

distances_distinct : (first : ℕ) (ns : List ℕ) → SequenceNumbers ns → Distinct ns → Distinct (distances first ns)
distances_distinct first [] numbers distinct = tt
distances_distinct first (n ∷ ns) numbers distinct = (member_distance first n ns numbers.0 numbers.1 ∙ distinct.0, distances_distinct first ns numbers.1 distinct.1)

-- in a list of distinct numbers, all count
distinct_all : (ns : List ℕ) → Distinct ns → length ns ≡ distinct_numbers ns
unfolding distinct_numbers
distinct_all [] distinct = refl
distinct_all (n ∷ ns) distinct = let rest = distinct_all ns distinct.1 in rw distinct.0 (omega arith)

pub clerk_count : (first : ℕ) (history : List ℕ) → SequenceNumbers history
    → length (distances first (clerk_billed first history)) % 2 ^ 64 ≡ distinct_numbers (clerk_billed first history)
clerk_count first history numbers =
    let billed = clerk_billed first history in
    let ds = distances first billed in
    let all = all_present ds outside_from (distances_distinct first billed (billed_numbers first history numbers) (clerk_distinct first history)) (billed_inside first history) in
    let most = present_most ds outside_from in
    let exact : length ds % 2 ^ 64 ≡ length ds = omega arith in
    exact ∙ distances_length first billed ∙ distinct_all billed (clerk_distinct first history)

-- ---- What is missing

marks_missing : (ds : List ℕ) (next seen j : ℕ) → ((k : ℕ) → k < j → is_marked seen k ≡ member (next - 1 - k) ds) → ones (seen % 2 ^ j) + unbilled ds next j ≡ j
unfolding unbilled ones
marks_missing ds next seen zero marks = rw (mod-one seen)
marks_missing ds next seen (suc j) marks =
    let same : next - suc j ≡ next - 1 - j = omega arith in
    at (member (next - suc j) ds) (marks j (omega arith) ∙ ap (λ (i : ℕ). member i ds) (sym same)) (marks_missing ds next seen j (λ k h. marks k (omega arith)))
  where
    at : (t : Bool) → is_marked seen j ≡ t → ones (seen % 2 ^ j) + unbilled ds next j ≡ j
        → ones (seen % 2 ^ suc j) + (cond t 0 1 + unbilled ds next j) ≡ suc j
    at true e ih = let more : ones (seen % 2 ^ suc j) ≡ 1 + ones (seen % 2 ^ j) = ones_more seen j ∙ ap (λ (t : Bool). cond t 1 0 + ones (seen % 2 ^ j)) e in omega arith
    at false e ih = let more : ones (seen % 2 ^ suc j) ≡ 0 + ones (seen % 2 ^ j) = ones_more seen j ∙ ap (λ (t : Bool). cond t 1 0 + ones (seen % 2 ^ j)) e in omega arith

pub missing_clerks : (first : ℕ) (history : List ℕ) (w : Window) → Holds first (distances first (clerk_billed first history)) w → missing w ≡ clerk_missing first history
unfolding missing clerk_missing
missing_clerks first history w holds =
    let ds = distances first (clerk_billed first history) in
    let sum = marks_missing ds (next_expected ds) w.seen (min 64 (next_expected ds)) (λ k h. holds.marks k (omega arith) (omega arith)) in
    ap (λ (next : ℕ). min 64 next - ones (w.seen % 2 ^ min 64 next)) holds.expects ∙ omega arith
