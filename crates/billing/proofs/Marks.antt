-- The marks of a window: the binary digits of a number, one set and all moved up, and how many are set.
use Rattle.std.proofs.Common.{◌≡◌, ℕ, zero, suc, ◌+◌, ◌-◌, ◌*◌, ◌/◌, ◌%◌, ◌^◌, ◌<◌, ◌≤◌, max, Bool, true, false, cond, eqb, ltb, ◌⊎◌, sym, refl, ap, ◌∙◌, inl, inr, mod-lt, mul_assoc, one-mul, arith, pow_pos, pow-add, shr-shr, ltb-false, ltb-true, lt-ltb}
use native.Mathlib.Nat.{div-eq_of_lt}
use lib.Arith.{digits_mod}
use lib.Bits.{bit_or, or_step, or_shr, shifted_even}
use lib.Count.{ones, ones_cat}
use lib.Pow.{pow-lt, field, mod-mod-pow, shl-shr, mod-pow-add}
use Rattle.billing.specs.Window.{is_marked, shifted}

pub below_or_not : (a b : ℕ) → (a < b) ⊎ (b ≤ a)
below_or_not a b = at (ltb a b) refl
  where
    at : (t : Bool) → ltb a b ≡ t → (a < b) ⊎ (b ≤ a)
    at true e = inl (ltb-true a b e)
    at false e = inr (ltb-false a b e)

-- ---- Digits

digit : ℕ → ℕ → ℕ
digit n k = n / 2 ^ k % 2

digit_small : (n k : ℕ) → digit n k < 2
unfolding digit
digit_small n k = omega arith

or_lowest : (a b : ℕ) → bit_or a b % 2 ≡ max (a % 2) (b % 2)
or_lowest a b =
    let small : max (a % 2) (b % 2) < 2 = omega arith in
    ap (λ (n : ℕ). n % 2) (or_step a b) ∙ digits_mod (bit_or (a / 2) (b / 2)) small

digit_or : (a b k : ℕ) → digit (bit_or a b) k ≡ max (digit a k) (digit b k)
unfolding digit
digit_or a b k = ap (λ (n : ℕ). n % 2) (or_shr a b k) ∙ or_lowest (a / 2 ^ k) (b / 2 ^ k)

-- digits moved up by s places: 0 below s, and from s on those of the number
moved_below : (a s k : ℕ) → k < s → digit (a * 2 ^ s) k ≡ 0
unfolding digit
moved_below a s k h =
    let split : s ≡ suc (s - suc k) + k = omega arith in
    ap (λ (i : ℕ). a * 2 ^ i / 2 ^ k % 2) split ∙ ap (λ (n : ℕ). a * n / 2 ^ k % 2) (pow-add 2 (suc (s - suc k)) k)
    ∙ ap (λ (n : ℕ). n / 2 ^ k % 2) (sym (mul_assoc a (2 ^ suc (s - suc k)) (2 ^ k)))
    ∙ ap (λ (n : ℕ). n % 2) (shl-shr (a * 2 ^ suc (s - suc k)) k) ∙ shifted_even a (s - suc k)

moved_above : (a s k : ℕ) → s ≤ k → digit (a * 2 ^ s) k ≡ digit a (k - s)
unfolding digit
moved_above a s k h =
    let split : k ≡ s + (k - s) = omega arith in
    ap (λ (i : ℕ). a * 2 ^ s / 2 ^ i % 2) split ∙ ap (λ (n : ℕ). n % 2) (sym (shr-shr (a * 2 ^ s) s (k - s)))
    ∙ ap (λ (n : ℕ). n / 2 ^ (k - s) % 2) (shl-shr a s)

-- the digits below w are those of the number modulo 2 ^ w
kept_below : (n w k : ℕ) → k < w → digit (n % 2 ^ w) k ≡ digit n k
unfolding digit
kept_below n w k h =
    let split : w ≡ ((w - suc k) + 1) + k = omega arith in
    ap (λ (i : ℕ). n % 2 ^ i / 2 ^ k % 2) split ∙ ap (λ (m : ℕ). m % 2) (field n ((w - suc k) + 1) k) ∙ mod-mod-pow (n / 2 ^ k) (w - suc k) 1

-- 2 ^ j has the digit at j alone
power_at : (j : ℕ) → digit (2 ^ j) j ≡ 1
unfolding digit
power_at j = ap (λ (n : ℕ). n / 2 ^ j % 2) (sym (one-mul (2 ^ j))) ∙ ap (λ (n : ℕ). n % 2) (shl-shr 1 j)

one_above : (k : ℕ) → 0 < k → digit 1 k ≡ 0
unfolding digit
one_above k h = ap (λ (n : ℕ). n % 2) (div-eq_of_lt (pow-lt {i = 0} {j = k} h))

power_other : (j k : ℕ) → (k ≡ j → ⊥) → digit (2 ^ j) k ≡ 0
power_other j k other = ap (λ (n : ℕ). digit n k) (sym (one-mul (2 ^ j))) ∙ at (below_or_not k j)
  where
    at : (k < j) ⊎ (j ≤ k) → digit (1 * 2 ^ j) k ≡ 0
    at (inl l) = moved_below 1 j k l
    at (inr g) = moved_above 1 j k g ∙ one_above (k - j) (omega arith)

-- ---- Marks

mark_is : (n k : ℕ) {b : ℕ} → digit n k ≡ b → is_marked n k ≡ eqb b 1
unfolding is_marked digit
mark_is n k e = ap (λ (b : ℕ). eqb b 1) e

-- one mark set, and the others as they were
pub filled_at : (seen j : ℕ) → is_marked (bit_or seen (2 ^ j)) j ≡ true
filled_at seen j =
    mark_is (bit_or seen (2 ^ j)) j {b = 1}
    (let small = digit_small seen j in let set = power_at j in digit_or seen (2 ^ j) j ∙ omega arith)

pub filled_other : (seen j k : ℕ) → (k ≡ j → ⊥) → is_marked (bit_or seen (2 ^ j)) k ≡ is_marked seen k
filled_other seen j k other =
    mark_is (bit_or seen (2 ^ j)) k {b = digit seen k} (let clear = power_other j k other in digit_or seen (2 ^ j) k ∙ omega arith) ∙ sym (mark_is seen k refl)

-- all marks moved up: the lowest is set, those up to `by` are clear, and the others are those from before
pub shifted_lowest : (seen by : ℕ) → is_marked (shifted seen by) 0 ≡ true
unfolding shifted is_marked
shifted_lowest seen by = at (ltb by 64)
  where
    at : (t : Bool) → is_marked (cond t (bit_or (seen * 2 ^ by % 2 ^ 64) 1) 1) 0 ≡ true
    at true = filled_at (seen * 2 ^ by % 2 ^ 64) 0
    at false = refl

pub shifted_below : (seen by k : ℕ) → 0 < k → k < by → k < 64 → is_marked (shifted seen by) k ≡ false
unfolding shifted
shifted_below seen by k h g l = at (ltb by 64)
  where
    at : (t : Bool) → is_marked (cond t (bit_or (seen * 2 ^ by % 2 ^ 64) 1) 1) k ≡ false
    at true =
        filled_other (seen * 2 ^ by % 2 ^ 64) 0 k (omega arith)
        ∙ mark_is (seen * 2 ^ by % 2 ^ 64) k {b = 0} (kept_below (seen * 2 ^ by) 64 k l ∙ moved_below seen by k g)
    at false = mark_is 1 k {b = 0} (one_above k h)

pub shifted_above : (seen by k : ℕ) → 0 < by → by ≤ k → k < 64 → is_marked (shifted seen by) k ≡ is_marked seen (k - by)
unfolding shifted
shifted_above seen by k h g l =
    rw (lt-ltb by 64 (omega arith))
    (filled_other (seen * 2 ^ by % 2 ^ 64) 0 k (omega arith)
    ∙ mark_is (seen * 2 ^ by % 2 ^ 64) k {b = digit seen (k - by)} (kept_below (seen * 2 ^ by) 64 k l ∙ moved_above seen by k g)
    ∙ sym (mark_is seen (k - by) refl))

-- ---- How many marks are set

digit_ones : (b : ℕ) → b < 2 → ones b ≡ b
unfolding ones
digit_ones zero h = refl
digit_ones (suc zero) h = refl
digit_ones (suc (suc b)) h = omega arith

one_if_marked : (n k : ℕ) → cond (is_marked n k) 1 0 ≡ digit n k
unfolding is_marked digit
one_if_marked n k = at (n / 2 ^ k % 2) (mod-lt (n / 2 ^ k) (omega arith))
  where
    at : (b : ℕ) → b < 2 → cond (eqb b 1) 1 0 ≡ b
    at zero h = refl
    at (suc zero) h = refl
    at (suc (suc b)) h = omega arith

-- those below k + 1 are those below k and the one at k
pub ones_more : (n k : ℕ) → ones (n % 2 ^ suc k) ≡ cond (is_marked n k) 1 0 + ones (n % 2 ^ k)
unfolding digit
ones_more n k =
    let next : suc k ≡ 1 + k = omega arith in
    ap (λ (i : ℕ). ones (n % 2 ^ i)) next ∙ ap ones (mod-pow-add n 1 k)
    ∙ ones_cat k (n / 2 ^ k % 2) (n % 2 ^ k) (mod-lt n (pow_pos k))
    ∙ ap (λ (m : ℕ). m + ones (n % 2 ^ k)) (digit_ones (n / 2 ^ k % 2) (digit_small n k) ∙ sym (one_if_marked n k))
