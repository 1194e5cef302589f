-- The shift rule of MD4 and MD5: at each operation the pick by round and turn is the amount that is printed.
use Rattle.std.proofs.Common.{◌≡◌, ℕ, ◌-◌, ◌*◌, ◌/◌, ◌%◌, ◌^◌, ◌<◌, T, eqb, List, get_or, sym, ◌∙◌, ap₂, arith, w32}
use Rattle.std.specs.Int.{rotate_left as std_rotate_left}
use lib.Bits.{bit_or}
use Rattle.primitives.specs.Word.{rotate_left, pick, ShiftRule}
use Rattle.primitives.specs.Md4 as Md4
use Rattle.primitives.specs.Md5 as Md5
use Rattle.primitives.proofs.Below.{passes, entries, between}

-- one test, computed over the whole table, gives the rule at each operation
by_test : (count : ℕ) (table : List (List ℕ)) (printed : List ℕ) → T (passes (λ n. eqb (get_or printed n 0) (pick table n)) count) → ShiftRule count table printed
unfolding ShiftRule
by_test count table printed t n h = sym (entries (pick table) printed count t n h)

pub md4_shift_rule : ShiftRule 48 Md4.shifts_by_round Md4.shifts
unfolding Md4.shifts_by_round Md4.shifts
md4_shift_rule = by_test 48 Md4.shifts_by_round Md4.shifts tt

pub md5_shift_rule : ShiftRule 64 Md5.shifts_by_round Md5.shifts
unfolding Md5.shifts_by_round Md5.shifts
md5_shift_rule = by_test 64 Md5.shifts_by_round Md5.shifts tt

-- a word can be rotated by each of the printed amounts
pub md4_shift_range : (n : ℕ) → n < 48 → (0 < get_or Md4.shifts n 0) × (get_or Md4.shifts n 0 < 32)
unfolding Md4.shifts
md4_shift_range = between 0 32 Md4.shifts 48 tt

pub md5_shift_range : (n : ℕ) → n < 64 → (0 < get_or Md5.shifts n 0) × (get_or Md5.shifts n 0 < 32)
unfolding Md5.shifts
md5_shift_range = between 0 32 Md5.shifts 64 tt

-- ---- A word rotated by std, whose masks change nothing: the amount and what is left to 32 are below 32

rotated : (x : ℕ) {s : ℕ} → (0 < s) × (s < 32) → std_rotate_left w32 x s ≡ rotate_left x s
rotated x {s} range =
    let left : s % 32 ≡ s = omega arith in
    let right : (32 - s % 32) % 32 ≡ 32 - s = omega arith in
    ap₂ (λ (i j : ℕ). bit_or ((x * 2 ^ i) % 2 ^ 32) (x / 2 ^ j)) left right

-- rotated by the amount that is picked, a word is rotated by the one that is printed
module _ {count : ℕ} (table : List (List ℕ)) (printed : List ℕ) (rule : ShiftRule count table printed)
    (range : (n : ℕ) → n < count → (0 < get_or printed n 0) × (get_or printed n 0 < 32)) where
  pub turned : (n : ℕ) → n < count → {x y s : ℕ} → x ≡ y → s ≡ pick table n → std_rotate_left w32 x s ≡ rotate_left y (get_or printed n 0)
  unfolding ShiftRule
  turned n lt {x} {y} {s} e picked = ap₂ (std_rotate_left w32) e (picked ∙ rule n lt) ∙ rotated y (range n lt)
