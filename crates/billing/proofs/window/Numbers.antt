-- What the window's code computes, over plain numbers.
use Rattle.std.proofs.Common.{◌≡◌, ℕ, ◌-◌, ◌*◌, ◌%◌, ◌^◌, ◌<◌, ◌≤◌, sym, ap, ◌∙◌, mod-lt, mod-eq_of_lt, one-mul, arith, lit<, pow_pos, shl_exact}
use lib.Bits.{bit_and, and_mask}
use lib.Count.{ones, ones-le}
use Rattle.billing.specs.Status.{distance}
use Rattle.billing.specs.Window.{is_marked, place_of, status_in, after, receipt, step, missing, in_use}
use Rattle.billing.specs.declared.status.Status.{Status}
use Rattle.billing.specs.declared.window.Window.{Window}
use Rattle.billing.proofs.Cases.{Case, status_of}

-- a status by its case, and the window after it, are the step
pub takes : (w : Window) (n : ℕ) {s : Status} {v : Window} → Case w.next (is_marked w.seen (place_of w (distance w.first n))) (distance w.first n) s
    → v ≡ after s w (distance w.first n) → receipt s v ≡ step w n
unfolding step
takes w n {s} case after_is =
    let d = distance w.first n in
    let told : s ≡ status_in w d = sym (status_of w.next (is_marked w.seen (place_of w d)) d case) in
    ap (receipt s) after_is ∙ ap (λ (t : Status). receipt t (after t w d)) told

-- 1 moved up by fewer than 64 places
pub one_moved : (k : ℕ) → k < 64 → 1 * 2 ^ k % 2 ^ 64 ≡ 2 ^ k
one_moved k h = shl_exact 1 k 64 (lit< tt) (omega arith) ∙ one-mul (2 ^ k)

-- ---- The marks in use, if they are fewer than 64

masked : (seen n : ℕ) → n < 64 → bit_and seen (1 * 2 ^ n % 2 ^ 64 - 1) ≡ seen % 2 ^ n
masked seen n h = ap (λ (m : ℕ). bit_and seen (m - 1)) (one_moved n h) ∙ and_mask seen n

pub few_set : (seen n : ℕ) → n < 64 → ones (bit_and seen (1 * 2 ^ n % 2 ^ 64 - 1)) ≤ n
few_set seen n h = rw (masked seen n h) (ones-le n (seen % 2 ^ n) (mod-lt seen (pow_pos n)))

pub few_missing : (w : Window) → w.next < 64 → w.next - ones (bit_and w.seen (1 * 2 ^ w.next % 2 ^ 64 - 1)) ≡ missing w
unfolding missing
few_missing w h =
    let all : w.next ≡ in_use w = omega arith in
    ap (λ (m : ℕ). w.next - ones m) (masked w.seen w.next h) ∙ ap (λ (n : ℕ). n - ones (w.seen % 2 ^ n)) all

-- ---- All 64 marks

pub many_missing : (w : Window) → 64 ≤ w.next → w.seen < 2 ^ 64 → 64 - ones w.seen ≡ missing w
unfolding missing
many_missing w h fits =
    let all : 64 ≡ in_use w = omega arith in
    ap (λ (m : ℕ). 64 - ones m) (sym (mod-eq_of_lt fits)) ∙ ap (λ (n : ℕ). n - ones (w.seen % 2 ^ n)) all
