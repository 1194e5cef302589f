-- A law of `bit_xor` that `lib.Bits` leaves out: added twice without carry, a number is cancelled.
use Rattle.std.proofs.Common.{◌≡◌, ℕ, zero, suc, ◌+◌, ◌*◌, ◌/◌, ◌%◌, ◌<◌, refl, ap, ◌∙◌, ap₂, div-add-mod', arith}
use lib.Arith.{bin_ind, digits_div, digits_mod}
use lib.Bits.{bit_xor, differ, xor_step, xor_self}

pub differ_lt : (x y : ℕ) → x < 2 → y < 2 → differ x y < 2
differ_lt zero y hx hy = hy
differ_lt (suc x) zero hx hy = hx
differ_lt (suc x) (suc y) hx hy = differ_lt x y (omega arith) (omega arith)

-- of one binary digit
differ_back : (x y : ℕ) → x < 2 → y < 2 → differ (differ x y) y ≡ x
differ_back zero zero hx hy = refl
differ_back zero (suc zero) hx hy = refl
differ_back zero (suc (suc y)) hx hy = omega arith
differ_back (suc zero) zero hx hy = refl
differ_back (suc (suc x)) y hx hy = omega arith
differ_back (suc zero) (suc zero) hx hy = refl
differ_back (suc zero) (suc (suc y)) hx hy = omega arith

pub xor_back : (a b : ℕ) → bit_xor (bit_xor a b) b ≡ a
xor_back =
    bin_ind (λ (n : ℕ). (b : ℕ) → bit_xor (bit_xor n b) b ≡ n) (λ b. xor_self b)
    (λ n ih b.
    let d : differ (n % 2) (b % 2) < 2 = differ_lt (n % 2) (b % 2) (omega arith) (omega arith) in
    let e : bit_xor n b ≡ bit_xor (n / 2) (b / 2) * 2 + differ (n % 2) (b % 2) = xor_step n b in
    let h : bit_xor n b / 2 ≡ bit_xor (n / 2) (b / 2) = ap (λ (x : ℕ). x / 2) e ∙ digits_div (bit_xor (n / 2) (b / 2)) d in
    let l : bit_xor n b % 2 ≡ differ (n % 2) (b % 2) = ap (λ (x : ℕ). x % 2) e ∙ digits_mod (bit_xor (n / 2) (b / 2)) d in
    xor_step (bit_xor n b) b
    ∙ ap₂ (λ (x y : ℕ). bit_xor x (b / 2) * 2 + differ y (b % 2)) h l
    ∙ ap₂ (λ (x y : ℕ). x * 2 + y) (ih (b / 2)) (differ_back (n % 2) (b % 2) (omega arith) (omega arith))
    ∙ div-add-mod' n 2)
