-- The two forms of the auxiliary function F agree, bit by bit.
use Rattle.std.proofs.Common.{◌≡◌, ℕ, zero, suc, ◌+◌, ◌-◌, ◌*◌, ◌/◌, ◌%◌, ◌^◌, ◌<◌, min, max, sym, refl, ap, ◌∙◌, ap₂, pow-suc, arith, pow_pos}
use lib.Arith.{digits_mod}
use lib.Bits.{bit_and, bit_or, bit_xor, differ, and_step, or_step, xor_step, and_shr, xor_shr}
use Rattle.primitives.proofs.Xor.{differ_lt}

-- of one binary digit of each
digit : (x y z : ℕ) → x < 2 → y < 2 → z < 2 → differ z (min x (differ y z)) ≡ max (min x y) (min (1 - x) z)
digit zero zero zero hx hy hz = refl
digit zero zero (suc zero) hx hy hz = refl
digit zero zero (suc (suc z)) hx hy hz = absurd (omega arith)
digit zero (suc zero) zero hx hy hz = refl
digit zero (suc zero) (suc zero) hx hy hz = refl
digit zero (suc zero) (suc (suc z)) hx hy hz = absurd (omega arith)
digit zero (suc (suc y)) z hx hy hz = absurd (omega arith)
digit (suc zero) zero zero hx hy hz = refl
digit (suc zero) zero (suc zero) hx hy hz = refl
digit (suc zero) zero (suc (suc z)) hx hy hz = absurd (omega arith)
digit (suc zero) (suc zero) zero hx hy hz = refl
digit (suc zero) (suc zero) (suc zero) hx hy hz = refl
digit (suc zero) (suc zero) (suc (suc z)) hx hy hz = absurd (omega arith)
digit (suc zero) (suc (suc y)) z hx hy hz = absurd (omega arith)
digit (suc (suc x)) y z hx hy hz = absurd (omega arith)

-- the lowest digit of each operation
and_digit : (a b : ℕ) → bit_and a b % 2 ≡ min (a % 2) (b % 2)
and_digit a b = ap (λ (n : ℕ). n % 2) (and_step a b) ∙ digits_mod (bit_and (a / 2) (b / 2)) (omega arith)

xor_digit : (a b : ℕ) → bit_xor a b % 2 ≡ differ (a % 2) (b % 2)
xor_digit a b =
    ap (λ (n : ℕ). n % 2) (xor_step a b) ∙ digits_mod (bit_xor (a / 2) (b / 2)) (differ_lt (a % 2) (b % 2) (omega arith) (omega arith))

pub choose : (k x y z : ℕ) → x < 2 ^ k → y < 2 ^ k → z < 2 ^ k
    → bit_xor z (bit_and x (bit_xor y z)) ≡ bit_or (bit_and x y) (bit_and ((2 ^ k - 1) - x) z)
choose zero x y z hx hy hz =
    let ex : x ≡ 0 = omega arith in
    let ez : z ≡ 0 = omega arith in
    rw (ex, ez) refl
choose (suc k) x y z hx hy hz =
    let p : 2 ^ suc k ≡ 2 ^ k * 2 = pow-suc 2 k in
    let positive = pow_pos k in
    let c : ℕ = (2 ^ suc k - 1) - x in
    let c-half : c / 2 ≡ (2 ^ k - 1) - x / 2 = omega arith in
    let c-digit : c % 2 ≡ 1 - x % 2 = omega arith in
    let b-digit = xor_digit y z in
    let half = choose k (x / 2) (y / 2) (z / 2) (omega arith) (omega arith) (omega arith) in
    xor_step z (bit_and x (bit_xor y z))
    ∙ ap₂ (λ (h d : ℕ). bit_xor (z / 2) h * 2 + differ (z % 2) d)
    (and_shr x (bit_xor y z) 1 ∙ ap (bit_and (x / 2)) (xor_shr y z 1))
    (and_digit x (bit_xor y z) ∙ ap (min (x % 2)) b-digit)
    ∙ ap₂ (λ (h d : ℕ). h * 2 + d) half (digit (x % 2) (y % 2) (z % 2) (omega arith) (omega arith) (omega arith))
    ∙ sym
    (or_step (bit_and x y) (bit_and c z)
    ∙ ap₂ (λ (h d : ℕ). h * 2 + d)
    (ap₂ bit_or (and_shr x y 1) (and_shr c z 1 ∙ ap (λ (n : ℕ). bit_and n (z / 2)) c-half))
    (ap₂ max (and_digit x y) (and_digit c z ∙ ap (λ (n : ℕ). min n (z % 2)) c-digit)))
