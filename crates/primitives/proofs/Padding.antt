-- The padding: its length, its number of bits from a count modulo 2^64, and how the code lays it out.
use Rattle.std.proofs.Common.{◌≡◌, ℕ, zero, suc, ◌+◌, ◌-◌, ◌*◌, ◌/◌, ◌%◌, ◌^◌, ◌<◌, List, ◌∷◌, ◌++◌, length, drop, replicate, sym, refl, ap, ◌∙◌, ap₂, add-one, arith, mul_comm, w32, w64, length-append, take_all, drop-drop, take_at, drop_at}
use lib.Pow.{mod-mod-pow, field}
use lib.ListN.{length-replicate, replicate-append-replicate}
use lib.Seq.{paste}
use Rattle.std.specs.Int.{to_le_bytes}
use Rattle.std.proofs.Math.Nat.{div-div-eq-div-mul}
use Rattle.primitives.specs.Octets.{little_endian}
use Rattle.primitives.specs.Hash.{zeros, padding}

-- ---- Numbers as octets

-- the bits of n octets
bits_of : ℕ → ℕ
bits_of zero = 0
bits_of (suc n) = bits_of n + 8

-- only the low-order bits of a number count
low_order : (n x : ℕ) → little_endian n (x % 2 ^ bits_of n) ≡ little_endian n x
unfolding little_endian bits_of
low_order zero x = refl
low_order (suc n) x =
    ap₂ (λ (o : ℕ) (l : List ℕ). o ∷ l) (mod-mod-pow x (bits_of n) 8) (ap (little_endian n) (field x (bits_of n) 8) ∙ low_order n (x / 256))

little_endian_length : (n x : ℕ) → length (little_endian n x) ≡ n
unfolding little_endian
little_endian_length zero x = refl
little_endian_length (suc n) x = ap suc (little_endian_length n (x / 256))

-- the octets that std writes of a word, and of a number of 64 bits
pub le_bytes_word : (x : ℕ) → to_le_bytes w32 x ≡ little_endian 4 x
unfolding little_endian
le_bytes_word x = simp div-div-eq-div-mul

pub le_bytes_long : (x : ℕ) → to_le_bytes w64 x ≡ little_endian 8 x
unfolding little_endian
le_bytes_long x = simp div-div-eq-div-mul

-- the number of bits of n octets, as the code finds it
pub bits : (n : ℕ) → little_endian 8 (n * 8 % 2 ^ 64) ≡ little_endian 8 (8 * n)
unfolding bits_of
bits n = low_order 8 (n * 8) ∙ ap (little_endian 8) (mul_comm n 8)

-- ---- The padding

pub padding_length : (n : ℕ) → length (padding n) ≡ zeros n + 9
unfolding padding
padding_length n = simp (length-append, length-replicate, little_endian_length) (omega arith)

-- the padding is that of the count modulo 2^64
pub padding_mod : (n : ℕ) → padding (n % 2 ^ 64) ≡ padding n
unfolding padding
padding_mod n =
    ap₂ (λ (k : ℕ) (l : List ℕ). 0x80 ∷ replicate ((119 - k) % 64) 0 ++ l) (mod-mod-pow n 58 6)
    (sym (bits (n % 2 ^ 64)) ∙ ap (little_endian 8) (omega arith) ∙ bits n)

-- ---- As the code lays it out, in 72 octets

module _ (p q r b : List ℕ) (same : length q ≡ length b) where
  -- octets put in the place of others
  replaced : paste (p ++ (q ++ r)) (length p) b (length b) ≡ p ++ b ++ r
  replaced =
      let behind : drop (length p + length b) (p ++ (q ++ r)) ≡ r =
      sym (drop-drop (length b) (length p) (p ++ (q ++ r))) ∙ ap (drop (length b)) (drop_at p (q ++ r) (length p) refl) ∙ drop_at q r (length b) same in
      ap₂ (λ (x y : List ℕ). x ++ y) (ap₂ (λ (x y : List ℕ). x ++ y) (take_at p (q ++ r) (length p) refl) (take_all (length b) b (omega arith))) behind

-- 71 zeros in three parts: those of the padding, the place of the number of bits, and what is left
zeros_split : (z : ℕ) → z < 64 → replicate {A = ℕ} z 0 ++ (replicate 8 0 ++ replicate (63 - z) 0) ≡ replicate 71 0
zeros_split z h =
    let all : z + (8 + (63 - z)) ≡ 71 = omega arith in
    ap (λ (l : List ℕ). replicate z 0 ++ l) (replicate-append-replicate 8 (63 - z) 0)
    ∙ replicate-append-replicate z (8 + (63 - z)) 0
    ∙ ap (λ (k : ℕ). replicate k 0) all

pub laid_out : (n : ℕ) {i z : ℕ} {b : List ℕ} → i ≡ 8 → z ≡ zeros n → b ≡ to_le_bytes w64 (n * 8 % 2 ^ 64)
    → paste (0x80 ∷ replicate 71 0) (z + 1) b i ≡ padding n ++ replicate (63 - zeros n) 0
unfolding padding
laid_out n {i} {z} {b} ei ez eb =
    let p : List ℕ = 0x80 ∷ replicate (zeros n) 0 in
    let bit-octets : List ℕ = little_endian 8 (8 * n) in
    let short : zeros n < 64 = omega arith in
    let size : length bit-octets ≡ 8 = little_endian_length 8 (8 * n) in
    let front : zeros n + 1 ≡ length p = add-one (zeros n) ∙ ap suc (sym (length-replicate (zeros n) 0)) in
    ap₂ (λ (k m : ℕ). paste (0x80 ∷ replicate 71 0) (k + 1) b m) ez (ei ∙ sym size)
    ∙ ap₂ (λ (l : List ℕ) (k : ℕ). paste (0x80 ∷ l) k b (length bit-octets)) (sym (zeros_split (zeros n) short)) front
    ∙ ap (λ (l : List ℕ). paste (p ++ (replicate 8 0 ++ replicate (63 - zeros n) 0)) (length p) l (length bit-octets)) (eb ∙ le_bytes_long (n * 8 % 2 ^ 64) ∙ bits n)
    ∙ replaced p (replicate 8 0) (replicate (63 - zeros n) 0) bit-octets (sym size)
