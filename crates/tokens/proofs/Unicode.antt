-- Units turned to octets one after the other, in an array of zeros.
use mathlib.Core.Path.{◌≡◌, refl, sym, ap, ◌∙◌}
use mathlib.Core.List.{List, [], ◌∷◌, ◌++◌, append_assoc, append-nil}
use Prim.Native.Nat.{ℕ, zero, suc, ◌-◌, ◌*◌, ◌/◌, ◌%◌, ◌<◌, ◌≤◌}
use native.Mathlib.Omega.{arith}
use borrow.Rule.Slice.PartMut.{put_mid}
use lib.ListN.{length, get_or, take, replicate}
use lib.Seq.{take_at, drop_at, length-take-le}
use Rattle.primitives.specs.Octets.{little_endian}
use Rattle.primitives.proofs.Laws.{little_endian_two}
use Rattle.tokens.specs.Key.{unicode}

pub unicode_length : (units : List ℕ) → length (unicode units) ≡ 2 * length units
unfolding unicode
unicode_length [] = refl
unicode_length (u ∷ units) = rw (little_endian_two u) (omega (arith, unicode_length units))

-- one unit more
unicode_more : (units : List ℕ) (i : ℕ) → i < length units
    → unicode (take (suc i) units) ≡ unicode (take i units) ++ little_endian 2 (get_or units i 0)
unfolding unicode
unicode_more [] i h = absurd (omega arith)
unicode_more (u ∷ units) zero h = append-nil (little_endian 2 u)
unicode_more (u ∷ units) (suc i) h =
    ap (λ (l : List ℕ). little_endian 2 u ++ l) (unicode_more units i (omega arith))
    ∙ sym (append_assoc (little_endian 2 u) (unicode (take i units)) (little_endian 2 (get_or units i 0)))

two_zeros : (n m : ℕ) → n ≡ suc (suc m) → replicate {A = ℕ} n 0 ≡ 0 ∷ 0 ∷ replicate m 0
two_zeros n m e = ap (λ (k : ℕ). replicate {A = ℕ} k 0) e

-- the array after i units, and after one more
pub stored : (units : List ℕ) (i : ℕ) (octets : List ℕ) (k : ℕ) {new : List ℕ} → i < length units → length units ≤ 256
    → octets ≡ unicode (take i units) ++ replicate (512 - 2 * i) 0 → k ≡ 2 → new ≡ get_or units i 0 % 256 ∷ get_or units i 0 / 256 % 256 ∷ []
    → put_mid (2 * i) k octets new ≡ unicode (take (suc i) units) ++ replicate (512 - 2 * suc i) 0
stored units i octets k {new} h most e two en =
    let u = get_or units i 0 in
    let p = unicode (take i units) in
    let z = replicate {A = ℕ} (512 - 2 * suc i) 0 in
    let size : length p ≡ 2 * i = unicode_length (take i units) ∙ ap (λ (k : ℕ). 2 * k) (length-take-le i units (omega arith)) in
    let before : octets ≡ p ++ (0 ∷ 0 ∷ z) = e ∙ ap (λ (l : List ℕ). p ++ l) (two_zeros (512 - 2 * i) (512 - 2 * suc i) (omega arith)) in
    let after : unicode (take (suc i) units) ≡ p ++ (u % 256 ∷ u / 256 % 256 ∷ []) = unicode_more units i h ∙ ap (λ (l : List ℕ). p ++ l) (little_endian_two u) in
    rw (after, two, en, before, take_at p (0 ∷ 0 ∷ z) (2 * i) size, drop_at p (0 ∷ 0 ∷ z) (2 * i) size) (sym (append_assoc p (u % 256 ∷ u / 256 % 256 ∷ []) z))
