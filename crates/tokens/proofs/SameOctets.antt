-- Lists of octets compared: what the test tells, and a comparison that gathers the differences of all places.
use mathlib.Core.Path.{◌≡◌, refl, ap, ap₂, ◌∙◌}
use mathlib.Core.Bool.{Bool, true, false, ◌&&◌}
use mathlib.Core.List.{List, [], ◌∷◌}
use Prim.Native.Nat.{ℕ, zero, suc, ◌<◌}
use native.Mathlib.Omega.{arith}
use lib.Bits.{bit_or, bit_xor, and_le_l, and_le_r, or_add_and, xor_add_and, xor_self}
use lib.Dec.{eqb}
use lib.ListN.{length, get_or, take}
use borrow.Author.Tests.{eqb-true, eqb-false, eq-eqb, ne_eqb}
use Rattle.tokens.specs.Octets.{same}
use Rattle.tokens.proofs.Steps.{both}

pub same_true : (a b : List ℕ) → same a b ≡ true → a ≡ b
unfolding same
same_true [] [] e = refl
same_true [] (y ∷ b) e = cc
same_true (x ∷ a) [] e = cc
same_true (x ∷ a) (y ∷ b) e =
    let h = both (eqb x y) (same a b) e in
    ap₂ (λ (z : ℕ) (l : List ℕ). z ∷ l) (eqb-true x y h.0) (same_true a b h.1)

pub same_self : (a : List ℕ) → same a a ≡ true
unfolding same
same_self [] = refl
same_self (x ∷ a) = simp (eq-eqb x x refl, same_self a)

pub not_same : (a b : List ℕ) → (a ≡ b → ⊥) → same a b ≡ false
not_same a b ne = decided (same a b) refl
  where
    decided : (t : Bool) → same a b ≡ t → same a b ≡ false
    decided true e = absurd (ne (same_true a b e))
    decided false e = e

and_assoc : (p q r : Bool) → (p && (q && r)) ≡ ((p && q) && r)
and_assoc true q r = refl
and_assoc false q r = refl

-- one place more
pub same_more : (a b : List ℕ) (i : ℕ) → length a ≡ length b → i < length a
    → same (take (suc i) a) (take (suc i) b) ≡ (same (take i a) (take i b) && eqb (get_or a i 0) (get_or b i 0))
unfolding same
same_more [] b i e h = absurd (omega arith)
same_more (x ∷ a) [] i e h = absurd (omega arith)
same_more (x ∷ a) (y ∷ b) zero e h = last (eqb x y)
  where
    last : (p : Bool) → (p && true) ≡ p
    last true = refl
    last false = refl
same_more (x ∷ a) (y ∷ b) (suc i) e h =
    ap (λ (t : Bool). eqb x y && t) (same_more a b i (omega arith) (omega arith))
    ∙ and_assoc (eqb x y) (same (take i a) (take i b)) (eqb (get_or a i 0) (get_or b i 0))

-- nothing differs exactly where nothing did and the next two are the same
pub no_difference : (d x y : ℕ) → eqb (bit_or d (bit_xor x y)) 0 ≡ (eqb d 0 && eqb x y)
no_difference d x y = decided (eqb d 0) (eqb x y) refl refl
  where
    decided : (p q : Bool) → eqb d 0 ≡ p → eqb x y ≡ q → eqb (bit_or d (bit_xor x y)) 0 ≡ (eqb d 0 && eqb x y)
    decided true true ed ex = rw (eqb-true d 0 ed, eqb-true x y ex, xor_self y, eq-eqb y y refl)
    decided true false ed ex =
        let nx = eqb-false x y ex in
        rw (ed, ex)
        (ne_eqb (bit_or d (bit_xor x y)) 0
        (λ z. nx (omega (arith, or_add_and d (bit_xor x y), and_le_l d (bit_xor x y), and_le_r d (bit_xor x y), xor_add_and x y, and_le_l x y, and_le_r x y))))
    decided false q ed ex =
        let nd = eqb-false d 0 ed in
        rw ed (ne_eqb (bit_or d (bit_xor x y)) 0 (λ z. nd (omega (arith, or_add_and d (bit_xor x y), and_le_l d (bit_xor x y), and_le_r d (bit_xor x y)))))
