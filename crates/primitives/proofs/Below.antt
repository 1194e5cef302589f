-- A rule at every number below a bound, by one test that is computed at each of them.
use Rattle.std.proofs.Common.{◌≡◌, ℕ, zero, suc, ◌<◌, Bool, true, false, cond, T, eqb, ltb, List, get_or, sym, subst, not-suc-le-zero, arith, eqb→eq, ltb→lt}
use native.Mathlib.Decide.{ℕ_discrete}

abbrev pub passes : (ℕ → Bool) → ℕ → Bool
passes test zero = true
passes test (suc n) = cond (test n) (passes test n) false

first : (a b : Bool) → T (cond a b false) → T a
first true b t = tt
first false b t = absurd t

second : (a b : Bool) → T (cond a b false) → T b
second true b t = t
second false b t = absurd t

-- a test that passes at each number below n passes at k
pub below : (test : ℕ → Bool) (n : ℕ) → T (passes test n) → (k : ℕ) → k < n → T (test k)
below test zero t k h = absurd (not-suc-le-zero h)
below test (suc n) t k h = either (ℕ_discrete k n) (λ d. below test n (second (test n) (passes test n) t) k (omega arith))
  where
    either : Dec (k ≡ n) → ((k ≡ n → ⊥) → T (test k)) → T (test k)
    either (yes e) f = subst (λ (m : ℕ). T (test m)) (sym e) (first (test n) (passes test n) t)
    either (no d) f = f d

-- a list that has at each place below n what a rule gives
pub entries : (rule : ℕ → ℕ) (list : List ℕ) (n : ℕ) → T (passes (λ k. eqb (get_or list k 0) (rule k)) n) → (k : ℕ) → k < n → get_or list k 0 ≡ rule k
entries rule list n t k h = eqb→eq (get_or list k 0) (rule k) (below (λ k. eqb (get_or list k 0) (rule k)) n t k h)

-- a list whose entries below n are below a bound
pub bounded : (bound : ℕ) (list : List ℕ) (n : ℕ) → T (passes (λ k. ltb (get_or list k 0) bound) n) → (k : ℕ) → k < n → get_or list k 0 < bound
bounded bound list n t k h = ltb→lt (get_or list k 0) bound (below (λ k. ltb (get_or list k 0) bound) n t k h)

-- a list whose entries below n lie between two numbers
pub between : (low high : ℕ) (list : List ℕ) (n : ℕ) → T (passes (λ k. cond (ltb low (get_or list k 0)) (ltb (get_or list k 0) high) false) n) → (k : ℕ) → k < n → (low < get_or list k 0) × (get_or list k 0 < high)
between low high list n t k h =
    let x = get_or list k 0 in
    let both = below (λ k. cond (ltb low (get_or list k 0)) (ltb (get_or list k 0) high) false) n t k h in
    (ltb→lt low x (first (ltb low x) (ltb x high) both), ltb→lt x high (second (ltb low x) (ltb x high) both))
