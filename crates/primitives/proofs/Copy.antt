-- What is left of a block of zeros, and a list that is changed from its front on.
use Rattle.std.proofs.Common.{◌≡◌, ℕ, zero, suc, ◌+◌, ◌-◌, ◌<◌, ◌≤◌, List, [], ◌∷◌, ◌++◌, map, length, get_or, take, drop, set, replicate, sym, refl, ap, ◌∙◌, le_of_suc-le-suc, not-suc-le-zero, arith, drop_at}
use lib.ListN.{replicate-append-replicate, length-replicate}

pub drop_zeros : (n m : ℕ) → n ≤ m → drop {A = ℕ} n (replicate m 0) ≡ replicate (m - n) 0
drop_zeros n m h =
    let all : n + (m - n) ≡ m = omega arith in
    ap (λ (k : ℕ). drop {A = ℕ} n (replicate k 0)) (sym all)
    ∙ ap (drop n) (sym (replicate-append-replicate n (m - n) 0))
    ∙ drop_at (replicate n 0) (replicate (m - n) 0) n (length-replicate n 0)

-- f of the first i elements of l, and then of the next one
pub map_more : (f : ℕ → ℕ) (l : List ℕ) (i : ℕ) → i < length l
    → set (map f (take i l) ++ drop i l) i (f (get_or (map f (take i l) ++ drop i l) i 0)) ≡ map f (take (suc i) l) ++ drop (suc i) l
map_more f [] i h = absurd (not-suc-le-zero h)
map_more f (x ∷ l) zero h = refl
map_more f (x ∷ l) (suc i) h = ap (λ (r : List ℕ). f x ∷ r) (map_more f l i (le_of_suc-le-suc h))
