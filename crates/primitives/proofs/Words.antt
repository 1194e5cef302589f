-- A word of a block by the chunk of four octets that it is.
use Rattle.std.proofs.Common.{◌≡◌, ℕ, zero, suc, ◌+◌, ◌*◌, ◌<◌, List, [], get_or, drop, ap, ◌∙◌, get_or-take, arith}
use Rattle.std.proofs.lemmas.List.{get_or-drop}
use Rattle.std.specs.Simd.{first_chunks}

pub chunk_at : (k j r : ℕ) (xs : List ℕ) → j < k → r < 4 → get_or (get_or (first_chunks 4 k xs) j []) r 0 ≡ get_or xs (4 * j + r) 0
chunk_at zero j r xs h lt = absurd (omega (arith, h))
chunk_at (suc k) zero r xs h lt = get_or-take 4 xs r 0 lt ∙ ap (λ (n : ℕ). get_or xs n 0) (omega arith)
chunk_at (suc k) (suc j) r xs h lt = chunk_at k j r (drop 4 xs) (omega (arith, h)) lt ∙ get_or-drop 4 xs (4 * j + r) 0 ∙ ap (λ (n : ℕ). get_or xs n 0) (omega arith)
