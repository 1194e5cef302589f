-- The places of the words in a block that are printed.
use Rattle.std.proofs.Common.{◌≡◌, ℕ, zero, suc, ◌<◌, List, [], ◌∷◌, get_or, ap, arith}
use Rattle.primitives.specs.Md4.{addend, words}
use Rattle.primitives.proofs.Below.{bounded}

pub words_below : (n : ℕ) → n < 48 → get_or words n 0 < 16
unfolding words
words_below = bounded 16 words 48 tt

-- a table of the addends has that of each round
pub addend_at : {l : List ℕ} → l ≡ addend 0 ∷ addend 1 ∷ addend 2 ∷ [] → (round : ℕ) → round < 3 → get_or l round 0 ≡ addend round
addend_at e zero lt = ap (λ (l : List ℕ). get_or l 0 0) e
addend_at e (suc zero) lt = ap (λ (l : List ℕ). get_or l 1 0) e
addend_at e (suc (suc zero)) lt = ap (λ (l : List ℕ). get_or l 2 0) e
addend_at e (suc (suc (suc round))) lt = absurd (omega arith)
