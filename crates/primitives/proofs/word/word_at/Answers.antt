-- The chunk of four octets at j is the word's.
use Rattle.std.proofs.Common.{◌≡◌, ℕ, ◌+◌, ◌*◌, ◌/◌, ◌<◌, List, [], get_or, ap, ◌∙◌, arith}
use Rattle.std.specs.Simd.{first_chunks}
use Rattle.primitives.proofs.Words.{chunk_at}
use Rattle.primitives.proofs.word.word_at.Goals as goal

pub returns : goal.returns
returns c =
    let block = c.args.block.now in
    let j = c.args.j in
    let chunks = c.as_chunks.result.0.now in
    let front : chunks ≡ first_chunks 4 16 block = c.as_chunks.ensures.front ∙ ap (λ (n : ℕ). first_chunks 4 (n / 4) block) c.told-block in
    let octet : (r : ℕ) → r < 4 → get_or (get_or chunks j []) r 0 ≡ get_or block (4 * j + r) 0 =
    λ r lt. ap (λ (l : List (List ℕ)). get_or (get_or l j []) r 0) front ∙ chunk_at 16 j r block c.requires lt in
    let first : get_or (get_or chunks j []) 0 0 ≡ get_or block (4 * j) 0 = octet 0 (omega arith) ∙ ap (λ (n : ℕ). get_or block n 0) (omega arith) in
    cc (c.from_le_bytes.ensures, first, octet 1 (omega arith), octet 2 (omega arith), octet 3 (omega arith))
