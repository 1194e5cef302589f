-- Operations in a row: four of them, and four times four.
use Rattle.std.proofs.Common.{◌≡◌, ℕ, suc, ◌+◌, List, sym, ap, ◌∙◌, add_assoc, add-suc, add-one}
use Rattle.primitives.specs.Word.{operations}
use Rattle.primitives.specs.declared.hash.Words.{Words}

module _ (operation : ℕ → Words → List ℕ → Words) (o : Words) (block : List ℕ) where
  -- one more operation, after n + i of them
  one_more : (n i : ℕ) {v w : Words} → v ≡ operations operation (n + i) o block → w ≡ operation (n + i) v block → w ≡ operations operation (n + suc i) o block
  unfolding operations
  one_more n i e h = h ∙ ap (λ (v : Words). operation (n + i) v block) e ∙ ap (λ (k : ℕ). operations operation k o block) (sym (add-suc n i))

  pub four_more : (n : ℕ) {w a b c d : Words}
      → a ≡ operation n w block
      → b ≡ operation (n + 1) a block
      → c ≡ operation (n + 2) b block
      → d ≡ operation (n + 3) c block
      → w ≡ operations operation n o block
      → d ≡ operations operation (n + 4) o block
  unfolding operations
  four_more n p q r t e =
      let first = p ∙ ap (λ (v : Words). operation n v block) e ∙ ap (λ (k : ℕ). operations operation k o block) (sym (add-one n)) in
      one_more n 3 (one_more n 2 (one_more n 1 first q) r) t

  abbrev Step : ℕ → ℕ → Words → Words → Type 0
  Step n m v w = v ≡ operations operation n o block → w ≡ operations operation m o block

  pub round_more : (n : ℕ) {w a b c d : Words}
      → Step n (n + 4) w a
      → Step (n + 4) (n + 4 + 4) a b
      → Step (n + 8) (n + 8 + 4) b c
      → Step (n + 12) (n + 12 + 4) c d
      → Step n (n + 16) w d
  round_more n p q r t e =
      let on : (i : ℕ) → operations operation (n + i + 4) o block ≡ operations operation (n + (i + 4)) o block =
      λ i. ap (λ (k : ℕ). operations operation k o block) (add_assoc n i 4) in
      t (r (q (p e) ∙ on 4) ∙ on 8) ∙ on 12
