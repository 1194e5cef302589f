-- A message in parts has the digest of the whole.
use Rattle.std.proofs.Common.{◌≡◌, ℕ, zero, suc, ◌+◌, ◌-◌, ◌*◌, ◌/◌, ◌%◌, ◌^◌, ◌≤◌, Bool, cond, List, [], ◌∷◌, ◌++◌, length, take, drop, sym, refl, ap, ◌∙◌, ap₂, append-nil, zero-add, arith, length-append, length-drop, take-append-drop, drop_of_length-le, length-take, take_all, eq-eqb}
use lib.Pow.{mod-mod-pow}
use lib.Seq.{take-append-le, drop-append-le, paste}
use Rattle.primitives.specs.Octets.{joined, little_endian}
use Rattle.primitives.specs.Hash.{initial, padding, padded, compress, after_blocks, output, digest, begun, absorb, absorb_each, finished}
use Rattle.primitives.specs.declared.hash.Algorithm.{Algorithm}
use Rattle.primitives.specs.declared.hash.Hash.{Hash}
use Rattle.primitives.proofs.Absorb.{Held, absorb_append, absorb_held, absorb_algorithm, absorb_count, absorb_fill}
use Rattle.primitives.proofs.Padding.{padding_length, padding_mod}

pub begun_held : (g : Algorithm) → Held (begun g)
begun_held g = record { count_below = omega arith; block_length_lem = refl }

-- the state after a first block
pub first_block : (g : Algorithm) (b : List ℕ) → length b ≡ 64
    → absorb (begun g) b ≡ record { algorithm = g; words = compress g initial b; block = b; count = 64 }
first_block g b size =
    let all : take 64 b ≡ b = take_all 64 b (omega arith) in
    ap (absorb (begun g)) (sym all)
    ∙ absorb_fill (begun g) b (begun_held g) 64 (omega arith) (omega arith)
    ∙ ap (λ (l : List ℕ). record { algorithm = g; words = compress g initial l; block = l; count = 64 }) (append-nil (take 64 b) ∙ all)

-- blocks that are whole are as they were when more comes
blocks_more : (g : Algorithm) (n : ℕ) (xs ys : List ℕ) → 64 * n ≤ length xs → after_blocks g n (xs ++ ys) ≡ after_blocks g n xs
unfolding after_blocks
blocks_more g zero xs ys h = refl
blocks_more g (suc n) xs ys h =
    let before : 64 * n ≤ length xs = omega arith in
    let here : 64 ≤ length (drop (64 * n) xs) = simp length-drop (omega arith) in
    ap₂ (compress g) (blocks_more g n xs ys before) (ap (take 64) (drop-append-le (64 * n) xs ys before) ∙ take-append-le 64 (drop (64 * n) xs) ys here)

module _ (g : Algorithm) (n : ℕ) (xs b : List ℕ) (whole : length xs ≡ 64 * n) (block : length b ≡ 64) where
  before : Hash
  before = absorb (begun g) xs

  held : Held before
  unfolding before
  held = absorb_held (begun g) xs (begun_held g)

  -- no octet waits in the block
  empty : before.count % 64 ≡ 0
  unfolding before
  empty =
      ap (λ (k : ℕ). k % 64) (absorb_count (begun g) xs (begun_held g) ∙ ap (λ (k : ℕ). (0 + k) % 2 ^ 64) whole)
      ∙ mod-mod-pow (0 + 64 * n) 58 6
      ∙ omega arith

  -- one whole block more
  block_more : (absorb (begun g) (xs ++ b)).words ≡ compress g (absorb (begun g) xs).words b
  unfolding before
  block_more =
      let room : before.count % 64 + 64 ≡ 64 = ap (λ (k : ℕ). k + 64) empty in
      let filled = absorb_fill before b held 64 (omega arith) (omega arith) in
      ap (λ (h : Hash). h.words) (absorb_append (begun g) xs b ∙ ap (absorb before) (sym (take_all 64 b (omega arith))) ∙ filled)
      ∙ ap (λ (t : Bool). cond t (compress before.algorithm before.words (paste before.block (before.count % 64) b 64)) before.words)
      (eq-eqb (before.count % 64 + 64) 64 room)
      ∙ ap₂ (λ (a : Algorithm) (l : List ℕ). compress a before.words l) (absorb_algorithm (begun g) xs)
      (ap (λ (k : ℕ). paste before.block k b 64) empty ∙ ap₂ (λ (l r : List ℕ). l ++ r) (take_all 64 b (omega arith)) (drop_of_length-le before.block {i = 0 + 64} (omega (arith, held.block_length_lem))) ∙ append-nil b)

-- the words after whole blocks are those of the blocks
absorb_blocks : (g : Algorithm) (n : ℕ) (octets : List ℕ) → length octets ≡ 64 * n → (absorb (begun g) octets).words ≡ after_blocks g n octets
unfolding after_blocks absorb
absorb_blocks g zero [] h = refl
absorb_blocks g zero (x ∷ octets) h = absurd (omega arith)
absorb_blocks g (suc n) octets h =
    let front = take (64 * n) octets in
    let last = drop (64 * n) octets in
    let whole : length front ≡ 64 * n = simp length-take (omega arith) in
    let block : length last ≡ 64 = simp length-drop (omega arith) in
    let joined : front ++ last ≡ octets = take-append-drop (64 * n) octets in
    ap (λ (l : List ℕ). (absorb (begun g) l).words) (sym joined)
    ∙ block_more g n front last whole block
    ∙ ap₂ (compress g) (absorb_blocks g n front whole ∙ sym (blocks_more g n front last (omega arith)) ∙ ap (after_blocks g n) joined)
    (sym (take_all 64 last (omega arith)))

-- the digest of what has been absorbed is that of the message
pub finished_digest : (g : Algorithm) (message : List ℕ) → finished (absorb (begun g) message) ≡ digest g message
unfolding finished digest
finished_digest g message =
    let n = length message in
    let all : length (padded message) ≡ n + ((119 - n % 64) % 64 + 9) = length-append message (padding n) ∙ ap (λ (k : ℕ). n + k) (padding_length n) in
    let whole : length (padded message) ≡ 64 * (length (padded message) / 64) = omega arith in
    let count : (absorb (begun g) message).count ≡ n % 2 ^ 64 = absorb_count (begun g) message (begun_held g) ∙ ap (λ (k : ℕ). k % 2 ^ 64) (zero-add n) in
    ap output
    (ap (λ (l : List ℕ). (absorb (absorb (begun g) message) l).words) (ap padding count ∙ padding_mod n)
    ∙ ap (λ (h : Hash). h.words) (sym (absorb_append (begun g) message (padding n)))
    ∙ absorb_blocks g (length (padded message) / 64) (padded message) whole)

-- parts in turn are absorbed as the whole
absorb_each_lem : (h : Hash) (parts : List (List ℕ)) → absorb_each h parts ≡ absorb h (joined parts)
unfolding absorb_each joined absorb
absorb_each_lem h [] = refl
absorb_each_lem h (part ∷ parts) = absorb_each_lem (absorb h part) parts ∙ sym (absorb_append h part (joined parts))

pub parts_digest : (g : Algorithm) (parts : List (List ℕ)) → finished (absorb_each (begun g) parts) ≡ digest g (joined parts)
parts_digest g parts = ap finished (absorb_each_lem (begun g) parts) ∙ finished_digest g (joined parts)

pub digest_length : (g : Algorithm) (message : List ℕ) → length (digest g message) ≡ 16
unfolding digest output little_endian
digest_length g message = refl
