-- What absorbing octets does to the state: parts in turn, the count, and octets that the block has room for.
use Rattle.std.proofs.Common.{◌≡◌, ℕ, zero, suc, ◌+◌, ◌%◌, ◌^◌, ◌<◌, ◌≤◌, Bool, cond, eqb, List, [], ◌∷◌, ◌++◌, length, get_or, take, set, sym, refl, ap, ◌∙◌, ap₂, add-zero, add-suc, mod-eq_of_lt, arith, length-set, take-suc, ne_eqb}
use native.Mathlib.Nat.{mod-add-mod}
use lib.Dec.{eqb-suc-suc}
use lib.Pow.{mod-mod-pow}
use lib.Seq.{take-length, paste, paste-zero, paste-suc}
use Rattle.primitives.specs.Hash.{compress, put, absorb}
use Rattle.primitives.specs.declared.hash.Words.{Words}
use Rattle.primitives.specs.declared.hash.Hash.{Hash}

pub absorb_append : (h : Hash) (xs ys : List ℕ) → absorb h (xs ++ ys) ≡ absorb (absorb h xs) ys
unfolding absorb
absorb_append h [] ys = refl
absorb_append h (x ∷ xs) ys = absorb_append (put h x) xs ys

-- nothing is left to absorb
pub absorb_none : (h : Hash) (xs : List ℕ) → length xs ≡ 0 → h ≡ absorb h xs
unfolding absorb
absorb_none h [] e = refl
absorb_none h (x ∷ xs) e = absurd (omega arith)

-- a state that a run of the code can hold
pub record Held (h : Hash) : Type 0 where
  pub count_below : h.count < 2 ^ 64
  pub block_length_lem : length h.block ≡ 64

put_held : (h : Hash) (x : ℕ) → Held h → Held (put h x)
unfolding put
put_held h x w = record { count_below = omega arith; block_length_lem = length-set h.block (h.count % 64) x ∙ w.block_length_lem }

pub absorb_held : (h : Hash) (xs : List ℕ) → Held h → Held (absorb h xs)
unfolding absorb
absorb_held h [] w = w
absorb_held h (x ∷ xs) w = absorb_held (put h x) xs (put_held h x w)

pub absorb_algorithm : (h : Hash) (xs : List ℕ) → (absorb h xs).algorithm ≡ h.algorithm
unfolding absorb put
absorb_algorithm h [] = refl
absorb_algorithm h (x ∷ xs) = absorb_algorithm (put h x) xs

pub absorb_count : (h : Hash) (xs : List ℕ) → Held h → (absorb h xs).count ≡ (h.count + length xs) % 2 ^ 64
unfolding absorb put
absorb_count h [] w = sym (ap (λ (n : ℕ). n % 2 ^ 64) (add-zero h.count) ∙ mod-eq_of_lt w.count_below)
absorb_count h (x ∷ xs) w =
    absorb_count (put h x) xs (put_held h x w)
    ∙ mod-add-mod (h.count + 1) (2 ^ 64) (length xs)
    ∙ ap (λ (n : ℕ). n % 2 ^ 64) (omega arith)

-- ---- Octets that the block has room for: the first n of s

module _ (h : Hash) (s : List ℕ) (w : Held h) where
  -- the state with n of them in the block, and the words v
  abbrev pub filled_to : Words → ℕ → Hash
  filled_to v n =
      record { algorithm = h.algorithm; words = v; block = paste h.block (h.count % 64) s n; count = (h.count + n) % 2 ^ 64 }

  -- the words with n of them in the block, which is compressed when it is full
  abbrev pub words_at : ℕ → Words
  words_at n = cond (eqb (h.count % 64 + n) 64) (compress h.algorithm h.words (paste h.block (h.count % 64) s n)) h.words

  place : (n : ℕ) → h.count % 64 + n < 64 → (h.count + n) % 2 ^ 64 % 64 ≡ h.count % 64 + n
  place n room = mod-mod-pow (h.count + n) 58 6 ∙ omega arith

  stored : (n : ℕ) → h.count % 64 + n < 64 → n < length s
      → set (paste h.block (h.count % 64) s n) ((h.count + n) % 2 ^ 64 % 64) (get_or s n 0) ≡ paste h.block (h.count % 64) s (suc n)
  stored n room more =
      ap (λ (i : ℕ). set (paste h.block (h.count % 64) s n) i (get_or s n 0)) (place n room)
      ∙ paste-suc h.block (h.count % 64) s n 0 (omega (arith, w.block_length_lem)) more

  full : (n : ℕ) → h.count % 64 + n < 64 → eqb ((h.count + n) % 2 ^ 64 % 64) 63 ≡ eqb (h.count % 64 + suc n) 64
  full n room =
      ap (λ (i : ℕ). eqb i 63) (place n room)
      ∙ sym (eqb-suc-suc (h.count % 64 + n) 63)
      ∙ ap (λ (i : ℕ). eqb i 64) (sym (add-suc (h.count % 64) n))

  counted : (n : ℕ) → ((h.count + n) % 2 ^ 64 + 1) % 2 ^ 64 ≡ (h.count + suc n) % 2 ^ 64
  counted n = mod-add-mod (h.count + n) (2 ^ 64) 1 ∙ ap (λ (i : ℕ). i % 2 ^ 64) (omega arith)

  put_one : (n : ℕ) → h.count % 64 + n < 64 → n < length s → put (filled_to h.words n) (get_or s n 0) ≡ filled_to (words_at (suc n)) (suc n)
  unfolding put
  put_one n room more =
      let made : Bool → List ℕ → ℕ → Hash =
      λ b l k. record { algorithm = h.algorithm; words = cond b (compress h.algorithm h.words l) h.words; block = l; count = k } in
      ap₂ (λ (b : Bool) (l : List ℕ). made b l (((h.count + n) % 2 ^ 64 + 1) % 2 ^ 64)) (full n room) (stored n room more)
      ∙ ap (made (eqb (h.count % 64 + suc n) 64) (paste h.block (h.count % 64) s (suc n))) (counted n)

  not_full : (n : ℕ) → h.count % 64 + n < 64 → words_at n ≡ h.words
  not_full n room =
      ap (λ (b : Bool). cond b (compress h.algorithm h.words (paste h.block (h.count % 64) s n)) h.words)
      (ne_eqb (h.count % 64 + n) 64 (λ e. omega arith))

  pub absorb_fill : (n : ℕ) → h.count % 64 + n ≤ 64 → n ≤ length s → absorb h (take n s) ≡ filled_to (words_at n) n
  unfolding absorb
  absorb_fill zero room more =
      ap₂ (λ (l : List ℕ) (k : ℕ). record { algorithm = h.algorithm; words = h.words; block = l; count = k })
      (paste-zero h.block (h.count % 64) s)
      (sym (ap (λ (n : ℕ). n % 2 ^ 64) (add-zero h.count) ∙ mod-eq_of_lt w.count_below))
      ∙ ap (λ (v : Words). filled_to v 0) (sym (not_full 0 (omega arith)))
  absorb_fill (suc n) room more =
      ap (absorb h) (take-suc s n 0 (omega arith))
      ∙ absorb_append h (take n s) (get_or s n 0 ∷ [])
      ∙ ap (λ (t : Hash). put t (get_or s n 0)) (absorb_fill n (omega arith) (omega arith) ∙ ap (λ (v : Words). filled_to v n) (not_full n (omega arith)))
      ∙ put_one n (omega arith) (omega arith)

  -- all of them
  absorb_all : h.count % 64 + length s ≤ 64 → absorb h s ≡ filled_to (words_at (length s)) (length s)
  absorb_all room = ap (absorb h) (sym (take-length s)) ∙ absorb_fill (length s) room (omega arith)

  -- all of them, where they leave room
  pub absorb_short : h.count % 64 + length s < 64 → absorb h s ≡ filled_to h.words (length s)
  absorb_short room = absorb_all (omega arith) ∙ ap (λ (v : Words). filled_to v (length s)) (not_full (length s) room)

  -- all of them, and then others
  pub absorb_turn : (after : List ℕ) → h.count % 64 + length s ≤ 64
      → absorb (filled_to (words_at (length s)) (length s)) after ≡ absorb h (s ++ after)
  absorb_turn after room = sym (absorb_append h s after ∙ ap (λ (t : Hash). absorb t after) (absorb_all room))
