-- MD4's compression of one block: RFC 1320, section 3.4.
use Rattle.std.specs.Prelude.{ℕ, zero, suc, ◌/◌, List, [], ◌∷◌, bit_and, bit_or, slice_index}
use Rattle.primitives.specs.Word.{add, rotate_left, aux_f, aux_h, word_at, operations, add_words}
use Rattle.primitives.specs.declared.hash.Words.{Words}

-- G(X,Y,Z) = XY v XZ v YZ
abbrev pub aux_g : ℕ → ℕ → ℕ → ℕ
aux_g x y z = bit_or (bit_or (bit_and x y) (bit_and x z)) (bit_and y z)

-- the auxiliary function of each round, the rounds counted from 0
abbrev pub auxiliary : ℕ → ℕ → ℕ → ℕ → ℕ
auxiliary zero x y z = aux_f x y z
auxiliary (suc zero) x y z = aux_g x y z
auxiliary (suc (suc round)) x y z = aux_h x y z

-- the addend of each round: none in the first
abbrev pub addend : ℕ → ℕ
addend zero = 0
addend (suc zero) = 0x5a827999
addend (suc (suc round)) = 0x6ed9eba1

-- the k of each of the 48 operations [abcd k s], as printed, a line for each round
unfoldable pub words : List ℕ
words =
    0 ∷ 1 ∷ 2 ∷ 3 ∷ 4 ∷ 5 ∷ 6 ∷ 7 ∷ 8 ∷ 9 ∷ 10 ∷ 11 ∷ 12 ∷ 13 ∷ 14 ∷ 15 ∷
    0 ∷ 4 ∷ 8 ∷ 12 ∷ 1 ∷ 5 ∷ 9 ∷ 13 ∷ 2 ∷ 6 ∷ 10 ∷ 14 ∷ 3 ∷ 7 ∷ 11 ∷ 15 ∷
    0 ∷ 8 ∷ 4 ∷ 12 ∷ 2 ∷ 10 ∷ 6 ∷ 14 ∷ 1 ∷ 9 ∷ 5 ∷ 13 ∷ 3 ∷ 11 ∷ 7 ∷ 15 ∷
    []

-- the s of each of the 48 operations, as printed, a line for each round
unfoldable pub shifts : List ℕ
shifts =
    3 ∷ 7 ∷ 11 ∷ 19 ∷ 3 ∷ 7 ∷ 11 ∷ 19 ∷ 3 ∷ 7 ∷ 11 ∷ 19 ∷ 3 ∷ 7 ∷ 11 ∷ 19 ∷
    3 ∷ 5 ∷ 9 ∷ 13 ∷ 3 ∷ 5 ∷ 9 ∷ 13 ∷ 3 ∷ 5 ∷ 9 ∷ 13 ∷ 3 ∷ 5 ∷ 9 ∷ 13 ∷
    3 ∷ 9 ∷ 11 ∷ 15 ∷ 3 ∷ 9 ∷ 11 ∷ 15 ∷ 3 ∷ 9 ∷ 11 ∷ 15 ∷ 3 ∷ 9 ∷ 11 ∷ 15 ∷
    []

-- the same amounts as twelve, four for each round and used in turn: S11 to S34 of the appendix. What MD4 means does not stand on
-- them: that each pick is the printed amount is `md4_shift_rule` of proofs/Laws.antt
unfoldable pub shifts_by_round : List (List ℕ)
shifts_by_round =
    (3 ∷ 7 ∷ 11 ∷ 19 ∷ []) ∷
    (3 ∷ 5 ∷ 9 ∷ 13 ∷ []) ∷
    (3 ∷ 9 ∷ 11 ∷ 15 ∷ []) ∷
    []

-- operation n, counted from 0: a = (a + f(b,c,d) + X[k] + addend) <<< s. The next operation is printed [dabc k s]: what is
-- a there stands in d here, so the words are handed on under the names that the next one has for them
unfoldable pub operation : ℕ → Words → List ℕ → Words
operation n w block =
    record {
      a = w.d;
      b =
          rotate_left
          (add (add (add w.a (auxiliary (n / 16) w.b w.c w.d)) (word_at block (slice_index words n))) (addend (n / 16)))
          (slice_index shifts n);
      c = w.b;
      d = w.c;
    }

-- all 48 of them, and each word added to the one that it was before
unfoldable pub compress : Words → List ℕ → Words
compress w block = add_words w (operations operation 48 w block)
