-- MD5's compression of one block: RFC 1321, section 3.4.
use Rattle.std.specs.Prelude.{ℕ, zero, suc, ◌/◌, List, [], ◌∷◌, bit_and, bit_or, bit_xor, slice_index}
use Rattle.primitives.specs.Word.{add, complement, rotate_left, aux_f, aux_h, word_at, operations, add_words}
use Rattle.primitives.specs.declared.hash.Words.{Words}

-- G(X,Y,Z) = XZ v Y not(Z)
abbrev pub aux_g : ℕ → ℕ → ℕ → ℕ
aux_g x y z = bit_or (bit_and x z) (bit_and y (complement z))

-- I(X,Y,Z) = Y xor (X v not(Z))
abbrev pub aux_i : ℕ → ℕ → ℕ → ℕ
aux_i x y z = bit_xor y (bit_or x (complement z))

-- the auxiliary function of each round, the rounds counted from 0
abbrev pub auxiliary : ℕ → ℕ → ℕ → ℕ → ℕ
auxiliary zero x y z = aux_f x y z
auxiliary (suc zero) x y z = aux_g x y z
auxiliary (suc (suc zero)) x y z = aux_h x y z
auxiliary (suc (suc (suc round))) x y z = aux_i x y z

-- the k of each of the 64 operations [abcd k s i], as printed, a line for each round
unfoldable pub words : List ℕ
words =
    0 ∷ 1 ∷ 2 ∷ 3 ∷ 4 ∷ 5 ∷ 6 ∷ 7 ∷ 8 ∷ 9 ∷ 10 ∷ 11 ∷ 12 ∷ 13 ∷ 14 ∷ 15 ∷
    1 ∷ 6 ∷ 11 ∷ 0 ∷ 5 ∷ 10 ∷ 15 ∷ 4 ∷ 9 ∷ 14 ∷ 3 ∷ 8 ∷ 13 ∷ 2 ∷ 7 ∷ 12 ∷
    5 ∷ 8 ∷ 11 ∷ 14 ∷ 1 ∷ 4 ∷ 7 ∷ 10 ∷ 13 ∷ 0 ∷ 3 ∷ 6 ∷ 9 ∷ 12 ∷ 15 ∷ 2 ∷
    0 ∷ 7 ∷ 14 ∷ 5 ∷ 12 ∷ 3 ∷ 10 ∷ 1 ∷ 8 ∷ 15 ∷ 6 ∷ 13 ∷ 4 ∷ 11 ∷ 2 ∷ 9 ∷
    []

-- the s of each of the 64 operations, as printed, a line for each round
unfoldable pub shifts : List ℕ
shifts =
    7 ∷ 12 ∷ 17 ∷ 22 ∷ 7 ∷ 12 ∷ 17 ∷ 22 ∷ 7 ∷ 12 ∷ 17 ∷ 22 ∷ 7 ∷ 12 ∷ 17 ∷ 22 ∷
    5 ∷ 9 ∷ 14 ∷ 20 ∷ 5 ∷ 9 ∷ 14 ∷ 20 ∷ 5 ∷ 9 ∷ 14 ∷ 20 ∷ 5 ∷ 9 ∷ 14 ∷ 20 ∷
    4 ∷ 11 ∷ 16 ∷ 23 ∷ 4 ∷ 11 ∷ 16 ∷ 23 ∷ 4 ∷ 11 ∷ 16 ∷ 23 ∷ 4 ∷ 11 ∷ 16 ∷ 23 ∷
    6 ∷ 10 ∷ 15 ∷ 21 ∷ 6 ∷ 10 ∷ 15 ∷ 21 ∷ 6 ∷ 10 ∷ 15 ∷ 21 ∷ 6 ∷ 10 ∷ 15 ∷ 21 ∷
    []

-- the same amounts as sixteen, four for each round and used in turn: S11 to S44 of the appendix. What MD5 means does not stand on
-- them: that each pick is the printed amount is `md5_shift_rule` of proofs/Laws.antt
unfoldable pub shifts_by_round : List (List ℕ)
shifts_by_round =
    (7 ∷ 12 ∷ 17 ∷ 22 ∷ []) ∷
    (5 ∷ 9 ∷ 14 ∷ 20 ∷ []) ∷
    (4 ∷ 11 ∷ 16 ∷ 23 ∷ []) ∷
    (6 ∷ 10 ∷ 15 ∷ 21 ∷ []) ∷
    []

-- T[i] for i from 1 to 64, as the appendix prints them
unfoldable pub addends : List ℕ
addends =
    0xd76aa478 ∷ 0xe8c7b756 ∷ 0x242070db ∷ 0xc1bdceee ∷ 0xf57c0faf ∷ 0x4787c62a ∷ 0xa8304613 ∷ 0xfd469501 ∷
    0x698098d8 ∷ 0x8b44f7af ∷ 0xffff5bb1 ∷ 0x895cd7be ∷ 0x6b901122 ∷ 0xfd987193 ∷ 0xa679438e ∷ 0x49b40821 ∷
    0xf61e2562 ∷ 0xc040b340 ∷ 0x265e5a51 ∷ 0xe9b6c7aa ∷ 0xd62f105d ∷ 0x02441453 ∷ 0xd8a1e681 ∷ 0xe7d3fbc8 ∷
    0x21e1cde6 ∷ 0xc33707d6 ∷ 0xf4d50d87 ∷ 0x455a14ed ∷ 0xa9e3e905 ∷ 0xfcefa3f8 ∷ 0x676f02d9 ∷ 0x8d2a4c8a ∷
    0xfffa3942 ∷ 0x8771f681 ∷ 0x6d9d6122 ∷ 0xfde5380c ∷ 0xa4beea44 ∷ 0x4bdecfa9 ∷ 0xf6bb4b60 ∷ 0xbebfbc70 ∷
    0x289b7ec6 ∷ 0xeaa127fa ∷ 0xd4ef3085 ∷ 0x04881d05 ∷ 0xd9d4d039 ∷ 0xe6db99e5 ∷ 0x1fa27cf8 ∷ 0xc4ac5665 ∷
    0xf4292244 ∷ 0x432aff97 ∷ 0xab9423a7 ∷ 0xfc93a039 ∷ 0x655b59c3 ∷ 0x8f0ccc92 ∷ 0xffeff47d ∷ 0x85845dd1 ∷
    0x6fa87e4f ∷ 0xfe2ce6e0 ∷ 0xa3014314 ∷ 0x4e0811a1 ∷ 0xf7537e82 ∷ 0xbd3af235 ∷ 0x2ad7d2bb ∷ 0xeb86d391 ∷
    []

-- operation n, counted from 0: a = b + ((a + f(b,c,d) + X[k] + T[i]) <<< s). The next operation is printed [dabc k s i]: what
-- is a there stands in d here, so the words are handed on under the names that the next one has for them
unfoldable pub operation : ℕ → Words → List ℕ → Words
operation n w block =
    record {
      a = w.d;
      b =
          add w.b
          (rotate_left
          (add (add (add w.a (auxiliary (n / 16) w.b w.c w.d)) (word_at block (slice_index words n))) (slice_index addends n))
          (slice_index shifts n));
      c = w.b;
      d = w.c;
    }

-- all 64 of them, and each word added to the one that it was before
unfoldable pub compress : Words → List ℕ → Words
compress w block = add_words w (operations operation 64 w block)
