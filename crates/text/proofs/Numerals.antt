-- Numbers in decimal: what is left to be read of a text, after a number that stands before it.
use mathlib.Core.Path.{◌≡◌, refl}
use mathlib.Core.Bool.{Bool, true, false, cond, ◌&&◌}
use mathlib.Core.List.{List, [], ◌∷◌}
use Prim.Native.Nat.{ℕ, ◌+◌, ◌*◌, ◌≤◌, ◌<◌}
use native.Mathlib.Omega.{arith}
use native.Mathlib.Numerals.{add-one}
use lib.Dec.{leb}
use lib.ListN.{length, get_or, drop, drop_of_length-le}
use lib.Seq.{drop-cons}
use borrow.Author.Tests.{lt-ltb, le-ltb, le-leb, lt-leb}
use Rattle.text.specs.Decimal.{value, are_digits, value_after, read}
use Rattle.std.specs.Prelude.{Option, Some, None}

-- the answer, where n stands before a text
unfoldable pub read_after : ℕ → List ℕ → Option ℕ
read_after n text = cond (are_digits text && leb (value_after n text) 4294967295) (Some (value_after n text)) None

pub read_empty : (text : List ℕ) → length text ≡ 0 → read text ≡ None
unfolding read
read_empty text e = rw (lt-leb 1 (length text) (omega arith))

pub read_some : (text : List ℕ) → 1 ≤ length text → read text ≡ read_after 0 text
unfolding read read_after
read_some text h = rw (le-leb 1 (length text) h)

module _ (n : ℕ) (text : List ℕ) (i : ℕ) where
  pub next_digit : {d : ℕ} → i < length text → d ≡ value (get_or text i 0) → d < 10 → read_after n (drop i text) ≡ read_after (10 * n + d) (drop (i + 1) text)
  unfolding read_after are_digits value_after
  next_digit h e small = rw (e, drop-cons text i 0 h, lt-ltb (value (get_or text i 0)) 10 (rw e at small), add-one i)

  pub no_digit : i < length text → 10 ≤ value (get_or text i 0) → read_after n (drop i text) ≡ None
  unfolding read_after are_digits
  no_digit h d = rw (drop-cons text i 0 h, le-ltb (value (get_or text i 0)) 10 d)

  pub all_read : length text ≤ i → n ≤ 4294967295 → read_after n (drop i text) ≡ Some n
  unfolding read_after are_digits value_after
  all_read h most = rw (drop_of_length-le text {i = i} h, le-leb n 4294967295 most)

value_least : (n : ℕ) (text : List ℕ) → n ≤ value_after n text
unfolding value_after
value_least n [] = omega arith
value_least n (c ∷ text) = omega (arith, value_least (10 * n + value c) text)

pub too_large : (n : ℕ) (text : List ℕ) → 4294967295 < n → read_after n text ≡ None
unfolding read_after
too_large n text h = rw (lt-leb (value_after n text) 4294967295 (omega (arith, value_least n text))) (either (are_digits text))
  where
    either : (b : Bool) → cond (b && false) (Some (value_after n text)) None ≡ None
    either true = refl
    either false = refl
