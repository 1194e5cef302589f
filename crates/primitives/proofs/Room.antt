-- A list kept in an array of n numbers, with zeros after it: the list gives the array back.
use Rattle.std.proofs.Common.{◌≡◌, ℕ, ◌-◌, ◌≤◌, List, ◌++◌, length, take, drop, replicate, arith, length-take-le, take-append-drop}

module _ (n k : ℕ) (xs : List ℕ) (all : length xs ≡ n) (inside : k ≤ n) where
  -- the length of the list is the number kept beside the array
  pub kept : length (take k xs) ≡ k
  kept = length-take-le k xs (omega (arith, all, inside))

  -- the list and the zeros after it are the array
  pub filled : drop k xs ≡ replicate (n - k) 0 → take k xs ++ replicate (n - length (take k xs)) 0 ≡ xs
  filled zeros = rw (kept, ← zeros) (take-append-drop k xs)
