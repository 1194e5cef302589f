-- A table of words searched from one of its entries on.
use Rattle.std.proofs.Common.{◌≡◌, ℕ, ◌+◌, ◌<◌, true, false, List, length, map, drop, drop-cons, add-one, slice_index_or, Bor, Some}
use Rattle.tokens.specs.Octets.{same}
use Rattle.text.specs.Words.{chosen}

-- the entries of a table, with the octets of their words
abbrev pub entries : {T : Type 0} → List (Bor (List ℕ) × T) → List (List ℕ × T)
entries table = map (λ c. (c.0.now, c.1)) table

module _ {T : Type 0} (word : List ℕ) (table : List (Bor (List ℕ) × T)) (i : ℕ) (entry : Bor (List ℕ) × T) (h : i < length table) (is : entry ≡ slice_index_or table i entry) where
  pub here : same word entry.0.now ≡ true → chosen word (entries (drop i table)) ≡ Some entry.1
  unfolding chosen
  here e = rw (drop-cons table i entry h, ← is, e)

  pub not_here : same word entry.0.now ≡ false → chosen word (entries (drop i table)) ≡ chosen word (entries (drop (i + 1) table))
  unfolding chosen
  not_here e = rw (drop-cons table i entry h, ← is, e, add-one i)
