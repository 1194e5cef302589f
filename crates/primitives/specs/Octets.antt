-- Octets: lists of numbers below 256, parts joined, numbers written as octets, and addition without carry.
use Rattle.std.specs.Prelude.{ℕ, zero, suc, ◌/◌, ◌%◌, ◌<◌, List, [], ◌∷◌, ◌++◌, bit_xor, slice_index}

-- every element is an octet
abbrev pub Octets : List ℕ → Type 0
Octets l = (i : ℕ) → slice_index l i < 256

-- parts, one after the other
unfoldable pub joined : List (List ℕ) → List ℕ
joined [] = []
joined (part ∷ parts) = part ++ joined parts

-- the n low-order octets of x, the lowest first
unfoldable pub little_endian : ℕ → ℕ → List ℕ
little_endian zero x = []
little_endian (suc n) x = x % 256 ∷ little_endian n (x / 256)

-- the octets of the first list, each added without carry to the one that stands at its place in the second, as far as that goes
unfoldable pub xor_each : List ℕ → List ℕ → List ℕ
xor_each [] ks = []
xor_each (x ∷ xs) [] = x ∷ xs
xor_each (x ∷ xs) (k ∷ ks) = bit_xor x k ∷ xor_each xs ks
