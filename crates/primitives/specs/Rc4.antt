-- RC4: the key schedule, the keystream from any state, and a text under it.
use Rattle.std.specs.Prelude.{◌≡◌, ℕ, zero, suc, ◌+◌, ◌%◌, List, [], ◌∷◌, ◌++◌, length, slice_index, slice_set, Result}
use Rattle.primitives.specs.Octets.{xor_each}
use Rattle.primitives.specs.Limits.{least_rc4_key, most_rc4_key, length_status, answer}
use Rattle.primitives.specs.declared.limits.LengthError.{LengthError}
use Rattle.primitives.specs.declared.rc4.Rc4.{Rc4}

-- the state with the octets S and the indices i and j
abbrev pub state : List ℕ → ℕ → ℕ → Rc4
state s i j = record { s = s; i = i; j = j }

-- S[i] and S[j] change places
abbrev pub swap : List ℕ → ℕ → ℕ → List ℕ
swap s i j = slice_set (slice_set s i (slice_index s j)) j (slice_index s i)

-- ---- The key schedule

-- the octets 0 to n - 1
unfoldable pub up_to : ℕ → List ℕ
up_to zero = []
up_to (suc n) = up_to n ++ (n ∷ [])

-- the turn for i: j grows by S[i] and by K[i mod key length], modulo 256, and S[i] and S[j] change places. S and j are those of
-- the state; its i is not used
unfoldable pub turn : List ℕ → ℕ → Rc4 → Rc4
turn key i st =
    let j : ℕ = (st.j + slice_index st.s i + slice_index key (i % length key)) % 256 in
    state (swap st.s i j) 0 j

-- the turns for 0 to n - 1, from the octets 0 to 255 and j = 0
unfoldable pub turns : List ℕ → ℕ → Rc4
turns key zero = state (up_to 256) 0 0
turns key (suc n) = turn key n (turns key n)

-- the state that a key gives: all 256 turns, and then i = j = 0
unfoldable pub key_schedule : List ℕ → Rc4
key_schedule key = state (turns key 256).s 0 0

-- the cipher begun from a key of any length
abbrev pub begun : List ℕ → Result Rc4 LengthError
begun key = answer (length_status least_rc4_key most_rc4_key (length key)) (key_schedule key)

-- ---- The keystream. Every value of the state is legal; of one that no key leads to the definitions say the same.

-- the state one octet on: i grows by one, j by S[i], both modulo 256, and S[i] and S[j] change places
unfoldable pub next : Rc4 → Rc4
next st =
    let i : ℕ = (st.i + 1) % 256 in
    let j : ℕ = (st.j + slice_index st.s i) % 256 in
    state (swap st.s i j) i j

-- the octet that such a state gives: S[(S[i] + S[j]) mod 256]
unfoldable pub octet : Rc4 → ℕ
octet st = slice_index st.s ((slice_index st.s st.i + slice_index st.s st.j) % 256)

-- the state n octets on
unfoldable pub after : Rc4 → ℕ → Rc4
after st zero = st
after st (suc n) = next (after st n)

-- the next n octets
unfoldable pub keystream : Rc4 → ℕ → List ℕ
keystream st zero = []
keystream st (suc n) = octet (next st) ∷ keystream (next st) n

-- ---- A text under it

-- a text under the keystream from a state
unfoldable pub apply : Rc4 → List ℕ → List ℕ
apply st text = xor_each text (keystream st (length text))

-- a text under a key, from the keystream's beginning
abbrev pub rc4 : List ℕ → List ℕ → List ℕ
rc4 key text = apply (key_schedule key) text

-- what applying the cipher to a lent text promises: the text afterwards, and the state handed on
pub record Applied (st : Rc4) (text : List ℕ) (handed : Rc4) (left : List ℕ) : Type 0 where
  pub text_left : left ≡ apply st text
  pub state_on : handed ≡ after st (length text)
