-- The laws of RC4: the state, the keystream and the text from any place in the stream, and that octets stay octets.
use Rattle.std.proofs.Common.{◌≡◌, ℕ, zero, suc, ◌+◌, ◌<◌, ◌≤◌, List, [], ◌∷◌, ◌++◌, length, get_or, set, refl, ap, ◌∙◌, ap₂, add-zero, add-suc, add-one, arith, length-append}
use lib.Bits.{bit_xor, xor_lt}
use Rattle.primitives.specs.Octets.{Octets, xor_each}
use Rattle.primitives.specs.Rc4.{state, swap, up_to, turn, turns, key_schedule, next, octet, after, keystream, apply}
use Rattle.primitives.specs.declared.rc4.Rc4.{Rc4}
use Rattle.primitives.proofs.Xor.{xor_back}

-- ---- The key schedule

pub up_to_length : (n : ℕ) → length (up_to n) ≡ n
unfolding up_to
up_to_length zero = refl
up_to_length (suc n) = length-append (up_to n) (n ∷ []) ∙ ap (λ (m : ℕ). m + 1) (up_to_length n) ∙ add-one n

pub turns_none : (key : List ℕ) → turns key 0 ≡ state (up_to 256) 0 0
unfolding turns
turns_none key = refl

pub turns_more : (key : List ℕ) (n : ℕ) → turns key (n + 1) ≡ turn key n (turns key n)
unfolding turns
turns_more key n = rw add-one

-- ---- The state

pub after_none : (st : Rc4) → after st 0 ≡ st
unfolding after
after_none st = refl

pub after_more : (st : Rc4) (n : ℕ) → after st (n + 1) ≡ next (after st n)
unfolding after
after_more st n = rw add-one

after_next : (st : Rc4) (n : ℕ) → after (next st) n ≡ next (after st n)
unfolding after
after_next st zero = refl
after_next st (suc n) = ap next (after_next st n)

pub after_add : (st : Rc4) (m n : ℕ) → after (after st m) n ≡ after st (m + n)
unfolding after
after_add st m zero = rw add-zero
after_add st m (suc n) = rw add-suc (ap next (after_add st m n))

-- ---- A text under the keystream

pub apply_none : (st : Rc4) → apply st [] ≡ []
unfolding apply xor_each
apply_none st = refl

apply_cons : (st : Rc4) (x : ℕ) (xs : List ℕ) → apply st (x ∷ xs) ≡ bit_xor x (octet (next st)) ∷ apply (next st) xs
unfolding apply xor_each keystream
apply_cons st x xs = refl

pub apply_length : (st : Rc4) (text : List ℕ) → length (apply st text) ≡ length text
apply_length st [] = ap length (apply_none st)
apply_length st (x ∷ xs) = ap length (apply_cons st x xs) ∙ ap suc (apply_length (next st) xs)

-- the same again from the same state gives the text back
pub apply_twice : (st : Rc4) (text : List ℕ) → apply st (apply st text) ≡ text
unfolding apply xor_each keystream
apply_twice st [] = refl
apply_twice st (x ∷ xs) = ap₂ (λ (y : ℕ) (ys : List ℕ). y ∷ ys) (xor_back x (octet (next st))) (apply_twice (next st) xs)

-- two parts in turn, the second from where the first stopped, are one text
pub apply_append : (st : Rc4) (xs ys : List ℕ) → apply st (xs ++ ys) ≡ apply st xs ++ apply (after st (length xs)) ys
unfolding apply xor_each keystream after
apply_append st [] ys = refl
apply_append st (x ∷ xs) ys =
    ap (λ (l : List ℕ). bit_xor x (octet (next st)) ∷ l)
    (apply_append (next st) xs ys ∙ ap (λ (z : Rc4). apply (next st) xs ++ apply z ys) (after_next st (length xs)))

pub apply_more : (st : Rc4) (xs : List ℕ) (x : ℕ)
    → apply st (xs ++ (x ∷ [])) ≡ apply st xs ++ (bit_xor x (octet (next (after st (length xs)))) ∷ [])
apply_more st xs x =
    apply_append st xs (x ∷ []) ∙ ap (λ (l : List ℕ). apply st xs ++ l) (apply_cons (after st (length xs)) x [] ∙ rw apply_none)

-- ---- Octets stay octets

octets_set : (l : List ℕ) (i v : ℕ) → Octets l → v < 256 → Octets (set l i v)
octets_set [] i v p h j = p j
octets_set (x ∷ l) zero v p h zero = h
octets_set (x ∷ l) zero v p h (suc j) = p (suc j)
octets_set (x ∷ l) (suc i) v p h zero = p 0
octets_set (x ∷ l) (suc i) v p h (suc j) = octets_set l i v (λ k. p (suc k)) h j

octets_snoc : (l : List ℕ) (v : ℕ) → Octets l → v < 256 → Octets (l ++ (v ∷ []))
octets_snoc [] v p h zero = h
octets_snoc [] v p h (suc i) = p i
octets_snoc (x ∷ l) v p h zero = p 0
octets_snoc (x ∷ l) v p h (suc i) = octets_snoc l v (λ j. p (suc j)) h i

swap_octets : (s : List ℕ) (i j : ℕ) → Octets s → Octets (swap s i j)
swap_octets s i j p = octets_set (set s i (get_or s j 0)) j (get_or s i 0) (octets_set s i (get_or s j 0) p (p j)) (p i)

up_to_octets : (n : ℕ) → n ≤ 256 → Octets (up_to n)
unfolding up_to
up_to_octets zero h i = omega arith
up_to_octets (suc n) h i = octets_snoc (up_to n) n (up_to_octets n (omega arith)) (omega arith) i

turns_octets : (key : List ℕ) (n : ℕ) → Octets (turns key n).s
unfolding turns turn
turns_octets key zero = up_to_octets 256 (omega arith)
turns_octets key (suc n) = swap_octets (turns key n).s _ _ (turns_octets key n)

pub schedule_octets : (key : List ℕ) → Octets (key_schedule key).s
unfolding key_schedule
schedule_octets key = turns_octets key 256

next_octets : (st : Rc4) → Octets st.s → Octets (next st).s
unfolding next
next_octets st p = swap_octets st.s _ _ p

pub after_octets : (st : Rc4) (n : ℕ) → Octets st.s → Octets (after st n).s
unfolding after
after_octets st zero p = p
after_octets st (suc n) p = next_octets (after st n) (after_octets st n p)

pub apply_octets : (st : Rc4) (text : List ℕ) → Octets st.s → Octets text → Octets (apply st text)
unfolding apply xor_each keystream octet
apply_octets st [] p q i = q i
apply_octets st (x ∷ xs) p q zero = xor_lt 8 x _ (q 0) (next_octets st p _)
apply_octets st (x ∷ xs) p q (suc i) = apply_octets (next st) xs (next_octets st p) (λ j. q (suc j)) i
