-- The laws of this crate's definitions that a crate above may cite.
use Rattle.std.proofs.Common.{◌≡◌, ℕ, ◌+◌, ◌/◌, ◌%◌, List, [], ◌∷◌, ◌++◌, length, refl}
use Rattle.primitives.specs.Octets.{Octets, joined, little_endian}
use Rattle.primitives.specs.Word.{ShiftRule}
use Rattle.primitives.specs.Md4 as Md4
use Rattle.primitives.specs.Md5 as Md5
use Rattle.primitives.specs.Hash as Hash
use Rattle.primitives.specs.Hash.{digest}
use Rattle.primitives.specs.Hmac as Hmac
use Rattle.primitives.specs.Hmac.{hmac}
use Rattle.primitives.specs.Rc4.{key_schedule, after, apply}
use Rattle.primitives.specs.declared.hash.Algorithm.{Algorithm}
use Rattle.primitives.specs.declared.hash.Hash.{Hash as HashState}
use Rattle.primitives.specs.declared.hmac.Hmac.{Hmac as HmacState}
use Rattle.primitives.specs.declared.rc4.Rc4.{Rc4}
use Rattle.primitives.proofs.Shifts as Shifts
use Rattle.primitives.proofs.Absorb as Absorb
use Rattle.primitives.proofs.Parts as Parts
use Rattle.primitives.proofs.HmacParts as HmacParts
use Rattle.primitives.proofs.Keystream as Keystream

-- ---- Numbers as octets

pub little_endian_two : (x : ℕ) → little_endian 2 x ≡ x % 256 ∷ x / 256 % 256 ∷ []
unfolding little_endian
little_endian_two x = refl

pub little_endian_four : (x : ℕ) → little_endian 4 x ≡ x % 256 ∷ x / 256 % 256 ∷ x / 256 / 256 % 256 ∷ x / 256 / 256 / 256 % 256 ∷ []
unfolding little_endian
little_endian_four x = refl

-- ---- Digests

-- the printed shift amounts are four for each round, used in turn
pub md4_shift_rule : ShiftRule 48 Md4.shifts_by_round Md4.shifts
md4_shift_rule = Shifts.md4_shift_rule

pub md5_shift_rule : ShiftRule 64 Md5.shifts_by_round Md5.shifts
md5_shift_rule = Shifts.md5_shift_rule

pub digest_length : (g : Algorithm) (message : List ℕ) → length (digest g message) ≡ 16
digest_length = Parts.digest_length

-- however a message is cut into parts, they have the digest of the whole
pub hash_parts : (g : Algorithm) (parts : List (List ℕ)) → Hash.finished (Hash.absorb_each (Hash.begun g) parts) ≡ digest g (joined parts)
hash_parts = Parts.parts_digest

-- the same for one part, and for two in a row from any state
pub hash_digest : (g : Algorithm) (message : List ℕ) → Hash.finished (Hash.absorb (Hash.begun g) message) ≡ digest g message
hash_digest = Parts.finished_digest

pub hash_append : (h : HashState) (xs ys : List ℕ) → Hash.absorb h (xs ++ ys) ≡ Hash.absorb (Hash.absorb h xs) ys
hash_append = Absorb.absorb_append

-- ---- HMAC-MD5

pub hmac_length : (key text : List ℕ) → length (hmac key text) ≡ 16
hmac_length = HmacParts.hmac_length

-- a text in parts has the HMAC of the whole
pub hmac_digest : (key text : List ℕ) → Hmac.finished (Hmac.absorb (Hmac.begun key) text) ≡ hmac key text
hmac_digest = HmacParts.finished_hmac

pub hmac_append : (h : HmacState) (xs ys : List ℕ) → Hmac.absorb h (xs ++ ys) ≡ Hmac.absorb (Hmac.absorb h xs) ys
hmac_append = HmacParts.hmac_absorb_append

-- the code from the inner hash and the outer one
pub hmac_inner_outer : (key text : List ℕ) {digest code : List ℕ} → digest ≡ Hash.finished (Hash.absorb (Hmac.after_key 0x36 key) text)
    → code ≡ Hash.finished (Hash.absorb (Hmac.after_key 0x5c key) digest) → code ≡ hmac key text
hmac_inner_outer = HmacParts.inner_outer

-- ---- RC4

-- applied twice from one state, the text is back
pub apply_twice : (st : Rc4) (text : List ℕ) → apply st (apply st text) ≡ text
apply_twice = Keystream.apply_twice

-- two parts in turn, the second from where the first stopped, are one run over the joined parts
pub apply_append : (st : Rc4) (xs ys : List ℕ) → apply st (xs ++ ys) ≡ apply st xs ++ apply (after st (length xs)) ys
apply_append = Keystream.apply_append

pub after_add : (st : Rc4) (m n : ℕ) → after (after st m) n ≡ after st (m + n)
after_add = Keystream.after_add

pub apply_length : (st : Rc4) (text : List ℕ) → length (apply st text) ≡ length text
apply_length = Keystream.apply_length

-- octets stay octets, from a state of octets, which a key's is and remains
pub apply_octets : (st : Rc4) (text : List ℕ) → Octets st.s → Octets text → Octets (apply st text)
apply_octets = Keystream.apply_octets

pub schedule_octets : (key : List ℕ) → Octets (key_schedule key).s
schedule_octets = Keystream.schedule_octets

pub after_octets : (st : Rc4) (n : ℕ) → Octets st.s → Octets (after st n).s
after_octets = Keystream.after_octets
