-- A text in parts has the HMAC of the whole.
use Rattle.std.proofs.Common.{◌≡◌, ℕ, ◌≤◌, List, ◌++◌, length, sym, ap, ◌∙◌, le-leb}
use Rattle.primitives.specs.Hash as Hash
use Rattle.primitives.specs.Hash.{md5}
use Rattle.primitives.specs.Hmac.{filled, xor_pad, key_block, hmac, after_key, begun, absorb, finished}
use Rattle.primitives.specs.declared.hash.Algorithm.TheVariants.{Md5 as is_md5}
use Rattle.primitives.specs.declared.hash.Hash.{Hash as State}
use Rattle.primitives.specs.declared.hmac.Hmac.{Hmac}
use Rattle.primitives.proofs.Absorb.{absorb_append}
use Rattle.primitives.proofs.Parts.{finished_digest, digest_length}

pub hmac_absorb_append : (h : Hmac) (xs ys : List ℕ) → absorb h (xs ++ ys) ≡ absorb (absorb h xs) ys
unfolding absorb
hmac_absorb_append h xs ys = ap (λ (i : State). record { inner = i; outer = h.outer }) (absorb_append h.inner xs ys)

-- two parts of a message
two_parts : (xs ys : List ℕ) → Hash.finished (Hash.absorb (Hash.absorb (Hash.begun is_md5) xs) ys) ≡ md5 (xs ++ ys)
two_parts xs ys = ap Hash.finished (sym (absorb_append (Hash.begun is_md5) xs ys)) ∙ finished_digest is_md5 (xs ++ ys)

pub finished_hmac : (key text : List ℕ) → finished (absorb (begun key) text) ≡ hmac key text
unfolding after_key begun absorb finished hmac
finished_hmac key text =
    let ipad = xor_pad 0x36 (key_block key) in
    let opad = xor_pad 0x5c (key_block key) in
    ap (λ (d : List ℕ). Hash.finished (Hash.absorb (Hash.absorb (Hash.begun is_md5) opad) d)) (two_parts ipad text)
    ∙ two_parts opad (md5 (ipad ++ text))

-- a key that is no longer than a block is filled as it is
pub short_key : (key : List ℕ) → length key ≤ 64 → filled key ≡ key_block key
unfolding key_block
short_key key h = rw (le-leb (length key) 64 h)

-- the code from the inner hash and the outer one
pub inner_outer : (key text : List ℕ) {digest code : List ℕ} → digest ≡ Hash.finished (Hash.absorb (after_key 0x36 key) text)
    → code ≡ Hash.finished (Hash.absorb (after_key 0x5c key) digest) → code ≡ hmac key text
unfolding begun absorb finished
inner_outer key text ed ec = ec ∙ ap (λ (d : List ℕ). Hash.finished (Hash.absorb (after_key 0x5c key) d)) ed ∙ finished_hmac key text

pub hmac_length : (key text : List ℕ) → length (hmac key text) ≡ 16
unfolding hmac
hmac_length key text = digest_length is_md5 (xor_pad 0x5c (key_block key) ++ md5 (xor_pad 0x36 (key_block key) ++ text))
