-- SGN_CKSUM from a digest in parts: T and the header, and then the text.
use mathlib.Core.Path.{◌≡◌, sym, ap, ◌∙◌}
use mathlib.Core.List.{List, ◌++◌, append_assoc}
use Prim.Native.Nat.{ℕ}
use lib.ListN.{take}
use Rattle.primitives.specs.Hash.{absorb, begun, finished, md5}
use Rattle.primitives.specs.Hmac.{hmac}
use Rattle.primitives.specs.Octets.{little_endian}
use Rattle.primitives.specs.declared.hash.Algorithm.TheVariants.{Md5}
use Rattle.primitives.specs.declared.hash.Hash.{Hash}
use Rattle.primitives.proofs.Laws.{hash_append, hash_digest}
use Rattle.tokens.specs.Checksum.{signature_key, checksum}
use Rattle.tokens.specs.Token.{token_checksum}

module _ (key : List ℕ) (type : ℕ) (header : List ℕ) {t head : List ℕ} {first last : Hash} {sum : List ℕ}
    (t-is : t ≡ little_endian 4 type) (head-is : head ≡ header) (begun_is : first ≡ absorb (begun Md5) (t ++ head)) (sum_is : sum ≡ take 8 (hmac (signature_key key) (finished last))) where
  pub signed : (text : List ℕ) → last ≡ absorb first text → sum ≡ token_checksum key type header text
  unfolding token_checksum checksum
  signed text last_is =
      let absorbed : last ≡ absorb (begun Md5) ((t ++ head) ++ text) = last_is ∙ ap (λ (h : Hash). absorb h text) begun_is ∙ sym (hash_append (begun Md5) (t ++ head) text) in
      let whole : (t ++ head) ++ text ≡ little_endian 4 type ++ (header ++ text) = append_assoc t head text ∙ ap (λ (l : List ℕ). l ++ (head ++ text)) t-is ∙ ap (λ (l : List ℕ). little_endian 4 type ++ (l ++ text)) head-is in
      sum_is ∙ ap (λ (d : List ℕ). take 8 (hmac (signature_key key) d)) (ap finished absorbed ∙ hash_digest Md5 ((t ++ head) ++ text) ∙ ap md5 whole)

  -- the same for a text in two parts
  pub signed_two : (a b : List ℕ) → last ≡ absorb (absorb first a) b → sum ≡ token_checksum key type header (a ++ b)
  signed_two a b last_is = signed (a ++ b) (last_is ∙ sym (hash_append first a b))
