-- The lengths of what the rules write, and of its fields.
use mathlib.Core.Path.{◌≡◌, refl}
use mathlib.Core.Bool.{Bool, true, false}
use mathlib.Core.List.{List, []}
use Prim.Native.Nat.{ℕ, ◌+◌}
use native.Mathlib.Omega.{arith}
use lib.ListN.{length, length-append}
use Rattle.primitives.specs.Rc4.{key_schedule}
use Rattle.primitives.proofs.Laws.{apply_length, hmac_length}
use Rattle.tokens.specs.Message as Message
use Rattle.tokens.specs.Mic as Mic
use Rattle.tokens.specs.Token.{sealing_key}
use Rattle.tokens.specs.Wrap as Wrap
use Rattle.tokens.specs.declared.context.Context.{Context}
use Rattle.tokens.specs.declared.strength.Strength.{Strength}
use Rattle.tokens.proofs.Fronts.{checksum_length, front_length}

-- ---- Encrypted messages

module _ (key : List ℕ) (strength : Strength) (t : List ℕ) where
  pub message_checksum_length : (text : List ℕ) → length (Message.message_checksum key strength t text) ≡ 16
  unfolding Message.message_checksum
  message_checksum_length text = hmac_length (Message.k2 key strength t) text

  pub encrypt_length : (p : Message.Parts) → length (Message.encrypt key strength t p) ≡ 16 + length (Message.plain p)
  unfolding Message.encrypt
  encrypt_length p =
      simp length-append
      (omega (arith, message_checksum_length (Message.plain p), apply_length (key_schedule (Message.k3 key strength t (Message.message_checksum key strength t (Message.plain p)))) (Message.plain p)))

-- ---- MIC tokens

pub mic_header_length : length Mic.header ≡ 8
unfolding Mic.header
mic_header_length = refl

module _ (context : Context) (text : List ℕ) where
  pub mic_checksum_length : length (Mic.mic_checksum context text) ≡ 8
  unfolding Mic.mic_checksum
  mic_checksum_length = checksum_length context.key Mic.message_type Mic.header text

  pub mic_length_lem : (n : ℕ) → length (Mic.mic_token context n text) ≡ 24
  unfolding Mic.mic_token
  mic_length_lem n = front_length context Mic.header (Mic.mic_checksum context text) n mic_header_length mic_checksum_length []

-- ---- Wrap tokens

pub wrap_header_length : (sealed : Bool) → length (Wrap.header sealed) ≡ 8
unfolding Wrap.header
wrap_header_length true = refl
wrap_header_length false = refl

module _ (context : Context) (sealed : Bool) where
  pub wrap_checksum_length : (text : List ℕ) → length (Wrap.wrap_checksum context sealed text) ≡ 8
  unfolding Wrap.wrap_checksum
  wrap_checksum_length text = checksum_length context.key Wrap.message_type (Wrap.header sealed) text

pub seal_length : (context : Context) (sealed : Bool) (n : ℕ) (text : List ℕ) → length (Wrap.under_seal context sealed n text) ≡ length text
unfolding Wrap.under_seal
seal_length context true n text = apply_length (key_schedule (sealing_key context n)) text
seal_length context false n text = refl

module _ (p : Wrap.Parts) (eight : length p.confounder ≡ 8) where
  pub plain_length : length (Wrap.plain p) ≡ 9 + length p.message
  unfolding Wrap.plain
  plain_length = simp length-append (omega arith)

  pub wrap_length_lem : (context : Context) → length (Wrap.wrap_token context p) ≡ 33 + length p.message
  unfolding Wrap.wrap_token
  wrap_length_lem context =
      let sum : List ℕ = Wrap.wrap_checksum context p.sealed (Wrap.plain p) in
      let size = front_length context (Wrap.header p.sealed) sum p.sequence (wrap_header_length p.sealed) (wrap_checksum_length context p.sealed (Wrap.plain p)) [] in
      simp length-append (omega (arith, seal_length context p.sealed p.sequence (Wrap.plain p), plain_length))
