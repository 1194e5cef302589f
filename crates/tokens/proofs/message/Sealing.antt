-- An encrypted message written and opened as its front and the message after it, from what each step gives.
use mathlib.Core.Path.{◌≡◌, sym, ap, ap₂, ◌∙◌}
use mathlib.Core.List.{List, ◌++◌}
use Prim.Native.Nat.{ℕ}
use lib.ListN.{length, take-append-drop}
use lib.Seq.{take_at, drop_at}
use Rattle.std.specs.Prelude.{Ok, ⊤, Result, Err}
use Rattle.primitives.specs.Hmac.{hmac}
use Rattle.primitives.specs.Rc4.{rc4, key_schedule}
use Rattle.primitives.proofs.Laws.{apply_twice, apply_length}
use Rattle.tokens.specs.Answer.{require, tested, status_answer}
use Rattle.tokens.specs.Limits.{buffer_after}
use Rattle.tokens.specs.Message.{parts, plain, k1, k2, k3, message_checksum, encrypt, decrypted, apart, opened}
use Rattle.tokens.specs.Octets.{same}
use Rattle.tokens.specs.declared.answer.Refusal.{Refusal}
use Rattle.tokens.specs.declared.answer.Refusal.TheVariants.{Checksum}
use Rattle.tokens.specs.declared.strength.Strength.{Strength}
use Rattle.tokens.proofs.Placing.{placed_all}
use Rattle.tokens.proofs.Steps.{goes_on, stops, status_decided}

-- ---- Plain text apart

pub plain_apart : (text : List ℕ) → plain (apart text) ≡ text
unfolding plain
plain_apart text = take-append-drop 8 text

-- ---- The steps

module _ (key : List ℕ) (strength : Strength) (t : List ℕ) where
  -- what is known when K1, K2 and K3 are there, and confounder and message have been run through RC4
  pub record Run (sum text : List ℕ) (one two three out : List ℕ) : Type 0 where
    pub k1_is : one ≡ k1 key strength t
    pub k2_is : two ≡ k2 key strength t
    pub k3_is : three ≡ hmac one sum
    pub run_is : out ≡ rc4 three text

  module _ {sum text one two three out : List ℕ} (g : Run sum text one two three out) where
    under_k3 : out ≡ rc4 (k3 key strength t sum) text
    unfolding k3
    under_k3 = g.run_is ∙ ap (λ (k : List ℕ). rc4 k text) (g.k3_is ∙ ap (λ (k : List ℕ). hmac k sum) g.k1_is)

  -- the checksum before what the run gave is the encrypted message
  pub sealed : (confounder message : List ℕ) {sum one two three out : List ℕ} → Run sum (confounder ++ message) one two three out → sum ≡ hmac two (confounder ++ message)
      → sum ++ out ≡ encrypt key strength t (parts confounder message)
  unfolding encrypt message_checksum plain
  sealed confounder message g e =
      let sum_is = e ∙ ap (λ (k : List ℕ). hmac k (confounder ++ message)) g.k2_is in
      ap₂ (λ (x y : List ℕ). x ++ y) sum_is (under_k3 g ∙ ap (λ (s : List ℕ). rc4 (k3 key strength t s) (confounder ++ message)) sum_is)

  module _ {sum text one two three out expected : List ℕ} (g : Run sum text one two three out) (sixteen : length sum ≡ 16) (expected-is : expected ≡ hmac two out) where
    out_is : out ≡ decrypted key strength t (sum ++ text)
    unfolding decrypted
    out_is = under_k3 g ∙ rw (take_at sum text 16 sixteen, drop_at sum text 16 sixteen)

    -- what opening decides, by the checksum of what the run gave
    opened_is : opened key strength t (sum ++ text) ≡ require (same sum expected) Checksum (Ok (apart out))
    unfolding opened message_checksum
    opened_is = rw (← out_is, take_at sum text 16 sixteen, expected-is, g.k2_is)

    pub opened_status : {s : Result ⊤ Refusal} → s ≡ tested (same sum expected) Checksum → s ≡ status_answer (opened key strength t (sum ++ text))
    opened_status e = status_decided (same sum expected) Checksum (apart out) e opened_is

    pub opened_plain : {s : Result ⊤ Refusal} → s ≡ tested (same sum expected) Checksum → s ≡ Ok tt → out ≡ buffer_after plain 0 text (opened key strength t (sum ++ text))
    opened_plain e d =
        let as_long : length text ≡ length out = sym (ap length g.run_is ∙ apply_length (key_schedule three) text) in
        rw (opened_is, goes_on (same sum expected) Checksum (Ok (apart out)) e d, plain_apart out) (sym (placed_all text out as_long))

    -- run again, what was refused is back
    pub opened_restored : {s : Result ⊤ Refusal} {q : Refusal} {back : List ℕ} → s ≡ tested (same sum expected) Checksum → s ≡ Err q → back ≡ rc4 three out
        → back ≡ buffer_after plain 0 text (opened key strength t (sum ++ text))
    opened_restored {s} {q} {back} e d b =
        rw (opened_is, stops (same sum expected) Checksum (Ok (apart out)) e d) (b ∙ ap (rc4 three) g.run_is ∙ apply_twice (key_schedule three) text)
