-- A region of a buffer, written and read through the part that is lent of it.
use mathlib.Core.Path.{◌≡◌, sym, ap, ◌∙◌}
use mathlib.Core.List.{List, ◌++◌}
use Prim.Native.Nat.{ℕ, ◌+◌, ◌-◌, ◌≤◌}
use native.Mathlib.Omega.{arith}
use lib.Dec.{leb}
use lib.ListN.{length, take, drop, length-append, length-take, length-drop}
use Rattle.tokens.specs.declared.answer.Refusal.{Refusal}
use Rattle.tokens.specs.declared.answer.Refusal.TheVariants as refusal
use Rattle.std.specs.Prelude.{Ok, ⊤, Result}
use Rattle.tokens.specs.Answer.{Outcome, status_answer, map_ok, tested}
use Rattle.tokens.specs.Limits.{within, region, placed, buffer_after}
use Rattle.tokens.specs.Message.{Parts, parts, message_length, plain, encrypt, opened, decryption}
use Rattle.tokens.specs.Usage.{type_octets, named}
use Rattle.tokens.specs.declared.strength.Strength.{Strength}
use Rattle.tokens.specs.declared.usage.Usage.{Usage}
use Rattle.tokens.proofs.Lengths.{encrypt_length}
use Rattle.tokens.proofs.Lent.{region_length, written_region, read_region, behind}
use Rattle.tokens.proofs.Steps.{goes_on, bounds, fits, named_on, was_done}
use Rattle.tokens.proofs.message.Exactly.{opened_length, opened_message}

module _ (key : List ℕ) (strength : Strength) (t : List ℕ) (buf : List ℕ) (start : ℕ) where
  -- ---- Writing n octets behind 24

  module _ (confounder : List ℕ) (n : ℕ) (eight : length confounder ≡ 8) (inside : start + (24 + n) ≤ length buf) where
    abbrev p : Parts
    p = parts confounder (region (start + 24) n buf)

    pub written_length : length (encrypt key strength t p) ≡ 24 + n
    unfolding plain
    written_length =
        let size : length (region (start + 24) n buf) ≡ n = simp (length-take, length-drop) (omega arith) in
        encrypt_length key strength t p ∙ simp length-append (omega arith)

    -- from the part of k octets that was lent, and the T that it was written for
    pub written_buffer : (k : ℕ) (u : List ℕ) {after : List ℕ} → k ≡ 24 + n → u ≡ t → after ≡ encrypt key strength u (parts confounder (drop 24 (take k (drop start buf))))
        → take start buf ++ (after ++ drop k (drop start buf)) ≡ placed start (encrypt key strength t p) buf
    written_buffer k u {after} e eu ea =
        written_region buf start (24 + n) k inside e (encrypt key strength t p) written_length (ea ∙ rw (e, eu, behind buf start 24 n inside))

  -- ---- Reading n octets

  module _ (n : ℕ) (inside : start + n ≤ length buf) (least : 24 ≤ n) where
    abbrev o : Outcome Parts
    o = opened key strength t (region start n buf)

    -- from the part of k octets that was lent, and the T that it was opened for
    read_status : (k : ℕ) (u : List ℕ) {s : Result ⊤ Refusal} → k ≡ n → u ≡ t → s ≡ status_answer (opened key strength u (region start k buf)) → s ≡ status_answer o
    read_status k u e eu es = es ∙ rw (e, eu)

    plain_fits : (q : Parts) → o ≡ Ok q → 16 + length (plain q) ≤ n
    plain_fits q h = omega (arith, opened_length key strength t (region start n buf) h, region_length buf start n inside)

    read_buffer : (k : ℕ) (u : List ℕ) {after : List ℕ} → k ≡ n → u ≡ t → after ≡ buffer_after plain 16 (region start k buf) (opened key strength u (region start k buf))
        → take start buf ++ (after ++ drop k (drop start buf)) ≡ buffer_after plain (start + 16) buf o
    read_buffer k u e eu ea = read_region buf start n k inside e plain 16 o plain_fits (ea ∙ rw (e, eu))

    read_length : {s : Result ⊤ Refusal} → s ≡ status_answer o → s ≡ Ok tt → Ok (n - 24) ≡ map_ok message_length o
    read_length e d =
        let found = was_done o (sym e ∙ d) in
        let size : message_length found.0 ≡ n - 24 = opened_message key strength t (region start n buf) found.1 ∙ ap (λ (m : ℕ). m - 24) (region_length buf start n inside) in
        rw (found.1, size)

-- What `decrypt` gives of its region d: the status of reading, the buffer with the region as reading left it, and the length where
-- reading is done.
pub record Decrypted (d : Outcome Parts) (buf : List ℕ) (start n : ℕ) (s : Result ⊤ Refusal) (after : List ℕ) : Type 0 where
  pub status : s ≡ status_answer d
  pub buffer : take start buf ++ (after ++ drop (start + n - start) (drop start buf)) ≡ buffer_after plain (start + 16) buf d
  pub length_is : s ≡ Ok tt → Ok (n - 24) ≡ map_ok message_length d

-- from its tests of length, region and usage, which are done, and from what reading says of the part that was lent
module _ (key : List ℕ) (strength : Strength) (usage : ℕ) (buf : List ℕ) (start n : ℕ) {sized inside : Result ⊤ Refusal} {usage_in : Result Usage Refusal} {u : Usage}
    (sized-is : sized ≡ tested (within 24 32792 n) refusal.Length) (sized-done : sized ≡ Ok tt)
    (inside-is : inside ≡ tested (leb (start + n) (length buf)) refusal.Region) (inside-done : inside ≡ Ok tt)
    (usage-is : usage_in ≡ named usage) (usage-done : usage_in ≡ Ok u) where
  abbrev lent : List ℕ
  lent = region start (start + n - start) buf

  pub decrypted : {s : Result ⊤ Refusal} {after : List ℕ} → s ≡ status_answer (opened key strength u.t lent) → after ≡ buffer_after plain 16 lent (opened key strength u.t lent)
      → Decrypted (decryption key strength usage buf start n) buf start n s after
  unfolding decryption
  decrypted es ea =
      let least = (bounds sized-done 24 32792 n sized-is).0 in
      let ends = fits inside-done (start + n) (length buf) inside-is in
      let t = named_on usage _ usage-is usage-done in
      let passed : decryption key strength usage buf start n ≡ opened key strength (type_octets usage) (region start n buf)
      = goes_on _ _ _ sized-is sized-done ∙ goes_on _ _ _ inside-is inside-done ∙ t.0 in
      let k = start + n - start in
      let part : k ≡ n = omega arith in
      let status = read_status key strength (type_octets usage) buf start n ends least k _ part t.1 es in
      record {
        status = rw passed status;
        buffer = rw passed (read_buffer key strength (type_octets usage) buf start n ends least k _ part t.1 ea);
        length_is = λ d. rw passed (read_length key strength (type_octets usage) buf start n ends least status d);
      }
