-- Reading succeeds exactly on what the rule writes: of the octets of an encrypted message, and of a region of a buffer.
use mathlib.Core.Path.{◌≡◌, refl, sym, ap, ◌∙◌, subst}
use mathlib.Core.Bool.{true}
use mathlib.Core.List.{List}
use Prim.Native.Nat.{ℕ, ◌+◌, ◌-◌, ◌≤◌}
use native.Mathlib.Omega.{arith}
use lib.ListN.{length, take, drop, length-append, length-drop, take-append-drop}
use lib.Seq.{take_at, drop_at, length-take-le}
use borrow.Author.Tests.{leb-true, le-leb}
use Rattle.std.specs.Prelude.{Ok}
use Rattle.primitives.specs.Octets.{Octets}
use Rattle.primitives.specs.Rc4.{rc4, key_schedule}
use Rattle.primitives.proofs.Laws.{apply_length, apply_octets, apply_twice, schedule_octets}
use Rattle.tokens.specs.Answer.{Outcome, require, map_ok, status_number, number_found}
use Rattle.tokens.specs.Limits.{most_message, region, buffer_after}
use Rattle.tokens.specs.Message.{Parts, message_length, plain, k3, message_checksum, encrypt, overhead, decrypted, apart, opened, decryption, Written, HandedBack, ReadsExactly}
use Rattle.tokens.specs.Octets.{same}
use Rattle.tokens.specs.Usage.{least_usage, most_usage, type_octets}
use Rattle.tokens.specs.declared.strength.Strength.{Strength}
use Rattle.tokens.proofs.Lengths.{message_checksum_length, encrypt_length}
use Rattle.tokens.proofs.Lent.{octets_take, octets_drop, region_length, confounder_stands, body_stands}
use Rattle.tokens.proofs.SameOctets.{same_true, same_self}
use Rattle.tokens.proofs.Steps.{require_done, done_same, done_mapped, within_bounds}
use Rattle.tokens.proofs.message.Sealing.{plain_apart}

apart_plain : (p : Parts) → length p.confounder ≡ 8 → apart (plain p) ≡ p
unfolding plain
apart_plain p h = λ i. record { confounder = take_at p.confounder p.message 8 h i; message = drop_at p.confounder p.message 8 h i }

module _ (key : List ℕ) (strength : Strength) (t : List ℕ) where
  -- ---- What the rule writes is opened

  encrypt_checksum : (p : Parts) → take 16 (encrypt key strength t p) ≡ message_checksum key strength t (plain p)
  unfolding encrypt
  encrypt_checksum p = take_at (message_checksum key strength t (plain p)) _ 16 (message_checksum_length key strength t (plain p))

  encrypt_decrypted : (p : Parts) → decrypted key strength t (encrypt key strength t p) ≡ plain p
  unfolding decrypted encrypt
  encrypt_decrypted p =
      let text = plain p in
      let sum = message_checksum key strength t text in
      let st = key_schedule (k3 key strength t sum) in
      let h = message_checksum_length key strength t text in
      rw (take_at sum (rc4 (k3 key strength t sum) text) 16 h, drop_at sum (rc4 (k3 key strength t sum) text) 16 h) (apply_twice st text)

  pub encrypted_opens : (p : Parts) → length p.confounder ≡ 8 → opened key strength t (encrypt key strength t p) ≡ Ok p
  unfolding opened require
  encrypted_opens p h =
      rw (encrypt_decrypted p, encrypt_checksum p, same_self (message_checksum key strength t (plain p))) (ap Ok (apart_plain p h))

  -- ---- What is opened is what the rule writes

  decrypted_length : (octets : List ℕ) → length (decrypted key strength t octets) ≡ length octets - 16
  unfolding decrypted
  decrypted_length octets = apply_length (key_schedule (k3 key strength t (take 16 octets))) (drop 16 octets) ∙ length-drop 16 octets

  decrypted_octets : (octets : List ℕ) → Octets octets → Octets (decrypted key strength t octets)
  unfolding decrypted
  decrypted_octets octets h =
      let k = k3 key strength t (take 16 octets) in
      apply_octets (key_schedule k) (drop 16 octets) (schedule_octets k) (octets_drop 16 octets h)

  module _ (octets : List ℕ) {p : Parts} (e : opened key strength t octets ≡ Ok p) where
    abbrev text : List ℕ
    text = decrypted key strength t octets

    tests : (same (take 16 octets) (message_checksum key strength t text) ≡ true) × ◌≡◌ {A = Outcome Parts} (Ok (apart text)) (Ok p)
    unfolding opened
    tests = require_done _ _ _ p e

    parts_are : apart text ≡ p
    parts_are = done_same tests.1

    pub opened_length : length (plain p) ≡ length octets - 16
    opened_length = ap (λ (q : Parts). length (plain q)) (sym parts_are) ∙ ap length (plain_apart text) ∙ decrypted_length octets

    pub opened_message : message_length p ≡ length octets - 24
    opened_message = ap message_length (sym parts_are) ∙ length-drop 8 text ∙ (let h = decrypted_length octets in omega arith)

    pub opened_encrypted : encrypt key strength t p ≡ octets
    unfolding encrypt decrypted
    opened_encrypted =
        let sum = same_true (take 16 octets) _ tests.0 in
        let st = key_schedule (k3 key strength t (take 16 octets)) in
        rw (← parts_are, plain_apart text, ← sum) (rw (apply_twice st (drop 16 octets)) (take-append-drop 16 octets))

    module _ (bytes : Octets octets) (least : 24 ≤ length octets) (most : length octets ≤ 24 + most_message) where
      pub confounder_eight : length p.confounder ≡ 8
      confounder_eight = ap (λ (q : Parts). length q.confounder) (sym parts_are) ∙ length-take-le 8 text (omega (arith, decrypted_length octets))

      pub confounder_octets : Octets p.confounder
      confounder_octets = subst (λ (q : Parts). Octets q.confounder) parts_are (octets_take 8 text (decrypted_octets octets bytes))

      pub message_octets : Octets p.message
      message_octets = subst (λ (q : Parts). Octets q.message) parts_are (octets_drop 8 text (decrypted_octets octets bytes))

      pub message_most : length p.message ≤ most_message
      message_most = omega (arith, opened_message)

-- ---- For a usage

module _ (key : List ℕ) (strength : Strength) (usage : ℕ) where
  pub written_opens : (p : Parts) (octets : List ℕ) → Written key strength usage p octets → opened key strength (type_octets usage) octets ≡ Ok p
  written_opens p octets w = ap (opened key strength (type_octets usage)) (sym w.as_written) ∙ encrypted_opens key strength (type_octets usage) p w.confounder_eight

  pub only_one : (p q : Parts) (octets : List ℕ) → Written key strength usage p octets → Written key strength usage q octets → p ≡ q
  only_one p q octets v w = done_same (sym (written_opens p octets v) ∙ written_opens q octets w)

  written_length : (p : Parts) (octets : List ℕ) → Written key strength usage p octets → length octets ≡ 24 + length p.message
  unfolding plain
  written_length p octets w =
      ap length (sym w.as_written) ∙ encrypt_length key strength (type_octets usage) p ∙ simp length-append (omega (arith, w.confounder_eight))

  -- ---- In a region

  module _ (buf : List ℕ) (start n : ℕ) where
    abbrev found : Outcome Parts
    found = decryption key strength usage buf start n

    written_found : start + n ≤ length buf → (p : Parts) → Written key strength usage p (region start n buf) → found ≡ Ok p
    unfolding decryption require
    written_found h p w =
        let l : n ≡ 24 + length p.message = sym (region_length buf start n h) ∙ written_length p (region start n buf) w in
        rw (
          le-leb 24 n (omega arith),
          le-leb n (24 + most_message) (omega (arith, w.message_most)),
          le-leb (start + n) (length buf) h,
          le-leb least_usage usage w.usage_least,
          le-leb usage most_usage w.usage_most,
        ) (written_opens p (region start n buf) w)

    found_written : Octets buf → (p : Parts) → found ≡ Ok p → (start + n ≤ length buf) × Written key strength usage p (region start n buf)
    unfolding decryption
    found_written bytes p e =
        let sized = require_done _ _ _ p e in
        let fits = require_done _ _ _ p sized.1 in
        let named = require_done _ _ _ p fits.1 in
        let bounds = within_bounds overhead (overhead + most_message) n sized.0 in
        let usages = within_bounds least_usage most_usage usage named.0 in
        let h = leb-true (start + n) (length buf) fits.0 in
        let l = region_length buf start n h in
        let octets = octets_take n (drop start buf) (octets_drop start buf bytes) in
        let least : 24 ≤ length (region start n buf) = omega (arith, bounds.0) in
        let most : length (region start n buf) ≤ 24 + most_message = omega (arith, bounds.1) in (
          h,
          record {
            usage_least = usages.0;
            usage_most = usages.1;
            confounder_eight = confounder_eight key strength (type_octets usage) (region start n buf) named.1 octets least most;
            confounder_octets = confounder_octets key strength (type_octets usage) (region start n buf) named.1 octets least most;
            message_most = message_most key strength (type_octets usage) (region start n buf) named.1 octets least most;
            message_octets = message_octets key strength (type_octets usage) (region start n buf) named.1 octets least most;
            as_written = opened_encrypted key strength (type_octets usage) (region start n buf) named.1;
          },
        )

    handed_back : start + n ≤ length buf → (p : Parts) → Written key strength usage p (region start n buf)
        → HandedBack p start 0 (message_length p) (buffer_after plain (start + 16) buf (Ok p))
    unfolding plain
    handed_back h p w =
        let l : n ≡ 24 + length p.message = sym (region_length buf start n h) ∙ written_length p (region start n buf) w in
        let inside : start + 16 ≤ length buf = omega arith in
        let eight = w.confounder_eight in
        record {
          done_is = refl;
          length_is = refl;
          confounder_stands = confounder_stands (start + 16) p.confounder p.message buf eight inside;
          message_stands = body_stands (start + 16) p.confounder p.message buf eight inside (start + 24) (length p.message) (omega arith) refl;
        }

    -- what the definition gives meets the demand
    pub reads_exactly : Octets buf → {answer : Outcome ℕ} {after : List ℕ} → answer ≡ map_ok message_length found → after ≡ buffer_after plain (start + 16) buf found
        → ReadsExactly key strength usage buf start n (status_number answer) (number_found answer) after
    reads_exactly bytes {answer} {after} ea eb =
        record {
          only_then = λ z.
              let d = done_mapped message_length found (ap status_number (sym ea) ∙ z) in
              let w = found_written bytes d.0 d.1 in
              (w.0, (d.0, w.1));
          always_then = λ h p w. rw (ea, eb, written_found h p w) (handed_back h p w);
          one_set = λ p q. only_one p q (region start n buf);
        }
