-- Opening a Wrap token succeeds exactly on what the rule writes: of its octets, and of a region of a buffer.
use mathlib.Core.Path.{◌≡◌, refl, sym, ap, ◌∙◌, subst}
use mathlib.Core.Bool.{Bool, true, false, cond}
use mathlib.Core.List.{List, [], ◌∷◌, ◌++◌, append_assoc}
use Prim.Native.Nat.{ℕ, zero, suc, ◌+◌, ◌-◌, ◌≤◌, ◌<◌}
use native.Mathlib.Omega.{arith}
use lib.ListN.{length, get_or, take, drop, length-append, length-drop, take-append-drop}
use lib.Seq.{take_at, drop_at, get_or_at, get_or-drop, length-take-le}
use borrow.Author.Tests.{eqb-true, eq-eqb, leb-true, le-leb}
use Rattle.tokens.specs.declared.answer.Refusal.{Refusal}
use Rattle.std.specs.Prelude.{Ok, Result}
use Rattle.primitives.specs.Octets.{Octets}
use Rattle.primitives.specs.Rc4.{key_schedule}
use Rattle.primitives.proofs.Laws.{apply_octets, apply_twice, schedule_octets}
use Rattle.tokens.specs.Answer.{Outcome, require, and_then, unwrapped_sequence, unwrapped_sealed, unwrapped_length, status_number}
use Rattle.tokens.specs.Limits.{most_message, region, buffer_after}
use Rattle.tokens.specs.Octets.{same}
use Rattle.tokens.specs.Token.{sequence_numbers, sealing_key, front, header_in, checksum_in, number_in}
use Rattle.tokens.specs.Wrap.{Parts, header, plain, wrap_checksum, under_seal, wrap_token, sealed_in, apart, verified, opened, wrap_opening, unwrapped, unwrapped_answer, Written, HandedBack, OpensExactly}
use Rattle.tokens.specs.declared.answer.Refusal.TheVariants as refusal
use Rattle.tokens.specs.declared.answer.Unwrapped.{Unwrapped}
use Rattle.tokens.specs.declared.context.Context.{Context}
use Rattle.tokens.proofs.Fronts.{front_header, front_checksum, front_rest, front_number, number_fits, front_back}
use Rattle.tokens.proofs.Lengths.{wrap_header_length, wrap_checksum_length, seal_length, plain_length, wrap_length_lem}
use Rattle.tokens.proofs.Lent.{octets_take, octets_drop, region_length, confounder_stands, body_stands}
use Rattle.tokens.proofs.SameOctets.{same_true, same_self}
use Rattle.tokens.proofs.Steps.{require_done, then_done, done_same, within_bounds, done_mapped}

-- ---- Headers and texts

-- the headers of sealed and clear tokens are told apart
header_told : (sealed : Bool) (octets : List ℕ) → header_in octets ≡ header sealed → sealed_in octets ≡ Ok sealed
unfolding sealed_in header same require
header_told true octets e = rw e
header_told false octets e = rw e

told : (h : List ℕ) (sealed : Bool) (b d : Bool) → same h (header true) ≡ b → same h (header false) ≡ d
    → cond b (Ok true) (require d refusal.Header (Ok false)) ≡ Ok sealed → h ≡ header sealed
unfolding require
told h sealed true d eb ed e = same_true h (header true) eb ∙ ap header (done_same e)
told h sealed false true eb ed e = same_true h (header false) ed ∙ ap header (done_same e)
told h sealed false false eb ed e = cc

told_header : (octets : List ℕ) (sealed : Bool) → sealed_in octets ≡ Ok sealed → header_in octets ≡ header sealed
unfolding sealed_in
told_header octets sealed e = told (header_in octets) sealed (same (header_in octets) (header true)) (same (header_in octets) (header false)) refl refl e

-- run under the seal again, a text is back
pub seal_twice : (context : Context) (sealed : Bool) (n : ℕ) (text : List ℕ) → under_seal context sealed n (under_seal context sealed n text) ≡ text
unfolding under_seal
seal_twice context true n text = apply_twice (key_schedule (sealing_key context n)) text
seal_twice context false n text = refl

seal_octets : (context : Context) (sealed : Bool) (n : ℕ) (text : List ℕ) → Octets text → Octets (under_seal context sealed n text)
unfolding under_seal
seal_octets context true n text h = apply_octets (key_schedule (sealing_key context n)) text (schedule_octets (sealing_key context n)) h
seal_octets context false n text h = h

-- ---- A plain text and its parts

last_split : (l : List ℕ) (n : ℕ) → length l ≡ suc n → take n l ++ (get_or l n 0 ∷ []) ≡ l
last_split [] n e = absurd (omega arith)
last_split (x ∷ []) zero e = refl
last_split (x ∷ []) (suc n) e = absurd (omega arith)
last_split (x ∷ y ∷ l) zero e = absurd (omega arith)
last_split (x ∷ y ∷ l) (suc n) e = ap (λ (m : List ℕ). x ∷ m) (last_split (y ∷ l) n (omega arith))

pub plain_apart : (n : ℕ) (sealed : Bool) (text : List ℕ) → 9 ≤ length text → get_or text (length text - 1) 0 ≡ 1 → plain (apart n sealed text) ≡ text
unfolding plain
plain_apart n sealed text least e =
    let body : List ℕ = drop 8 text in
    let size : length body ≡ suc (length text - 9) = length-drop 8 text ∙ omega arith in
    let at : 8 + (length text - 9) ≡ length text - 1 = omega arith in
    let last : get_or body (length text - 9) 0 ≡ 1 = get_or-drop 8 text (length text - 9) 0 ∙ ap (λ (k : ℕ). get_or text k 0) at ∙ e in
    ap (λ (l : List ℕ). take 8 text ++ l) (ap (λ (x : ℕ). take (length text - 9) body ++ (x ∷ [])) (sym last) ∙ last_split body (length text - 9) size)
    ∙ take-append-drop 8 text

module _ (p : Parts) (eight : length p.confounder ≡ 8) where
  plain_last : get_or (plain p) (length (plain p) - 1) 0 ≡ 1
  unfolding plain
  plain_last =
      let whole = append_assoc p.confounder p.message (1 ∷ []) in
      ap (λ (l : List ℕ). get_or l (length l - 1) 0) (sym whole)
      ∙ get_or_at (p.confounder ++ p.message) 1 [] 0 (length ((p.confounder ++ p.message) ++ (1 ∷ [])) - 1) (simp length-append (omega arith))

  behind : drop 8 (plain p) ≡ p.message ++ (1 ∷ [])
  unfolding plain
  behind = drop_at p.confounder (p.message ++ (1 ∷ [])) 8 eight

  front_eight : take 8 (plain p) ≡ p.confounder
  unfolding plain
  front_eight = take_at p.confounder (p.message ++ (1 ∷ [])) 8 eight

  middle : take (length (plain p) - 9) (drop 8 (plain p)) ≡ p.message
  middle = rw behind (take_at p.message (1 ∷ []) (length (plain p) - 9) (omega (arith, plain_length p eight)))

  apart_plain : apart p.sequence p.sealed (plain p) ≡ p
  apart_plain = λ i. record { sequence = p.sequence; sealed = p.sealed; confounder = front_eight i; message = middle i }

  -- ---- What the rule writes is opened

  module _ (context : Context) where
    abbrev sum : List ℕ
    sum = wrap_checksum context p.sealed (plain p)

    abbrev body : List ℕ
    body = under_seal context p.sealed p.sequence (plain p)

    abbrev size_header : length (header p.sealed) ≡ 8
    size_header = wrap_header_length p.sealed

    abbrev size_sum : length sum ≡ 8
    size_sum = wrap_checksum_length context p.sealed (plain p)

    pub token_opened : p.sequence < sequence_numbers → opened context (wrap_token context p) ≡ Ok p
    unfolding opened and_then verified require wrap_token
    token_opened fits =
        rw (
          header_told p.sealed _ (front_header context (header p.sealed) sum p.sequence size_header size_sum body),
          front_number context (header p.sealed) sum p.sequence size_header size_sum body fits,
          front_checksum context (header p.sealed) sum p.sequence size_header size_sum body,
          front_rest context (header p.sealed) sum p.sequence size_header size_sum body,
          seal_twice context p.sealed p.sequence (plain p),
          same_self sum,
          eq-eqb (get_or (plain p) (length (plain p) - 1) 0) 1 plain_last,
        )
        (ap Ok apart_plain)

-- ---- What is opened is what the rule writes

-- octets whose fields are those of some parts
fields_written : (context : Context) (octets : List ℕ) (p : Parts) {sealed : Bool} {n : ℕ} → p.sealed ≡ sealed → p.sequence ≡ n → plain p ≡ under_seal context sealed n (drop 24 octets)
    → checksum_in octets ≡ wrap_checksum context sealed (under_seal context sealed n (drop 24 octets)) → header_in octets ≡ header sealed
    → front context (header_in octets) (checksum_in octets) n ++ drop 24 octets ≡ octets → wrap_token context p ≡ octets
unfolding wrap_token
fields_written context octets p {sealed} {n} es en ep sum head back = rw (ep, es, en, ← sum, ← head, seal_twice context sealed n (drop 24 octets)) back

module _ (context : Context) (octets : List ℕ) {p : Parts} (e : opened context octets ≡ Ok p) where
  -- what the steps gave
  record Steps : Type 0 where
    sealed : Bool
    number : ℕ
    sealed_is : sealed_in octets ≡ Ok sealed
    number_is : number_in context octets ≡ Ok number
    sum_is : checksum_in octets ≡ wrap_checksum context sealed (under_seal context sealed number (drop 24 octets))
    last_is : get_or (under_seal context sealed number (drop 24 octets)) (length (under_seal context sealed number (drop 24 octets)) - 1) 0 ≡ 1
    parts_are : apart number sealed (under_seal context sealed number (drop 24 octets)) ≡ p

  steps : Steps
  unfolding opened verified
  steps =
      let s = then_done _ (sealed_in octets) p e in
      let n = then_done _ (number_in context octets) p s.1.1 in
      let v = then_done _ _ p n.1.1 in
      let signed = require_done _ _ _ v.0 v.1.0 in
      let padded = require_done _ _ _ v.0 signed.1 in
      record {
        sealed = s.0;
        number = n.0;
        sealed_is = s.1.0;
        number_is = n.1.0;
        sum_is = same_true _ _ signed.0;
        last_is = eqb-true _ _ padded.0;
        parts_are = ap (apart n.0 s.0) (done_same padded.1) ∙ done_same v.1.1;
      }

  abbrev text : List ℕ
  text = under_seal context steps.sealed steps.number (drop 24 octets)

  text_length : length text ≡ length octets - 24
  text_length = seal_length context steps.sealed steps.number (drop 24 octets) ∙ length-drop 24 octets

  module _ (least : 33 ≤ length octets) where
    plain_is : plain p ≡ text
    plain_is = ap plain (sym steps.parts_are) ∙ plain_apart steps.number steps.sealed text (omega (arith, text_length)) steps.last_is

    pub opened_length : length (plain p) ≡ length octets - 24
    opened_length = ap length plain_is ∙ text_length

    confounder_eight : length p.confounder ≡ 8
    confounder_eight = ap (λ (q : Parts). length q.confounder) (sym steps.parts_are) ∙ length-take-le 8 text (omega (arith, text_length))

    pub opened_message : length p.message ≡ length octets - 33
    opened_message = let h = plain_length p confounder_eight in omega (arith, opened_length)

    module _ (bytes : Octets octets) where
      text_octets : Octets text
      text_octets = seal_octets context steps.sealed steps.number (drop 24 octets) (octets_drop 24 octets bytes)

      as_written : wrap_token context p ≡ octets
      as_written =
          let q = steps.parts_are in
          let least-front : 24 ≤ length octets = omega arith in
          fields_written context octets p (ap (λ (x : Parts). x.sealed) (sym q)) (ap (λ (x : Parts). x.sequence) (sym q)) plain_is steps.sum_is (told_header octets steps.sealed steps.sealed_is)
          (front_back context octets bytes least-front steps.number_is)

      pub opened_written : length octets ≤ 33 + most_message → Written context p octets
      opened_written most =
          let q = steps.parts_are in
          record {
            number_fits = subst (λ (x : Parts). x.sequence < sequence_numbers) q (let least-front : 24 ≤ length octets = omega arith in number_fits context octets bytes least-front steps.number_is);
            confounder_eight = confounder_eight;
            confounder_octets = subst (λ (x : Parts). Octets x.confounder) q (octets_take 8 text text_octets);
            message_most = omega (arith, opened_message);
            message_octets = subst (λ (x : Parts). Octets x.message) q (octets_take (length text - 9) (drop 8 text) (octets_drop 8 text text_octets));
            as_written = as_written;
          }

-- ---- In a region

module _ (context : Context) where
  written_opens : (p : Parts) (octets : List ℕ) → Written context p octets → opened context octets ≡ Ok p
  written_opens p octets w = ap (opened context) (sym w.as_written) ∙ token_opened p w.confounder_eight context w.number_fits

  pub only_one : (p q : Parts) (octets : List ℕ) → Written context p octets → Written context q octets → p ≡ q
  only_one p q octets v w = done_same (sym (written_opens p octets v) ∙ written_opens q octets w)

  written_length : (p : Parts) (octets : List ℕ) → Written context p octets → length octets ≡ 33 + length p.message
  written_length p octets w = ap length (sym w.as_written) ∙ wrap_length_lem p w.confounder_eight context

  module _ (buf : List ℕ) (start n : ℕ) where
    abbrev found : Outcome Parts
    found = wrap_opening context buf start n

    written_found : start + n ≤ length buf → (p : Parts) → Written context p (region start n buf) → found ≡ Ok p
    unfolding wrap_opening require
    written_found h p w =
        let size : n ≡ 33 + length p.message = sym (region_length buf start n h) ∙ written_length p (region start n buf) w in
        rw (le-leb 33 n (omega arith), le-leb n (33 + most_message) (omega (arith, w.message_most)), le-leb (start + n) (length buf) h)
        (written_opens p (region start n buf) w)

    found_written : Octets buf → (p : Parts) → found ≡ Ok p → (start + n ≤ length buf) × Written context p (region start n buf)
    unfolding wrap_opening
    found_written bytes p e =
        let sized = require_done _ _ _ p e in
        let fits = require_done _ _ _ p sized.1 in
        let bounds = within_bounds 33 (33 + most_message) n sized.0 in
        let h = leb-true (start + n) (length buf) fits.0 in
        let size = region_length buf start n h in
        let octets = octets_take n (drop start buf) (octets_drop start buf bytes) in
        let least : 33 ≤ length (region start n buf) = omega (arith, bounds.0) in
        let most : length (region start n buf) ≤ 33 + most_message = omega (arith, bounds.1) in
        (h, opened_written context (region start n buf) fits.1 least octets most)

    handed_back : start + n ≤ length buf → (p : Parts) → Written context p (region start n buf)
        → HandedBack p start 0 p.sequence p.sealed (length p.message) (buffer_after plain (start + 24) buf (Ok p))
    unfolding plain
    handed_back h p w =
        let size : n ≡ 33 + length p.message = sym (region_length buf start n h) ∙ written_length p (region start n buf) w in
        let inside : start + 24 ≤ length buf = omega arith in
        let eight = w.confounder_eight in
        let body : List ℕ = p.message ++ (1 ∷ []) in
        record {
          done_is = refl;
          sequence_is = refl;
          sealed_is = refl;
          length_is = refl;
          confounder_stands = confounder_stands (start + 24) p.confounder body buf eight inside;
          message_stands = body_stands (start + 24) p.confounder body buf eight inside (start + 32) (length p.message + 1) (omega arith) (length-append p.message (1 ∷ []));
        }

    -- what the definition gives meets the demand
    pub opens_exactly : Octets buf → {answer : Result Unwrapped Refusal} {after : List ℕ} → answer ≡ unwrapped_answer found → after ≡ buffer_after plain (start + 24) buf found
        → OpensExactly context buf start n (status_number answer) (unwrapped_sequence answer) (unwrapped_sealed answer) (unwrapped_length answer) after
    opens_exactly bytes {answer} {after} ea eb =
        record {
          only_then = λ z.
              let d = done_mapped unwrapped found (ap status_number (sym ea) ∙ z) in
              let w = found_written bytes d.0 d.1 in
              (w.0, (d.0, w.1));
          always_then = λ h p w. rw (ea, eb, written_found h p w) (handed_back h p w);
          one_set = λ p q. only_one p q (region start n buf);
        }
