-- Reading a MIC token succeeds exactly on what the rule writes: of its octets, and of a region of a buffer.
use mathlib.Core.Path.{◌≡◌, sym, ap, ◌∙◌, subst}
use mathlib.Core.List.{List, [], ◌++◌, append-nil}
use Prim.Native.Nat.{ℕ, ◌+◌, ◌≤◌, ◌<◌}
use native.Mathlib.Omega.{arith}
use lib.ListN.{length, drop, drop_of_length-le}
use borrow.Author.Tests.{leb-true, le-leb}
use Rattle.std.specs.Prelude.{Ok}
use Rattle.primitives.specs.Octets.{Octets}
use Rattle.tokens.specs.Answer.{Outcome, require, and_then, status_number, number_found}
use Rattle.tokens.specs.Limits.{most_message, region}
use Rattle.tokens.specs.Mic.{header, mic_checksum, mic_token, mic_length, mic_number, mic_reading, Written, ReadsExactly}
use Rattle.tokens.specs.Octets.{same}
use Rattle.tokens.specs.Token.{sequence_numbers, front, header_in, checksum_in, number_in}
use Rattle.tokens.specs.declared.answer.Refusal.TheVariants.{Checksum}
use Rattle.tokens.specs.declared.context.Context.{Context}
use Rattle.tokens.proofs.Fronts.{front_header, front_checksum, front_number, number_fits, front_back}
use Rattle.tokens.proofs.Lengths.{mic_header_length, mic_checksum_length, mic_length_lem}
use Rattle.tokens.proofs.Lent.{octets_take, octets_drop, region_length}
use Rattle.tokens.proofs.SameOctets.{same_true, same_self}
use Rattle.tokens.proofs.Steps.{require_done, then_done, done_same, within_bounds, done_told}

module _ (context : Context) (text : List ℕ) where
  abbrev sum : List ℕ
  sum = mic_checksum context text

  abbrev sum_eight : length sum ≡ 8
  sum_eight = mic_checksum_length context text

  -- ---- What the rule writes is read

  module _ (n : ℕ) (fits : n < sequence_numbers) where
    -- with nothing after it
    read_alone : mic_number context text (front context header sum n ++ []) ≡ Ok n
    unfolding mic_number require and_then
    read_alone =
        rw (
          front_header context header sum n mic_header_length sum_eight [],
          same_self header,
          front_number context header sum n mic_header_length sum_eight [] fits,
          front_checksum context header sum n mic_header_length sum_eight [],
          same_self sum,
        )

    token_read : mic_number context text (mic_token context n text) ≡ Ok n
    unfolding mic_token
    token_read = ap (mic_number context text) (sym (append-nil (front context header sum n))) ∙ read_alone

  -- ---- What is read is what the rule writes

  module _ (octets : List ℕ) (bytes : Octets octets) (size : length octets ≡ 24) where
    read_token : (n : ℕ) → mic_number context text octets ≡ Ok n → (n < sequence_numbers) × (mic_token context n text ≡ octets)
    unfolding mic_number mic_token
    read_token n e =
        let known = require_done _ _ _ n e in
        let numbered = then_done (λ (m : ℕ). require (same (checksum_in octets) sum) Checksum (Ok m)) (number_in context octets) n known.1 in
        let signed = require_done (same (checksum_in octets) sum) Checksum (Ok numbered.0) n numbered.1.1 in
        let found : number_in context octets ≡ Ok n = numbered.1.0 ∙ signed.1 in
        let least : 24 ≤ length octets = omega arith in
        let past : length octets ≤ 24 = omega arith in
        let back = front_back context octets bytes least found in (
          number_fits context octets bytes least found,
          rw (← same_true (header_in octets) header known.0, ← same_true (checksum_in octets) sum signed.0)
              (sym (append-nil (front context (header_in octets) (checksum_in octets) n)) ∙ ap (λ (l : List ℕ). front context (header_in octets) (checksum_in octets) n ++ l) (sym (drop_of_length-le octets past)) ∙ back),
        )

  -- ---- In a region

  written_reads : (n : ℕ) (octets : List ℕ) → Written context text n octets → mic_number context text octets ≡ Ok n
  written_reads n octets w = ap (mic_number context text) (sym w.as_written) ∙ token_read n w.number_fits

  pub only_one : (j k : ℕ) (octets : List ℕ) → Written context text j octets → Written context text k octets → j ≡ k
  only_one j k octets v w = done_same (sym (written_reads j octets v) ∙ written_reads k octets w)

  module _ (buf : List ℕ) (start n : ℕ) where
    abbrev found : Outcome ℕ
    found = mic_reading context text buf start n

    written_found : start + n ≤ length buf → (k : ℕ) → Written context text k (region start n buf) → found ≡ Ok k
    unfolding mic_reading require
    written_found h k w =
        let size : n ≡ 24 = sym (region_length buf start n h) ∙ ap length (sym w.as_written) ∙ mic_length_lem context text k in
        let least : mic_length ≤ n = omega arith in
        let most : n ≤ mic_length = omega arith in
        rw (
          le-leb 0 (length text) (omega arith),
          le-leb (length text) most_message w.text_most,
          le-leb mic_length n least,
          le-leb n mic_length most,
          le-leb (start + n) (length buf) h,
        ) (written_reads k (region start n buf) w)

    found_written : Octets buf → (k : ℕ) → found ≡ Ok k → (start + n ≤ length buf) × Written context text k (region start n buf)
    unfolding mic_reading
    found_written bytes k e =
        let sized = require_done _ _ _ k e in
        let whole = require_done _ _ _ k sized.1 in
        let fits = require_done _ _ _ k whole.1 in
        let most = (within_bounds 0 most_message (length text) sized.0).1 in
        let bounds = within_bounds mic_length mic_length n whole.0 in
        let h = leb-true (start + n) (length buf) fits.0 in
        let size : length (region start n buf) ≡ 24 = region_length buf start n h ∙ omega (arith, bounds.0, bounds.1) in
        let octets = octets_take n (drop start buf) (octets_drop start buf bytes) in
        let read = read_token (region start n buf) octets size k fits.1 in
        (h, record { number_fits = read.0; text_most = most; as_written = read.1 })

    -- what the definition gives meets the demand
    pub reads_exactly : Octets buf → {answer : Outcome ℕ} → answer ≡ found → ReadsExactly context text buf start n (status_number answer) (number_found answer)
    reads_exactly bytes {answer} e =
        record {
          only_then = λ z.
              let d = done_told found (ap status_number (sym e) ∙ z) in
              let w = found_written bytes d.0 d.1 in
              (w.0, subst (λ (k : ℕ). Written context text k (region start n buf)) (sym (ap number_found (e ∙ d.1))) w.1);
          always_then = λ h k w. let told = e ∙ written_found h k w in (ap status_number told, ap number_found told);
          one_number = λ j k. only_one j k (region start n buf);
        }
