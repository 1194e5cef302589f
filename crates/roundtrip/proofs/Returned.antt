-- From what a writer and its reader promise: what comes back is what was written.
use mathlib.Core.Path.{◌≡◌, refl, sym, ap, ◌∙◌, subst}
use mathlib.Core.Bool.{Bool}
use mathlib.Core.List.{List}
use Prim.Native.Nat.{ℕ, ◌+◌, ◌≤◌, ◌<◌}
use native.Mathlib.Omega.{arith}
use mir.Syntax.{w8}
use mir.Val.{Fits}
use lib.ListN.{length, get_or, length-take, length-drop}
use Rattle.std.specs.Prelude.{Ok, Err, IsErrAnd}
use Rattle.primitives.specs.Octets.{Octets}
use Rattle.frame.proofs.Laws.{frame_length, framed_mic_made, framed_wrap_made}
use Rattle.frame.specs.Framing.{lead_length}
use Rattle.frame.specs.Mic as FramedMic
use Rattle.frame.specs.Wrap as FramedWrap
use Rattle.tokens.specs.Answer.{Outcome, status_number, number_found, map_ok, unwrapped_sequence, unwrapped_sealed, unwrapped_length}
use Rattle.tokens.specs.Limits.{region, placed, buffer_after}
use Rattle.tokens.specs.Message as Message
use Rattle.tokens.specs.Message.{all_octets}
use Rattle.tokens.specs.Mic as Mic
use Rattle.tokens.specs.Token.{sequence_numbers}
use Rattle.tokens.specs.Usage.{type_octets}
use Rattle.tokens.specs.Wrap as Wrap
use Rattle.tokens.specs.declared.answer.Refusal.{Refusal}
use Rattle.tokens.specs.declared.answer.Unwrapped.{Unwrapped}
use Rattle.tokens.specs.declared.context.Context.{Context}
use Rattle.tokens.specs.declared.strength.Strength.{Strength}
use Rattle.tokens.proofs.Laws.{never_zero, region_octets, placed_stands, placed_length, message_length_lem as encrypt_length, mic_length_lem, wrap_length_lem, message_made, mic_made, wrap_made}
use Rattle.roundtrip.specs.Returns.{MessageReturns, MicReturns, WrapReturns, FramedWrapReturns}

-- what is made of octets
pub octets_of : (l : List ℕ) → ((i : ℕ) → Fits w8 (get_or l i 0)) → Octets l
octets_of l each i = (each i).fits

-- what a `?` returns
exit_is : {A : Type 0} {q : Refusal} (answer : Outcome A) → IsErrAnd answer (λ e. e ≡ q) → answer ≡ Err q
exit_is (Ok a) given = absurd given
exit_is (Err r) given = ap Err given

-- ---- What the writer left

module _ (written : Outcome (List ℕ)) (buf : List ℕ) (start : ℕ) {w : Outcome ℕ} {between : List ℕ} (w-is : w ≡ map_ok length written)
    (between_is : between ≡ buffer_after all_octets start buf written) where
  -- the octets that it made stand in the region that it answers
  left : {octets : List ℕ} → written ≡ Ok octets → between ≡ placed start octets buf
  left e = between_is ∙ ap (buffer_after all_octets start buf) e

  answered : {n : ℕ} {octets : List ℕ} → w ≡ Ok n → written ≡ Ok octets → n ≡ length octets
  answered told e = ap number_found (sym told ∙ w-is ∙ ap (map_ok length) e)

  stands : {n : ℕ} {octets : List ℕ} → w ≡ Ok n → written ≡ Ok octets → start + length octets ≤ length buf → (start + n ≤ length between) × (region start n between ≡ octets)
  stands {n} {octets} told e inside =
      let size : n ≡ length octets = answered told e in
      let long : length between ≡ length buf = ap length (left e) ∙ placed_length start octets buf inside in
      (omega arith, rw (size, left e) (placed_stands start octets buf inside))

  not_refused : {n : ℕ} {q : Refusal} → w ≡ Ok n → written ≡ Err q → ⊥
  not_refused told e = let both = sym told ∙ w-is ∙ ap (map_ok length) e in cc

  not_done : {q : Refusal} {octets : List ℕ} → w ≡ Err q → written ≡ Ok octets → ⊥
  not_done told e = let both = sym told ∙ w-is ∙ ap (map_ok length) e in cc

  -- a refusal of the writer is the answer, and the buffer is as it came
  passed_on : {A : Type 0} {answer : Outcome A} {p q : Refusal} → w ≡ Err q → IsErrAnd answer (λ e. e ≡ q) → written ≡ Err p → (answer ≡ Err p) × (between ≡ buf)
  passed_on {A} {answer} {p} {q} told given e =
      let both = sym told ∙ w-is ∙ ap (map_ok length) e in
      let same : q ≡ p = cc in
      (exit_is answer given ∙ ap Err same, between_is ∙ ap (buffer_after all_octets start buf) e)

-- an answer of done is the number
number_is : (answer : Outcome ℕ) {n : ℕ} → status_number answer ≡ 0 → number_found answer ≡ n → answer ≡ Ok n
number_is (Ok m) z e = ap Ok e
number_is (Err q) z e = absurd (never_zero q z)

message_length_lem : (buf : List ℕ) (start n : ℕ) → start + n ≤ length buf → length (region start n buf) ≡ n
message_length_lem buf start n inside = simp (length-take, length-drop) (omega arith)

-- ---- Encrypted messages

module _ (key : List ℕ) (strength : Strength) (usage : ℕ) (confounder : List ℕ) (buf : List ℕ) (start len : ℕ) where
  abbrev encrypted : Outcome (List ℕ)
  encrypted = Message.encryption key strength usage confounder buf start len

  abbrev message_parts : Message.Parts
  message_parts = Message.parts confounder (region (start + 24) len buf)

  module _ {w : Outcome ℕ} {between : List ℕ} (w-is : w ≡ map_ok length encrypted) (between_is : between ≡ buffer_after all_octets start buf encrypted) where
    pub message_outward : {answer : Outcome ℕ} {q : Refusal} → w ≡ Err q → IsErrAnd answer (λ e. e ≡ q) → MessageReturns key strength usage encrypted message_parts start buf answer between
    message_outward told given =
        record {
          back = λ octets e. absurd (not_done encrypted buf start w-is between_is told e);
          buffer = λ octets e. absurd (not_done encrypted buf start w-is between_is told e);
          outward = λ p e. passed_on encrypted buf start w-is between_is told given e;
        }

    message_written : length confounder ≡ 8 → Octets confounder → Octets buf → {octets : List ℕ} → encrypted ≡ Ok octets
        → (start + length octets ≤ length buf) × Message.Written key strength usage message_parts octets
    message_written eight confounder_octets bytes {octets} e =
        let made = message_made key strength usage confounder buf start len e in
        let size = message_length_lem buf (start + 24) len (omega (arith, made.1)) in
        let whole : length octets ≡ 24 + len = ap length made.4 ∙ encrypt_length key strength (type_octets usage) message_parts eight ∙ omega arith in (
          omega (arith, made.1),
          record {
            usage_least = made.2;
            usage_most = made.3;
            confounder_eight = eight;
            confounder_octets = confounder_octets;
            message_most = omega (arith, made.0);
            message_octets = region_octets (start + 24) len buf bytes;
            as_written = sym made.4;
          },
        )

    pub message_returned : length confounder ≡ 8 → Octets confounder → Octets buf → {m : ℕ} {answer : Outcome ℕ} {after : List ℕ} → w ≡ Ok m
        → after ≡ buffer_after Message.plain (start + 16) between (Message.decryption key strength usage between start m)
        → Message.ReadsExactly key strength usage between start m (status_number answer) (number_found answer) after → MessageReturns key strength usage encrypted message_parts start buf answer after
    message_returned eight confounder_octets bytes {m} {answer} {after} told after_is exact =
        record {
          back = λ octets e.
              let w = message_written eight confounder_octets bytes e in
              let there = stands encrypted buf start w-is between_is told e w.0 in
              exact.always_then there.0 message_parts (subst (Message.Written key strength usage message_parts) (sym there.1) w.1);
          buffer = λ octets e. rw (← left encrypted buf start w-is between_is e, ← answered encrypted buf start w-is between_is told e) after_is;
          outward = λ p e. absurd (not_refused encrypted buf start w-is between_is told e);
        }

-- ---- MIC tokens, framed or not

module _ (written : Outcome (List ℕ)) (n : ℕ) (buf : List ℕ) (start : ℕ) {w : Outcome ℕ} {between : List ℕ} (w-is : w ≡ map_ok length written)
    (between_is : between ≡ buffer_after all_octets start buf written) where
  pub mic_outward : {answer : Outcome ℕ} {q : Refusal} → w ≡ Err q → IsErrAnd answer (λ e. e ≡ q) → MicReturns written n start buf answer between
  mic_outward told given =
      record {
        back = λ octets e. absurd (not_done written buf start w-is between_is told e);
        buffer = λ octets e. absurd (not_done written buf start w-is between_is told e);
        outward = λ p e. passed_on written buf start w-is between_is told given e;
      }

  -- what was made is written by the rules, and what they write is read
  pub mic_returned : (Written : List ℕ → Type 0) → ((octets : List ℕ) → written ≡ Ok octets → (start + length octets ≤ length buf) × Written octets) → {m : ℕ} {answer : Outcome ℕ}
      → w ≡ Ok m → (start + m ≤ length between → Written (region start m between) → (status_number answer ≡ 0) × (number_found answer ≡ n)) → MicReturns written n start buf answer between
  mic_returned Written made {m} {answer} told reads =
      record {
        back = λ octets e.
            let w = made octets e in
            let there = stands written buf start w-is between_is told e w.0 in
            let read = reads there.0 (subst Written (sym there.1) w.1) in
            number_is answer read.0 read.1;
        buffer = λ octets e. left written buf start w-is between_is e;
        outward = λ p e. absurd (not_refused written buf start w-is between_is told e);
      }

module _ (context : Context) (n : ℕ) (text buf : List ℕ) (start : ℕ) (fits : n < sequence_numbers) (octets : List ℕ) where
  pub mic_written : Mic.mic_writing context n text buf start ≡ Ok octets → (start + length octets ≤ length buf) × Mic.Written context text n octets
  mic_written e =
      let made = mic_made context n text buf start e in
      let whole : length octets ≡ 24 = ap length made.2 ∙ mic_length_lem context n text in
      (omega (arith, made.1), record { number_fits = fits; text_most = made.0; as_written = sym made.2 })

  pub framed_mic_written : FramedMic.framed_mic_writing context n text buf start ≡ Ok octets → (start + length octets ≤ length buf) × FramedMic.Written context text n octets
  framed_mic_written e =
      let made = framed_mic_made context n text buf start e in
      let token = Mic.mic_token context n text in
      let size = mic_length_lem context n text in
      let whole : length octets ≡ lead_length 24 + 24 = ap length made.2 ∙ frame_length token ∙ ap (λ (k : ℕ). lead_length k + k) size in (
        omega (arith, made.1),
        record { token = token; holds = record { number_fits = fits; text_most = made.0; as_written = refl }; as_framed = sym made.2 },
      )

-- ---- Wrap tokens

module _ (context : Context) (n : ℕ) (confounder : List ℕ) (sealed : Bool) (buf : List ℕ) (start len : ℕ) where
  abbrev wrapped : Outcome (List ℕ)
  wrapped = Wrap.wrap_writing context n confounder sealed buf start len

  abbrev wrap_parts : Wrap.Parts
  wrap_parts = Wrap.parts n sealed confounder (region (start + 32) len buf)

  module _ {w : Outcome ℕ} {between : List ℕ} (w-is : w ≡ map_ok length wrapped) (between_is : between ≡ buffer_after all_octets start buf wrapped) where
    pub wrap_outward : {answer : Outcome Unwrapped} {q : Refusal} → w ≡ Err q → IsErrAnd answer (λ e. e ≡ q) → WrapReturns context wrapped wrap_parts start buf answer between
    wrap_outward told given =
        record {
          back = λ octets e. absurd (not_done wrapped buf start w-is between_is told e);
          buffer = λ octets e. absurd (not_done wrapped buf start w-is between_is told e);
          outward = λ p e. passed_on wrapped buf start w-is between_is told given e;
        }

    wrap_written : n < sequence_numbers → length confounder ≡ 8 → Octets confounder → Octets buf → {octets : List ℕ} → wrapped ≡ Ok octets
        → (start + length octets ≤ length buf) × Wrap.Written context wrap_parts octets
    wrap_written fits eight confounder_octets bytes {octets} e =
        let made = wrap_made context n confounder sealed buf start len e in
        let size = message_length_lem buf (start + 32) len (omega (arith, made.1)) in
        let whole : length octets ≡ 33 + len = ap length made.2 ∙ wrap_length_lem context wrap_parts eight ∙ omega arith in (
          omega (arith, made.1),
          record {
            number_fits = fits;
            confounder_eight = eight;
            confounder_octets = confounder_octets;
            message_most = omega (arith, made.0);
            message_octets = region_octets (start + 32) len buf bytes;
            as_written = sym made.2;
          },
        )

    pub wrap_returned : n < sequence_numbers → length confounder ≡ 8 → Octets confounder → Octets buf → {m : ℕ} {answer : Outcome Unwrapped} {after : List ℕ} → w ≡ Ok m
        → after ≡ buffer_after Wrap.plain (start + 24) between (Wrap.wrap_opening context between start m)
        → Wrap.OpensExactly context between start m (status_number answer) (unwrapped_sequence answer) (unwrapped_sealed answer) (unwrapped_length answer) after
        → WrapReturns context wrapped wrap_parts start buf answer after
    wrap_returned fits eight confounder_octets bytes {m} {answer} {after} told after_is exact =
        record {
          back = λ octets e.
              let w = wrap_written fits eight confounder_octets bytes e in
              let there = stands wrapped buf start w-is between_is told e w.0 in
              exact.always_then there.0 wrap_parts (subst (Wrap.Written context wrap_parts) (sym there.1) w.1);
          buffer = λ octets e. rw (← left wrapped buf start w-is between_is e, ← answered wrapped buf start w-is between_is told e) after_is;
          outward = λ p e. absurd (not_refused wrapped buf start w-is between_is told e);
        }

-- ---- Framed Wrap tokens

module _ (context : Context) (n : ℕ) (confounder : List ℕ) (sealed : Bool) (buf : List ℕ) (start len : ℕ) where
  abbrev framed_wrapped : Outcome (List ℕ)
  framed_wrapped = FramedWrap.framed_wrap_writing context n confounder sealed buf start len

  abbrev framed_parts : Wrap.Parts
  framed_parts = Wrap.parts n sealed confounder (region (FramedWrap.framed_message_at start len) len buf)

  module _ {w : Outcome ℕ} {between : List ℕ} (w-is : w ≡ map_ok length framed_wrapped) (between_is : between ≡ buffer_after all_octets start buf framed_wrapped) where
    pub framed_wrap_outward : {answer : Outcome Unwrapped} {q : Refusal} → w ≡ Err q → IsErrAnd answer (λ e. e ≡ q) → FramedWrapReturns context framed_wrapped framed_parts start buf answer between
    framed_wrap_outward told given =
        record {
          back = λ octets e. absurd (not_done framed_wrapped buf start w-is between_is told e);
          buffer = λ octets e. absurd (not_done framed_wrapped buf start w-is between_is told e);
          outward = λ p e. passed_on framed_wrapped buf start w-is between_is told given e;
        }

    framed_wrap_written : n < sequence_numbers → length confounder ≡ 8 → Octets confounder → Octets buf → {octets : List ℕ} → framed_wrapped ≡ Ok octets
        → (start + length octets ≤ length buf) × FramedWrap.Written context framed_parts octets
    framed_wrap_written fits eight confounder_octets bytes {octets} e =
        let made = framed_wrap_made context n confounder sealed buf start len e in
        let token = Wrap.wrap_token context framed_parts in
        let message = message_length_lem buf (FramedWrap.framed_message_at start len) len (omega (arith, made.1)) in
        let size : length token ≡ 33 + len = wrap_length_lem context framed_parts eight ∙ ap (λ (k : ℕ). 33 + k) message in
        let whole : length octets ≡ lead_length (33 + len) + (33 + len) = ap length made.2 ∙ frame_length token ∙ ap (λ (k : ℕ). lead_length k + k) size in (
          omega (arith, made.1),
          record {
            token = token;
            holds = record {
              number_fits = fits;
              confounder_eight = eight;
              confounder_octets = confounder_octets;
              message_most = omega (arith, made.0, message);
              message_octets = region_octets (FramedWrap.framed_message_at start len) len buf bytes;
              as_written = refl;
            };
            as_framed = sym made.2;
          },
        )

    pub framed_wrap_returned : n < sequence_numbers → length confounder ≡ 8 → Octets confounder → Octets buf → {m : ℕ} {answer : Outcome Unwrapped} {after : List ℕ} → w ≡ Ok m
        → after ≡ FramedWrap.opened_buffer context between start m
        → FramedWrap.OpensExactly context between start m (status_number answer) (unwrapped_sequence answer) (unwrapped_sealed answer) (unwrapped_length answer) after
        → FramedWrapReturns context framed_wrapped framed_parts start buf answer after
    framed_wrap_returned fits eight confounder_octets bytes {m} {answer} {after} told after_is exact =
        record {
          back = λ octets e.
              let w = framed_wrap_written fits eight confounder_octets bytes e in
              let there = stands framed_wrapped buf start w-is between_is told e w.0 in
              rw (← answered framed_wrapped buf start w-is between_is told e) (exact.always_then there.0 framed_parts (subst (FramedWrap.Written context framed_parts) (sym there.1) w.1));
          buffer = λ octets e. rw (← left framed_wrapped buf start w-is between_is e, ← answered framed_wrapped buf start w-is between_is told e) after_is;
          outward = λ p e. absurd (not_refused framed_wrapped buf start w-is between_is told e);
        }
