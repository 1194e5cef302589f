-- A Wrap token written and opened as its front, confounder and body, from what each step gives.
use mathlib.Core.Path.{◌≡◌, sym, ap, ap₂, ◌∙◌}
use mathlib.Core.Bool.{Bool}
use mathlib.Core.List.{List, [], ◌∷◌, ◌++◌}
use Prim.Native.Nat.{ℕ, suc, ◌+◌, ◌-◌, ◌≤◌}
use native.Mathlib.Omega.{arith}
use lib.Dec.{eqb}
use lib.ListN.{length, get_or, take, drop, set, length-append, length-take, length-drop, drop_of_length-le}
use lib.Seq.{drop_at, set_split, get_or-append-add}
use borrow.Author.Tests.{eqb-true, eq-eqb, ne_eqb}
use Rattle.std.specs.Prelude.{⊤, Result, Ok, Err}
use Rattle.tokens.specs.Answer.{require, and_then, tested, status_answer}
use Rattle.tokens.specs.Limits.{buffer_after}
use Rattle.tokens.specs.Octets.{same}
use Rattle.tokens.specs.Token.{front, checksum_in, number_in}
use Rattle.tokens.specs.Wrap.{parts, header, plain, wrap_checksum, under_seal, wrap_token, sealed_in, apart, verified, opened, unwrapped_answer}
use Rattle.tokens.specs.declared.answer.Refusal.{Refusal}
use Rattle.tokens.specs.declared.answer.Refusal.TheVariants as refusal
use Rattle.tokens.specs.declared.context.Context.{Context}
use Rattle.tokens.proofs.Fronts.{header_alone, checksum_alone, number_alone}
use Rattle.tokens.proofs.Lengths.{seal_length}
use Rattle.tokens.proofs.Placing.{placed_all}
use Rattle.tokens.proofs.Steps.{require_done, goes_on, stops, then_on, then_stops, was_done, was_refused}
use Rattle.tokens.proofs.wrap.Exactly.{plain_apart, seal_twice}

-- ---- The checksum and the pad

module _ (context : Context) (sealed : Bool) (confounder body : List ℕ) (some : 1 ≤ length body) (sum : List ℕ) {expected : List ℕ} {s : Result ⊤ Refusal}
    (expected-is : expected ≡ wrap_checksum context sealed (confounder ++ body)) (s-is : s ≡ tested (same sum expected) refusal.Checksum) where
  abbrev test : Bool
  test = same sum (wrap_checksum context sealed (confounder ++ body))

  test_is : s ≡ tested test refusal.Checksum
  test_is = s-is ∙ ap (λ (l : List ℕ). tested (same sum l) refusal.Checksum) expected-is

  last_is : get_or (confounder ++ body) (length (confounder ++ body) - 1) 0 ≡ get_or body (length body - 1) 0
  last_is =
      let at : length (confounder ++ body) - 1 ≡ length confounder + (length body - 1) = omega (arith, length-append confounder body) in
      ap (λ (k : ℕ). get_or (confounder ++ body) k 0) at ∙ get_or-append-add confounder body (length body - 1) 0

  pub checksum_refused : {q : Refusal} → s ≡ Err q → status_answer (verified context sealed sum (confounder ++ body)) ≡ Err q
  unfolding verified
  checksum_refused d = ap status_answer (stops _ _ _ test_is d)

  passed : s ≡ Ok tt → verified context sealed sum (confounder ++ body) ≡ require (eqb (get_or (confounder ++ body) (length (confounder ++ body) - 1) 0) 1) refusal.Pad (Ok (confounder ++ body))
  unfolding verified
  passed d = goes_on _ _ _ test_is d

  pub pad_found : s ≡ Ok tt → get_or body (length body - 1) 0 ≡ 1 → Ok tt ≡ status_answer (verified context sealed sum (confounder ++ body))
  unfolding require
  pad_found d e = rw (passed d, eq-eqb (get_or (confounder ++ body) (length (confounder ++ body) - 1) 0) 1 (last_is ∙ e))

  pub pad_refused : s ≡ Ok tt → (get_or body (length body - 1) 0 ≡ 1 → ⊥) → Err refusal.Pad ≡ status_answer (verified context sealed sum (confounder ++ body))
  unfolding require
  pad_refused d ne = rw (passed d, ne_eqb (get_or (confounder ++ body) (length (confounder ++ body) - 1) 0) 1 (λ e. ne (sym last_is ∙ e)))

-- a text that is verified is handed on, and ends with the pad
verified_text : (context : Context) (sealed : Bool) (sum text : List ℕ) → status_answer (verified context sealed sum text) ≡ Ok tt
    → (verified context sealed sum text ≡ Ok text) × (get_or text (length text - 1) 0 ≡ 1)
unfolding verified
verified_text context sealed sum text e =
    let v = was_done _ e in
    let signed = require_done _ _ _ v.0 v.1 in
    let padded = require_done _ _ _ v.0 signed.1 in
    (v.1 ∙ sym padded.1, eqb-true _ _ padded.0)

-- ---- Opening

module _ (context : Context) (front text : List ℕ) (size : length front ≡ 24) where
  sealed_alone : sealed_in (front ++ text) ≡ sealed_in front
  unfolding sealed_in
  sealed_alone = rw (header_alone front text size)

  pub header_refused : {header : Result Bool Refusal} {q : Refusal} → header ≡ sealed_in front → header ≡ Err q → opened context (front ++ text) ≡ Err q
  unfolding opened
  header_refused e d = then_stops _ (sealed_alone ∙ sym e ∙ d)

  module _ {header : Result Bool Refusal} {sealed : Bool} (header-is : header ≡ sealed_in front) (is-sealed : header ≡ Ok sealed) where
    pub number_refused : {number : Result ℕ Refusal} {q : Refusal} → number ≡ number_in context front → number ≡ Err q → opened context (front ++ text) ≡ Err q
    unfolding opened
    number_refused e d = then_on _ (sealed_alone ∙ sym header-is ∙ is-sealed) ∙ then_stops _ (number_alone front text size context ∙ sym e ∙ d)

    module _ {number : Result ℕ Refusal} {n : ℕ} (number-is : number ≡ number_in context front) (is_number : number ≡ Ok n) {out : List ℕ} (out_is : out ≡ under_seal context sealed n text) where
      opened_is : opened context (front ++ text) ≡ and_then (verified context sealed (checksum_in front) out) (λ (l : List ℕ). Ok (apart n sealed l))
      unfolding opened
      opened_is =
          then_on _ (sealed_alone ∙ sym header-is ∙ is-sealed)
          ∙ then_on _ (number_alone front text size context ∙ sym number-is ∙ is_number)
          ∙ rw (checksum_alone front text size, drop_at front text 24 size, ← out_is)

      out_length : length out ≡ length text
      out_length = ap length out_is ∙ seal_length context sealed n text

      -- where the text that is no longer under the seal is verified, and so is answered, or is not
      module _ {sum : List ℕ} {s : Result ⊤ Refusal} (sum-is : sum ≡ checksum_in front) (s-is : s ≡ status_answer (verified context sealed sum out)) where
        is_verified : s ≡ status_answer (verified context sealed (checksum_in front) out)
        is_verified = s-is ∙ ap (λ (l : List ℕ). status_answer (verified context sealed l out)) sum-is

        -- run under the seal again, what was refused is back
        pub text_refused : {q : Refusal} {back : List ℕ} → s ≡ Err q → back ≡ under_seal context sealed n out
            → (Err q ≡ unwrapped_answer (opened context (front ++ text))) × (back ≡ buffer_after plain 0 text (opened context (front ++ text)))
        text_refused d e =
            let refused = opened_is ∙ then_stops _ (was_refused _ (sym is_verified ∙ d)) in
            (ap unwrapped_answer (sym refused), rw refused (e ∙ ap (under_seal context sealed n) out_is ∙ seal_twice context sealed n text))

        pub text_opened : s ≡ Ok tt → (l : ℕ) → length text ≡ 9 + l
            → (Ok (record { sequence = n; sealed = sealed; length = l }) ≡ unwrapped_answer (opened context (front ++ text))) × (out ≡ buffer_after plain 0 text (opened context (front ++ text)))
        text_opened d l e =
            let found = verified_text context sealed (checksum_in front) out (sym is_verified ∙ d) in
            let done : opened context (front ++ text) ≡ Ok (apart n sealed out) = opened_is ∙ then_on _ found.0 in
            let size : length (take (length out - 9) (drop 8 out)) ≡ l = simp (length-take, length-drop) (omega (arith, out_length)) in
            (rw (done, size), rw (done, plain_apart n sealed out (omega (arith, out_length)) found.1) (sym (placed_all text out (sym out_length))))

-- ---- Writing

padded : (body : List ℕ) → 1 ≤ length body → set body (length body - 1) 1 ≡ take (length body - 1) body ++ (1 ∷ [])
padded body some =
    let past : length body ≤ suc (length body - 1) = omega arith in
    set_split body (length body - 1) 1 (omega arith) ∙ rw (drop_of_length-le body past)

-- from the body with the pad in its place, what the steps give of it is the token
pub parts_written : (context : Context) (n : ℕ) (sealed : Bool) (confounder body : List ℕ) {sum head first out : List ℕ} → 1 ≤ length body
    → sum ≡ wrap_checksum context sealed (confounder ++ set body (length body - 1) 1) → head ≡ header sealed → first ≡ front context head sum n
    → out ≡ under_seal context sealed n (confounder ++ set body (length body - 1) 1)
    → first ++ out ≡ wrap_token context (parts n sealed confounder (take (length body - 1) body))
unfolding wrap_token plain
parts_written context n sealed confounder body some es eh ef eo =
    let text = ap (λ (l : List ℕ). confounder ++ l) (padded body some) in
    ap₂ (λ (x y : List ℕ). x ++ y)
    (ef ∙ ap₂ (λ (h s : List ℕ). front context h s n) eh (es ∙ ap (wrap_checksum context sealed) text))
    (eo ∙ ap (under_seal context sealed n) text)
