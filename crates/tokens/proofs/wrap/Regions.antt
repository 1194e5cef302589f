-- A region of a buffer, written and opened through the part of k octets that is lent of it.
use mathlib.Core.Path.{◌≡◌, ap, ◌∙◌}
use mathlib.Core.Bool.{Bool}
use mathlib.Core.List.{List, ◌++◌}
use Prim.Native.Nat.{ℕ, ◌+◌, ◌-◌, ◌≤◌}
use native.Mathlib.Omega.{arith}
use lib.ListN.{length, take, drop}
use lib.Seq.{take-take}
use Rattle.tokens.specs.declared.answer.Refusal.{Refusal}
use Rattle.std.specs.Prelude.{Ok, Result}
use Rattle.tokens.specs.Answer.{Outcome}
use Rattle.tokens.specs.Limits.{region, placed, buffer_after}
use Rattle.tokens.specs.Wrap.{Parts, parts, plain, wrap_token, wrap_length, opened, unwrapped_answer}
use Rattle.tokens.specs.declared.answer.Unwrapped.{Unwrapped}
use Rattle.tokens.specs.declared.context.Context.{Context}
use Rattle.tokens.proofs.Lengths.{wrap_length_lem}
use Rattle.tokens.proofs.Lent.{region_length, written_region, read_region, behind}
use Rattle.tokens.proofs.wrap.Exactly.{opened_length}

module _ (context : Context) (buf : List ℕ) (start : ℕ) where
  -- ---- Writing n octets behind 32

  module _ (sequence : ℕ) (sealed : Bool) (confounder : List ℕ) (n : ℕ) (eight : length confounder ≡ 8) (inside : start + wrap_length n ≤ length buf) where
    abbrev p : Parts
    p = parts sequence sealed confounder (region (start + 32) n buf)

    message_length_lem : length (region (start + 32) n buf) ≡ n
    message_length_lem = region_length buf (start + 32) n (omega arith)

    pub written_length : length (wrap_token context p) ≡ wrap_length n
    written_length = wrap_length_lem p eight context ∙ ap (λ (m : ℕ). 33 + m) message_length_lem

    message_there : take (length (region start (wrap_length n) buf) - 33) (drop 32 (region start (wrap_length n) buf)) ≡ region (start + 32) n buf
    message_there =
        let count : length (region start (wrap_length n) buf) - 33 ≡ n = ap (λ (m : ℕ). m - 33) (region_length buf start (wrap_length n) inside) ∙ omega arith in
        let sum : wrap_length n ≡ 32 + (1 + n) = omega arith in
        ap (λ (m : ℕ). take m (drop 32 (region start (wrap_length n) buf))) count
        ∙ ap (λ (m : ℕ). take n (drop 32 (region start m buf))) sum
        ∙ ap (take n) (behind buf start 32 (1 + n) (omega arith))
        ∙ take-take n (1 + n) (drop (start + 32) buf) (omega arith)

    pub written_buffer : (k : ℕ) {after : List ℕ} → k ≡ wrap_length n
        → after ≡ wrap_token context (parts sequence sealed confounder (take (length (region start k buf) - 33) (drop 32 (region start k buf))))
        → take start buf ++ (after ++ drop k (drop start buf)) ≡ placed start (wrap_token context p) buf
    written_buffer k e ea =
        written_region buf start (wrap_length n) k inside e (wrap_token context p) written_length
        (ea ∙ ap (λ (m : ℕ). wrap_token context (parts sequence sealed confounder (take (length (region start m buf) - 33) (drop 32 (region start m buf))))) e
        ∙ ap (λ (l : List ℕ). wrap_token context (parts sequence sealed confounder l)) message_there)

  -- ---- Opening n octets

  module _ (n : ℕ) (inside : start + n ≤ length buf) (least : 33 ≤ n) where
    abbrev o : Outcome Parts
    o = opened context (region start n buf)

    fits : (q : Parts) → o ≡ Ok q → 24 + length (plain q) ≤ n
    fits q h =
        let size = region_length buf start n inside in
        let long : 33 ≤ length (region start n buf) = omega arith in
        omega (arith, opened_length context (region start n buf) h long)

    pub opened_answer : (k : ℕ) {r : Result Unwrapped Refusal} → k ≡ n → r ≡ unwrapped_answer (opened context (region start k buf)) → r ≡ unwrapped_answer o
    opened_answer k e er = er ∙ ap (λ (m : ℕ). unwrapped_answer (opened context (region start m buf))) e

    pub opened_buffer_lem : (k : ℕ) {after : List ℕ} → k ≡ n → after ≡ buffer_after plain 24 (region start k buf) (opened context (region start k buf))
        → take start buf ++ (after ++ drop k (drop start buf)) ≡ buffer_after plain (start + 24) buf o
    opened_buffer_lem k e ea =
        read_region buf start n k inside e plain 24 o fits (ea ∙ ap (λ (m : ℕ). buffer_after plain 24 (region start m buf) (opened context (region start m buf))) e)
