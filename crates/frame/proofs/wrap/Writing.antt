-- A framed Wrap token written: the token placed behind the room of its lead, and then the lead.
use mathlib.Core.Path.{◌≡◌, sym, ap, ◌∙◌}
use mathlib.Core.Bool.{Bool}
use mathlib.Core.List.{List}
use Prim.Native.Nat.{ℕ, ◌+◌, ◌≤◌}
use native.Mathlib.Omega.{arith}
use lib.Dec.{leb}
use lib.ListN.{length}
use Rattle.std.specs.Prelude.{⊤, Result, Ok}
use Rattle.tokens.proofs.Laws.{wrap_length_lem, wrap_makes}
use Rattle.tokens.proofs.Steps.{goes_on, bounds, fits}
use Rattle.tokens.specs.Answer.{tested, map_ok}
use Rattle.tokens.specs.Limits.{within, region, placed, buffer_after}
use Rattle.tokens.specs.Message.{all_octets}
use Rattle.tokens.specs.Wrap.{parts, wrap_token, wrap_writing}
use Rattle.tokens.specs.declared.answer.Refusal.{Refusal}
use Rattle.tokens.specs.declared.answer.Refusal.TheVariants as refusal
use Rattle.tokens.specs.declared.context.Context.{Context}
use Rattle.frame.specs.Framing.{lead, lead_length, frame}
use Rattle.frame.specs.Wrap.{framed_wrap_writing}
use Rattle.frame.proofs.Leads as Leads
use Rattle.frame.proofs.Regions.{region_length}

-- from the tests of length and region, which are done, and from what `wrap_write` leaves in the buffer
module _ (context : Context) (sequence : ℕ) (confounder : List ℕ) (sealed : Bool) (buf : List ℕ) (start n : ℕ) (eight : length confounder ≡ 8) {sized inside : Result ⊤ Refusal} {w : ℕ}
    (sized-is : sized ≡ tested (within 0 32768 n) refusal.Length) (sized-done : sized ≡ Ok tt) (width : w ≡ lead_length (33 + n))
    (inside-is : inside ≡ tested (leb (start + (w + (33 + n))) (length buf)) refusal.Region) (inside-done : inside ≡ Ok tt)
    {after : List ℕ} (after-is : after ≡ buffer_after all_octets (start + w) buf (wrap_writing context sequence confounder sealed buf (start + w) n)) where
  abbrev token : ℕ → List ℕ
  token k = wrap_token context (parts sequence sealed confounder (region (start + k + 32) n buf))

  ends : start + (w + (33 + n)) ≤ length buf
  ends = fits inside-done (start + (w + (33 + n))) (length buf) inside-is

  token_size : length (token w) ≡ 33 + n
  token_size =
      wrap_length_lem context (parts sequence sealed confounder (region (start + w + 32) n buf)) eight
      ∙ ap (λ (m : ℕ). 33 + m) (region_length buf (start + w + 32) n (omega (arith, ends)))

  token_placed : after ≡ placed (start + w) (token w) buf
  token_placed =
      let most = (bounds sized-done 0 32768 n sized-is).1 in
      after-is ∙ ap (buffer_after all_octets (start + w) buf) (wrap_makes context sequence confounder sealed buf (start + w) n most (omega (arith, ends)))

  pub length_kept : length after ≡ length buf
  length_kept = Leads.token_length start w (33 + n) (token w) buf token_size width ends after token_placed

  -- the lead written before it, the answer and the buffer are those of the framed token
  pub framed : {last : List ℕ} → last ≡ placed start (lead (33 + n)) after
      → (Ok (w + (33 + n)) ≡ map_ok length (framed_wrap_writing context sequence confounder sealed buf start n))
      × (last ≡ buffer_after all_octets start buf (framed_wrap_writing context sequence confounder sealed buf start n))
  unfolding framed_wrap_writing
  framed {last} e =
      let region_tested = inside-is ∙ ap (λ (k : ℕ). tested (leb (start + (k + (33 + n))) (length buf)) refusal.Region) width in
      let done : framed_wrap_writing context sequence confounder sealed buf start n ≡ Ok (frame (token w))
      = goes_on _ _ _ sized-is sized-done ∙ goes_on _ _ _ region_tested inside-done ∙ ap (λ (k : ℕ). Ok (frame (token k))) (sym width) in
      let size = Leads.frame_size start w (33 + n) (token w) buf token_size width ends in
      (rw (done, size), rw done (Leads.frame_placed start w (33 + n) (token w) buf token_size width ends after token_placed last e))
