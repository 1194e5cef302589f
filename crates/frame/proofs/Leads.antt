-- What stands before a token, placed part by part, and before a token that stands in its place.
use mathlib.Core.Path.{◌≡◌, refl, sym, ap, ap₂, ◌∙◌}
use mathlib.Core.List.{List, [], ◌∷◌, ◌++◌}
use Prim.Native.Nat.{ℕ, ◌+◌, ◌-◌, ◌≤◌, ◌<◌}
use native.Mathlib.Omega.{arith}
use lib.ListN.{length, set, take-append-drop}
use lib.Seq.{drop-drop}
use Rattle.std.proofs.lemmas.List.{take-set, drop-set}
use borrow.Rule.Slice.PartMut.{put_mid}
use Rattle.tokens.proofs.Laws.{placed_before, placed_after, placed_length}
use Rattle.tokens.specs.Limits.{placed}
use Rattle.frame.specs.Framing.{tag, mechanism, contents, lead, lead_length, frame}
use Rattle.frame.specs.Length.{der_length}
use Rattle.frame.proofs.Frames.{mechanism_length, lead_length_lem, frame_length}

-- an octet written, and a part of the buffer copied over
pub set_placed : (at x : ℕ) (buf : List ℕ) → at < length buf → set buf at x ≡ placed at (x ∷ []) buf
unfolding placed
set_placed at x buf h = sym (take-append-drop at (set buf at x)) ∙ ap₂ ◌++◌ (take-set buf at x) (drop-set buf at x h)

pub put_placed : (at k : ℕ) (part buf : List ℕ) → k ≡ length part → put_mid at k buf part ≡ placed at part buf
unfolding placed
put_placed at k part buf e = rw (e, drop-drop (length part) at buf) refl

-- the tag, the length and the mechanism, written one after the other
module _ (start n w : ℕ) (form buf : List ℕ) (width : w ≡ length form) (form-is : form ≡ der_length (contents n)) (inside : start + lead_length n ≤ length buf) where
  pub room : start + (12 + w) ≤ length buf
  room = omega (arith, lead_length_lem n, ap length form-is)

  abbrev after_tag : List ℕ
  after_tag = set buf start tag

  tag_placed : after_tag ≡ placed start (tag ∷ []) buf
  tag_placed = set_placed start tag buf (omega (arith, room))

  pub tag_length : length after_tag ≡ length buf
  tag_length = ap length tag_placed ∙ placed_length start (tag ∷ []) buf (omega (arith, room))

  abbrev after_form : List ℕ
  after_form = put_mid (start + 1) (start + 1 + w - (start + 1)) after_tag form

  form_placed : after_form ≡ placed start (tag ∷ form) buf
  form_placed =
      put_placed (start + 1) (start + 1 + w - (start + 1)) form after_tag (omega (arith, width))
      ∙ ap (placed (start + 1) form) tag_placed
      ∙ placed_after start (tag ∷ []) form buf (omega (arith, room, width))

  pub form_length : length after_form ≡ length buf
  form_length = ap length form_placed ∙ placed_length start (tag ∷ form) buf (omega (arith, room, width))

  pub lead_written : put_mid (start + 1 + w) (start + 1 + w + 11 - (start + 1 + w)) after_form mechanism ≡ placed start (lead n) buf
  unfolding lead
  lead_written =
      let next : start + 1 + w ≡ start + length (tag ∷ form) = omega (arith, width) in
      put_placed (start + 1 + w) (start + 1 + w + 11 - (start + 1 + w)) mechanism after_form (omega (arith, mechanism_length))
      ∙ ap₂ (λ (k : ℕ) (l : List ℕ). placed k mechanism l) next form_placed
      ∙ placed_after start (tag ∷ form) mechanism buf (omega (arith, room, width, mechanism_length))
      ∙ ap (λ (l : List ℕ). placed start (tag ∷ (l ++ mechanism)) buf) form-is

-- ---- The lead before a token that stands in its place

module _ (start w n : ℕ) (octets buf : List ℕ) (size : length octets ≡ n) (width : w ≡ lead_length n) (inside : start + (w + n) ≤ length buf) where
  pub frame_size : w + n ≡ length (frame octets)
  frame_size = sym (frame_length octets ∙ ap (λ (k : ℕ). lead_length k + k) size ∙ ap (λ (k : ℕ). k + n) (sym width))

  module _ (b₁ : List ℕ) (first : b₁ ≡ placed (start + w) octets buf) where
    pub token_length : length b₁ ≡ length buf
    token_length = ap length first ∙ placed_length (start + w) octets buf (omega arith)

    pub frame_placed : (b₂ : List ℕ) → b₂ ≡ placed start (lead n) b₁ → b₂ ≡ placed start (frame octets) buf
    unfolding frame
    frame_placed b₂ second =
        second
        ∙ ap (placed start (lead n)) (first ∙ ap (λ (k : ℕ). placed (start + k) octets buf) width)
        ∙ placed_before start (lead n) octets buf (omega (arith, width, size))
        ∙ ap (λ (k : ℕ). placed start (lead k ++ octets) buf) (sym size)
