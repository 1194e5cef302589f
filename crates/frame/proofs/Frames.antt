-- The outer frame: how long its parts are, where they stand, and that octets are a frame exactly when the rule writes them.
use mathlib.Core.Path.{◌≡◌, refl, sym, ap, ◌∙◌}
use mathlib.Core.Bool.{true}
use mathlib.Core.List.{List, [], ◌∷◌, ◌++◌, append_assoc, append-nil}
use Prim.Native.Nat.{ℕ, suc, ◌+◌}
use native.Mathlib.Omega.{arith}
use lib.ListN.{length, drop, length-append}
use lib.Seq.{drop_at}
use Rattle.tokens.proofs.SameOctets.{same_true, same_self}
use Rattle.tokens.specs.Octets.{same}
use Rattle.frame.specs.Framing.{tag, mechanism, contents, lead, lead_length, frame, lead_width, is_frame, FramesExactly}
use Rattle.frame.specs.Length.{der_length}
use Rattle.frame.proofs.Lengths.{shortest_form}

-- ---- Lengths

pub mechanism_length : length mechanism ≡ 11
unfolding mechanism
mechanism_length = refl

pub lead_length_lem : (n : ℕ) → lead_length n ≡ 12 + length (der_length (contents n))
unfolding lead
lead_length_lem n = ap suc (length-append (der_length (contents n)) mechanism) ∙ omega (arith, mechanism_length)

pub frame_length : (token : List ℕ) → length (frame token) ≡ lead_length (length token) + length token
unfolding frame
frame_length token = length-append (lead (length token)) token

-- ---- Where its parts stand

-- a frame, and whatever follows it: the tag, the length, the mechanism, and the token
pub frame_parts : (token rest : List ℕ) → frame token ++ rest ≡ tag ∷ (der_length (contents (length token)) ++ (mechanism ++ (token ++ rest)))
unfolding frame lead
frame_parts token rest =
    let d : List ℕ = der_length (contents (length token)) in
    ap (λ (l : List ℕ). tag ∷ l) (append_assoc (d ++ mechanism) token rest ∙ append_assoc d mechanism (token ++ rest))

-- the lead is told by the first octet of the length
pub lead_told : (token rest : List ℕ) → lead_width (frame token ++ rest) ≡ lead_length (length token)
lead_told token rest =
    let n : ℕ = contents (length token) in
    ap lead_width (frame_parts token rest) ∙ ap (λ (w : ℕ). 12 + w) ((shortest_form n).width_back (mechanism ++ (token ++ rest))) ∙ sym (lead_length_lem (length token))

-- the token stands after the lead
pub token_stands : (token octets : List ℕ) → frame token ≡ octets → drop (lead_length (length token)) octets ≡ token
unfolding frame
token_stands token octets e = ap (drop (lead_length (length token))) (sym e) ∙ drop_at (lead (length token)) token (lead_length (length token)) refl

-- ---- Octets that are a frame

module _ (octets : List ℕ) where
  pub was_written : is_frame octets ≡ true → frame (drop (lead_width octets) octets) ≡ octets
  unfolding is_frame
  was_written e = sym (same_true _ _ e)

  module _ (token : List ℕ) (e : frame token ≡ octets) where
    pub width_is : lead_width octets ≡ lead_length (length token)
    width_is = ap lead_width (sym e ∙ sym (append-nil (frame token))) ∙ lead_told token []

    pub is_written : is_frame octets ≡ true
    unfolding is_frame
    is_written = ap (λ (l : List ℕ). same octets (frame l)) (ap (λ (k : ℕ). drop k octets) width_is ∙ token_stands token octets e) ∙ ap (same octets) e ∙ same_self octets

  one_token : (s t : List ℕ) → frame s ≡ octets → frame t ≡ octets → s ≡ t
  one_token s t es et = sym (token_stands s octets es) ∙ ap (λ (k : ℕ). drop k octets) (sym (width_is s es) ∙ width_is t et) ∙ token_stands t octets et

  pub frames_exactly : FramesExactly octets
  frames_exactly = record { only_then = was_written; always_then = λ token e. (is_written token e, width_is token e); one_token = one_token }
