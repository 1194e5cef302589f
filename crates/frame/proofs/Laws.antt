-- The laws of this crate's definitions that a crate above may cite.
use mathlib.Core.Path.{◌≡◌, sym}
use mathlib.Core.Bool.{Bool}
use mathlib.Core.List.{List, ◌++◌}
use Prim.Native.Nat.{ℕ, ◌+◌, ◌≤◌}
use lib.ListN.{length, take, drop}
use borrow.Author.Tests.{leb-true}
use Rattle.std.specs.Prelude.{Ok}
use Rattle.tokens.proofs.Steps.{require_done, done_same, within_bounds}
use Rattle.tokens.specs.Limits.{most_message, region}
use Rattle.tokens.specs.Mic.{mic_token, mic_length}
use Rattle.tokens.specs.Wrap.{parts, wrap_token, wrap_length}
use Rattle.tokens.specs.declared.context.Context.{Context}
use Rattle.frame.specs.Capture.{NextIs}
use Rattle.frame.specs.Framing.{lead_length, frame, Front, FrontIs, FramesExactly}
use Rattle.frame.specs.Length.{ShortestForm}
use Rattle.frame.specs.Mic as Mic
use Rattle.frame.specs.Wrap as Wrap
use Rattle.frame.specs.declared.capture.Next.{Next}
use Rattle.frame.specs.declared.capture.Next.TheVariants as next
use Rattle.frame.specs.declared.framing.Framing.{Framing}
use Rattle.frame.proofs.Captures as Captures
use Rattle.frame.proofs.Frames as Frames
use Rattle.frame.proofs.Fronts as Fronts
use Rattle.frame.proofs.Lengths as Lengths

-- ---- The theorems

-- the shortest form of a number is read back, and is the only one so short
pub shortest_form : (n : ℕ) → ShortestForm n
shortest_form = Lengths.shortest_form

-- octets are a frame exactly when the rule writes them
pub frames_exactly : (octets : List ℕ) → FramesExactly octets
frames_exactly = Frames.frames_exactly

-- there is one answer to what stands at the front of some octets, and to what stands at the front of a capture
pub one_front : (octets : List ℕ) (f g : Framing) → FrontIs octets f → FrontIs octets g → f ≡ g
one_front = Fronts.one_front

pub one_next : (held : List ℕ) (last : Bool) (r s : Next) → NextIs held last r → NextIs held last s → r ≡ s
one_next = Captures.one_next

-- ---- Frames

-- a frame at the front lies in the octets, and is what the rule writes around the token in it
pub front_fits : (octets : List ℕ) (before n : ℕ) → Front octets before n → before + n ≤ length octets
front_fits = Fronts.front_fits

pub front_frame : (octets : List ℕ) (before n : ℕ) → Front octets before n → frame (take n (drop before octets)) ≡ take (before + n) octets
front_frame = Fronts.front_frame

pub frame_length : (token : List ℕ) → length (frame token) ≡ lead_length (length token) + length token
frame_length = Frames.frame_length

-- a frame at the front of a capture is found with its length, whatever follows it
pub frame_next : (token rest : List ℕ) (last : Bool) (r : Next) → NextIs (frame token ++ rest) last r → r ≡ next.Frame (length (frame token))
frame_next = Captures.frame_next

-- ---- What a writer made

module _ {octets : List ℕ} where
  pub framed_mic_made : (context : Context) (n : ℕ) (text buf : List ℕ) (start : ℕ) → Mic.framed_mic_writing context n text buf start ≡ Ok octets
      → (length text ≤ most_message) × (start + (lead_length mic_length + mic_length) ≤ length buf) × (octets ≡ frame (mic_token context n text))
  unfolding Mic.framed_mic_writing
  framed_mic_made context n text buf start e =
      let sized = require_done _ _ _ octets e in
      let fits = require_done _ _ _ octets sized.1 in
      ((within_bounds 0 most_message (length text) sized.0).1, leb-true _ _ fits.0, sym (done_same fits.1))

  pub framed_wrap_made : (context : Context) (sequence : ℕ) (confounder : List ℕ) (sealed : Bool) (buf : List ℕ) (start n : ℕ) → Wrap.framed_wrap_writing context sequence confounder sealed buf start n ≡ Ok octets
      → (n ≤ most_message) × (start + (lead_length (wrap_length n) + wrap_length n) ≤ length buf)
      × (octets ≡ frame (wrap_token context (parts sequence sealed confounder (region (Wrap.framed_message_at start n) n buf))))
  unfolding Wrap.framed_wrap_writing
  framed_wrap_made context sequence confounder sealed buf start n e =
      let sized = require_done _ _ _ octets e in
      let fits = require_done _ _ _ octets sized.1 in
      ((within_bounds 0 most_message n sized.0).1, leb-true _ _ fits.0, sym (done_same fits.1))
