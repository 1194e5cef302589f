-- A capture: frames one after the other, of which some octets are held. What stands at their front.
use Rattle.std.specs.Prelude.{ℕ, ◌+◌, ◌<◌, ◌≡◌, Bool, true, false, ◌⊎◌, List, length}
use Rattle.frame.specs.Framing.{Front, Begun}
use Rattle.frame.specs.declared.capture.Next.{Next}
use Rattle.frame.specs.declared.capture.Next.TheVariants as next

-- What stands at the front of the octets that are held, the last ones or not. A frame that is only begun is a fault where nothing follows.
-- There is one answer for all octets (`one_next` of `proofs/Laws.antt`).
abbrev pub NextIs : List ℕ → Bool → Next → Type 0
NextIs held last (next.Frame n) = (before m : ℕ) × Front held before m × (n ≡ before + m)
NextIs held last next.More = (last ≡ false) × Begun held
NextIs held last next.End = (last ≡ true) × (length held ≡ 0)
NextIs held last next.Fault = ((before m : ℕ) → Front held before m → ⊥) × ((Begun held → ⊥) ⊎ ((last ≡ true) × (0 < length held)))

-- how many octets the frame has, 0 if there is none
abbrev pub frame_octets : Next → ℕ
frame_octets (next.Frame n) = n
frame_octets next.More = 0
frame_octets next.End = 0
frame_octets next.Fault = 0
