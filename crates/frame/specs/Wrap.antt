-- The framed Wrap token: what writing and opening one gives, and that opening succeeds exactly on what the rules write.
use Rattle.std.specs.Prelude.{ℕ, ◌+◌, ◌-◌, ◌≤◌, ◌≡◌, Bool, List, length, Ok}
use Rattle.tokens.specs.Answer.{Outcome, require}
use Rattle.tokens.specs.Limits.{most_message, within, inside, region, buffer_after}
use Rattle.tokens.specs.Wrap as Wrap
use Rattle.tokens.specs.Wrap.{Parts, parts, wrap_token, wrap_length, message_at}
use Rattle.tokens.specs.declared.answer.Refusal.TheVariants.{Length, Region}
use Rattle.tokens.specs.declared.context.Context.{Context}
use Rattle.frame.specs.Framing.{lead, lead_length, frame, lead_width, read_framed, Framed}

-- the octets before a token whose message has n octets
unfoldable pub wrap_lead : ℕ → Outcome (List ℕ)
wrap_lead n = require (within 0 most_message n) Length (Ok (lead (wrap_length n)))

-- where the message of n octets stands in a framed token that starts at `start`
abbrev pub framed_message_at : ℕ → ℕ → ℕ
framed_message_at start n = start + lead_length (wrap_length n) + message_at

-- what `framed_wrap_write` makes of the n octets that stand where the framed token has its message: the octets of the region
unfoldable pub framed_wrap_writing : Context → ℕ → List ℕ → Bool → List ℕ → ℕ → ℕ → Outcome (List ℕ)
framed_wrap_writing context sequence confounder sealed buf start n =
    require (within 0 most_message n) Length
    (require (inside start (lead_length (wrap_length n) + wrap_length n) buf) Region
    (Ok (frame (wrap_token context (parts sequence sealed confounder (region (framed_message_at start n) n buf))))))

-- what `framed_wrap_open` finds in a region
unfoldable pub framed_wrap_opening : Context → List ℕ → ℕ → ℕ → Outcome Parts
framed_wrap_opening context buf start n = read_framed (Wrap.wrap_opening context buf) buf start n

-- the buffer after it: confounder, message and pad plain, 24 octets after the token's start, and all else as it came
abbrev pub opened_buffer : Context → List ℕ → ℕ → ℕ → List ℕ
opened_buffer context buf start n = buffer_after Wrap.plain (start + lead_width (region start n buf) + 24) buf (framed_wrap_opening context buf start n)

-- ---- Opening exactly what the rules write

-- the rules write these parts, within their limits, as a Wrap token, and the frame around it, as exactly these octets
abbrev pub Written : Context → Parts → List ℕ → Type 0
Written context p octets = Framed (Wrap.Written context p) octets

-- The parts are answered, and stand in the buffer where the token that starts after the frame's lead has them. So the message stands
-- before the region's last octet, which is the pad.
pub record HandedBack (p : Parts) (start n : ℕ) (refusal sequence : ℕ) (sealed : Bool) (answered : ℕ) (after : List ℕ) : Type 0 where
  pub in_token : Wrap.HandedBack p (start + lead_length (wrap_length (length p.message))) refusal sequence sealed answered after
  pub message_at_is : framed_message_at start (length p.message) ≡ start + n - 1 - answered

-- Opening the region of n octets from start answers a refusal number, a sequence number, sealed or not, and a length, and leaves the
-- buffer as `after`. It succeeds exactly when the region lies inside the buffer and the rules write some parts, frame and token, as
-- exactly the region's octets: only then, and always then. There is one such set of parts, and it is handed back.
pub record OpensExactly (context : Context) (buf : List ℕ) (start n : ℕ) (refusal sequence : ℕ) (sealed : Bool) (answered : ℕ) (after : List ℕ) : Type 0 where
  pub only_then : refusal ≡ 0 → (start + n ≤ length buf) × ((p : Parts) × Written context p (region start n buf))
  pub always_then : start + n ≤ length buf → (p : Parts) → Written context p (region start n buf) → HandedBack p start n refusal sequence sealed answered after
  pub one_set : (p q : Parts) → Written context p (region start n buf) → Written context q (region start n buf) → p ≡ q
