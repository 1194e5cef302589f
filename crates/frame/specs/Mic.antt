-- The framed MIC token: what writing and reading one gives, and that reading succeeds exactly on what the rules write.
use Rattle.std.specs.Prelude.{ℕ, ◌+◌, ◌≤◌, ◌≡◌, List, length, Ok}
use Rattle.tokens.specs.Answer.{Outcome, require}
use Rattle.tokens.specs.Limits.{most_message, within, inside, region}
use Rattle.tokens.specs.Mic as Mic
use Rattle.tokens.specs.declared.answer.Refusal.TheVariants.{Length, Region}
use Rattle.tokens.specs.declared.context.Context.{Context}
use Rattle.frame.specs.Framing.{lead_length, frame, read_framed, Framed}

-- what `framed_mic_write` makes: the octets of the region
unfoldable pub framed_mic_writing : Context → ℕ → List ℕ → List ℕ → ℕ → Outcome (List ℕ)
framed_mic_writing context n text buf start =
    require (within 0 most_message (length text)) Length
    (require (inside start (lead_length Mic.mic_length + Mic.mic_length) buf) Region
    (Ok (frame (Mic.mic_token context n text))))

-- what `framed_mic_read` finds in a region
unfoldable pub framed_mic_reading : Context → List ℕ → List ℕ → ℕ → ℕ → Outcome ℕ
framed_mic_reading context text buf start n = read_framed (Mic.mic_reading context text buf) buf start n

-- ---- Reading exactly what the rules write

-- the rules write the MIC token of this sequence number over this text, and the frame around it, as exactly these octets
abbrev pub Written : Context → List ℕ → ℕ → List ℕ → Type 0
Written context text n octets = Framed (Mic.Written context text n) octets

-- Reading the region of n octets from start answers a refusal number and a sequence number. It answers the sequence number k
-- exactly when the region lies inside the buffer and the rules write the framed token of k over the text as exactly the region's
-- octets: only then, and always then. There is one such number.
pub record ReadsExactly (context : Context) (text : List ℕ) (buf : List ℕ) (start n : ℕ) (refusal answered : ℕ) : Type 0 where
  pub only_then : refusal ≡ 0 → (start + n ≤ length buf) × Written context text answered (region start n buf)
  pub always_then : start + n ≤ length buf → (k : ℕ) → Written context text k (region start n buf) → (refusal ≡ 0) × (answered ≡ k)
  pub one_number : (j k : ℕ) → Written context text j (region start n buf) → Written context text k (region start n buf) → j ≡ k
