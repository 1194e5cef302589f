-- Reading a framed MIC token succeeds exactly on what the rules write: where the region is no frame, and where it is one and the token is
-- read.
use mathlib.Core.Path.{◌≡◌, subst}
use mathlib.Core.List.{List}
use Prim.Native.Nat.{ℕ, ◌+◌, ◌-◌}
use native.Mathlib.Omega.{arith}
use Rattle.std.specs.Prelude.{Ok, Err}
use Rattle.tokens.proofs.Laws.{mic_one, never_zero}
use Rattle.tokens.specs.Answer.{number}
use Rattle.tokens.specs.Limits.{region}
use Rattle.tokens.specs.Mic as Mic
use Rattle.tokens.specs.declared.answer.Refusal.{Refusal}
use Rattle.tokens.specs.declared.context.Context.{Context}
use Rattle.frame.specs.Framing.{lead_in}
use Rattle.frame.specs.Mic.{Written, ReadsExactly}
use Rattle.frame.proofs.Frames.{frames_exactly}
use Rattle.frame.proofs.Regions.{in_frame, framed_token, not_framed}

module _ (context : Context) (text : List ℕ) (buf : List ℕ) (start n : ℕ) where
  abbrev octets : List ℕ
  octets = region start n buf

  one_number : (j k : ℕ) → Written context text j octets → Written context text k octets → j ≡ k
  one_number j k v w =
      let token : v.token ≡ w.token = (frames_exactly octets).one_token v.token w.token v.as_framed w.as_framed in
      mic_one context text j k w.token (subst (Mic.Written context text j) token v.holds) w.holds

  -- nothing is read, and nothing could be
  pub nothing_reads : (q : Refusal) → lead_in buf start n ≡ Err q → {answered : ℕ} → ReadsExactly context text buf start n (number q) answered
  nothing_reads q e =
      record {
        only_then = λ z. absurd (never_zero q z);
        always_then = λ fits k w. absurd (not_framed buf start n e fits (Mic.Written context text k) w);
        one_number = one_number;
      }

  -- the token is read
  pub token_reads : (before : ℕ) → lead_in buf start n ≡ Ok before → {refusal answered : ℕ}
      → Mic.ReadsExactly context text buf (start + before) (n - before) refusal answered → ReadsExactly context text buf start n refusal answered
  token_reads before e exact =
      let x = in_frame buf start n before e in
      record {
        only_then = λ z. (x.fits, record { token = region (start + before) (n - before) buf; holds = (exact.only_then z).1; as_framed = x.frames });
        always_then = λ h k w. exact.always_then (omega (arith, x.sum)) k (subst (Mic.Written context text k) (framed_token buf start n before e (Mic.Written context text k) w) w.holds);
        one_number = one_number;
      }
