-- Opening a framed Wrap token succeeds exactly on what the rules write: where the region is no frame, and where it is one and the token is
-- opened.
use mathlib.Core.Path.{◌≡◌, sym, ap, ◌∙◌, subst}
use mathlib.Core.Bool.{Bool}
use mathlib.Core.List.{List}
use Prim.Native.Nat.{ℕ, ◌+◌, ◌-◌}
use native.Mathlib.Omega.{arith}
use lib.ListN.{length}
use Rattle.std.specs.Prelude.{Ok, Err}
use Rattle.tokens.proofs.Laws.{wrap_one, wrap_length_lem, never_zero}
use Rattle.tokens.specs.Answer.{number}
use Rattle.tokens.specs.Limits.{region}
use Rattle.tokens.specs.Wrap as Wrap
use Rattle.tokens.specs.Wrap.{Parts, wrap_length}
use Rattle.tokens.specs.declared.answer.Refusal.{Refusal}
use Rattle.tokens.specs.declared.context.Context.{Context}
use Rattle.frame.specs.Framing.{lead_length, lead_in}
use Rattle.frame.specs.Wrap.{Written, HandedBack, OpensExactly}
use Rattle.frame.proofs.Frames.{frames_exactly}
use Rattle.frame.proofs.Regions.{region_length, in_frame, framed_token, not_framed}

module _ (context : Context) (buf : List ℕ) (start n : ℕ) where
  abbrev octets : List ℕ
  octets = region start n buf

  one_set : (p q : Parts) → Written context p octets → Written context q octets → p ≡ q
  one_set p q v w =
      let token : v.token ≡ w.token = (frames_exactly octets).one_token v.token w.token v.as_framed w.as_framed in
      wrap_one context p q w.token (subst (Wrap.Written context p) token v.holds) w.holds

  -- nothing is opened, and nothing could be
  pub nothing_opens : (q : Refusal) → lead_in buf start n ≡ Err q → {sequence : ℕ} {sealed : Bool} {answered : ℕ} {after : List ℕ}
      → OpensExactly context buf start n (number q) sequence sealed answered after
  nothing_opens q e =
      record {
        only_then = λ z. absurd (never_zero q z);
        always_then = λ fits p w. absurd (not_framed buf start n e fits (Wrap.Written context p) w);
        one_set = one_set;
      }

  -- the token is opened
  module _ (before : ℕ) (e : lead_in buf start n ≡ Ok before) {refusal sequence : ℕ} {sealed : Bool} {answered : ℕ} {after : List ℕ} where
    handed_back : Wrap.OpensExactly context buf (start + before) (n - before) refusal sequence sealed answered after → (p : Parts) → Written context p octets
        → HandedBack p start n refusal sequence sealed answered after
    handed_back exact p w =
        let x = in_frame buf start n before e in
        let token = framed_token buf start n before e (Wrap.Written context p) w in
        let written : Wrap.Written context p (region (start + before) (n - before) buf) = subst (Wrap.Written context p) token w.holds in
        let size : n - before ≡ wrap_length (length p.message)
        = sym (region_length buf (start + before) (n - before) (omega (arith, x.sum, x.fits))) ∙ ap length (sym written.as_written) ∙ wrap_length_lem context p written.confounder_eight in
        let lead : before ≡ lead_length (wrap_length (length p.message)) = sym x.lead_is ∙ ap lead_length size in
        let back = exact.always_then (omega (arith, x.sum, x.fits)) p written in
        record { in_token = rw (← lead) back; message_at_is = omega (arith, lead, size, x.sum, back.length_is) }

    pub token_opens : Wrap.OpensExactly context buf (start + before) (n - before) refusal sequence sealed answered after → OpensExactly context buf start n refusal sequence sealed answered after
    token_opens exact =
        let x = in_frame buf start n before e in
        record {
          only_then = λ z.
              let opened = exact.only_then z in
              (x.fits, (opened.1.0, record { token = region (start + before) (n - before) buf; holds = opened.1.1; as_framed = x.frames }));
          always_then = λ h. handed_back exact;
          one_set = one_set;
        }
