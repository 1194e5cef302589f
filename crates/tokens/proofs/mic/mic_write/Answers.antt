-- The refusals of the length and the region, or the token placed.
use mathlib.Core.Path.{◌≡◌, ap, ◌∙◌}
use mathlib.Core.List.{List}
use Prim.Native.Nat.{ℕ, ◌+◌}
use lib.ListN.{length}
use Rattle.std.specs.Prelude.{Ok}
use Rattle.tokens.specs.Limits.{placed}
use Rattle.tokens.specs.Message.{all_octets}
use Rattle.tokens.specs.Mic as Spec
use Rattle.tokens.specs.Token.{front}
use Rattle.tokens.proofs.Steps.{goes_on, stops, exit_told, fits}
use Rattle.tokens.proofs.Lengths.{mic_length_lem}
use borrow.Author.Rules.{rules}
use native.Mathlib.Omega.{arith}
use Rattle.tokens.proofs.mic.mic_write.Goals as goal

pub returns-in_err-length : goal.returns-in_err-length
unfolding Spec.mic_writing
returns-in_err-length c =
    let refused = stops _ _ _ c.length.ensures c.in_err-length.was in
    let told = exit_told length all_octets _ _ c.from_residual.ensures.1 refused in
    record { answer = told.0; buffer = told.1 }

pub returns-in_err-region : goal.returns-in_err-region
unfolding Spec.mic_writing
returns-in_err-region c =
    let refused = goes_on _ _ _ c.length.ensures c.in_ok-length.was ∙ stops _ _ _ c.region.ensures c.in_err-region.was in
    let told = exit_told length all_octets _ _ c.from_residual-in_err-region.ensures.1 refused in
    record { answer = told.0; buffer = told.1 }

pub place-requires : goal.place-requires
place-requires c =
    let inside = fits c.in_ok-region.was (c.args.start + 24) _ c.region.ensures in
    let size : length c.front-token.result ≡ 24 = search rules in
    omega (arith, inside)

pub returns : goal.returns
unfolding Spec.header Spec.mic_token Spec.mic_writing
returns c =
    let a = c.args in
    let token = c.front-token.ensures ∙ ap (λ (sum : List ℕ). front a.context Spec.header sum a.sequence) c.mic_checksum-sum.ensures in
    let ended : Spec.mic_writing a.context a.sequence a.«data».now a.buf.now a.start ≡ Ok (Spec.mic_token a.context a.sequence a.«data».now) = goes_on _ _ _ c.length.ensures c.in_ok-length.was ∙ goes_on _ _ _ c.region.ensures c.in_ok-region.was in
    record {
      answer = rw (ended, mic_length_lem a.context a.«data».now a.sequence);
      buffer = rw ended (c.place.ensures ∙ ap (λ (l : List ℕ). placed a.start l a.buf.now) token);
    }
