-- The refusals of the header, the direction, the checksum and the pad, in their order, or the token opened.
use mathlib.Core.Path.{◌≡◌, ◌∙◌}
use mathlib.Core.List.{◌++◌}
use Prim.Native.Nat.{◌+◌}
use lib.ListN.{length, length-append}
use Rattle.tokens.specs.Wrap as Spec
use Rattle.tokens.proofs.Steps.{exit_told}
use Rattle.tokens.proofs.wrap.Opening.{header_refused, number_refused, text_refused, text_opened}
use borrow.Author.Rules.{rules}
use native.Mathlib.Omega.{arith}
use Rattle.tokens.proofs.wrap.open_parts.Goals as goal

pub returns-in_err-sealed : goal.returns-in_err-sealed
returns-in_err-sealed c =
    let a = c.args in
    let size : length a.front ≡ 24 = search rules in
    let refused = header_refused a.context a.front (a.confounder.now ++ a.body.now) size c.sealed_in.ensures c.in_err-sealed.was in
    let told = exit_told Spec.unwrapped Spec.plain _ _ c.from_residual.ensures.1 refused in
    record { answer = told.0; octets = told.1 }

pub returns-in_err-sequence : goal.returns-in_err-sequence
returns-in_err-sequence c =
    let a = c.args in
    let size : length a.front ≡ 24 = search rules in
    let refused = number_refused a.context a.front (a.confounder.now ++ a.body.now) size c.sealed_in.ensures c.in_ok-sealed.was c.number_in.ensures c.in_err-sequence.was in
    let told = exit_told Spec.unwrapped Spec.plain _ _ c.from_residual-in_err-sequence.ensures.1 refused in
    record { answer = told.0; octets = told.1 }

pub returns-in-Ok : goal.returns-in-Ok
returns-in-Ok c =
    let a = c.args in
    let size : length a.front ≡ 24 = search rules in
    let eight : length a.confounder.now ≡ 8 = search rules in
    let text = a.confounder.now ++ a.body.now in
    let whole : length text ≡ 8 + length a.body.now = length-append a.confounder.now a.body.now ∙ omega (arith, eight) in
    let opened = text_opened a.context a.front text size c.sealed_in.ensures c.in_ok-sealed.was c.number_in.ensures c.in_ok-sequence.was c.under_seal.ensures c.checksum_in.ensures c.verify.ensures c.in-Ok.is _ (omega (arith, c.requires, c.under_seal.auto.body)) in
    record { answer = opened.0; octets = opened.1 }

pub returns-in-Err : goal.returns-in-Err
returns-in-Err c =
    let a = c.args in
    let size : length a.front ≡ 24 = search rules in
    let text = a.confounder.now ++ a.body.now in
    let refused = text_refused a.context a.front text size c.sealed_in.ensures c.in_ok-sealed.was c.number_in.ensures c.in_ok-sequence.was c.under_seal.ensures c.checksum_in.ensures c.verify.ensures c.in-Err.is c.under_seal-in-Err.ensures in
    record { answer = refused.0; octets = refused.1 }
