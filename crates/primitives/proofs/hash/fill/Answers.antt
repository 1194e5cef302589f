-- A whole block takes the place of the old one.
use Rattle.std.proofs.Common.{◌≡◌, ℕ, ◌+◌, List, ◌++◌, length, sym, ◌∙◌, ap₂, append-nil, arith, take_all, drop_of_length-le, rules}
use lib.Seq.{paste}
use Rattle.primitives.proofs.hash.fill.Goals as goal

pub returns-in-Ok : goal.returns-in-Ok
returns-in-Ok c =
    let a = c.args in
    let octets = a.octets.now in
    let size : length a.block ≡ 64 = search rules in
    let whole = c.in-Ok.ensures.1 in
    let all : length octets ≡ 64 = whole.long in
    let front : a.at ≡ 0 = omega arith in
    whole.same
    ∙ sym (ap₂ (λ (l r : List ℕ). l ++ r) (take_all 64 octets (omega arith)) (drop_of_length-le a.block {i = 0 + 64} (omega arith)) ∙ append-nil octets)
    ∙ ap₂ (λ (k m : ℕ). paste a.block k octets m) (sym front) (sym all)
