-- What the octets so far say, and the octets that are left after it.
use Rattle.std.proofs.Common.{◌≡◌, refl, ap, sym, ◌∙◌, arith, length, get_or, drop, ℕ, List, ◌+◌, ◌*◌, ◌<◌}
use Rattle.frame.specs.Length.{value_after}
use Rattle.frame.proofs.Lengths.{value_next, value_all, value_least, at_most, above}
use Rattle.frame.proofs.length.value_within.Goals as goal

-- what the octets say, from the next one on, of which a number is known
next : (octets : List ℕ) (n i : ℕ) {m : ℕ} → value_after 0 octets ≡ value_after n (drop i octets) → i < length octets → m ≡ n * 256 + get_or octets i 0 → value_after 0 octets ≡ value_after m (drop (i + 1) octets)
next octets n i so_far there e = so_far ∙ value_next n octets i there ∙ ap (λ (k : ℕ). value_after k (drop (i + 1) octets)) (sym e)

pub returns-in_err-checked_mul : goal.returns-in_err-checked_mul
returns-in_err-checked_mul c =
    let l = c.loop-octet in
    let octets : List ℕ = c.args.octets.now in
    let m : ℕ = l.value * 256 + get_or octets l.octet-index 0 in
    let said : value_after 0 octets ≡ value_after m (drop (l.octet-index + 1) octets) = next octets l.value l.octet-index l.invariant.1 c.loop-octet-test.true refl in
    c.from_residual.ensures ∙ sym (above c.args.most _ (omega (arith, said, value_least m (drop (l.octet-index + 1) octets))))

pub returns-then-most-value : goal.returns-then-most-value
returns-then-most-value c =
    let l = c.loop-octet in
    let octets : List ℕ = c.args.octets.now in
    let said = next octets l.value l.octet-index {m = c.in_ok-value.value} l.invariant.1 c.loop-octet-test.true (omega (arith, c.in_ok-value.ensures, c.in_ok-checked_mul.ensures)) in
    sym (above c.args.most _ (omega (arith, said, value_least c.in_ok-value.value (drop (l.octet-index + 1) octets))))

pub loop-octet-preserved : goal.loop-octet-preserved
loop-octet-preserved c =
    let l = c.loop-octet in
    (c.if-most-value.false, next c.args.octets.now l.value l.octet-index l.invariant.1 c.loop-octet-test.true (omega (arith, c.in_ok-value.ensures, c.in_ok-checked_mul.ensures)))

pub returns : goal.returns
returns c =
    let l = c.loop-octet in
    let all = l.invariant.1 ∙ value_all l.value c.args.octets.now l.octet-index (omega arith) in
    sym (rw all (at_most c.args.most l.value l.invariant.0))
