-- Each unit's two octets behind those of the units before it.
use mathlib.Core.Path.{◌≡◌, refl, ap, sym, ◌∙◌}
use mathlib.Core.List.{◌++◌}
use Prim.Native.Nat.{ℕ, ◌-◌, ◌*◌}
use lib.ListN.{length, take, replicate}
use Rattle.std.proofs.Common.{add-one}
use lib.Seq.{take-length}
use Rattle.tokens.specs.Key.{unicode}
use Rattle.tokens.proofs.Unicode.{stored}
use native.Mathlib.Omega.{arith}
use Rattle.tokens.proofs.key.unicode.Goals as goal

pub loop-i-init : goal.loop-i-init
unfolding unicode
loop-i-init c = refl

pub loop-i-preserved : goal.loop-i-preserved
loop-i-preserved c =
    let units = c.args.units.now in
    let i = c.loop-i.i in
    stored units i c.loop-i.octets _ (omega arith) c.requires c.loop-i.invariant (omega arith) (c.copy_from_slice.ensures.after ∙ c.to_le_bytes.ensures)
    ∙ ap (λ (k : ℕ). unicode (take k units) ++ replicate (512 - 2 * k) 0) (sym (add-one i))

pub returns : goal.returns
returns c =
    let all : c.loop-i.i ≡ length c.args.units.now = omega arith in
    rw (c.loop-i.invariant, all, take-length c.args.units.now)
