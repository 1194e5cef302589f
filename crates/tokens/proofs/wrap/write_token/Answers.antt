-- The front, the confounder and then message and pad, which were written in their place.
use mathlib.Core.Path.{◌≡◌, ap, ◌∙◌}
use mathlib.Core.List.{List}
use Prim.Native.Nat.{ℕ, ◌-◌, ◌≤◌}
use lib.ListN.{length, take, drop, length-drop}
use Rattle.tokens.specs.Limits.{placed}
use Rattle.tokens.specs.Wrap.{parts, wrap_token}
use Rattle.tokens.proofs.Lent.{front_fits, front_placed}
use Rattle.tokens.proofs.Placing.{rest_of}
use borrow.Author.Rules.{rules}
use native.Mathlib.Omega.{arith}
use Rattle.tokens.proofs.wrap.write_token.Goals as goal

-- the message of a region is that of its body
message : (region : List ℕ) → 33 ≤ length region
    → take (length (take (length region - 32) (drop 32 region)) - 1) (take (length region - 32) (drop 32 region)) ≡ take (length region - 33) (drop 32 region)
message region least =
    let count : length (drop 32 region) - 1 ≡ length region - 33 = rw length-drop (omega arith) in
    rw (rest_of 32 region, count)

pub place-requires : goal.place-requires
place-requires c =
    let size : length c.write_parts-front.result ≡ 24 = search rules in
    let long : 32 ≤ length c.args.region.now = omega (arith, c.requires) in
    front_fits 24 c.args.region.now c.write_parts-front.new.body long (length c.write_parts-front.result) 0 (omega arith)

pub place-requires-2 : goal.place-requires-2
place-requires-2 c =
    let size : length c.write_parts-front.new.confounder ≡ 8 = search rules in
    let long : 32 ≤ length c.args.region.now = omega (arith, c.requires) in
    let fits = front_fits 24 c.args.region.now c.write_parts-front.new.body long 8 24 (omega arith) in
    omega (arith, c.place.auto.buf)

pub returns : goal.returns
returns c =
    let front : length c.write_parts-front.result ≡ 24 = search rules in
    let eight : length c.write_parts-front.new.confounder ≡ 8 = search rules in
    let long : 32 ≤ length c.args.region.now = omega (arith, c.requires) in
    let a = c.args in
    let written = c.write_parts-front in
    c.place-2.ensures
    ∙ ap (placed 24 written.new.confounder) c.place.ensures
    ∙ front_placed 24 a.region.now written.new.body long written.result written.new.confounder front eight
    ∙ written.ensures
    ∙ ap (λ (l : List ℕ). wrap_token a.context (parts a.sequence a.sealed a.confounder l)) (message a.region.now c.requires)
