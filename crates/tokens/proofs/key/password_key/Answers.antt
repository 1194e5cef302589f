-- The length's refusal, or the digest of the units' octets, which stand at the front of the array.
use mathlib.Core.Path.{◌≡◌, ap, sym, ◌∙◌}
use Prim.Native.Nat.{◌*◌, ◌≤◌}
use lib.ListN.{length, take}
use lib.Seq.{take_at, length-take-le}
use Rattle.std.specs.Prelude.{Ok}
use Rattle.primitives.specs.Hash.{absorb, begun, finished}
use Rattle.primitives.specs.declared.hash.Algorithm.TheVariants.{Md4 as is_md4}
use Rattle.primitives.specs.declared.hash.Hash.{Hash}
use Rattle.primitives.proofs.Laws.{hash_digest}
use Rattle.tokens.specs.Key as Spec
use Rattle.tokens.proofs.Steps.{goes_on, stops, exits, bounds}
use Rattle.tokens.proofs.Unicode.{unicode_length}
use borrow.Author.Rules.{rules}
use native.Mathlib.Omega.{arith}
use Rattle.tokens.proofs.key.password_key.Goals as goal

pub returns-in_err-length : goal.returns-in_err-length
unfolding Spec.password_key
returns-in_err-length c = exits _ _ c.from_residual.ensures.1 (stops _ _ _ c.length.ensures c.in_err-length.was)

pub unicode-octets-requires : goal.unicode-octets-requires
unicode-octets-requires c = (bounds c.in_ok-length.was 0 256 (length c.args.units.now) c.length.ensures).1

pub slice_bounds-octets-end : goal.slice_bounds-octets-end
slice_bounds-octets-end c =
    let most = (bounds c.in_ok-length.was 0 256 (length c.args.units.now) c.length.ensures).1 in
    let size : length c.unicode-octets.result ≡ 512 = search rules in
    omega (arith, most)

pub slice_bounds-update-end : goal.slice_bounds-update-end
slice_bounds-update-end c =
    let most = (bounds c.in_ok-length.was 0 256 (length c.args.units.now) c.length.ensures).1 in
    let size : length c.unicode-octets.result ≡ 512 = search rules in
    let fits : 2 * length c.args.units.now ≤ length c.unicode-octets.result = omega (arith, most) in
    sym (length-take-le _ _ fits)

pub returns : goal.returns
unfolding Spec.password_key Spec.string_to_key
returns c =
    let units = c.args.units.now in
    let octets = c.unicode-octets in
    let front : take (2 * length units) octets.result ≡ Spec.unicode units
    = ap (take (2 * length units)) octets.ensures ∙ take_at (Spec.unicode units) _ (2 * length units) (unicode_length units) in
    let digest = c.finish.ensures
    ∙ ap finished (c.update.ensures ∙ ap (λ (h : Hash). absorb h (take (2 * length units) octets.result)) c.new.ensures ∙ ap (absorb (begun is_md4)) front)
    ∙ hash_digest is_md4 (Spec.unicode units) in
    ap Ok digest ∙ sym (goes_on _ _ _ c.length.ensures c.in_ok-length.was)
