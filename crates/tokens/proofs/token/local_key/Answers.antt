-- Each octet by itself.
use mathlib.Core.Path.{◌≡◌, sym, ◌∙◌}
use Prim.Native.Nat.{ℕ, ◌<◌}
use lib.ListN.{length, length-map}
use borrow.Author.Rules.{rules}
use native.Mathlib.Omega.{arith}
use Rattle.std.specs.Int.Bits.{bit_xor}
use Rattle.std.proofs.lemmas.List.{same_lists, get_or-map}
use Rattle.tokens.specs.Token.{local_key}
use Rattle.tokens.proofs.token.local_key.Goals as goal

pub returns : goal.returns
unfolding local_key
returns c =
    let key = c.args.key in
    let flip = λ (octet : ℕ). bit_xor octet 0xf0 in
    let size : length c.map.result ≡ 16 = search rules in
    let sixteen : length key ≡ 16 = search rules in
    same_lists _ _ (size ∙ sym (length-map key flip ∙ sixteen)) (λ k d h.
    let inside : k < length key = omega arith in
    let at = c.map.ensures.items.at k d d (omega (arith, c.map.ensures.items.long)) in
    let called : lib.ListN.get_or c.map.result k d ≡ flip (lib.ListN.get_or key k d) = search (rules, at) in
    called ∙ sym (get_or-map flip key k d d inside))
