-- The octets of the number of bits go in after the zeros.
use Rattle.std.proofs.Common.{◌≡◌, length, sym, ◌∙◌, refl, arith, rules}
use Rattle.std.proofs.lemmas.Slice.{put_mid-paste}
use Rattle.primitives.proofs.Padding.{laid_out}
use Rattle.primitives.proofs.hash.padding.Goals as goal

pub returns : goal.returns
returns c =
    let copied = c.copy_from_slice.ensures in
    let size : length c.to_le_bytes-bits.result ≡ 8 = search rules in
    put_mid-paste _ _ _ _ _ 8 copied.after (omega arith) (sym size) ∙ laid_out c.args.n refl c.zeros-at.ensures.0 c.to_le_bytes-bits.ensures
