-- The digest of T and the data in two parts is that of the whole.
use mathlib.Core.Path.{◌≡◌, ap, ap₂, sym, ◌∙◌}
use mathlib.Core.List.{◌++◌}
use Rattle.primitives.specs.Hash.{absorb, begun, finished, md5}
use Rattle.primitives.specs.Hmac.{hmac}
use Rattle.primitives.specs.declared.hash.Hash.{Hash}
use Rattle.primitives.specs.declared.hash.Algorithm.TheVariants.{Md5 as is_md5}
use Rattle.primitives.proofs.Laws.{hash_append, hash_digest}
use Rattle.tokens.specs.Checksum.{checksum}
use Rattle.tokens.proofs.checksum.checksum_of.Goals as goal

pub returns : goal.returns
unfolding checksum
returns c =
    let a = c.args in
    let octets = a.«data».now in
    let t = a.t in
    let digest : c.finish-digest.result ≡ md5 (t ++ octets)
    = c.finish-digest.ensures
    ∙ ap finished
    (c.update-2.ensures
    ∙ ap (λ (h : Hash). absorb h octets) (c.update.ensures ∙ ap (λ (h : Hash). absorb h t) c.new.ensures)
    ∙ sym (hash_append (begun is_md5) t octets))
    ∙ hash_digest is_md5 (t ++ octets) in
    c.of.ensures ∙ ap₂ hmac c.signature_key.ensures digest
