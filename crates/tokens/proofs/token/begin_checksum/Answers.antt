-- T and the header in turn are both of them joined.
use mathlib.Core.Path.{ap, sym, ◌∙◌}
use Rattle.primitives.specs.Hash.{absorb, begun}
use Rattle.primitives.specs.declared.hash.Hash.{Hash}
use Rattle.primitives.specs.declared.hash.Algorithm.TheVariants.{Md5}
use Rattle.primitives.proofs.Laws.{hash_append}
use Rattle.tokens.proofs.token.begin_checksum.Goals as goal

pub returns : goal.returns
returns c =
    let a = c.args in
    c.update-2.ensures
    ∙ ap (λ (h : Hash). absorb h a.header) (c.update.ensures ∙ ap (λ (h : Hash). absorb h a.t) c.new.ensures)
    ∙ sym (hash_append (begun Md5) a.t a.header)
