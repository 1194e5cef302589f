-- The inner digest of both parts, and the outer hash of it.
use mathlib.Core.Path.{sym, ap, ◌∙◌}
use mathlib.Core.List.{◌++◌}
use Rattle.primitives.proofs.Laws.{hash_append, hmac_inner_outer}
use Rattle.primitives.specs.Hash.{absorb, finished}
use Rattle.primitives.specs.declared.hash.Hash.{Hash}
use Rattle.tokens.proofs.mac.of_two.Goals as goal

pub returns : goal.returns
returns c =
    let first = c.args.first.now in
    let second = c.args.second.now in
    hmac_inner_outer _ (first ++ second)
    (c.finish-digest.ensures
    ∙ ap finished
    (c.update-2.ensures
    ∙ ap (λ (h : Hash). absorb h second) (c.update.ensures ∙ ap (λ (h : Hash). absorb h first) c.begin_inner.ensures)
    ∙ sym (hash_append _ first second)))
    (c.finish.ensures ∙ ap finished (c.update-3.ensures ∙ ap (λ (h : Hash). absorb h c.finish-digest.result) c.begin_outer.ensures))
