-- The inner digest, and the outer hash of it.
use mathlib.Core.Path.{ap, ◌∙◌}
use Rattle.primitives.proofs.Laws.{hmac_inner_outer}
use Rattle.primitives.specs.Hash.{absorb, finished}
use Rattle.primitives.specs.declared.hash.Hash.{Hash}
use Rattle.tokens.proofs.mac.of.Goals as goal

pub returns : goal.returns
returns c =
    let text = c.args.text.now in
    hmac_inner_outer _ text (c.finish-digest.ensures ∙ ap finished (c.update.ensures ∙ ap (λ (h : Hash). absorb h text) c.begin_inner.ensures))
    (c.finish.ensures ∙ ap finished (c.update-2.ensures ∙ ap (λ (h : Hash). absorb h c.finish-digest.result) c.begin_outer.ensures))
