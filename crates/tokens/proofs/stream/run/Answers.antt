-- The two runs are one.
use mathlib.Core.Path.{sym, ap, ap₂, ◌∙◌}
use mathlib.Core.List.{List, ◌++◌}
use Prim.Native.Nat.{ℕ}
use lib.ListN.{length}
use Rattle.primitives.specs.Rc4.{apply, after, key_schedule}
use Rattle.primitives.specs.declared.rc4.Rc4.{Rc4}
use Rattle.primitives.proofs.Laws.{apply_append}
use Rattle.tokens.proofs.stream.run.Goals as goal

pub returns : goal.returns
returns c =
    let confounder = c.args.confounder.now in
    let body = c.args.body.now in
    let begun = c.new.ensures in
    let first = c.apply.ensures in
    let second = c.apply-2.ensures in
    ap₂ (λ (x y : List ℕ). x ++ y)
    (first.text_left ∙ ap (λ (st : Rc4). apply st confounder) begun)
    (second.text_left ∙ ap (λ (st : Rc4). apply st body) (first.state_on ∙ ap (λ (st : Rc4). after st (length confounder)) begun))
    ∙ sym (apply_append (key_schedule c.args.key) confounder body)
