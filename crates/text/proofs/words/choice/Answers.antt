-- Each way out by the law in `proofs/Tables.antt`.
use Rattle.std.proofs.Common.{sym, ap, ◌∙◌, drop_of_length-le}
use Rattle.std.proofs.Common.{eqb}
use Rattle.std.specs.Cmp.Lexicographic.{pointwise}
use Rattle.text.proofs.Equal.{compared}
use Rattle.text.specs.Words.{chosen}
use Rattle.text.proofs.Tables.{entries, here, not_here}
use Rattle.text.proofs.words.choice.Goals as goal

pub returns-then-eq : goal.returns-then-eq
returns-then-eq g c =
    let found = sym (c.eq.ensures ∙ ap (pointwise eqb c.args.word.now) c.as_bytes.ensures.value ∙ compared c.args.word.now c.loop-name-item.result.0.now) ∙ c.if-eq.true in
    sym (here c.args.word.now c.args.choices.now c.loop-name.name-index c.loop-name-item.result c.loop-name-test.true c.loop-name-item.is found) ∙ c.loop-name.invariant

pub loop-name-preserved : goal.loop-name-preserved
loop-name-preserved g c =
    let found = sym (c.eq.ensures ∙ ap (pointwise eqb c.args.word.now) c.as_bytes.ensures.value ∙ compared c.args.word.now c.loop-name-item.result.0.now) ∙ c.if-eq.false in
    sym (not_here c.args.word.now c.args.choices.now c.loop-name.name-index c.loop-name-item.result c.loop-name-test.true c.loop-name-item.is found) ∙ c.loop-name.invariant

pub returns : goal.returns
unfolding chosen
returns g c =
    ap (λ table. chosen c.args.word.now (entries table)) (sym (drop_of_length-le c.args.choices.now {i = c.loop-name.name-index} c.loop-name-test.false)) ∙ c.loop-name.invariant
