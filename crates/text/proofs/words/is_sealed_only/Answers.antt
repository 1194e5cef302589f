-- The answer of the comparison.
use Rattle.std.proofs.Common.{eqb, ◌∙◌, ap}
use Rattle.std.specs.Cmp.Lexicographic.{pointwise}
use Rattle.text.specs.Words.{ascii, is_sealed_only}
use Rattle.text.proofs.Equal.{compared}
use Rattle.text.proofs.words.is_sealed_only.Goals as goal

pub returns : goal.returns
unfolding ascii is_sealed_only
returns c = c.eq.ensures ∙ ap (pointwise eqb c.args.word.now) c.as_slice.ensures ∙ compared c.args.word.now _
