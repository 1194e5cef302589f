-- By the table.
use Rattle.text.specs.Words.{ascii, chosen, verb_of}
use Rattle.text.proofs.words.verb_of.Goals as goal

pub returns : goal.returns
unfolding ascii chosen verb_of
returns c = c.choice.ensures
