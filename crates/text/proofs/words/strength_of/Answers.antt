-- By the table.
use Rattle.text.specs.Words.{ascii, chosen, strength_of}
use Rattle.text.proofs.words.strength_of.Goals as goal

pub returns : goal.returns
unfolding ascii chosen strength_of
returns c = c.choice.ensures
