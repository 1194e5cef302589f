-- By the table.
use Rattle.text.specs.Words.{ascii, chosen, sealing_of}
use Rattle.text.proofs.words.sealing_of.Goals as goal

pub returns : goal.returns
unfolding ascii chosen sealing_of
returns c = c.choice.ensures
