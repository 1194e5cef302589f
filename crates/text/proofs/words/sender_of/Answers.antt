-- By the table.
use Rattle.text.specs.Words.{ascii, chosen, sender_of}
use Rattle.text.proofs.words.sender_of.Goals as goal

pub returns : goal.returns
unfolding ascii chosen sender_of
returns c = c.choice.ensures
