-- What `from_slice` keeps is the salt.
use mathlib.Core.Path.{◌∙◌}
use borrow.Author.Rules.{rules}
use Rattle.tokens.proofs.Salts.{full_salt_lem, export_salt_lem}
use Rattle.tokens.proofs.strength.Strength.salt.Goals as goal

pub returns-in-Full : goal.returns-in-Full
returns-in-Full c = rw c.in-Full.is (c.from_slice.ensures ∙ full_salt_lem c.args.t (search rules))

pub returns-in-Export : goal.returns-in-Export
returns-in-Export c = rw c.in-Export.is (c.from_slice-in-Export.ensures ∙ export_salt_lem c.args.t (search rules))
