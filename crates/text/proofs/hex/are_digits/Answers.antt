-- The library finds no octet that is not a digit.
use Rattle.std.proofs.Common.{rules, ◌∙◌}
use Rattle.std.proofs.lemmas.Iterator.Search.{all_from_yields_List}
use Rattle.std.proofs.lemmas.Iterator.{YieldsList-from_slice}
use Rattle.std.specs.Char.{is_ascii_hexdigit}
use Rattle.text.proofs.Digits.{library_digits}
use Rattle.text.proofs.hex.are_digits.Goals as goal

pub returns : goal.returns
returns c =
    let text = c.args.text.now in
    all_from_yields_List is_ascii_hexdigit _ _ _ c.all.ensures.ran (YieldsList-from_slice text cc) (λ x b q k. search rules) ∙ library_digits text
