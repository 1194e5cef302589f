-- Each way out by the law in `proofs/Characters.antt`.
use Rattle.std.proofs.Common.{true, ◌≡◌, eqb, ◌-◌, ◌&&◌, cond, None, refl, sym, ap, ◌∙◌, arith, take, drop}
use Rattle.std.specs.Cmp.Lexicographic.{pointwise}
use Rattle.tokens.specs.Octets.{same}
use Rattle.text.proofs.Equal.{compared}
use Rattle.text.specs.Utf8.{character_in, is_character, utf8, value_after}
use Rattle.text.proofs.Characters as Law
use Rattle.text.proofs.utf8.character_in.Goals as goal
use Rattle.text.proofs.utf8.character_in.Goals.{After-value-value, After-eq}

-- what the definition says, where the octets that the first announces are there
said : (c : After-value-value) → character_in c.args.octets.now
    ≡ cond (is_character c.value-value.result && same (take c.first_octet-width.result.0 c.args.octets.now) (utf8 c.value-value.result)) (Law.numbered c.first_octet-width.result.0 c.value-value.result) None
said c =
    let octets = c.args.octets.now in
    let first = c.first_octet-width.ensures in
    let width = c.first_octet-width.result.0 in
    let number = c.value-value.ensures ∙ ap (λ bits. value_after bits (take (width - 1) (drop 1 octets))) first.bits ∙ Law.value_of_front octets width c.requires first.some.0 in
    Law.found octets width c.value-value.result first.width number (omega arith)

-- what the two comparisons told
module _ (c : After-eq) where
  told : same (take c.first_octet-width.result.0 c.args.octets.now) (utf8 c.value-value.result) ≡ c.eq.result
  told =
      let front = take c.first_octet-width.result.0 c.args.octets.now in
      sym (c.eq.ensures ∙ ap (pointwise eqb front) c.encoded.ensures ∙ compared front _)

  one : is_character c.value-value.result ≡ true
  one = sym c.is_character.ensures ∙ c.if-not-is_character.false

pub returns-then-octets-width : goal.returns-then-octets-width
returns-then-octets-width c = let w = c.first_octet-width.ensures.width in sym (Law.cut_short _ (omega arith))

pub returns-then-not-is_character : goal.returns-then-not-is_character
returns-then-not-is_character c = sym (said (goal.at.returns-then-not-is_character c).After-value-value ∙ rw (sym c.is_character.ensures ∙ c.if-not-is_character.true) refl)

pub encoded-requires : goal.encoded-requires
encoded-requires c = Law.character_most _ (sym c.is_character.ensures ∙ c.if-not-is_character.false)

pub returns-else-eq : goal.returns-else-eq
returns-else-eq c =
    let compared = goal.at.returns-else-eq c in
    sym (said compared.After-value-value ∙ rw (one compared.After-eq, told compared.After-eq ∙ c.if-eq.false) refl)

pub returns-then-eq : goal.returns-then-eq
returns-then-eq c =
    let compared = goal.at.returns-then-eq c in
    sym (said compared.After-value-value ∙ rw (one compared.After-eq, told compared.After-eq ∙ c.if-eq.true) refl)
