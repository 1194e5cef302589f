-- What the library says that a digit stands for is what the definitions say.
use Rattle.std.proofs.Common.{◌≡◌, ℕ, ltb, ◌<◌, ◌≤◌, arith}
use Rattle.std.specs.Char.{digit_value, is_ascii_hexdigit}
use Rattle.std.proofs.lemmas.Grind.{common_steps}
use Rattle.text.specs.Decimal as decimal
use Rattle.text.specs.Hex as hex

pub decimal_digit : (c d : ℕ) → (digit_value c < 10) × (d ≡ digit_value c) → (d ≡ decimal.value c) × (d < 10)
decimal_digit c d h = grind (arith, common_steps)

pub no_decimal_digit : (c : ℕ) → (digit_value c < 10 → ⊥) → 10 ≤ decimal.value c
no_decimal_digit c h = grind (arith, common_steps)

pub hex_digit : (c d : ℕ) → (digit_value c < 16) × (d ≡ digit_value c) → (d ≡ hex.value c) × (d < 16)
hex_digit c d h = grind (arith, common_steps)

pub no_hex_digit : (c : ℕ) → (digit_value c < 16 → ⊥) → 16 ≤ hex.value c
no_hex_digit c h = grind (arith, common_steps)

pub library_digit : (c : ℕ) → is_ascii_hexdigit c ≡ ltb (hex.value c) 16
library_digit c = grind (arith, common_steps)
