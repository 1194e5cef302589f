-- The lengths of frames that are told beforehand, one table and one equation: the prover computes each left side to its right side.
use Rattle.std.specs.Prelude.{◌≡◌, refl, List, [], ◌∷◌, map}
use Rattle.tokens.specs.Mic.{mic_length}
use Rattle.tokens.specs.Rows.{Row, row}
use Rattle.tokens.specs.Wrap.{wrap_length}
use Rattle.frame.specs.Framing.{contents}
use Rattle.frame.specs.Length.{count_within, octet_count, high_first, der_length}

unfoldable pub rows : List Row
rows =
    -- a MIC token
    row (der_length (contents mic_length)) (0x23 ∷ [])
    -- Wrap tokens with messages of 0, 83, 84, 212 and 32,768 octets
    ∷ row (der_length (contents (wrap_length 0))) (0x2c ∷ [])
    ∷ row (der_length (contents (wrap_length 83))) (0x7f ∷ [])
    ∷ row (der_length (contents (wrap_length 84))) (0x81 ∷ 0x80 ∷ [])
    ∷ row (der_length (contents (wrap_length 212))) (0x82 ∷ 0x01 ∷ 0x00 ∷ [])
    ∷ row (der_length (contents (wrap_length 32768))) (0x82 ∷ 0x80 ∷ 0x2c ∷ [])
    ∷ []

-- each left side works out to its right side
pub rows_hold : map (λ (r : Row). r.left) rows ≡ map (λ (r : Row). r.right) rows
unfolding rows der_length octet_count count_within high_first
rows_hold = refl
