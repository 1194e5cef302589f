-- The words of the command line, each spelled out.
use Rattle.std.specs.Prelude.{ℕ, Bool, true, false, cond, List, [], ◌∷◌, Option, Some, None}
use Prim.Native.Char.{code}
use Prim.Native.String.{String, [] as empty, ◌∷◌ as ◌then◌}
use Rattle.tokens.specs.Octets.{same}
use Rattle.tokens.specs.declared.context.Sender.{Sender}
use Rattle.tokens.specs.declared.context.Sender.TheVariants.{Initiator, Acceptor}
use Rattle.tokens.specs.declared.strength.Strength.{Strength}
use Rattle.tokens.specs.declared.strength.Strength.TheVariants.{Full, Export}
use Rattle.text.specs.declared.words.Verb.{Verb}
use Rattle.text.specs.declared.words.Verb.TheVariants as verbs

-- the octets of a word in ASCII
unfoldable pub ascii : String → List ℕ
ascii empty = []
ascii (c then word) = code c ∷ ascii word

-- the choice that the first equal word of a table stands for
unfoldable pub chosen : {T : Type 0} → List ℕ → List (List ℕ × T) → Option T
chosen word [] = None
chosen word (entry ∷ table) = cond (same word entry.0) (Some entry.1) (chosen word table)

-- what the program is asked to do
unfoldable pub verb_of : List ℕ → Option Verb
verb_of word =
    chosen word (
    (ascii "key", verbs.Key)
    ∷ (ascii "checksum", verbs.Checksum)
    ∷ (ascii "bill", verbs.Bill)
    ∷ (ascii "help", verbs.Help)
    ∷ (ascii "open", verbs.Open)
    ∷ (ascii "wrap", verbs.Wrap)
    ∷ (ascii "verify", verbs.Verify)
    ∷ (ascii "mic", verbs.Mic)
    ∷ (ascii "decrypt", verbs.Decrypt)
    ∷ (ascii "encrypt", verbs.Encrypt)
    ∷ []
    )

unfoldable pub strength_of : List ℕ → Option Strength
strength_of word = chosen word ((ascii "full", Full) ∷ (ascii "export", Export) ∷ [])

unfoldable pub sender_of : List ℕ → Option Sender
sender_of word = chosen word ((ascii "initiator", Initiator) ∷ (ascii "acceptor", Acceptor) ∷ [])

unfoldable pub sealing_of : List ℕ → Option Bool
sealing_of word = chosen word ((ascii "sealed", true) ∷ (ascii "clear", false) ∷ [])

unfoldable pub is_framed : List ℕ → Bool
is_framed word = same word (ascii "framed")

unfoldable pub is_sealed_only : List ℕ → Bool
is_sealed_only word = same word (ascii "sealed-only")
