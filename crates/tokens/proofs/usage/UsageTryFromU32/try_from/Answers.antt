-- The test as the definition makes it, and T from the list.
use mathlib.Core.Path.{refl}
use borrow.Author.Tests.{le-leb}
use borrow.Author.Rules.{rules}
use native.Mathlib.Omega.{arith}
use Rattle.std.proofs.lemmas.Bool.Decides.{nat_tests}
use Rattle.tokens.specs.Answer.{require}
use Rattle.tokens.specs.Usage.{message_type, named}
use Rattle.tokens.proofs.MessageTypes.{one_octet}
use Rattle.tokens.proofs.usage.UsageTryFromU32.try_from.Goals as goal

pub returns-then-number-lt-AS_REQ_PA_ENC_TIMESTAMP : goal.returns-then-number-lt-AS_REQ_PA_ENC_TIMESTAMP
unfolding named require
returns-then-number-lt-AS_REQ_PA_ENC_TIMESTAMP c = grind (arith, nat_tests)

pub returns : goal.returns
unfolding named require message_type
returns c =
    let n = c.args.number in
    rw (le-leb 1 n (omega arith), le-leb n 15 (omega arith), ← one_octet n _ refl (search rules))
