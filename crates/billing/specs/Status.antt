-- The rules of a session: what a sequence number is to it, and which numbers are billed.
use Rattle.std.specs.Prelude.{ℕ, ◌+◌, ◌-◌, ◌%◌, Bool, true, false, cond, ◌==◌, nat_le, nat_lt, List, codes}
use Rattle.tokens.specs.Token.{sequence_numbers}
use Rattle.billing.specs.declared.status.Status.{Status}
use Rattle.billing.specs.declared.status.Status.TheVariants.{InOrder, Gap, Late, Duplicate, Old, Outside}

-- the number that a caller is given; 0 is left for no status
abbrev pub number : Status → ℕ
number InOrder = 1
number Gap = 2
number Late = 3
number Duplicate = 4
number Old = 5
number Outside = 6

-- the words of a status
abbrev pub words : Status → List ℕ
words InOrder = codes "in order"
words Gap = codes "gap"
words Late = codes "late"
words Duplicate = codes "duplicate"
words Old = codes "old"
words Outside = codes "outside"

-- the distance of a sequence number: the number minus the session's first, modulo 2^32
unfoldable pub distance : ℕ → ℕ → ℕ
distance first n = (n + (sequence_numbers - first)) % sequence_numbers

-- the distances from 2^31 on are outside
abbrev pub outside_from : ℕ
outside_from = 2147483648

-- how far below the next expected distance a number can be late
abbrev pub late_most : ℕ
late_most = 64

-- The status of a number at the distance d. `next` is the next expected distance, and `billed` says whether the number has been
-- billed before. The first of the cases that applies: outside; at the next expected distance, in order (GSS_S_COMPLETE); above it, a
-- gap (GSS_S_GAP_TOKEN); below it by at most 64, a duplicate if it has been billed (GSS_S_DUPLICATE_TOKEN), and else late
-- (GSS_S_UNSEQ_TOKEN); further below, old (GSS_S_OLD_TOKEN). The names are those of RFC 2743, section 1.2.3.
unfoldable pub status_at : ℕ → Bool → ℕ → Status
status_at next billed d =
    cond (nat_le outside_from d) Outside
    (cond (d == next) InOrder
    (cond (nat_lt next d) Gap
    (cond (nat_le (next - d) late_most) (cond billed Duplicate Late)
    Old)))

-- in order, gap and late are billed
abbrev pub is_billed : Status → Bool
is_billed InOrder = true
is_billed Gap = true
is_billed Late = true
is_billed Duplicate = false
is_billed Old = false
is_billed Outside = false
