-- Each way out has its law in `proofs/Contents.antt`.
use Rattle.std.proofs.Common.{subst, arith, ℕ, List, ◌+◌, ◌-◌, length, take, drop}
use Rattle.frame.specs.Length.{LengthIs}
use Rattle.frame.proofs.Contents as Law
use Rattle.frame.proofs.Lengths.{split_first}
use Rattle.frame.proofs.length.contents_in.Goals as goal

pub returns-in-empty : goal.returns-in-empty
returns-in-empty c = Law.none_begun c.args.least c.args.octets.now c.requires (omega arith)

pub returns-in-0-to-127 : goal.returns-in-0-to-127
returns-in-0-to-127 c =
    let octets : List ℕ = c.args.octets.now in
    let rest : List ℕ = take (length octets - 1) (drop 1 octets) in
    let whole = split_first octets c.from.result c.in-0-to-127.len_at_least c.from.ensures in
    rw c.short_form.ensures (rw whole at (Law.short_form_lem c.args.least c.from.result rest (omega arith)))

pub returns-in-128 : goal.returns-in-128
returns-in-128 c = Law.no_count c.args.least c.args.octets.now c.in-128.len_at_least (grind arith)

pub returns-in-len1-up : goal.returns-in-len1-up
returns-in-len1-up c =
    let whole = split_first c.args.octets.now (128 + (c.from-in-len1-up.result - 128)) c.in-len1-up.len_at_least (omega (arith, c.from-in-len1-up.ensures)) in
    subst (λ (l : List ℕ). LengthIs c.args.least l c.long_form.result) whole c.long_form.ensures
