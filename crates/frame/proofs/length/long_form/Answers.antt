-- Each way out has its law in `proofs/Contents.antt`.
use Rattle.std.proofs.Common.{sym, arith, length, get_or, ◌<◌, ◌≤◌}
use Rattle.frame.specs.Length.{least_digit}
use Rattle.frame.proofs.Contents as Law
use Rattle.frame.proofs.length.long_form.Goals as goal
use Rattle.frame.proofs.length.long_form.Goals.{In_default, in_default-via-then-rest-lt1, in_default-via-in-len1-up+else-digit-least_digit}

-- the first digit, if there is one, is not below the least
first_digit : (c : In_default) → 0 < length c.args.rest.now → least_digit c.args.count ≤ get_or c.args.rest.now 0 0
first_digit c some = elim c.in_default.branch [
  | in_default-via-then-rest-lt1 w ↦ grind arith
  | in_default-via-in-len1-up+else-digit-least_digit w ↦ omega (arith, w.least_digit.ensures)
]

pub returns-in-len1-up : goal.returns-in-len1-up
returns-in-len1-up c = Law.low_digit c.args.least c.args.count c.args.rest.now c.in-len1-up.len_at_least (omega (arith, c.least_digit.ensures))

pub returns-in_default : goal.returns-in_default
returns-in_default c =
    Law.begun c.args.least c.args.count c.args.rest.now c.requires.0 (λ i. (c.type_inv.rest i).fits) c.if-rest-count.true c.requires.2 (first_digit (goal.at.returns-in_default c).In_default)

pub returns-in-Some : goal.returns-in-Some
returns-in-Some c =
    let long = Law.long_form c.args.least c.args.count c.args.rest.now c.requires (λ i. (c.type_inv.rest i).fits) c.if-rest-count.false (first_digit (goal.at.returns-in-Some c).In_default) in
    Law.long_counted _ _ _ long _ (sym c.in-Some.ensures)

pub returns-in-None : goal.returns-in-None
returns-in-None c =
    let long = Law.long_form c.args.least c.args.count c.args.rest.now c.requires (λ i. (c.type_inv.rest i).fits) c.if-rest-count.false (first_digit (goal.at.returns-in-None c).In_default) in
    Law.long_cut _ _ _ long (sym c.in-None.ensures)
