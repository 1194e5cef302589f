-- Each way out is a case of the rules.
use Rattle.std.proofs.Common.{sym, refl, ◌∙◌, rules}
use Rattle.billing.specs.Status.{distance}
use Rattle.billing.proofs.Cases as Cases
use Rattle.billing.proofs.window.Numbers.{takes}
use Rattle.billing.proofs.window.Window.bill.Goals as goal

pub returns-then-distance-ge-OUTSIDE_FROM : goal.returns-then-distance-ge-OUTSIDE_FROM
unfolding distance
returns-then-distance-ge-OUTSIDE_FROM c = c.with.ensures ∙ takes c.args.self c.args.sequence (Cases.outside (search rules)) refl

pub returns-then-distance-next : goal.returns-then-distance-next
unfolding distance
returns-then-distance-next c = c.with-then-distance-next.ensures ∙ takes c.args.self c.args.sequence (Cases.in_order (search rules) (search rules)) c.advanced.ensures

pub returns-then-next-distance : goal.returns-then-next-distance
unfolding distance
returns-then-next-distance c = c.with-then-next-distance.ensures ∙ takes c.args.self c.args.sequence (Cases.gap (search rules) (search rules)) c.advanced-then-next-distance.ensures

pub returns-then-place-ge-MARKS : goal.returns-then-place-ge-MARKS
unfolding distance
returns-then-place-ge-MARKS c = c.with-then-place-ge-MARKS.ensures ∙ takes c.args.self c.args.sequence (Cases.old (search rules) (search rules)) refl

pub returns-then-is_marked : goal.returns-then-is_marked
unfolding distance
returns-then-is_marked c =
    let seen = sym c.is_marked.ensures ∙ c.if-is_marked.true in
    c.with-then-is_marked.ensures ∙ takes c.args.self c.args.sequence (Cases.duplicate (search rules) (search rules) (search rules) seen) refl

pub returns : goal.returns
unfolding distance
returns c =
    let unseen = sym c.is_marked.ensures ∙ c.if-is_marked.false in
    c.with-2.ensures ∙ takes c.args.self c.args.sequence (Cases.late (search rules) (search rules) (search rules) unseen) c.filled.ensures
