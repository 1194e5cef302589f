-- Each way out has its law in `proofs/Fronts.antt`.
use Rattle.std.proofs.Common.{sym, arith}
use Rattle.frame.proofs.Fronts as Law
use Rattle.frame.proofs.framing.framing_in.Goals as goal

pub returns-in_default : goal.returns-in_default
returns-in_default c = Law.none _ (omega arith)

pub returns-then-tag-ne-TAG : goal.returns-then-tag-ne-TAG
returns-then-tag-ne-TAG c = Law.other_tag c.args.octets.now (omega arith) (omega arith) c.if-tag-ne-TAG.true

pub returns-in-Counted : goal.returns-in-Counted
returns-in-Counted c =
    let l = c.in-Counted.ensures in
    Law.framed _ (omega arith) c.in-len1-up.len_at_least c.if-tag-ne-TAG.false _ _ l.0 l.1 l.2 l.3 (sym c.if-is_mechanism.ensures) l.4

pub returns-in-Cut : goal.returns-in-Cut
returns-in-Cut c =
    let l = c.in-Cut.ensures in
    Law.cut_off _ (omega arith) c.in-len1-up.len_at_least c.if-tag-ne-TAG.false _ l.0 l.1 l.2 l.3 l.4 (sym c.if-is_mechanism-2.ensures) l.5 l.6

pub returns-in-Incomplete : goal.returns-in-Incomplete
returns-in-Incomplete c = Law.length_begun _ (omega arith) c.in-len1-up.len_at_least c.if-tag-ne-TAG.false c.in-Incomplete.ensures

pub returns-in_default-contents_in : goal.returns-in_default-contents_in
returns-in_default-contents_in c =
    let l = c.in-Counted.ensures in
    Law.other_mechanism _ (omega arith) c.in-len1-up.len_at_least c.if-tag-ne-TAG.false _ _ l.0 l.1 l.2 l.3 (sym c.if-is_mechanism.ensures)

pub returns-in_default-contents_in-2 : goal.returns-in_default-contents_in-2
returns-in_default-contents_in-2 c =
    let l = c.in-Cut.ensures in
    Law.other_mechanism _ (omega arith) c.in-len1-up.len_at_least c.if-tag-ne-TAG.false _ l.0 l.1 l.2 l.3 l.4 (sym c.if-is_mechanism-2.ensures)

pub returns-in_default-contents_in-3 : goal.returns-in_default-contents_in-3
returns-in_default-contents_in-3 c = Law.no_length _ (omega arith) c.in-len1-up.len_at_least c.if-tag-ne-TAG.false c.in_default-contents_in.ensures
