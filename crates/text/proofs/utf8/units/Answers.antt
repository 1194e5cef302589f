-- The octets before those ahead were read. Each way out has its law in `proofs/Texts.antt`.
use Rattle.std.proofs.Common.{sym, ◌∙◌, arith, eqb-true, false-eqb}
use Rattle.text.proofs.Texts as Law
use Rattle.text.proofs.utf8.units.Goals as goal

pub returns-then-text-gt-MOST : goal.returns-then-text-gt-MOST
returns-then-text-gt-MOST c = Law.too_long _ c.if-text-gt-MOST.true

pub loop-ahead-init : goal.loop-ahead-init
loop-ahead-init c = rw c.new-units.ensures (Law.reads_none _)

pub returns-in_default : goal.returns-in_default
returns-in_default c = Law.not_utf8 c.loop-ahead.invariant (omega arith) (omega (arith, false-eqb _ 0 c.loop-ahead-test.ensures)) (sym c.character_in.ensures ∙ c.in_default.is)

pub push-requires : goal.push-requires
push-requires c =
    let x = Law.next (sym c.in-Some.ensures) in
    (x.below, omega (arith, c.loop-ahead.invariant.fewer, x.inside, x.no_more))

pub split_at-requires : goal.split_at-requires
split_at-requires c = (Law.next (sym c.in-Some.ensures)).inside

pub loop-ahead-smaller : goal.loop-ahead-smaller
loop-ahead-smaller c =
    let x = Law.next (sym c.in-Some.ensures) in
    omega (arith, c.split_at.ensures.back_len, x.some, x.inside)

pub loop-ahead-preserved : goal.loop-ahead-preserved
loop-ahead-preserved c = rw (c.push.ensures, c.split_at.ensures.back) (Law.reads_more (sym c.in-Some.ensures) c.loop-ahead.invariant)

pub returns : goal.returns
returns c = Law.all_read c.loop-ahead.invariant (omega arith) (omega (arith, eqb-true _ 0 (sym c.loop-ahead-test.ensures)))
