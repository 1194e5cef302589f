-- The turns so far are done, and the iterator stands at the next octet of the key.
use Rattle.std.proofs.Common.{ℕ, ◌+◌, ◌%◌, get_or, refl, ap, ◌∙◌, ap₂, arith, rules}
use Rattle.std.specs.Slice.Iter.{iter_rest}
use Rattle.primitives.proofs.Cycle.{begun, cycled, endless, spent}
use Rattle.primitives.proofs.rc4.Loops.{scheduling_none, scheduling_more, scheduling_done}
use Rattle.primitives.proofs.rc4.key_schedule.Goals as goal

pub loop-i-init : goal.loop-i-init
loop-i-init c =
    let e = c.iter.ensures.rest in
    rw (c.into_iter-i-iterator.ensures.into_iter_gives, c.enumerate-i-items.ensures.count, c.enumerate-i-items.ensures.source, c.take.ensures.source, c.take.ensures.count)
    (scheduling_none _ _ c.up_to_256-s.ensures, begun (ap iter_rest c.cycle.ensures.start ∙ e) (c.cycle.ensures.source ∙ e), refl)

pub overflow_add-j : goal.overflow_add-j
overflow_add-j c = let below = c.loop-i.invariant.0.j_below in search rules

pub overflow_add-j-in-loop-i : goal.overflow_add-j-in-loop-i
overflow_add-j-in-loop-i c = let below = c.loop-i.invariant.0.j_below in search rules

pub loop-i-preserved : goal.loop-i-preserved
loop-i-preserved c =
    let loop = c.loop-i in
    let (turned, cycling, all) = loop.invariant in
    let (step, at, on, _) = c.in-Some.ensures.steps in
    let came = cycled _ c.requires cycling _ step.0 in
    rw (at, on) (
      scheduling_more turned (omega (arith, all, step.1)) _ _ _ _ refl came.0
          (ap₂ (λ (x y : ℕ). (loop.j + x + y) % 256) (c.from.ensures ∙ ap (λ (m : ℕ). get_or loop.s m 0) at) c.from-in-loop-i.ensures) refl,
      came.1,
      omega (arith, all, step.1),
    )

pub returns : goal.returns
returns c =
    let (turned, cycling, all) = c.loop-i.invariant in
    let left = spent _ (λ some. endless _ c.requires cycling (c.in-None.ensures.steps.0 some)) in
    scheduling_done turned (omega (arith, all, left))
