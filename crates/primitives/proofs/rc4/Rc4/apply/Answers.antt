-- At the head of each turn the state and the text are those of the octets so far.
use Rattle.std.proofs.Common.{ℕ, ◌<◌, length, get_or, arith, refl, ap, ◌∙◌, inl, inr, rules}
use Rattle.primitives.proofs.rc4.Loops.{applying_none, applying_more}
use Rattle.primitives.proofs.rc4.Rc4.apply.Goals as goal
use Rattle.primitives.proofs.rc4.Rc4.apply.Goals.{then-j-ahead, else-j-ahead}

pub loop-octet-init : goal.loop-octet-init
loop-octet-init c =
    let self = c.args.self in
    applying_none _ _ _ _ (search rules) (search rules) (search rules) (ap (λ (x : ℕ). get_or self.s x 0) c.from.ensures)

pub loop-octet-preserved : goal.loop-octet-preserved
loop-octet-preserved c =
    let loop = c.loop-octet in
    let more : loop.octet-index < length loop.text = omega (arith, loop.invariant.text_length) in
    rw (c.from-in-loop-octet-2.ensures, c.from-p.ensures, c.from-q.ensures)
    (applying_more loop.invariant more _ _ _ _ _ refl refl refl refl
    (elim c.if-j-ahead.branch [
      | then-j-ahead w ↦ inl (w.if-j-ahead.true, w.a-is ∙ ap (λ (x : ℕ). get_or c.loop-octet.s x 0) c.from-in-loop-octet.ensures)
      | else-j-ahead w ↦ inr (w.if-j-ahead.false, w.a-is)
    ]))
