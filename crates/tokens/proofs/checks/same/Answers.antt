-- One pair more, until the lists end.
use mathlib.Core.Path.{◌≡◌, sym, ap, ap₂, refl, ◌∙◌}
use mathlib.Core.Bool.{Bool, ◌&&◌}
use mathlib.Core.List.{[], ◌∷◌, ◌++◌}
use Prim.Native.Nat.{ℕ, suc}
use lib.Dec.{eqb}
use lib.ListN.{length, take, get_or, length-append}
use lib.Seq.{take-length}
use native.Mathlib.Omega.{arith}
use borrow.Author.Rules.{rules}
use Rattle.std.proofs.lemmas.Slice.Zip.{zip_turn, zip_end}
use Rattle.tokens.specs.Octets.{same}
use Rattle.tokens.proofs.SameOctets.{not_same, same_more, no_difference}
use Rattle.tokens.proofs.checks.same.Goals as goal

pub returns-then-a-b : goal.returns-then-a-b
returns-then-a-b c = sym (not_same _ _ (λ e. c.if-a-b.true (ap length e)))

pub loop-x-init : goal.loop-x-init
unfolding same
loop-x-init c = refl

pub loop-x-preserved : goal.loop-x-preserved
loop-x-preserved c =
    let a = c.args.a.now in
    let b = c.args.b.now in
    let i = length c.loop-x.yielded in
    let d = c.loop-x.difference in
    let from = c.into_iter-x-iterator.result in
    let first : from.a.rest.now ≡ a = search rules in
    let second : from.b.rest.now ≡ b = search rules in
    let turn = zip_turn a b c.loop-x.yielded from c.loop-x.x-iterator c.next.new.self c.next.result first second c.loop-x.yielded_by (c.in-Some.x, c.in-Some.y) c.in-Some.is c.next.ensures.steps in
    let more : length (c.loop-x.yielded ++ ((c.in-Some.x, c.in-Some.y) ∷ [])) ≡ suc i = length-append c.loop-x.yielded _ ∙ omega arith in
    rw (more, turn.2 0, turn.3 0)
    (same_more a b i c.if-a-b.false turn.0
    ∙ ap (λ (t : Bool). t && eqb (get_or a i 0) (get_or b i 0)) c.loop-x.invariant
    ∙ sym (no_difference d (get_or a i 0) (get_or b i 0)))

pub returns : goal.returns
returns c =
    let a = c.args.a.now in
    let b = c.args.b.now in
    let from = c.into_iter-x-iterator.result in
    let first : from.a.rest.now ≡ a = search rules in
    let second : from.b.rest.now ≡ b = search rules in
    let end = zip_end a b c.loop-x.yielded from c.loop-x.x-iterator c.next.new.self c.next.result first second c.loop-x.yielded_by c.in-None.is c.next.ensures.steps in
    let all : length c.loop-x.yielded ≡ length a = omega arith in
    let all-b : length c.loop-x.yielded ≡ length b = omega arith in
    sym (sym (ap₂ same (ap (λ (k : ℕ). take k a) all ∙ take-length a) (ap (λ (k : ℕ). take k b) all-b ∙ take-length b)) ∙ c.loop-x.invariant)
