-- One operation: the sums in the printed order, rotated by the printed amount.
use Rattle.std.proofs.Common.{ℕ, List, get_or, ap, ◌∙◌, ap₂, arith}
use Rattle.primitives.specs.Word.{add, word_at, pick}
use Rattle.primitives.specs.Md5 as Md5
use Rattle.primitives.specs.declared.hash.Words.{Words}
use Rattle.primitives.proofs.Shifts.{md5_shift_rule, md5_shift_range, turned}
use Rattle.primitives.proofs.md5.Places.{words_below}
use Rattle.primitives.proofs.md5.Md5Compression.operation.Goals as goal

pub word_at-requires : goal.word_at-requires
word_at-requires c = rw c.args.self.now.words_printed (words_below c.args.n (omega arith))

pub returns : goal.returns
unfolding Md5.operation
returns c =
    let n = c.args.n in
    let w = c.args.w in
    let tables = c.args.self.now in
    let x = c.word_at.ensures ∙ ap (λ (l : List ℕ). word_at c.args.block.now (get_or l n 0)) tables.words_printed in
    let t = ap (λ (l : List ℕ). get_or l n 0) tables.addends_printed in
    let sum = ap₂ add (ap₂ add (ap (add w.a) c.auxiliary.ensures) x) t in
    let amount = c.shift.ensures ∙ ap (λ (l : List (List ℕ)). pick l n) tables.shifts_printed in
    let next : ℕ → Words = λ b. record { a = w.d; b = b; c = w.b; d = w.c } in
    ap next (ap (add w.b) (c.rotate_left-turned.ensures ∙ turned Md5.shifts_by_round Md5.shifts md5_shift_rule md5_shift_range n (omega arith) sum amount))
