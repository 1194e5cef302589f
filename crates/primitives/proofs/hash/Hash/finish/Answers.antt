-- The first octets of the 72 that are laid out are the padding.
use Rattle.std.proofs.Common.{◌≡◌, ℕ, ◌+◌, ◌-◌, List, take, replicate, ap, ◌∙◌, ap₂, take_at}
use Rattle.primitives.specs.Hash.{zeros, padding, output, absorb, finished}
use Rattle.primitives.specs.declared.hash.Hash.{Hash}
use Rattle.primitives.proofs.Padding.{padding_length}
use Rattle.primitives.proofs.hash.Hash.finish.Goals as goal

pub returns : goal.returns
unfolding finished
returns c =
    let self = c.args.self in
    let n = self.count in
    let pad : take (c.zeros-end.result + 9) c.padding-pad.result ≡ padding n =
    ap₂ (λ (k : ℕ) (l : List ℕ). take (k + 9) l) c.zeros-end.ensures.0 c.padding-pad.ensures
    ∙ take_at (padding n) (replicate (63 - zeros n) 0) (zeros n + 9) (padding_length n) in
    c.output.ensures ∙ ap (λ (h : Hash). output h.words) (c.update.ensures ∙ ap (absorb self) pad)
