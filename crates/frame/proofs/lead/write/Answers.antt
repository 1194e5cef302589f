-- The three parts, one after the other.
use Rattle.std.proofs.Common.{◌≡◌, ◌∙◌, ap, sym, length, arith}
use Rattle.frame.specs.Framing.{mechanism, contents}
use Rattle.frame.specs.Length.{der_length}
use Rattle.frame.proofs.Leads.{room, tag_length, form_length, lead_written}
use Rattle.frame.proofs.lead.write.Goals as goal
use Rattle.frame.proofs.lead.write.Goals.{After-copy_from_slice}

-- the length, as it stands in the buffer
copied : (c : After-copy_from_slice) → (c.len.result ≡ length c.copy_from_slice.new.self) × (c.copy_from_slice.new.self ≡ der_length (contents c.args.n))
copied c =
    let same : c.copy_from_slice.new.self ≡ c.shortest-length.result = c.copy_from_slice.ensures.after ∙ c.as_slice.ensures in
    (c.len.ensures.is ∙ ap length (sym same), same ∙ c.shortest-length.ensures)

pub bounds-buf-start : goal.bounds-buf-start
bounds-buf-start c = omega (arith, room c.args.start c.args.n _ _ c.args.buf.now c.len.ensures.is c.shortest-length.ensures c.requires.1)

pub slice_bounds-copy_from_slice-end : goal.slice_bounds-copy_from_slice-end
slice_bounds-copy_from_slice-end c =
    let a = c.args in
    let fits = room a.start a.n _ _ a.buf.now c.len.ensures.is c.shortest-length.ensures c.requires.1 in
    let kept = tag_length a.start a.n _ _ a.buf.now c.len.ensures.is c.shortest-length.ensures c.requires.1 in
    omega (arith, fits, kept)

pub slice_bounds-copy_from_slice-end-2 : goal.slice_bounds-copy_from_slice-end-2
slice_bounds-copy_from_slice-end-2 c =
    let a = c.args in
    let form = copied (goal.at.slice_bounds-copy_from_slice-end-2 c).After-copy_from_slice in
    omega (arith, room a.start a.n _ _ a.buf.now form.0 form.1 c.requires.1, form_length a.start a.n _ _ a.buf.now form.0 form.1 c.requires.1)

pub returns : goal.returns
unfolding mechanism
returns c =
    let form = copied (goal.at.returns c).After-copy_from_slice in
    rw c.copy_from_slice-2.ensures.after (lead_written c.args.start c.args.n _ _ c.args.buf.now form.0 form.1 c.requires.1)
