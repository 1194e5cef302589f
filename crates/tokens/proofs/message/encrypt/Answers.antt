-- The refusals of the length, the region and the usage, in their order, or the region written.
use mathlib.Core.Path.{◌≡◌, ◌∙◌}
use Prim.Native.Nat.{◌+◌, ◌-◌}
use lib.ListN.{length, length-take, length-drop}
use Rattle.std.specs.Prelude.{Ok}
use Rattle.tokens.specs.Limits.{region}
use Rattle.tokens.specs.Message as Spec
use Rattle.tokens.specs.Usage.{type_octets}
use Rattle.tokens.proofs.Steps.{goes_on, stops, exit_told, bounds, fits, named_stops, named_on}
use Rattle.tokens.proofs.message.Regions.{written_length, written_buffer}
use borrow.Author.Rules.{rules}
use native.Mathlib.Omega.{arith}
use Rattle.tokens.proofs.message.encrypt.Goals as goal

pub returns-in_err-length : goal.returns-in_err-length
unfolding Spec.encryption
returns-in_err-length c =
    let refused = stops _ _ _ c.length.ensures c.in_err-length.was in
    let told = exit_told length Spec.all_octets _ _ c.from_residual.ensures.1 refused in
    record { answer = told.0; buffer = told.1 }

pub overflow_add-total : goal.overflow_add-total
overflow_add-total c = omega (arith, bounds c.in_ok-length.was 0 32768 c.args.len c.length.ensures)

pub returns-in_err-region : goal.returns-in_err-region
unfolding Spec.encryption
returns-in_err-region c =
    let refused = goes_on _ _ _ c.length.ensures c.in_ok-length.was ∙ stops _ _ _ c.region.ensures c.in_err-region.was in
    let told = exit_told length Spec.all_octets _ _ c.from_residual-in_err-region.ensures.1 refused in
    record { answer = told.0; buffer = told.1 }

pub returns-in_err-usage : goal.returns-in_err-usage
unfolding Spec.encryption
returns-in_err-usage c =
    let refused = goes_on _ _ _ c.length.ensures c.in_ok-length.was
    ∙ goes_on _ _ _ c.region.ensures c.in_ok-region.was
    ∙ named_stops c.args.usage _ c.try_from.ensures c.in_err-usage.was in
    let told = exit_told length Spec.all_octets _ _ c.from_residual-in_err-usage.ensures.1 refused in
    record { answer = told.0; buffer = told.1 }

pub overflow_add-start : goal.overflow_add-start
overflow_add-start c = let inside = fits c.in_ok-region.was (c.args.start + (24 + c.args.len)) _ c.region.ensures in omega (arith, inside)

pub slice_bounds-write-end : goal.slice_bounds-write-end
slice_bounds-write-end c = let inside = fits c.in_ok-region.was (c.args.start + (24 + c.args.len)) _ c.region.ensures in omega (arith, inside)

pub write-requires : goal.write-requires
write-requires c =
    let inside = fits c.in_ok-region.was (c.args.start + (24 + c.args.len)) _ c.region.ensures in
    simp (length-take, length-drop) (omega (arith, inside))

pub returns : goal.returns
unfolding Spec.encryption
returns c =
    let a = c.args in
    let inside = fits c.in_ok-region.was (a.start + (24 + a.len)) _ c.region.ensures in
    let eight : length a.confounder ≡ 8 = search rules in
    let named = named_on a.usage _ c.try_from.ensures c.in_ok-usage.was in
    let whole = Spec.encrypt a.key a.strength (type_octets a.usage) (Spec.parts a.confounder (region (a.start + 24) a.len a.buf.now)) in
    let ended : Spec.encryption a.key a.strength a.usage a.confounder a.buf.now a.start a.len ≡ Ok whole
    = goes_on _ _ _ c.length.ensures c.in_ok-length.was ∙ goes_on _ _ _ c.region.ensures c.in_ok-region.was ∙ named.0 in
    let k = a.start + (24 + a.len) - a.start in
    let total : k ≡ 24 + a.len = omega arith in
    record {
      answer = rw (ended, written_length a.key a.strength (type_octets a.usage) a.buf.now a.start a.confounder a.len eight inside);
      buffer = rw ended
          (written_buffer a.key a.strength (type_octets a.usage) a.buf.now a.start a.confounder a.len eight inside k _ total named.1 c.write.ensures);
    }
