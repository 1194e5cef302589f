-- Zeros still stand after the last unit.
use Rattle.std.proofs.Common.{◌<◌, ◌∙◌, ap, arith, length, length-set, length-take-le}
use Rattle.text.proofs.Texts.{zeros_after}
use Rattle.text.proofs.units.Units.push_unit.Goals as goal

pub invariant_of-self : goal.invariant_of-self
invariant_of-self c =
    let count = c.self.inside.count in
    let units = c.self.inside.units in
    let size = length-take-le count units (omega arith) in
    let room : count < 1024 = omega (arith, ap length c.self.view_is, c.requires) in
    (omega arith, length-set units count c.args.unit ∙ c.self.invariant.1, zeros_after units count c.args.unit room c.self.invariant.2)
