-- The cases of the rules, one for each status: a number has exactly the status of its case.
use Rattle.std.proofs.Common.{◌≡◌, ℕ, ◌+◌, ◌-◌, ◌<◌, ◌≤◌, Bool, true, false, cond, eqb, ltb, leb, refl, ◌∙◌, arith, ltb-false, ltb-true, le-ltb, lt-ltb, eq-eqb, ne_eqb, eqb-true, le-leb, leb-false, leb-true}
use borrow.Author.Tests.{eqb-false, lt-leb}
use Rattle.billing.specs.Status.{outside_from, late_most, status_at}
use Rattle.billing.specs.declared.status.Status.{Status}
use Rattle.billing.specs.declared.status.Status.TheVariants.{InOrder, Gap, Late, Duplicate, Old, Outside}

pub data Case (next : ℕ) (billed : Bool) (d : ℕ) : Status → Type 0 where
  outside : outside_from ≤ d → Case next billed d Outside
  in_order : d < outside_from → d ≡ next → Case next billed d InOrder
  gap : d < outside_from → next < d → Case next billed d Gap
  late : d < outside_from → d < next → next ≤ d + late_most → billed ≡ false → Case next billed d Late
  duplicate : d < outside_from → d < next → next ≤ d + late_most → billed ≡ true → Case next billed d Duplicate
  old : d < outside_from → d + late_most < next → Case next billed d Old

module _ (next : ℕ) (billed : Bool) (d : ℕ) where
  -- the case of the status that the rules give
  pub case_of : Case next billed d (status_at next billed d)
  unfolding status_at
  case_of = at (leb outside_from d) (eqb d next) (ltb next d) (leb (next - d) late_most) billed refl refl refl refl refl
    where
      below : eqb d next ≡ false → ltb next d ≡ false → d < next
      below pe pg = let e = eqb-false d next pe in let g = ltb-false next d pg in omega arith

      near : leb (next - d) late_most ≡ true → next ≤ d + late_most
      near pn = let h = leb-true (next - d) late_most pn in omega arith

      at : (o e g n b : Bool) → leb outside_from d ≡ o → eqb d next ≡ e → ltb next d ≡ g → leb (next - d) late_most ≡ n → billed ≡ b
          → Case next billed d (cond o Outside (cond e InOrder (cond g Gap (cond n (cond b Duplicate Late) Old))))
      at true e g n b po pe pg pn pb = outside (leb-true outside_from d po)
      at false true g n b po pe pg pn pb = in_order (leb-false outside_from d po) (eqb-true d next pe)
      at false false true n b po pe pg pn pb = gap (leb-false outside_from d po) (ltb-true next d pg)
      at false false false true true po pe pg pn pb = duplicate (leb-false outside_from d po) (below pe pg) (near pn) pb
      at false false false true false po pe pg pn pb = late (leb-false outside_from d po) (below pe pg) (near pn) pb
      at false false false false b po pe pg pn pb = old (leb-false outside_from d po) (let h = leb-false (next - d) late_most pn in omega arith)

  -- the status of a case
  pub status_of : {s : Status} → Case next billed d s → status_at next billed d ≡ s
  unfolding status_at
  status_of (outside h) = rw (le-leb outside_from d h)
  status_of (in_order h e) = rw (lt-leb outside_from d h, eq-eqb d next e)
  status_of (gap h g) = rw (lt-leb outside_from d h, ne_eqb d next (omega arith), lt-ltb next d g)
  status_of (late h g l e) = rw (lt-leb outside_from d h, ne_eqb d next (omega arith), le-ltb next d (omega arith), le-leb (next - d) late_most (omega arith), e)
  status_of (duplicate h g l e) = rw (lt-leb outside_from d h, ne_eqb d next (omega arith), le-ltb next d (omega arith), le-leb (next - d) late_most (omega arith), e)
  status_of (old h g) = rw (lt-leb outside_from d h, ne_eqb d next (omega arith), le-ltb next d (omega arith), lt-leb (next - d) late_most (omega arith))

-- whether a number was billed is looked at only where it can be late
pub status_same : (next d : ℕ) (a b : Bool) → (d < outside_from → d < next → next ≤ d + late_most → a ≡ b) → status_at next a d ≡ status_at next b d
status_same next d a b same = at (status_at next b d) (case_of next b d)
  where
    at : (s : Status) → Case next b d s → status_at next a d ≡ s
    at s (outside h) = status_of next a d (outside h)
    at s (in_order h e) = status_of next a d (in_order h e)
    at s (gap h g) = status_of next a d (gap h g)
    at s (late h g l e) = status_of next a d (late h g l (same h g l ∙ e))
    at s (duplicate h g l e) = status_of next a d (duplicate h g l (same h g l ∙ e))
    at s (old h g) = status_of next a d (old h g)
