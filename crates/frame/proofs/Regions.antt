-- A region of a buffer that is a frame, and the token in it.
use Rattle.std.specs.Prelude.{Ok, Err}
use mathlib.Core.Path.{◌≡◌, refl, sym, ap, ◌∙◌}
use mathlib.Core.List.{List}
use Prim.Native.Nat.{ℕ, ◌+◌, ◌-◌, ◌≤◌}
use native.Mathlib.Omega.{arith}
use lib.ListN.{length, take, drop, length-drop}
use lib.Seq.{take-add, drop_at, drop-drop, length-take-le}
use lib.Dec.{leb}
use borrow.Author.Tests.{leb-true, le-leb}
use Rattle.tokens.proofs.Steps.{goes_on, stops, test_held, require_done, done_same, then_on, then_stops, never_zero}
use Rattle.tokens.specs.Answer.{Outcome, status_number, require, tested}
use Rattle.tokens.specs.Limits.{inside, region}
use Rattle.tokens.specs.declared.answer.Refusal.{Refusal}
use Rattle.tokens.specs.declared.answer.Refusal.TheVariants as refusal
use Rattle.frame.specs.Framing.{lead_length, frame, lead_width, lead_of, lead_in, read_framed, Framed}
use Rattle.frame.proofs.Frames.{frames_exactly, frame_length}

-- ---- What is found

-- the region as it was lent
pub lent : (buf : List ℕ) (start n : ℕ) → take (start + n - start) (drop start buf) ≡ region start n buf
lent buf start n = let size : start + n - start ≡ n = omega arith in ap (λ (k : ℕ). take k (drop start buf)) size

-- the region's test
pub region_fits : (a b : ℕ) → Ok tt ≡ tested (leb a b) refusal.Region → a ≤ b
region_fits a b e = leb-true a b (test_held (leb a b) refusal.Region (sym e))

pub region_refused : (buf : List ℕ) (start n : ℕ) {q : Refusal} → Err q ≡ tested (inside start n buf) refusal.Region → lead_in buf start n ≡ Err q
unfolding lead_in
region_refused buf start n e = stops (inside start n buf) refusal.Region (lead_of (region start n buf)) e refl

pub region_read : (buf : List ℕ) (start n : ℕ) → Ok tt ≡ tested (inside start n buf) refusal.Region → lead_in buf start n ≡ lead_of (take (start + n - start) (drop start buf))
unfolding lead_in
region_read buf start n e = goes_on (inside start n buf) refusal.Region (lead_of (region start n buf)) e refl ∙ sym (ap lead_of (lent buf start n))

module _ {A : Type 0} (read : ℕ → ℕ → Outcome A) (buf : List ℕ) (start n : ℕ) where
  pub read_refused : {q : Refusal} → lead_in buf start n ≡ Err q → read_framed read buf start n ≡ Err q
  unfolding read_framed
  read_refused e = then_stops _ e

  pub read_token : {before : ℕ} → lead_in buf start n ≡ Ok before → read_framed read buf start n ≡ read (start + before) (n - before)
  unfolding read_framed
  read_token e = then_on _ e

-- ---- The token of a framed region

-- the rule writes the frame around the octets that stand after the lead
pub record InFrame (buf : List ℕ) (start n before : ℕ) : Type 0 where
  pub fits : start + n ≤ length buf
  pub sum : before + (n - before) ≡ n
  pub width : lead_width (region start n buf) ≡ before
  pub lead_is : lead_length (n - before) ≡ before
  pub frames : frame (region (start + before) (n - before) buf) ≡ region start n buf

module _ (buf : List ℕ) (start n : ℕ) where
  pub region_length : start + n ≤ length buf → length (region start n buf) ≡ n
  region_length fits = length-take-le n (drop start buf) (rw length-drop (omega arith))

  module _ (before : ℕ) (e : lead_in buf start n ≡ Ok before) where
    pub in_frame : InFrame buf start n before
    unfolding lead_in lead_of
    in_frame =
        let whole = region start n buf in
        let placed = require_done _ _ _ _ e in
        let framed = require_done _ _ _ _ placed.1 in
        let fits : start + n ≤ length buf = leb-true _ _ placed.0 in
        let width : lead_width whole ≡ before = done_same framed.1 in
        let written : frame (drop before whole) ≡ whole = rw width at ((frames_exactly whole).only_then framed.0) in
        let lead : before ≡ lead_length (length (drop before whole)) = sym width ∙ ((frames_exactly whole).always_then (drop before whole) written).1 in
        let sized : length (drop before whole) ≡ n - before = length-drop before whole ∙ ap (λ (k : ℕ). k - before) (region_length fits) in
        let sum : before + (n - before) ≡ n = omega (arith, lead, frame_length (drop before whole), ap length written, region_length fits) in
        let from = drop start buf in
        let front : length (take before from) ≡ before = length-take-le before from (rw length-drop (omega arith)) in
        let stands : region (start + before) (n - before) buf ≡ drop before whole
        = ap (take (n - before)) (sym (drop-drop before start buf))
        ∙ sym (drop_at (take before from) (take (n - before) (drop before from)) before front)
        ∙ ap (drop before) (sym (take-add before (n - before) from) ∙ ap (λ (k : ℕ). take k from) sum) in
        record { fits = fits; sum = sum; width = width; lead_is = ap lead_length (sym sized) ∙ sym lead; frames = ap frame stands ∙ written }

    -- whatever the rule frames as the region stands there
    pub framed_token : (Holds : List ℕ → Type 0) (w : Framed Holds (region start n buf)) → w.token ≡ region (start + before) (n - before) buf
    framed_token Holds w = (frames_exactly (region start n buf)).one_token w.token (region (start + before) (n - before) buf) w.as_framed in_frame.frames

  -- where no lead is found, the rule writes nothing as the region
  pub not_framed : {q : Refusal} → lead_in buf start n ≡ Err q → start + n ≤ length buf → (Holds : List ℕ → Type 0) → Framed Holds (region start n buf) → ⊥
  unfolding lead_in lead_of require
  not_framed {q} e fits Holds w =
      let found : lead_in buf start n ≡ Ok (lead_width (region start n buf)) =
      rw (le-leb (start + n) (length buf) fits, ((frames_exactly (region start n buf)).always_then w.token w.as_framed).0) refl in
      never_zero q (ap (status_number {A = ℕ}) (sym e ∙ found))
