-- A step that makes one test, in a chain of them: where it is done the chain goes on, and where it is refused it stops.
use mathlib.Core.Path.{◌≡◌, refl, sym, ap, ◌∙◌}
use mathlib.Core.Bool.{Bool, true, false, ◌&&◌}
use mathlib.Core.List.{List}
use Prim.Native.Nat.{ℕ, ◌≤◌}
use native.Mathlib.Omega.{arith}
use lib.Dec.{leb}
use borrow.Author.Tests.{leb-true}
use Rattle.std.specs.Prelude.{⊤, Result, Ok, Err, IsErrAnd}
use Rattle.tokens.specs.Answer.{require, and_then, number, status_number, map_ok, tested, status_answer}
use Rattle.tokens.specs.Limits.{within, buffer_after}
use Rattle.tokens.specs.Usage.{is_usage, type_octets, named}
use Rattle.tokens.specs.declared.answer.Refusal.{Refusal}
use Rattle.tokens.specs.declared.answer.Refusal.TheVariants as refusal
use Rattle.tokens.specs.declared.usage.Usage.{Usage}

pub both : (a b : Bool) → (a && b) ≡ true → (a ≡ true) × (b ≡ true)
both true b e = (refl, e)
both false b e = (e, cc)

-- ---- One step

pub test_held : (b : Bool) (r : Refusal) → tested b r ≡ Ok tt → b ≡ true
unfolding tested
test_held true r e = refl
test_held false r e = cc

module _ {A : Type 0} (b : Bool) (r : Refusal) (o : Result A Refusal) {s : Result ⊤ Refusal} (e : s ≡ tested b r) where
  pub goes_on : s ≡ Ok tt → require b r o ≡ o
  unfolding require
  goes_on d = rw (test_held b r (sym e ∙ d))

  pub stops : {q : Refusal} → s ≡ Err q → require b r o ≡ Err q
  unfolding tested require
  stops {q} d = stopped b (sym e ∙ d)
    where
      stopped : (b : Bool) → tested b r ≡ Err q → require b r o ≡ Err q
      stopped true h = cc
      stopped false h = cc

-- ---- What is returned where a chain stops

-- by the exit of a `?`
pub exit_is : {A : Type 0} {q : Refusal} (r : Result A Refusal) → IsErrAnd r (λ e. e ≡ q) → r ≡ Err q
exit_is (Ok a) given = absurd given
exit_is (Err x) given = ap Err given

pub exits : {A : Type 0} {q : Refusal} (r o : Result A Refusal) → IsErrAnd r (λ e. e ≡ q) → o ≡ Err q → r ≡ o
exits r o given e = exit_is r given ∙ sym e

-- by a call that answers f of its result and places its octets in a buffer
pub exit_told : {A B : Type 0} (f : A → B) (octets : A → List ℕ) (start : ℕ) (buf : List ℕ) {r : Result B Refusal} {o : Result A Refusal} {q : Refusal} → IsErrAnd r (λ e. e ≡ q) → o ≡ Err q
    → (r ≡ map_ok f o) × (buf ≡ buffer_after octets start buf o)
exit_told f octets start buf {r} {o} given e = (exits r (map_ok f o) given (ap (map_ok f) e), rw e)

-- ---- What is answered where it ends

-- the last step of a chain decides
pub status_decided : {A : Type 0} (b : Bool) (r : Refusal) (a : A) {s : Result ⊤ Refusal} {o : Result A Refusal} → s ≡ tested b r → o ≡ require b r (Ok a) → s ≡ status_answer o
unfolding tested require
status_decided b r a e h = e ∙ decided b ∙ ap status_answer (sym h)
  where
    decided : (b : Bool) → tested b r ≡ status_answer (require b r (Ok a))
    decided true = refl
    decided false = refl

-- ---- Outcomes told apart

-- no refusal has the number 0
pub never_zero : (r : Refusal) → number r ≡ 0 → ⊥
never_zero refusal.Length e = omega arith
never_zero refusal.Region e = omega arith
never_zero refusal.Usage e = omega arith
never_zero refusal.Header e = omega arith
never_zero refusal.Direction e = omega arith
never_zero refusal.Checksum e = omega arith
never_zero refusal.Pad e = omega arith
never_zero refusal.Frame e = omega arith

module _ {A : Type 0} where
  pub require_done : (b : Bool) (r : Refusal) (o : Result A Refusal) (a : A) → require b r o ≡ Ok a → (b ≡ true) × (o ≡ Ok a)
  unfolding require
  require_done true r o a e = (refl, e)
  require_done false r o a e = (cc, cc)

  pub done_same : {a b : A} → ◌≡◌ {A = Result A Refusal} (Ok a) (Ok b) → a ≡ b
  done_same e = cc

  -- what is told as done has a result
  pub done_told : (o : Result A Refusal) → status_number o ≡ 0 → (a : A) × (o ≡ Ok a)
  done_told (Ok a) e = (a, refl)
  done_told (Err r) e = absurd (never_zero r e)

  pub done_mapped : {B : Type 0} (f : A → B) (o : Result A Refusal) → status_number (map_ok f o) ≡ 0 → (a : A) × (o ≡ Ok a)
  done_mapped f (Ok a) e = (a, refl)
  done_mapped f (Err r) e = absurd (never_zero r e)

  -- what has a result is not refused
  pub not_refused : {B : Type 0} (f : A → B) (o : Result A Refusal) {a : A} {q : Refusal} → o ≡ Ok a → Err q ≡ map_ok f o → ⊥
  not_refused f (Ok a) e h = cc
  not_refused f (Err r) e h = cc

  pub was_done : (o : Result A Refusal) → status_answer o ≡ Ok tt → (a : A) × (o ≡ Ok a)
  was_done (Ok a) e = (a, refl)
  was_done (Err r) e = cc

  pub was_refused : (o : Result A Refusal) {q : Refusal} → status_answer o ≡ Err q → o ≡ Err q
  was_refused (Ok a) e = cc
  was_refused (Err r) e = cc

-- ---- A step and what follows it

module _ {A B : Type 0} (f : A → Result B Refusal) where
  pub then_on : {o : Result A Refusal} {a : A} → o ≡ Ok a → and_then o f ≡ f a
  unfolding and_then
  then_on e = rw e

  pub then_stops : {o : Result A Refusal} {q : Refusal} → o ≡ Err q → and_then o f ≡ Err q
  unfolding and_then
  then_stops e = rw e

  pub then_done : (o : Result A Refusal) (b : B) → and_then o f ≡ Ok b → (a : A) × ((o ≡ Ok a) × (f a ≡ Ok b))
  unfolding and_then
  then_done (Ok a) b e = (a, (refl, e))
  then_done (Err r) b e = cc

-- ---- Lengths

pub within_bounds : (least most n : ℕ) → within least most n ≡ true → (least ≤ n) × (n ≤ most)
within_bounds least most n e =
    let h = both (leb least n) (leb n most) e in
    (leb-true least n h.0, leb-true n most h.1)

-- ---- What a test that is done says

module _ {s : Result ⊤ Refusal} (d : s ≡ Ok tt) where
  pub bounds : (least most n : ℕ) → s ≡ tested (within least most n) refusal.Length → (least ≤ n) × (n ≤ most)
  bounds least most n e = within_bounds least most n (test_held _ refusal.Length (sym e ∙ d))

  pub fits : (sum end : ℕ) → s ≡ tested (leb sum end) refusal.Region → sum ≤ end
  fits sum end e = leb-true sum end (test_held _ refusal.Region (sym e ∙ d))

-- ---- The usage of a number, in a chain

module _ {A : Type 0} (number : ℕ) (o : Result A Refusal) {s : Result Usage Refusal} (e : s ≡ named number) where
  pub named_stops : {q : Refusal} → s ≡ Err q → require {A = A} (is_usage number) refusal.Usage o ≡ Err q
  unfolding named require
  named_stops {q} d = stopped (is_usage number) (sym e ∙ d)
    where
      stopped : (b : Bool) → require {A = Usage} b refusal.Usage (Ok (record { t = type_octets number })) ≡ Err q → require b refusal.Usage o ≡ Err q
      stopped true h = cc
      stopped false h = cc

  pub named_on : {u : Usage} → s ≡ Ok u → (require (is_usage number) refusal.Usage o ≡ o) × (u.t ≡ type_octets number)
  unfolding named require
  named_on {u} d = passed (is_usage number) (sym e ∙ d)
    where
      passed : (b : Bool) → require {A = Usage} b refusal.Usage (Ok (record { t = type_octets number })) ≡ Ok u → (require b refusal.Usage o ≡ o) × (u.t ≡ type_octets number)
      passed true h = (refl, ap (λ (x : Usage). x.t) (done_same (sym h)))
      passed false h = (cc, cc)
