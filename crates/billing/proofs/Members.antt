-- Members of lists of numbers, their distances, and the next expected distance.
use Rattle.std.proofs.Common.{◌≡◌, ℕ, ◌+◌, ◌<◌, ◌≤◌, max, Bool, true, false, eqb, List, [], ◌∷◌, sym, refl, ap, ◌∙◌, arith, eq-eqb, ne_eqb, eqb-true}
use borrow.Author.Tests.{eqb-false}
use Rattle.tokens.specs.Token.{sequence_numbers}
use Rattle.billing.specs.Clerk.{member, distances, next_expected}
use Rattle.billing.specs.Session.{SequenceNumbers}
use Rattle.billing.specs.Status.{distance}

pub member_first : (n m : ℕ) (ms : List ℕ) → n ≡ m → member n (m ∷ ms) ≡ true
unfolding member
member_first n m ms e = rw (eq-eqb n m e)

pub member_rest : (n m : ℕ) (ms : List ℕ) → (n ≡ m → ⊥) → member n (m ∷ ms) ≡ member n ms
unfolding member
member_rest n m ms other = rw (ne_eqb n m other)

pub next_more : (d : ℕ) (ds : List ℕ) → next_expected (d ∷ ds) ≡ max (d + 1) (next_expected ds)
unfolding next_expected
next_more d ds = refl

-- from the next expected distance on there is no member
pub member_above : (d : ℕ) (ds : List ℕ) → next_expected ds ≤ d → member d ds ≡ false
unfolding next_expected member
member_above d [] h = refl
member_above d (e ∷ ds) h = member_rest d e ds (omega arith) ∙ member_above d ds (omega arith)

-- numbers with the same distance are the same
distance_injective : (first n m : ℕ) → n < sequence_numbers → m < sequence_numbers → distance first n ≡ distance first m → n ≡ m
unfolding distance
distance_injective first n m hn hm e = omega arith

-- a number is in a list exactly where its distance is among the distances
pub member_distance : (first n : ℕ) (ms : List ℕ) → n < sequence_numbers → SequenceNumbers ms → member (distance first n) (distances first ms) ≡ member n ms
unfolding member
member_distance first n [] h w = refl
member_distance first n (m ∷ ms) h w = at (eqb n m) refl (member_distance first n ms h w.1)
  where
    at : (t : Bool) → eqb n m ≡ t → member (distance first n) (distances first ms) ≡ member n ms
        → member (distance first n) (distance first m ∷ distances first ms) ≡ member n (m ∷ ms)
    at true e ih =
        let same = eqb-true n m e in
        member_first (distance first n) (distance first m) (distances first ms) (ap (distance first) same) ∙ sym (member_first n m ms same)
    at false e ih =
        let other = eqb-false n m e in
        member_rest (distance first n) (distance first m) (distances first ms) (λ same. other (distance_injective first n m h w.0 same))
        ∙ ih ∙ sym (member_rest n m ms other)

-- a number whose distance is not below the next expected one is not in the list
pub not_member : (first n : ℕ) (ms : List ℕ) → next_expected (distances first ms) ≤ distance first n → member n ms ≡ false
unfolding member
not_member first n [] h = refl
not_member first n (m ∷ ms) h =
    let e = next_more (distance first m) (distances first ms) in
    member_rest n m ms (λ same. let z = ap (distance first) same in omega arith) ∙ not_member first n ms (omega arith)
