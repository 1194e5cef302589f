-- A body that was lent with the octets before it, and a region that was lent of a buffer.
use mathlib.Core.Path.{◌≡◌, refl, sym, ap, ◌∙◌}
use mathlib.Core.List.{List, [], ◌∷◌, ◌++◌, append_assoc, append-nil}
use Prim.Native.Nat.{ℕ, zero, suc, ◌+◌, ◌-◌, ◌≤◌}
use native.Mathlib.Omega.{arith}
use lib.ListN.{length, take, drop, length-append, length-take, length-drop, take-append-drop, drop_of_length-le}
use lib.Seq.{take_at, take-add, drop_at, take-append-le, drop-append-add, drop-drop, get_or-drop, length-take-le, take-take}
use Rattle.std.specs.Prelude.{Ok, Err}
use Rattle.primitives.specs.Octets.{Octets}
use Rattle.tokens.specs.Answer.{Outcome}
use Rattle.tokens.specs.Limits.{region, placed, buffer_after}
use Rattle.tokens.proofs.Placing.{placed_all, placed_under, placed_within, unchanged_within, rest_of}

-- ---- Octets of a part

pub octets_take : (n : ℕ) (l : List ℕ) → Octets l → Octets (take n l)
octets_take zero l h i = omega arith
octets_take (suc n) [] h i = h i
octets_take (suc n) (x ∷ l) h zero = h 0
octets_take (suc n) (x ∷ l) h (suc i) = octets_take n l (λ j. h (suc j)) i

pub octets_drop : (n : ℕ) (l : List ℕ) → Octets l → Octets (drop n l)
octets_drop n l h i = rw get_or-drop (h (n + i))

-- ---- k octets, a confounder of eight, and a body that was lent

module _ (k : ℕ) (octets body : List ℕ) (long : k + 8 ≤ length octets) where
  abbrev lent : List ℕ
  lent = take (k + 8) octets ++ (body ++ drop (length octets - (k + 8)) (drop (k + 8) octets))

  lent_is : lent ≡ take (k + 8) octets ++ body
  lent_is =
      let past : length (drop (k + 8) octets) ≤ length octets - (k + 8) = rw length-drop (omega arith) in
      rw (drop_of_length-le (drop (k + 8) octets) past, append-nil)

  pub front_fits : (n at : ℕ) → at + n ≤ k + 8 → at + n ≤ length lent
  front_fits n at h = rw lent_is (simp length-append (omega (arith, length-take-le (k + 8) octets long)))

  lent_body : drop (k + 8) lent ≡ body
  lent_body = rw lent_is (drop_at (take (k + 8) octets) body (k + 8) (length-take-le (k + 8) octets long))

  pub front_placed : (front confounder : List ℕ) → length front ≡ k → length confounder ≡ 8 → placed k confounder (placed 0 front lent) ≡ front ++ (confounder ++ body)
  unfolding placed
  front_placed front confounder size eight =
      let front-end : 0 + length front ≡ k = omega arith in
      let end : k + length confounder ≡ length front + 8 = omega arith in
      rw (front-end, take_at front (drop k lent) k size, end, drop-append-add front (drop k lent) 8, drop-drop 8 k lent, lent_body)

  pub confounder_placed : (confounder : List ℕ) → length confounder ≡ 8 → placed k confounder lent ≡ take k octets ++ (confounder ++ body)
  unfolding placed
  confounder_placed confounder eight =
      let end : k + length confounder ≡ k + 8 = omega arith in
      rw (end, lent_body, lent_is, take-append-le k (take (k + 8) octets) body (omega (arith, length-take-le (k + 8) octets long)), take-take k (k + 8) octets (omega arith))

-- what is placed behind k octets, in all of them
behind_front : {A : Type 0} (place : A → List ℕ) (k : ℕ) (octets : List ℕ) (o : Outcome A) → take k octets ++ buffer_after place 0 (drop k octets) o ≡ buffer_after place k octets o
behind_front place k octets (Ok a) = placed_under k (place a) octets
behind_front place k octets (Err r) = take-append-drop k octets

-- the fields of a region are all of it
module _ (k : ℕ) (octets : List ℕ) {front confounder : List ℕ} (front-is : front ≡ take k octets) (confounder-is : confounder ≡ region k 8 octets) where
  abbrev text : List ℕ
  text = confounder ++ take (length octets - (k + 8)) (drop (k + 8) octets)

  text_is : text ≡ drop k octets
  text_is = rw (confounder-is, rest_of (k + 8) octets, ← drop-drop 8 k octets) (take-append-drop 8 (drop k octets))

  fields_whole : front ++ text ≡ octets
  fields_whole = rw (front-is, text_is) (take-append-drop k octets)

  -- so what a reading of them answers and leaves is what it answers and leaves of the region
  module _ {A : Type 0} (reading : List ℕ → Outcome A) where
    pub fields_answer : {B : Type 0} (answer : Outcome A → B) {r : B} → r ≡ answer (reading (front ++ text)) → r ≡ answer (reading octets)
    fields_answer answer e = e ∙ ap (λ (l : List ℕ). answer (reading l)) fields_whole

    pub fields_after : (place : A → List ℕ) {out : List ℕ} → out ≡ buffer_after place 0 text (reading (front ++ text)) → take k octets ++ out ≡ buffer_after place k octets (reading octets)
    fields_after place e = rw (e, fields_whole, text_is) (behind_front place k octets (reading octets))

-- ---- A region of n octets that was lent as a part of k, and comes back as `after`

pub region_length : (buf : List ℕ) (start n : ℕ) → start + n ≤ length buf → length (region start n buf) ≡ n
region_length buf start n inside = simp (length-take, length-drop) (omega arith)

module _ (buf : List ℕ) (start n k : ℕ) {after : List ℕ} (inside : start + n ≤ length buf) (whole : k ≡ n) where
  pub written_region : (octets : List ℕ) → length octets ≡ n → after ≡ octets → take start buf ++ (after ++ drop k (drop start buf)) ≡ placed start octets buf
  written_region octets size e =
      let d = drop start buf in
      let part : length (take n d) ≡ length octets = region_length buf start n inside ∙ sym size in
      let at : start + 0 ≡ start = omega arith in
      ap (λ (m : ℕ). take start buf ++ (after ++ drop m d)) whole
      ∙ ap (λ (w : List ℕ). take start buf ++ (w ++ drop n d)) (e ∙ sym (placed_all (take n d) octets part))
      ∙ placed_within start n 0 octets buf inside (omega arith)
      ∙ ap (λ (s : ℕ). placed s octets buf) at

  pub read_region : {A : Type 0} (place : A → List ℕ) (at : ℕ) (o : Outcome A) → ((a : A) → o ≡ Ok a → at + length (place a) ≤ n)
      → after ≡ buffer_after place at (region start n buf) o → take start buf ++ (after ++ drop k (drop start buf)) ≡ buffer_after place (start + at) buf o
  read_region place at o fits e = rw (e, whole) (within place o fits)
    where
      within : {A : Type 0} (place : A → List ℕ) (o : Outcome A) → ((a : A) → o ≡ Ok a → at + length (place a) ≤ n)
          → take start buf ++ (buffer_after place at (region start n buf) o ++ drop n (drop start buf)) ≡ buffer_after place (start + at) buf o
      within place (Ok a) fits = placed_within start n at (place a) buf inside (fits a refl)
      within place (Err r) fits = unchanged_within start n buf

-- the n octets that stand h after the start of a region
pub behind : (buf : List ℕ) (start h n : ℕ) → start + (h + n) ≤ length buf → drop h (region start (h + n) buf) ≡ region (start + h) n buf
behind buf start h n inside =
    let d = drop start buf in
    let front : length (take h d) ≡ h = length-take-le h d (rw length-drop (omega arith)) in
    ap (drop h) (take-add h n d) ∙ drop_at (take h d) (take n (drop h d)) h front ∙ ap (take n) (drop-drop h start buf)

-- ---- A confounder and a body placed in a buffer

module _ (at : ℕ) (confounder body buf : List ℕ) (eight : length confounder ≡ 8) (inside : at ≤ length buf) where
  abbrev after : List ℕ
  after = placed at (confounder ++ body) buf

  from_confounder : drop at after ≡ confounder ++ (body ++ drop (at + length (confounder ++ body)) buf)
  unfolding placed
  from_confounder =
      let tail : List ℕ = drop (at + length (confounder ++ body)) buf in
      drop_at (take at buf) ((confounder ++ body) ++ tail) at (length-take-le at buf inside) ∙ append_assoc confounder body tail

  pub confounder_stands : region at 8 after ≡ confounder
  confounder_stands = ap (take 8) from_confounder ∙ take_at confounder _ 8 eight

  pub body_stands : (k n : ℕ) → k ≡ at + 8 → length body ≡ n → region k n after ≡ body
  body_stands k n next size =
      let tail : List ℕ = drop (at + length (confounder ++ body)) buf in
      ap (λ (m : ℕ). take n (drop m after)) next
      ∙ ap (take n) (sym (drop-drop 8 at after) ∙ ap (drop 8) from_confounder ∙ drop_at confounder (body ++ tail) 8 eight)
      ∙ take_at body tail n size
