-- Octets placed in a buffer.
use mathlib.Core.Path.{◌≡◌, refl, sym, ap, ◌∙◌}
use mathlib.Core.List.{List, [], ◌∷◌, ◌++◌, append_assoc, append-nil}
use Prim.Native.Nat.{ℕ, ◌+◌, ◌-◌, ◌≤◌}
use native.Mathlib.Omega.{arith}
use lib.ListN.{length, get_or, take, drop, length-append, length-take, length-drop, take-append-drop, drop_of_length-le}
use lib.Seq.{take_at, drop-append-add, take-add, take_all, take-take, drop-append-le, drop-drop}
use borrow.Rule.Slice.PartMut.{put_mid}
use Rattle.tokens.specs.Limits.{region, placed}

-- k octets from `at` on, overwritten by as many
pub put_placed : (at k : ℕ) (buf part new : List ℕ) → new ≡ part → k ≡ length part → put_mid at k buf new ≡ placed at part buf
unfolding placed
put_placed at k buf part new e size = rw (e, size, drop-drop (length part) at buf)

-- a buffer that they fill
pub placed_all : (buf part : List ℕ) → length buf ≡ length part → placed 0 part buf ≡ part
unfolding placed
placed_all buf part e =
    let past : length buf ≤ 0 + length part = omega arith in
    rw (drop_of_length-le buf past, append-nil)

-- the four octets of a list of four
pub four_of : (t : List ℕ) → length t ≡ 4 → get_or t 0 0 ∷ get_or t 1 0 ∷ get_or t 2 0 ∷ get_or t 3 0 ∷ [] ≡ t
four_of [] e = absurd (omega arith)
four_of (a ∷ []) e = absurd (omega arith)
four_of (a ∷ b ∷ []) e = absurd (omega arith)
four_of (a ∷ b ∷ c ∷ []) e = absurd (omega arith)
four_of (a ∷ b ∷ c ∷ d ∷ []) e = refl
four_of (a ∷ b ∷ c ∷ d ∷ x ∷ t) e = absurd (omega arith)

-- parts placed one after the other, in an array that they fill
next_placed : (a b z : List ℕ) (n : ℕ) → length a ≡ n → placed n b (a ++ z) ≡ (a ++ b) ++ drop (length b) z
unfolding placed
next_placed a b z n e = rw (take_at a z n e, ← e, drop-append-add a z (length b)) (sym (append_assoc a b (drop (length b) z)))

pub three_placed : (a b c z : List ℕ) (m n : ℕ) → length a ≡ m → m + length b ≡ n → length z ≡ n + length c → placed n c (placed m b (placed 0 a z)) ≡ a ++ (b ++ c)
three_placed a b c z m n ea eb ez =
    let y = drop (length b) (drop (length a) z) in
    let both : length (a ++ b) ≡ n = length-append a b ∙ omega arith in
    let none : length y ≤ length c = simp length-drop (omega arith) in
    ap (λ (l : List ℕ). placed n c (placed m b l)) (next_placed [] a z 0 refl)
    ∙ ap (placed n c) (next_placed a b (drop (length a) z) m ea)
    ∙ next_placed (a ++ b) c y n both
    ∙ rw (drop_of_length-le y none, append-nil) (append_assoc a b c)

-- the n octets of a buffer from `at`, lent as a part, fill an array of n
module _ (n at : ℕ) (buf : List ℕ) (h : at + n ≤ length buf) where
  part_length : length (region at (at + n - at) buf) ≡ n
  part_length = simp (length-take, length-drop) (omega arith)

  pub part_fits : 0 + length (region at (at + n - at) buf) ≤ n
  part_fits = omega (arith, part_length)

  pub part_whole : (array : List ℕ) → length array ≡ n → placed 0 (region at (at + n - at) buf) array ≡ region at n buf
  part_whole array e =
      let back : at + n - at ≡ n = omega arith in
      placed_all array (region at (at + n - at) buf) (e ∙ sym part_length) ∙ ap (λ (k : ℕ). region at k buf) back

-- ---- Parts of a buffer

-- what stands from an offset on, under what stands before it
pub placed_under : (at : ℕ) (part buf : List ℕ) → take at buf ++ placed 0 part (drop at buf) ≡ placed at part buf
unfolding placed
placed_under at part buf =
    let whole : 0 + length part ≡ length part = omega arith in
    rw (whole, drop-drop (length part) at buf)

-- a part that was lent comes back with octets placed in it
pub placed_within : (start n at : ℕ) (part buf : List ℕ) → start + n ≤ length buf → at + length part ≤ n
    → take start buf ++ (placed at part (take n (drop start buf)) ++ drop n (drop start buf)) ≡ placed (start + at) part buf
unfolding placed
placed_within start n at part buf inside fits =
    let d = drop start buf in
    let whole : length (take n d) ≡ n = simp (length-take, length-drop) (omega arith) in
    let sums : start + (at + length part) ≡ start + at + length part = omega arith in
    let rest : drop (at + length part) (take n d) ++ drop n d ≡ drop (start + at + length part) buf
    = sym (drop-append-le (at + length part) (take n d) (drop n d) (omega arith))
    ∙ ap (drop (at + length part)) (take-append-drop n d)
    ∙ drop-drop (at + length part) start buf
    ∙ ap (λ (k : ℕ). drop k buf) sums in
    rw (
      take-take at n d (omega arith),
      append_assoc (take at d) (part ++ drop (at + length part) (take n d)) (drop n d),
      append_assoc part (drop (at + length part) (take n d)) (drop n d),
      rest,
      take-add start at buf,
      append_assoc (take start buf) (take at d) (part ++ drop (start + at + length part) buf),
    )

-- or as it was
pub unchanged_within : (start n : ℕ) (buf : List ℕ) → take start buf ++ (take n (drop start buf) ++ drop n (drop start buf)) ≡ buf
unchanged_within start n buf = rw (take-append-drop n (drop start buf)) (take-append-drop start buf)

-- the octets of a part that starts inside a buffer and ends with it
pub rest_of : (at : ℕ) (buf : List ℕ) → take (length buf - at) (drop at buf) ≡ drop at buf
rest_of at buf = take_all (length buf - at) (drop at buf) (rw length-drop (omega arith))
