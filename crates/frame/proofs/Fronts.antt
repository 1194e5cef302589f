-- What stands at the front of some octets: that there is one answer, each answer from the tests that lead there, and what a frame at the
-- front is.
use Rattle.std.specs.Prelude.{Ok, Err}
use mathlib.Core.Path.{◌≡◌, refl, sym, ap, ap₂, ◌∙◌, subst}
use mathlib.Core.Bool.{Bool, true, false}
use mathlib.Core.List.{List, [], ◌∷◌, ◌++◌, append_assoc, append-nil}
use Prim.Native.Nat.{ℕ, zero, suc, min, ◌+◌, ◌-◌, ◌/◌, ◌≤◌, ◌<◌}
use native.Mathlib.Omega.{arith}
use lib.Dec.{eqb, leb, ltb}
use lib.ListN.{length, get_or, take, drop, replicate, length-append, length-drop, length-replicate, take-append-drop, drop_of_length-le, get_or-append}
use lib.Seq.{take_at, drop_at, take_all, drop-nil, length-take-le}
use borrow.Author.Tests.{eqb-true, eq-eqb, leb-true, leb-false, ltb-true, ltb-false}
use Rattle.tokens.proofs.Steps.{both}
use Rattle.tokens.specs.Answer.{require}
use Rattle.tokens.specs.Octets.{same}
use Rattle.tokens.specs.declared.answer.Refusal.TheVariants as Refusal
use Rattle.frame.specs.Framing.{tag, mechanism, contents, lead, lead_length, frame, Front, Begun, FrontIs, agree, lead_width, is_frame, lead_of}
use Rattle.frame.specs.Length.{octet_count, der_length, value_in, Used, LengthIs}
use Rattle.frame.specs.declared.framing.Framing.{Framing}
use Rattle.frame.specs.declared.framing.Framing.TheVariants as framing
use Rattle.frame.specs.declared.length.Contents.TheVariants.{Incomplete, Wrong}
use Rattle.frame.proofs.Frames.{mechanism_length, lead_length_lem, frame_length, frame_parts, lead_told, was_written, is_written}
use Rattle.frame.proofs.Lengths.{count_zero, count_more, der_short, der_long, shortest_form, split_first}

-- ---- There is one answer

-- one length stands at the front of some octets
one_length : (a b : ℕ) (x y : List ℕ) → der_length a ++ x ≡ der_length b ++ y → (a ≡ b) × (x ≡ y)
one_length a b x y e =
    let number : a ≡ b = sym ((shortest_form a).value_back x) ∙ ap value_in e ∙ (shortest_form b).value_back y in
    let w : ℕ = length (der_length a) in
    (number, sym (drop_at (der_length a) x w refl) ∙ ap (drop w) e ∙ drop_at (der_length b) y w (ap (λ (n : ℕ). length (der_length n)) (sym number)))

-- and one frame
one_frame : (s t x y : List ℕ) → frame s ++ x ≡ frame t ++ y → s ≡ t
one_frame s t x y e =
    let parts = one_length (contents (length s)) (contents (length t)) _ _ (ap (drop 1) (sym (frame_parts s x) ∙ e ∙ frame_parts t y)) in
    let tokens : s ++ x ≡ t ++ y = sym (drop_at mechanism (s ++ x) 11 mechanism_length) ∙ ap (drop 11) parts.1 ∙ drop_at mechanism (t ++ y) 11 mechanism_length in
    sym (take_at s x (length s) refl) ∙ ap (take (length s)) tokens ∙ take_at t y (length s) (omega (arith, parts.0))

-- a whole frame is not the beginning of one
pub not_begun : (octets : List ℕ) (before n : ℕ) → Front octets before n → Begun octets → ⊥
not_begun octets before n f b =
    let joined : frame f.token ++ (f.rest ++ b.more) ≡ frame b.token ++ [] =
    sym (append_assoc (frame f.token) f.rest b.more) ∙ ap (λ (l : List ℕ). l ++ b.more) (sym f.octets_are) ∙ b.whole_is ∙ sym (append-nil (frame b.token)) in
    let token = one_frame f.token b.token _ _ joined in
    omega (arith, b.some_more, ap length joined, length-append (frame f.token) (f.rest ++ b.more), length-append f.rest b.more, length-append (frame b.token) [], ap (λ (l : List ℕ). length (frame l)) token)

pub one_front : (octets : List ℕ) (f g : Framing) → FrontIs octets f → FrontIs octets g → f ≡ g
one_front octets (framing.Token a n) (framing.Token b m) p q =
    let token = one_frame p.token q.token _ _ (sym p.octets_are ∙ q.octets_are) in
    ap₂ framing.Token (p.before_is ∙ ap (λ (l : List ℕ). lead_length (length l)) token ∙ sym q.before_is) (p.length_is ∙ ap length token ∙ sym q.length_is)
one_front octets (framing.Token a n) framing.Incomplete p q = absurd (not_begun octets a n p q)
one_front octets (framing.Token a n) framing.Fault p q = absurd (q.0 a n p)
one_front octets framing.Incomplete (framing.Token a n) p q = absurd (not_begun octets a n q p)
one_front octets framing.Incomplete framing.Incomplete p q = refl
one_front octets framing.Incomplete framing.Fault p q = absurd (q.1 p)
one_front octets framing.Fault (framing.Token a n) p q = absurd (p.0 a n q)
one_front octets framing.Fault framing.Incomplete p q = absurd (p.1 q)
one_front octets framing.Fault framing.Fault p q = refl

-- ---- A frame at the front

module _ (octets : List ℕ) (before n : ℕ) (front : Front octets before n) where
  size : length (frame front.token) ≡ before + n
  size = frame_length front.token ∙ ap₂ ◌+◌ (sym front.before_is) (sym front.length_is)

  pub front_fits : before + n ≤ length octets
  front_fits = omega (arith, size, ap length front.octets_are, length-append (frame front.token) front.rest)

  pub front_frame : frame (take n (drop before octets)) ≡ take (before + n) octets
  unfolding frame
  front_frame =
      let token : List ℕ = front.token in
      let stands : drop before octets ≡ token ++ front.rest =
      ap (drop before) (front.octets_are ∙ append_assoc (lead (length token)) token front.rest) ∙ drop_at (lead (length token)) (token ++ front.rest) before (sym front.before_is) in
      ap frame (ap (take n) stands ∙ take_at token front.rest n (sym front.length_is)) ∙ sym (ap (take (before + n)) front.octets_are ∙ take_at (frame token) front.rest (before + n) size)

-- ---- Octets that are one whole frame, or not

module _ (octets : List ℕ) where
  pub whole_lead : (before n : ℕ) → Front octets before n → before + n ≡ length octets → lead_of octets ≡ Ok before
  unfolding lead_of require
  whole_lead before n f e =
      let written : is_frame octets ≡ true = is_written octets (take n (drop before octets)) (front_frame octets before n f ∙ take_all (before + n) octets (omega arith)) in
      let width : lead_width octets ≡ before = ap lead_width f.octets_are ∙ lead_told f.token f.rest ∙ sym f.before_is in
      rw (written, width)

  no_lead : ((token : List ℕ) → frame token ≡ octets → ⊥) → lead_of octets ≡ Err Refusal.Frame
  unfolding lead_of require
  no_lead not = decided (is_frame octets) refl
    where
      decided : (t : Bool) → is_frame octets ≡ t → require t Refusal.Frame (Ok (lead_width octets)) ≡ Err Refusal.Frame
      decided true e = absurd (not _ (was_written octets e))
      decided false e = refl

  pub not_whole : (before n : ℕ) → Front octets before n → (before + n ≡ length octets → ⊥) → lead_of octets ≡ Err Refusal.Frame
  not_whole before n f other =
      no_lead (λ token e.
      let tokens = one_frame f.token token f.rest [] (sym f.octets_are ∙ sym e ∙ sym (append-nil (frame token))) in
      other (sym (size octets before n f) ∙ ap (λ (l : List ℕ). length (frame l)) tokens ∙ ap length e))

  front_of : (token : List ℕ) → frame token ≡ octets → Front octets (lead_length (length token)) (length token)
  front_of token e = record { token = token; rest = []; octets_are = sym e ∙ sym (append-nil (frame token)); before_is = refl; length_is = refl }

  pub begun_lead : Begun octets → lead_of octets ≡ Err Refusal.Frame
  begun_lead b = no_lead (λ token e. not_begun octets _ _ (front_of token e) b)

  pub fault_lead : FrontIs octets framing.Fault → lead_of octets ≡ Err Refusal.Frame
  fault_lead p = no_lead (λ token e. p.0 _ _ (front_of token e))

  pub no_token : (f : Framing) → FrontIs octets f → ((before n : ℕ) → f ≡ framing.Token before n → ⊥) → lead_of octets ≡ Err Refusal.Frame
  no_token (framing.Token before n) p other = absurd (other before n refl)
  no_token framing.Incomplete p other = begun_lead p
  no_token framing.Fault p other = fault_lead p

-- ---- Each answer, from the tests that lead there

pub none : (octets : List ℕ) → length octets ≡ 0 → Begun octets
none [] e = record { token = []; more = frame []; some_more = omega (arith, frame_length [], lead_length_lem 0); used = rw (der_short 11 (omega arith)) (omega arith); whole_is = refl }
none (x ∷ octets) e = absurd (omega arith)

-- a length that a slice can hold is not set aside
count_step : (n : ℕ) → octet_count n ≤ suc (octet_count (n / 256))
count_step zero = omega (arith, count_zero)
count_step (suc n) = omega (arith, count_more (suc n) (omega arith))

small_used : (n : ℕ) → n < 18446744073709551616 → Used n
small_used n h = decided (ltb n 128) refl
  where
    decided : (t : Bool) → ltb n 128 ≡ t → Used n
    decided true e = rw (der_short n (ltb-true n 128 e)) (omega (arith, ltb-true n 128 e))
    decided false e =
        let end : n / 256 / 256 / 256 / 256 / 256 / 256 / 256 / 256 ≡ 0 = omega arith in
        let most : octet_count n ≤ 8 =
        omega (arith, count_step n, count_step (n / 256), count_step (n / 256 / 256), count_step (n / 256 / 256 / 256), count_step (n / 256 / 256 / 256 / 256), count_step (n / 256 / 256 / 256 / 256 / 256), count_step (n / 256 / 256 / 256 / 256 / 256 / 256), count_step (n / 256 / 256 / 256 / 256 / 256 / 256 / 256), ap octet_count end, count_zero) in
        rw (der_long n (ltb-false n 128 e)) (omega arith)

-- none, however the octets go on
fault : (octets : List ℕ) → length octets < 18446744073709551616 → ((token rest more : List ℕ) → Used (contents (length token)) → octets ++ more ≡ frame token ++ rest → ⊥) → FrontIs octets framing.Fault
fault octets bound not = (
  λ before n f.
      let fits = front_fits octets before n f in
      not f.token f.rest [] (small_used _ (omega (arith, f.before_is, f.length_is, lead_length_lem (length f.token)))) (append-nil octets ∙ f.octets_are),
  λ b. not b.token [] b.more b.used (b.whole_is ∙ sym (append-nil (frame b.token))),
)

pub other_tag : (octets : List ℕ) → length octets < 18446744073709551616 → 0 < length octets → (get_or octets 0 0 ≡ tag → ⊥) → FrontIs octets framing.Fault
other_tag octets bound some other =
    fault octets bound (λ token rest more used e. other (sym (get_or-append octets more 0 0 some) ∙ ap (λ (l : List ℕ). get_or l 0 0) (e ∙ frame_parts token rest)))

-- no more than all
pub take_least : (xs : List ℕ) (n : ℕ) {k : ℕ} → k ≡ min (length xs) n → take k xs ≡ take n xs
take_least xs n e = ap (λ (m : ℕ). take m xs) e ∙ decided (leb n (length xs)) refl
  where
    decided : (t : Bool) → leb n (length xs) ≡ t → take (min (length xs) n) xs ≡ take n xs
    decided true h = let least : min (length xs) n ≡ n = omega (arith, leb-true n (length xs) h) in ap (λ (m : ℕ). take m xs) least
    decided false h =
        let past : length xs < n = leb-false n (length xs) h in
        take_all (min (length xs) n) xs (omega arith) ∙ sym (take_all n xs (omega arith))

-- two lists agree exactly when both can go on to the same
agree_more : (xs ys : List ℕ) → agree xs ys ≡ true → xs ++ drop (length xs) ys ≡ ys ++ drop (length ys) xs
unfolding agree same
agree_more [] ys e = sym (ap (λ (l : List ℕ). ys ++ l) (drop-nil (length ys)) ∙ append-nil ys)
agree_more (x ∷ xs) [] e = append-nil (x ∷ xs)
agree_more (x ∷ xs) (y ∷ ys) e =
    let h = both (eqb x y) (agree xs ys) e in
    ap₂ (λ (z : ℕ) (l : List ℕ). z ∷ l) (eqb-true x y h.0) (agree_more xs ys h.1)

agree_joined : (xs ys a b : List ℕ) → xs ++ a ≡ ys ++ b → agree xs ys ≡ true
unfolding agree same
agree_joined [] [] a b e = refl
agree_joined [] (y ∷ ys) a b e = refl
agree_joined (x ∷ xs) [] a b e = refl
agree_joined (x ∷ xs) (y ∷ ys) a b e = rw (eq-eqb x y (cc)) (agree_joined xs ys a b (cc))

-- octets that begin as a frame does, and go on so
made : (octets : List ℕ) (n : ℕ) (rest more token x : List ℕ) → octets ≡ tag ∷ (der_length n ++ rest) → n ≡ contents (length token) → rest ++ more ≡ mechanism ++ (token ++ x) → octets ++ more ≡ frame token ++ x
made octets n rest more token x e size joined =
    ap (λ (l : List ℕ). l ++ more) e
    ∙ ap (λ (l : List ℕ). tag ∷ l) (append_assoc (der_length n) rest more ∙ ap₂ (λ (k : ℕ) (l : List ℕ). der_length k ++ l) size joined)
    ∙ sym (frame_parts token x)

-- the octets after a place, as they are lent
abbrev pub from : ℕ → List ℕ → List ℕ
from k octets = take (length octets - k) (drop k octets)

-- octets that begin with the tag
module _ (octets : List ℕ) (bound : length octets < 18446744073709551616) (some : 0 < length octets) (first : get_or octets 0 0 ≡ tag) where
  begins : octets ≡ tag ∷ from 1 octets
  begins = sym (split_first octets tag some (sym first))

  after_is : (token rest more : List ℕ) → octets ++ more ≡ frame token ++ rest → from 1 octets ++ more ≡ der_length (contents (length token)) ++ (mechanism ++ (token ++ rest))
  after_is token rest more e = ap (drop 1) (ap (λ (l : List ℕ). l ++ more) (sym begins) ∙ e ∙ frame_parts token rest)

  pub no_length : LengthIs 11 (from 1 octets) Wrong → FrontIs octets framing.Fault
  no_length none = fault octets bound (λ token rest more used e. none (contents (length token)) (omega arith) used _ more (after_is token rest more e))

  pub length_begun : LengthIs 11 (from 1 octets) Incomplete → Begun octets
  length_begun (n, more, e, least, some, used) =
      let token : List ℕ = replicate (n - 11) 0 in
      let size : n ≡ contents (length token) = rw length-replicate (omega arith) in
      let whole : tag ∷ (from 1 octets ++ more) ≡ tag ∷ (der_length n ++ []) = ap (λ (l : List ℕ). tag ∷ l) (e ∙ sym (append-nil (der_length n))) in
      record {
        token = token;
        more = more ++ (mechanism ++ token);
        some_more = rw length-append (omega arith);
        used = subst Used size used;
        whole_is =
            sym (append_assoc octets more (mechanism ++ token))
            ∙ made (octets ++ more) n [] (mechanism ++ token) token [] (ap (λ (l : List ℕ). l ++ more) begins ∙ whole) size (ap (λ (l : List ℕ). mechanism ++ l) (sym (append-nil token)))
            ∙ append-nil (frame token);
      }

  -- a length that is there
  module _ (w n : ℕ) (rest : List ℕ) (e : from 1 octets ≡ der_length n ++ rest) (width : w ≡ length (der_length n)) (least : 11 ≤ n) where
    whole : octets ≡ tag ∷ (der_length n ++ rest)
    whole = begins ∙ ap (λ (l : List ℕ). tag ∷ l) e

    rest_is : from w (from 1 octets) ≡ rest
    rest_is =
        take_all (length (from 1 octets) - w) (drop w (from 1 octets)) (rw length-drop (omega arith))
        ∙ ap (drop w) e ∙ drop_at (der_length n) rest w (sym width)

    pub other_mechanism : agree (from w (from 1 octets)) mechanism ≡ false → FrontIs octets framing.Fault
    other_mechanism other =
        fault octets bound (λ token x more used f.
        let parts = one_length n (contents (length token)) (rest ++ more) _ (sym (append_assoc (der_length n) rest more) ∙ ap (λ (l : List ℕ). l ++ more) (sym e) ∙ after_is token x more f) in
        let agrees = agree_joined rest mechanism more (token ++ x) parts.1 in
        let told : true ≡ false = sym agrees ∙ ap (λ (l : List ℕ). agree l mechanism) (sym rest_is) ∙ other in
        let z : ◌≡◌ {A = ℕ} 0 1 = cc in
        omega arith)

    module _ (named : agree (from w (from 1 octets)) mechanism ≡ true) where
      joined : rest ++ drop (length rest) mechanism ≡ mechanism ++ drop 11 rest
      unfolding mechanism
      joined = agree_more rest mechanism (ap (λ (l : List ℕ). agree l mechanism) (sym rest_is) ∙ named)

      pub cut_off : length rest < n → Used n → Begun octets
      cut_off short used =
          let fill : List ℕ = replicate (n - 11 - length (drop 11 rest)) 0 in
          let token : List ℕ = drop 11 rest ++ fill in
          let more : List ℕ = drop (length rest) mechanism ++ fill in
          let size : n ≡ contents (length token) = rw (length-append, length-replicate, length-drop) (omega arith) in
          let all : rest ++ more ≡ mechanism ++ token =
          sym (append_assoc rest (drop (length rest) mechanism) fill) ∙ ap (λ (l : List ℕ). l ++ fill) joined ∙ append_assoc mechanism (drop 11 rest) fill in
          record {
            token = token;
            more = more;
            some_more = omega (arith, ap length all, length-append rest more, length-append mechanism token, mechanism_length, size);
            used = subst Used size used;
            whole_is = made octets n rest more token [] whole size (all ∙ ap (λ (l : List ℕ). mechanism ++ l) (sym (append-nil token))) ∙ append-nil (frame token);
          }

      pub framed : n ≤ length rest → Front octets (1 + w + 11) (n - 11)
      framed there =
          let token : List ℕ = take (n - 11) (drop 11 rest) in
          let x : List ℕ = drop (n - 11) (drop 11 rest) in
          let token_length : length token ≡ n - 11 = length-take-le (n - 11) (drop 11 rest) (rw length-drop (omega arith)) in
          let size : n ≡ contents (length token) = omega arith in
          let none_left : drop (length rest) mechanism ≡ [] = drop_of_length-le mechanism {i = length rest} (omega (arith, mechanism_length)) in
          record {
            token = token;
            rest = x;
            octets_are =
                sym (append-nil octets)
                ∙ made octets n rest [] token x whole size (ap (λ (l : List ℕ). rest ++ l) (sym none_left) ∙ joined ∙ ap (λ (l : List ℕ). mechanism ++ l) (sym (take-append-drop (n - 11) (drop 11 rest))));
            before_is = sym (lead_length_lem (length token) ∙ ap (λ (k : ℕ). 12 + length (der_length k)) (sym size) ∙ omega arith);
            length_is = sym token_length;
          }
