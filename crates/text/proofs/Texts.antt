-- Texts of characters: their octets are theirs alone. How far `units` has read, and each way out of it.
use mathlib.Core.Path.{◌≡◌, refl, sym, ap, ap₂, ◌∙◌}
use mathlib.Core.Bool.{true}
use mathlib.Core.List.{List, [], ◌∷◌, ◌++◌, append_assoc, append-nil, append_cancel_left}
use Prim.Native.Nat.{ℕ, zero, suc, ◌+◌, ◌-◌, ◌≤◌, ◌<◌}
use native.Mathlib.Omega.{arith}
use lib.ListN.{length, set, drop, replicate, length-append, length-drop, take-append-drop, drop_of_length-le}
use lib.Seq.{length-take-le, drop-drop}
use Rattle.text.specs.Utf8.{is_character, utf8, utf16, octets_of, units_of, Characters, ReadsExactly, character_in}
use Rattle.std.proofs.lemmas.List.{drop-set-lt}
use Rattle.std.specs.Prelude.{None, Ok, Err}
use Rattle.text.specs.declared.utf8.TextError.TheVariants.{NotUtf8, TooLong}
use Rattle.text.proofs.Characters.{numbered, same_number, character_most, written, front_back, was_found, wrong_number}

-- ---- The octets of characters

-- texts with the same octets begin with the same character
first_same : (c d : ℕ) (s t : List ℕ) → is_character c ≡ true → is_character d ≡ true → utf8 c ++ s ≡ utf8 d ++ t → c ≡ d
first_same c d s t ec ed e =
    same_number (sym (front_back c s ec) ∙ ap character_in e ∙ front_back d t ed)

-- characters whose octets begin with those of others begin with them
record Begins (ds cs tail : List ℕ) : Type 0 where
  pub rest : List ℕ
  pub all : Characters rest
  pub octets : octets_of rest ≡ tail
  pub whole : ds ≡ cs ++ rest

begins : (cs ds tail : List ℕ) → Characters cs → Characters ds → octets_of ds ≡ octets_of cs ++ tail → Begins ds cs tail
unfolding octets_of
begins [] ds tail ca da e = record { rest = ds; all = da; octets = e; whole = refl }
begins (c ∷ cs) [] tail ca da e =
    let some = (written c (character_most c (ca 0 (omega arith)))).some in
    absurd (omega (arith, simp length-append at (ap length e)))
begins (c ∷ cs) (d ∷ ds) tail ca da e =
    let parted : utf8 d ++ octets_of ds ≡ utf8 c ++ (octets_of cs ++ tail) = e ∙ append_assoc (utf8 c) (octets_of cs) tail in
    let one : d ≡ c = first_same d c _ _ (da 0 (omega arith)) (ca 0 (omega arith)) parted in
    let after : octets_of ds ≡ octets_of cs ++ tail = append_cancel_left (utf8 c) _ _ (rw one at parted) in
    let b = begins cs ds tail (λ i h. ca (suc i) (omega arith)) (λ i h. da (suc i) (omega arith)) after in
    record { rest = b.rest; all = b.all; octets = b.octets; whole = ap₂ (λ (x : ℕ) (l : List ℕ). x ∷ l) one b.whole }

-- only the empty list of characters has no octets
none_left : (cs : List ℕ) → Characters cs → octets_of cs ≡ [] → cs ≡ []
unfolding octets_of
none_left [] all e = refl
none_left (c ∷ cs) all e =
    let some = (written c (character_most c (all 0 (omega arith)))).some in
    absurd (omega (arith, simp length-append at (ap length e)))

one_text : (text cs ds : List ℕ) → Characters cs → Characters ds → octets_of cs ≡ text → octets_of ds ≡ text → cs ≡ ds
one_text text cs ds ca da ce de =
    let b = begins ds cs [] da ca (ce ∙ sym de ∙ sym (append-nil (octets_of ds))) in
    b.whole ∙ ap (λ (l : List ℕ). ds ++ l) (none_left b.rest b.all b.octets) ∙ append-nil ds

-- ---- One character more

octets_more : (cs : List ℕ) (c : ℕ) → octets_of (cs ++ c ∷ []) ≡ octets_of cs ++ utf8 c
unfolding octets_of
octets_more [] c = append-nil (utf8 c)
octets_more (d ∷ cs) c = rw (octets_more cs c) (sym (append_assoc (utf8 d) (octets_of cs) (utf8 c)))

units_more : (cs : List ℕ) (c : ℕ) → units_of (cs ++ c ∷ []) ≡ units_of cs ++ utf16 c
unfolding units_of
units_more [] c = append-nil (utf16 c)
units_more (d ∷ cs) c = rw (units_more cs c) (sym (append_assoc (utf16 d) (units_of cs) (utf16 c)))

all_more : (cs : List ℕ) (c : ℕ) → Characters cs → is_character c ≡ true → Characters (cs ++ c ∷ [])
all_more [] c all e zero h = e
all_more [] c all e (suc i) h = absurd (omega arith)
all_more (d ∷ cs) c all e zero h = all 0 (omega arith)
all_more (d ∷ cs) c all e (suc i) h = all_more cs c (λ i h. all (suc i) (omega arith)) e i (omega arith)

-- zeros after the last unit, where one more is stored
pub zeros_after : (units : List ℕ) (n x : ℕ) → n < 1024 → drop n units ≡ replicate (1024 - n) 0 → drop (n + 1) (set units n x) ≡ replicate (1024 - (n + 1)) 0
zeros_after units n x h e =
    let room : 1024 - n ≡ suc (1024 - (n + 1)) = omega arith in
    drop-set-lt (n + 1) units n x (omega arith) ∙ sym (drop-drop 1 n units) ∙ ap (λ (l : List ℕ). drop 1 l) (e ∙ ap (λ (k : ℕ). replicate {A = ℕ} k 0) room)

-- ---- How far a text was read

-- the octets before those ahead are those of some characters, and the units are theirs
pub record Reads (text units ahead : List ℕ) : Type 0 where
  pub cs : List ℕ
  pub all : Characters cs
  pub octets : text ≡ octets_of cs ++ ahead
  pub units_are : units ≡ units_of cs
  pub fewer : length units + length ahead ≤ length text

pub reads_none : (text : List ℕ) → Reads text [] text
unfolding octets_of units_of
reads_none text = record { cs = []; all = λ i h. absurd (omega arith); octets = refl; units_are = refl; fewer = omega arith }

-- the character ahead lies in the text, and has no more units than octets
pub record Next (ahead : List ℕ) (w v : ℕ) : Type 0 where
  pub inside : w ≤ length ahead
  pub some : 1 ≤ w
  pub no_more : length (utf16 v) ≤ w
  pub below : v < 1114112

-- octets with no character at their front are not those of any characters
none_ahead : (octets : List ℕ) → 0 < length octets → character_in octets ≡ None → (cs : List ℕ) → Characters cs → octets_of cs ≡ octets → ⊥
unfolding octets_of
none_ahead octets h wrong [] all e = omega (arith, ap length e)
none_ahead octets h wrong (c ∷ cs) all e = wrong_number _ _ (sym wrong ∙ ap character_in (sym e) ∙ front_back c (octets_of cs) (all 0 (omega arith)))

pub too_long : (text : List ℕ) → 1024 < length text → ReadsExactly text (Err TooLong)
too_long text h =
    record {
      too_long = λ long. refl;
      always_then = λ cs all octets short. absurd (omega arith);
      only_then = λ short none. absurd (omega arith);
      one_text = one_text text;
    }

module _ {ahead : List ℕ} {w v : ℕ} (e : character_in ahead ≡ numbered w v) where
  pub next : Next ahead w v
  next =
      let f = was_found ahead w v e in
      let below = character_most v f.one in
      let c = written v below in
      let size : length (utf8 v) ≡ w = sym (ap length f.form) ∙ length-take-le w ahead f.there in
      record { inside = f.there; some = omega arith; no_more = omega arith; below = below }

  -- its units are put after those that are there
  pub reads_more : {text units : List ℕ} → Reads text units ahead → Reads text (units ++ utf16 v) (drop w ahead)
  reads_more {text} {units} r =
      let f = was_found ahead w v e in
      let x = next in
      let cs = r.cs in
      record {
        cs = cs ++ v ∷ [];
        all = all_more cs v r.all f.one;
        octets = r.octets
            ∙ ap (λ (l : List ℕ). octets_of cs ++ l) (sym (take-append-drop w ahead) ∙ ap (λ (l : List ℕ). l ++ drop w ahead) f.form)
            ∙ sym (append_assoc (octets_of cs) (utf8 v) (drop w ahead))
            ∙ ap (λ (l : List ℕ). l ++ drop w ahead) (sym (octets_more cs v));
        units_are = ap (λ (l : List ℕ). l ++ utf16 v) r.units_are ∙ sym (units_more cs v);
        fewer = rw (length-append, length-drop) (omega (arith, r.fewer, x.inside, x.no_more));
      }

module _ {text units ahead : List ℕ} (r : Reads text units ahead) (most : length text ≤ 1024) where
  -- no character is ahead
  pub not_utf8 : 0 < length ahead → character_in ahead ≡ None → ReadsExactly text (Err NotUtf8)
  not_utf8 h wrong =
      record {
        too_long = λ long. absurd (omega arith);
        always_then = λ ds all octets short. absurd (never ds all octets);
        only_then = λ short none. refl;
        one_text = one_text text;
      }
    where
      never : (ds : List ℕ) → Characters ds → octets_of ds ≡ text → ⊥
      never ds all octets =
          let b = begins r.cs ds ahead r.all all (octets ∙ r.octets) in
          none_ahead ahead h wrong b.rest b.all b.octets

  -- nothing is ahead
  pub all_read : length ahead ≤ 0 → ReadsExactly text (Ok units)
  all_read h =
      let read : octets_of r.cs ≡ text = sym (r.octets ∙ ap (λ (l : List ℕ). octets_of r.cs ++ l) (drop_of_length-le ahead {i = 0} h) ∙ append-nil (octets_of r.cs)) in
      record {
        too_long = λ long. absurd (omega arith);
        always_then = λ ds all octets short. ap (λ (l : List ℕ). Ok l) (r.units_are ∙ ap units_of (one_text text r.cs ds r.all all read octets));
        only_then = λ short none. absurd (none r.cs r.all read);
        one_text = one_text text;
      }
