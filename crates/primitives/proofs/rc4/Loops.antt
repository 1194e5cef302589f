-- What holds at the head of each loop of `rc4`: before its first turn, after one turn more, and at its end.
use Rattle.std.proofs.Common.{◌≡◌, ℕ, zero, suc, ◌+◌, ◌%◌, ◌<◌, ◌≤◌, ◌⊎◌, List, [], ◌∷◌, ◌++◌, length, get_or, take, drop, set, sym, refl, ap, ◌∙◌, ap₂, inl, inr, add_comm, add-one, arith, length-set, length-take-le, take_all, drop-cons, get_or-set_other, get_or-take, take-suc, get_or-set_same}
use native.Mathlib.Decide.{ℕ_discrete}
use lib.Seq.{get_or_at, set_at, append_snoc}
use lib.Bits.{bit_xor}
use Rattle.primitives.specs.Rc4.{state, swap, up_to, turn, turns, key_schedule, next, octet, after, apply}
use Rattle.primitives.specs.declared.rc4.Rc4.{Rc4}
use Rattle.primitives.proofs.Keystream.{up_to_length, turns_none, turns_more, after_none, after_more, apply_none, apply_length, apply_more}

-- ---- The octets 0 to 255

-- a list of n elements that has each number at its own place
pub counted : (n : ℕ) (s : List ℕ) → length s ≡ n → ((i : ℕ) → i < n → get_or s i 0 ≡ i) → s ≡ up_to n
unfolding up_to
counted zero [] size each = refl
counted zero (x ∷ s) size each = absurd (omega arith)
counted (suc n) s size each =
    let front = counted n (take n s) (length-take-le n s (omega arith)) (λ i lt. get_or-take n s i 0 lt ∙ each i (omega arith)) in
    sym (take_all (suc n) s (omega arith))
    ∙ take-suc s n 0 (omega arith)
    ∙ ap₂ (λ (l : List ℕ) (x : ℕ). l ++ (x ∷ [])) front (each n (omega arith))

-- ---- The loop of `key_schedule`: the turns for 0 to i - 1 are done

pub record Scheduling (key s : List ℕ) (j i : ℕ) : Type 0 where
  pub within : i ≤ 256
  pub s_length : length s ≡ 256
  pub j_below : j < 256
  pub state_is : state s 0 j ≡ turns key i

pub scheduling_none : (key s : List ℕ) → s ≡ up_to 256 → Scheduling key s 0 0
scheduling_none key s e =
    record {
      within = omega arith;
      s_length = ap length e ∙ up_to_length 256;
      j_below = omega arith;
      state_is = ap (λ (l : List ℕ). state l 0 0) e ∙ sym (turns_none key);
    }

-- the values as the code has them: j' is the next j, a and b are S[i] and S[j'] before the two are exchanged, x is the key's octet
module _ {key s : List ℕ} {j i : ℕ} (h : Scheduling key s j i) (lt : i < 256)
    (j' a x b : ℕ) (ea : a ≡ get_or s i 0) (ex : x ≡ get_or key (i % length key) 0) (ej : j' ≡ (j + a + x) % 256) (eb : b ≡ get_or s j' 0) where
  state_more : state (set (set s i b) j' a) 0 j' ≡ turn key i (turns key i)
  unfolding turn
  state_more =
      let e : state (set (set s i b) j' a) 0 j' ≡ turn key i (state s 0 j) = cc ea in
      e ∙ ap (turn key i) h.state_is

  pub scheduling_more : Scheduling key (set (set s i b) j' a) j' (i + 1)
  scheduling_more =
      record {
        within = omega arith;
        s_length = simp length-set h.s_length;
        j_below = omega arith;
        state_is = state_more ∙ sym (turns_more key i);
      }

pub scheduling_done : {key s : List ℕ} {j i : ℕ} → Scheduling key s j i → 256 ≤ i → state s 0 0 ≡ key_schedule key
unfolding key_schedule
scheduling_done {key} {s} {j} {i} h end =
    let all : i ≡ 256 = omega (arith, h.within) in
    ap (λ (st : Rc4). state st.s 0 0) (h.state_is ∙ ap (turns key) all)

-- ---- The loop of `apply`: the first n octets of the text are under the keystream, and a is the S[i] of the next one

pub record Applying (st : Rc4) (text₀ text s : List ℕ) (i j a n : ℕ) : Type 0 where
  pub within : n ≤ length text₀
  pub text_length : length text ≡ length text₀
  pub s_length : length s ≡ 256
  pub i_below : i < 256
  pub j_below : j < 256
  pub a_is : a ≡ get_or s ((i + 1) % 256) 0
  pub state_is : state s i j ≡ after st n
  pub text_is : text ≡ apply st (take n text₀) ++ drop n text₀

pub applying_none : (text s : List ℕ) (i j : ℕ) {a : ℕ} → length s ≡ 256 → i < 256 → j < 256 → a ≡ get_or s ((i + 1) % 256) 0
    → Applying (state s i j) text text s i j a 0
applying_none text s i j hs hi hj ha =
    record {
      within = omega arith;
      text_length = refl;
      s_length = hs;
      i_below = hi;
      j_below = hj;
      a_is = ha;
      state_is = sym (after_none (state s i j));
      text_is = rw apply_none;
    }

-- what stands at the two places after they are swapped
swap_j : (s : List ℕ) (i j : ℕ) → j < length s → get_or (swap s i j) j 0 ≡ get_or s i 0
swap_j s i j h = get_or-set_same (set s i (get_or s j 0)) j (get_or s i 0) 0 (simp length-set h)

swap_i : (s : List ℕ) (i j : ℕ) → Dec (i ≡ j) → i < length s → j < length s → get_or (swap s i j) i 0 ≡ get_or s j 0
swap_i s i j (yes e) hi hj =
    ap (λ (x : ℕ). get_or (swap s i j) x 0) e ∙ swap_j s i j hj ∙ ap (λ (x : ℕ). get_or s x 0) e
swap_i s i j (no n) hi hj =
    get_or-set_other (set s i (get_or s j 0)) j i (get_or s i 0) 0 n ∙ get_or-set_same s i (get_or s j 0) 0 hi

-- the octet that the state gives, by what stood at the two places before the swap
swap_octet : (s : List ℕ) (i j : ℕ) → i < length s → j < length s
    → octet (state (swap s i j) i j) ≡ get_or (swap s i j) ((get_or s i 0 + get_or s j 0) % 256) 0
unfolding octet
swap_octet s i j hi hj =
    ap₂ (λ (x y : ℕ). get_or (swap s i j) ((x + y) % 256) 0) (swap_i s i j (ℕ_discrete i j) hi hj) (swap_j s i j hj)
    ∙ ap (λ (x : ℕ). get_or (swap s i j) (x % 256) 0) (add_comm (get_or s j 0) (get_or s i 0))

-- a' is what stands ahead of i after the swap of i and j, by what stood there before it
abbrev pub Ahead : List ℕ → ℕ → ℕ → ℕ → ℕ → Type 0
Ahead s ahead j a a' = ((j ≡ ahead → ⊥) × (a' ≡ get_or s ahead 0)) ⊎ ((j ≡ ahead) × (a' ≡ a))

ahead_is : (s : List ℕ) (i j b : ℕ) {ahead a a' : ℕ} → length s ≡ 256 → j < 256 → (ahead ≡ i → ⊥) → Ahead s ahead j a a'
    → a' ≡ get_or (set (set s i b) j a) ahead 0
ahead_is s i j b {ahead} {a} {a'} size hj apart (inl (other, e)) =
    e
    ∙ sym (get_or-set_other s i ahead b 0 apart)
    ∙ sym (get_or-set_other (set s i b) j ahead a 0 (λ same. other (sym same)))
ahead_is s i j b {ahead} {a} {a'} size hj apart (inr (same, e)) =
    e
    ∙ sym (get_or-set_same (set s i b) j a 0 (simp length-set (omega arith)))
    ∙ ap (λ (k : ℕ). get_or (set (set s i b) j a) k 0) same

-- the values as the code has them: i' and j' are the next i and j, a and b are S[i'] and S[j'] before the swap
module _ {st : Rc4} {text₀ text s : List ℕ} {i j a n : ℕ} (h : Applying st text₀ text s i j a n) (lt : n < length text)
    (i' j' b k a' : ℕ) (ei : i' ≡ (i + 1) % 256) (ej : j' ≡ (j + a) % 256) (eb : b ≡ get_or s j' 0) (ek : k ≡ (a + b) % 256)
    (next-a : Ahead s ((i' + 1) % 256) j' a a') where
  ea : a ≡ get_or s i' 0
  ea = h.a_is ∙ ap (λ (x : ℕ). get_or s x 0) (sym ei)

  state_next : state (set (set s i' b) j' a) i' j' ≡ next (after st n)
  unfolding next
  state_next =
      let e : state (set (set s i' b) j' a) i' j' ≡ next (state s i j) = cc ea in
      e ∙ ap next h.state_is

  octet_next : get_or (set (set s i' b) j' a) k 0 ≡ octet (next (after st n))
  octet_next =
      let e : get_or (set (set s i' b) j' a) k 0 ≡ get_or (swap s i' j') ((get_or s i' 0 + get_or s j' 0) % 256) 0 = cc ea in
      let f : state (set (set s i' b) j' a) i' j' ≡ state (swap s i' j') i' j' = cc ea in
      e ∙ sym (swap_octet s i' j' (omega (arith, h.s_length)) (omega (arith, h.s_length))) ∙ ap octet (sym f ∙ state_next)

  text_more : (v : ℕ) → v ≡ bit_xor (get_or text n 0) (octet (next (after st n))) → set text n v ≡ apply st (take (n + 1) text₀) ++ drop (n + 1) text₀
  text_more v ev =
      let inside : n < length text₀ = omega (arith, h.text_length) in
      let front : List ℕ = apply st (take n text₀) in
      let x : ℕ = get_or text₀ n 0 in
      let rest : List ℕ = drop (suc n) text₀ in
      let o : ℕ = octet (next (after st n)) in
      let taken : length (take n text₀) ≡ n = length-take-le n text₀ h.within in
      let front_length : length front ≡ n = apply_length st (take n text₀) ∙ taken in
      let split : text ≡ front ++ (x ∷ rest) = h.text_is ∙ ap (λ (l : List ℕ). front ++ l) (drop-cons text₀ n 0 inside) in
      let read : get_or text n 0 ≡ x = ap (λ (l : List ℕ). get_or l n 0) split ∙ get_or_at front x rest 0 n front_length in
      let written : set text n v ≡ front ++ (v ∷ rest) = ap (λ (l : List ℕ). set l n v) split ∙ set_at front x rest v n front_length in
      let more : apply st (take (suc n) text₀) ≡ front ++ (bit_xor x o ∷ []) =
      ap (apply st) (take-suc text₀ n 0 inside) ∙ apply_more st (take n text₀) x
      ∙ ap (λ (m : ℕ). front ++ (bit_xor x (octet (next (after st m))) ∷ [])) taken in
      rw add-one
      (written ∙ ap (λ (z : ℕ). front ++ (z ∷ rest)) (ev ∙ ap (λ (z : ℕ). bit_xor z o) read)
      ∙ sym (append_snoc front (bit_xor x o) rest)
      ∙ ap (λ (l : List ℕ). l ++ rest) (sym more))

  pub applying_more : Applying st text₀ (set text n (bit_xor (get_or text n 0) (get_or (set (set s i' b) j' a) k 0))) (set (set s i' b) j' a) i' j' a' (n + 1)
  applying_more =
      record {
        within = omega (arith, h.text_length);
        text_length = simp length-set h.text_length;
        s_length = simp length-set h.s_length;
        i_below = omega arith;
        j_below = omega arith;
        a_is = ahead_is s i' j' b h.s_length (omega arith) (λ same. omega arith) next-a;
        state_is = state_next ∙ sym (after_more st n);
        text_is = text_more _ (ap (bit_xor (get_or text n 0)) octet_next);
      }
