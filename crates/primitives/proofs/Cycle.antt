-- What the iterator of a cycled list gives at each place.
use Rattle.std.proofs.Common.{◌≡◌, ℕ, zero, suc, ◌+◌, ◌%◌, ◌<◌, ◌⊎◌, inl, inr, List, ◌∷◌, length, get_or, sym, refl, ap, ◌∙◌, mod-eq_of_lt, Option, Some, None, Bor, arith, subst, is_some, true≢false}
use native.Mathlib.Nat.{mod_self, mod-add-mod, zero-mod}
use native.Mathlib.Decide.{ℕ_discrete}
use Rattle.std.proofs.Math.Nat.{mod-lt}
use Rattle.std.specs.Prelude.{MatchOption}
use Rattle.std.specs.Slice.Iter.{iter_rest, iter_steps}
use Rattle.std.specs.Iterator.Adapters.{cycle_source, cycle_start, cycle_steps}
use Rattle.std.specs.declared.iter.Cycle.{Cycle}
use Rattle.std.proofs.Common.{Iter}

-- l is what is left of key from place k on
pub record Rest (key l : List ℕ) (k : ℕ) : Type 0 where
  pub long : length l + k ≡ length key
  pub at : (i : ℕ) → get_or l i 0 ≡ get_or key (k + i) 0

rest_next : {key l r : List ℕ} {x k : ℕ} → Rest key l k → l ≡ x ∷ r → (x ≡ get_or key k 0) × Rest key r (k + 1)
rest_next {key} {l} {r} {x} {k} h e = (
  sym (ap (λ (m : List ℕ). get_or m 0 0) e) ∙ h.at 0 ∙ ap (λ (m : ℕ). get_or key m 0) (omega arith),
  record {
    long = omega (arith, h.long, ap length e);
    at = λ i. sym (ap (λ (m : List ℕ). get_or m (suc i) 0) e) ∙ h.at (suc i) ∙ ap (λ (m : ℕ). get_or key m 0) (omega arith);
  },
)

-- the place k after i items of a key of n octets
abbrev Place : ℕ → ℕ → ℕ → Type 0
Place n k i = (k ≡ i % n) ⊎ ((k ≡ n) × (i % n ≡ 0))

place_next : (n k i : ℕ) → k < n → k ≡ i % n → Place n (k + 1) (i + 1)
place_next n k i lt h = at (ℕ_discrete (k + 1) n) where
  more : (k + 1) % n ≡ (i + 1) % n
  more = ap (λ (m : ℕ). (m + 1) % n) h ∙ mod-add-mod i n 1

  at : Dec (k + 1 ≡ n) → Place n (k + 1) (i + 1)
  at (yes e) = inr (e, sym more ∙ ap (λ (m : ℕ). m % n) e ∙ mod_self n)
  at (no other) = inl (sym (mod-eq_of_lt (omega arith)) ∙ more)

-- i items have come
pub record Cycling (key : List ℕ) (s : Cycle (Iter ℕ)) (i : ℕ) : Type 0 where
  pub start : iter_rest (cycle_start s) ≡ key
  pub k : ℕ
  pub rest : Rest key (iter_rest (cycle_source s)) k
  pub place : Place (length key) k i

abbrev Clones : Iter ℕ → Iter ℕ → Type 0
Clones s r = iter_rest r ≡ iter_rest s

settled : (n k i : ℕ) → Place n k i → k < n → k ≡ i % n
settled n k i (inl e) lt = e
settled n k i (inr (e, z)) lt = absurd (omega (arith, e, lt))

ended : (n k i : ℕ) → 0 < n → Place n k i → k ≡ n → i % n ≡ 0
ended n k i some (inl e) end = absurd (omega (arith, mod-lt i some, e, end))
ended n k i some (inr (e, z)) end = z

whole : {key l : List ℕ} → l ≡ key → Rest key l 0
whole {key} {l} e =
    record {
      long = omega (arith, ap length e);
      at = λ i. ap (λ (m : List ℕ). get_or m i 0) e ∙ ap (λ (m : ℕ). get_or key m 0) (omega arith);
    }

pub begun : {key : List ℕ} {s : Cycle (Iter ℕ)} → iter_rest (cycle_start s) ≡ key → iter_rest (cycle_source s) ≡ key → Cycling key s 0
begun {key} e f = record { start = e; k = 0; rest = whole f; place = inl (sym (zero-mod (length key))) }

pub spent : (n : ℕ) → (0 < n → ⊥) → n ≡ 0
spent zero none = refl
spent (suc n) none = absurd (none (omega arith))

abbrev Came : Cycle (Iter ℕ) → Cycle (Iter ℕ) → Option (Bor ℕ) → Option (Bor ℕ) → Iter ℕ → Type 0
Came s t r o u = MatchOption o ((j : Iter ℕ) × Clones (cycle_start s) j × iter_steps j r (cycle_source t)) (λ y. (r ≡ Some y) × (cycle_source t ≡ u))

module _ {key : List ℕ} {s : Cycle (Iter ℕ)} {i : ℕ} (t : Cycle (Iter ℕ)) (some : 0 < length key) (h : Cycling key s i) where
  came : (x : Bor ℕ) (o : Option (Bor ℕ)) (u : Iter ℕ) → iter_steps (cycle_source s) o u → Came s t (Some x) o u → cycle_start t ≡ cycle_start s
      → (x.now ≡ get_or key (i % length key) 0) × Cycling key t (i + 1)
  came x (Some y) u step next same =
      let said : iter_steps (cycle_source s) (Some x) u = subst (λ (o : Option (Bor ℕ)). iter_steps (cycle_source s) o u) (sym next.0) step in
      let split : iter_rest (cycle_source s) ≡ x.now ∷ iter_rest (cycle_source t) = said ∙ ap (λ (v : Iter ℕ). x.now ∷ iter_rest v) (sym next.1) in
      let more = rest_next h.rest split in
      let short : h.k < length key = omega (arith, h.rest.long, ap length split) in
      let at : h.k ≡ i % length key = settled _ _ _ h.place short in (
        more.0 ∙ ap (λ (m : ℕ). get_or key m 0) at,
        record { start = ap iter_rest same ∙ h.start; k = h.k + 1; rest = more.1; place = place_next (length key) h.k i short at },
      )
  came x None u step next same =
      let z : i % length key ≡ 0 = ended _ _ _ some h.place (omega (arith, h.rest.long, step.0)) in
      let more = rest_next (whole (next.1 ∙ h.start)) next.2 in (
        more.0 ∙ ap (λ (m : ℕ). get_or key m 0) (sym z),
        record { start = ap iter_rest same ∙ h.start; k = 0 + 1; rest = more.1; place = place_next (length key) 0 i some (sym z) },
      )

  pub cycled : (x : Bor ℕ) → cycle_steps iter_steps Clones s (Some x) t → (x.now ≡ get_or key (i % length key) 0) × Cycling key t (i + 1)
  cycled x (same, (o, u, step, next)) = came x o u step next same

  went : (o : Option (Bor ℕ)) (u : Iter ℕ) → iter_steps (cycle_source s) o u → Came s t None o u → ⊥
  went (Some y) u step next = true≢false (sym (ap is_some next.0))
  went None u step next = omega (arith, some, next.2.0, ap length (next.1 ∙ h.start))

  -- it has no end
  pub endless : cycle_steps iter_steps Clones s None t → ⊥
  endless (same, (o, u, step, next)) = went o u step next
