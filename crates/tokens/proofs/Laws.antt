-- The laws of this crate's definitions that a crate above may cite.
use mathlib.Core.Path.{◌≡◌, sym, ap, ◌∙◌}
use mathlib.Core.Bool.{Bool}
use mathlib.Core.List.{List, ◌++◌, append_assoc}
use Prim.Native.Nat.{ℕ, ◌+◌, ◌≤◌}
use native.Mathlib.Omega.{arith}
use lib.ListN.{length, take, drop, length-append, length-take, length-drop}
use lib.Seq.{take_at, drop_at, take-append-le, take-take, drop-drop, length-take-le}
use borrow.Author.Tests.{leb-true, le-leb}
use Rattle.std.specs.Prelude.{Ok}
use Rattle.primitives.specs.Octets.{Octets}
use Rattle.tokens.specs.Answer.{require, number}
use Rattle.tokens.specs.Limits.{most_message, region, placed}
use Rattle.tokens.specs.Message as Message
use Rattle.tokens.specs.Mic as Mic
use Rattle.tokens.specs.Usage.{least_usage, most_usage, type_octets}
use Rattle.tokens.specs.Wrap as Wrap
use Rattle.tokens.specs.declared.answer.Refusal.{Refusal}
use Rattle.tokens.specs.declared.context.Context.{Context}
use Rattle.tokens.specs.declared.strength.Strength.{Strength}
use Rattle.tokens.proofs.Lengths as Lengths
use Rattle.tokens.proofs.Lent as Lent
use Rattle.tokens.proofs.Steps as Steps
use Rattle.tokens.proofs.Steps.{require_done, done_same, within_bounds}
use Rattle.tokens.proofs.mic.Exactly as MicExactly
use Rattle.tokens.proofs.wrap.Exactly as WrapExactly

-- no refusal has the number 0
pub never_zero : (r : Refusal) → number r ≡ 0 → ⊥
never_zero = Steps.never_zero

-- ---- Buffers

-- the octets of a region are octets
pub region_octets : (start n : ℕ) (buf : List ℕ) → Octets buf → Octets (region start n buf)
region_octets start n buf h = Lent.octets_take n (drop start buf) (Lent.octets_drop start buf h)

module _ (start : ℕ) (octets buf : List ℕ) (inside : start + length octets ≤ length buf) where
  -- what is placed stands there
  pub placed_stands : region start (length octets) (placed start octets buf) ≡ octets
  unfolding placed
  placed_stands =
      let before : length (take start buf) ≡ start = length-take-le start buf (omega arith) in
      ap (take (length octets)) (drop_at (take start buf) (octets ++ drop (start + length octets) buf) start before) ∙ take_at octets (drop (start + length octets) buf) (length octets) (λ i. length octets)

  -- and the buffer is as long as before
  pub placed_length : length (placed start octets buf) ≡ length buf
  unfolding placed
  placed_length = simp (length-append, length-take, length-drop) (omega arith)

-- octets placed after others that are placed before them
pub placed_before : (start : ℕ) (a b buf : List ℕ) → start + length a + length b ≤ length buf → placed start a (placed (start + length a) b buf) ≡ placed start (a ++ b) buf
unfolding placed
placed_before start a b buf inside =
    let before = take (start + length a) buf in
    let behind = b ++ drop (start + length a + length b) buf in
    let size : length before ≡ start + length a = length-take-le (start + length a) buf (omega arith) in
    let sums : start + length a + length b ≡ start + length (a ++ b) = rw length-append (omega arith) in
    rw (
      take-append-le start before behind (omega arith),
      take-take start (start + length a) buf (omega arith),
      drop_at before behind (start + length a) size,
      sums,
      append_assoc a b (drop (start + length (a ++ b)) buf),
    )

-- or after them
pub placed_after : (start : ℕ) (a b buf : List ℕ) → start + length a + length b ≤ length buf → placed (start + length a) b (placed start a buf) ≡ placed start (a ++ b) buf
unfolding placed
placed_after start a b buf inside =
    let before = take start buf in
    let behind = drop (start + length a) buf in
    let size : length (before ++ a) ≡ start + length a = length-append before a ∙ ap (λ (n : ℕ). n + length a) (length-take-le start buf (omega arith)) in
    let sums : start + length a + length b ≡ start + length (a ++ b) = rw length-append (omega arith) in
    let split = sym (append_assoc before a behind) in
    let rest : drop (start + length a + length b) (before ++ (a ++ behind)) ≡ drop (start + length (a ++ b)) buf
    = sym (drop-drop (length b) (start + length a) (before ++ (a ++ behind)))
    ∙ ap (drop (length b)) (ap (drop (start + length a)) split ∙ drop_at (before ++ a) behind (start + length a) size)
    ∙ drop-drop (length b) (start + length a) buf
    ∙ ap (λ (n : ℕ). drop n buf) sums in
    rw (ap (take (start + length a)) split ∙ take_at (before ++ a) behind (start + length a) size, rest) (simp append_assoc)

-- ---- The lengths of what the rules write

pub message_length_lem : (key : List ℕ) (strength : Strength) (t : List ℕ) (p : Message.Parts) → length p.confounder ≡ 8 → length (Message.encrypt key strength t p) ≡ Message.overhead + length p.message
unfolding Message.plain
message_length_lem key strength t p eight = Lengths.encrypt_length key strength t p ∙ simp length-append (omega arith)

pub mic_length_lem : (context : Context) (n : ℕ) (text : List ℕ) → length (Mic.mic_token context n text) ≡ Mic.mic_length
mic_length_lem context n text = Lengths.mic_length_lem context text n

pub wrap_length_lem : (context : Context) (p : Wrap.Parts) → length p.confounder ≡ 8 → length (Wrap.wrap_token context p) ≡ Wrap.wrap_length (length p.message)
wrap_length_lem context p eight = Lengths.wrap_length_lem p eight context

-- ---- What the rules write, they write of one set of parts

pub wrap_one : (context : Context) (p q : Wrap.Parts) (octets : List ℕ) → Wrap.Written context p octets → Wrap.Written context q octets → p ≡ q
wrap_one = WrapExactly.only_one

pub mic_one : (context : Context) (text : List ℕ) (j k : ℕ) (octets : List ℕ) → Mic.Written context text j octets → Mic.Written context text k octets → j ≡ k
mic_one = MicExactly.only_one

-- ---- What a writer made, and what it makes where nothing is refused

module _ {octets : List ℕ} where
  pub message_made : (key : List ℕ) (strength : Strength) (usage : ℕ) (confounder buf : List ℕ) (start n : ℕ) → Message.encryption key strength usage confounder buf start n ≡ Ok octets
      → (n ≤ most_message) × (start + (Message.overhead + n) ≤ length buf) × (least_usage ≤ usage) × (usage ≤ most_usage)
      × (octets ≡ Message.encrypt key strength (type_octets usage) (Message.parts confounder (region (start + Message.overhead) n buf)))
  unfolding Message.encryption
  message_made key strength usage confounder buf start n e =
      let sized = require_done _ _ _ octets e in
      let fits = require_done _ _ _ octets sized.1 in
      let named = require_done _ _ _ octets fits.1 in
      let usages = within_bounds least_usage most_usage usage named.0 in
      ((within_bounds 0 most_message n sized.0).1, leb-true _ _ fits.0, usages.0, usages.1, sym (done_same named.1))

  pub mic_made : (context : Context) (n : ℕ) (text buf : List ℕ) (start : ℕ) → Mic.mic_writing context n text buf start ≡ Ok octets
      → (length text ≤ most_message) × (start + Mic.mic_length ≤ length buf) × (octets ≡ Mic.mic_token context n text)
  unfolding Mic.mic_writing
  mic_made context n text buf start e =
      let sized = require_done _ _ _ octets e in
      let fits = require_done _ _ _ octets sized.1 in
      ((within_bounds 0 most_message (length text) sized.0).1, leb-true _ _ fits.0, sym (done_same fits.1))

  pub wrap_made : (context : Context) (sequence : ℕ) (confounder : List ℕ) (sealed : Bool) (buf : List ℕ) (start n : ℕ) → Wrap.wrap_writing context sequence confounder sealed buf start n ≡ Ok octets
      → (n ≤ most_message) × (start + Wrap.wrap_length n ≤ length buf) × (octets ≡ Wrap.wrap_token context (Wrap.parts sequence sealed confounder (region (start + Wrap.message_at) n buf)))
  unfolding Wrap.wrap_writing
  wrap_made context sequence confounder sealed buf start n e =
      let sized = require_done _ _ _ octets e in
      let fits = require_done _ _ _ octets sized.1 in
      ((within_bounds 0 most_message n sized.0).1, leb-true _ _ fits.0, sym (done_same fits.1))

pub mic_makes : (context : Context) (n : ℕ) (text buf : List ℕ) (start : ℕ) → length text ≤ most_message → start + Mic.mic_length ≤ length buf
    → Mic.mic_writing context n text buf start ≡ Ok (Mic.mic_token context n text)
unfolding Mic.mic_writing require
mic_makes context n text buf start most inside = rw (le-leb 0 (length text) (omega arith), le-leb (length text) most_message most, le-leb (start + Mic.mic_length) (length buf) inside)

pub wrap_makes : (context : Context) (sequence : ℕ) (confounder : List ℕ) (sealed : Bool) (buf : List ℕ) (start n : ℕ) → n ≤ most_message → start + Wrap.wrap_length n ≤ length buf
    → Wrap.wrap_writing context sequence confounder sealed buf start n ≡ Ok (Wrap.wrap_token context (Wrap.parts sequence sealed confounder (region (start + Wrap.message_at) n buf)))
unfolding Wrap.wrap_writing require
wrap_makes context sequence confounder sealed buf start n most inside = rw (le-leb 0 n (omega arith), le-leb n most_message most, le-leb (start + Wrap.wrap_length n) (length buf) inside)
