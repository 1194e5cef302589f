-- A turn fills the block as far as it has room, and goes on with the rest.
use Rattle.std.proofs.Common.{◌≡◌, ℕ, ◌+◌, ◌%◌, ◌^◌, ◌≤◌, List, ◌++◌, Bool, cond, eqb, length, sym, ap, ◌∙◌, ap₂, arith, take-append-drop, rules, eq-eqb, ne_eqb}
use lib.Seq.{length-paste}
use Rattle.primitives.specs.Hash.{absorb, compress}
use Rattle.primitives.specs.declared.hash.Words.{Words}
use Rattle.primitives.proofs.Absorb.{absorb_none, absorb_turn}
use Rattle.primitives.proofs.hash.Hash.update_blocks.Invariants.{state}
use Rattle.primitives.proofs.hash.Hash.update_blocks.Goals as goal
use Rattle.primitives.proofs.hash.Hash.update_blocks.Goals.{then-full, else-full}

pub loop-rest-preserved : goal.loop-rest-preserved
loop-rest-preserved c =
    let loop = c.loop-rest in
    let g = c.args.self.algorithm in
    let held = loop.invariant.held in
    let rest = loop.rest.now in
    let octets = c.split_at.result.0.now in
    let after = c.split_at.result.1.now in
    let n = length octets in
    let at = loop.count % 64 in
    let split = c.split_at.ensures in
    let least = c.min.ensures in
    let room : at + n ≤ 64 = omega (arith, split.front_len) in
    let filled = c.fill-block.ensures in
    let next : Bool → List ℕ → Words = λ full block. cond full (compress g loop.words block) loop.words in
    let words : c.if-full.words ≡ next (eqb (at + n) 64) c.fill-block.result =
    elim c.if-full.branch [
      | then-full w ↦ w.words-is ∙ w.compress-words.ensures ∙ ap (λ (full : Bool). next full c.fill-block.result) (sym (eq-eqb (at + n) 64 w.if-full.true))
      | else-full w ↦ w.words-is ∙ ap (λ (full : Bool). next full c.fill-block.result) (sym (ne_eqb (at + n) 64 w.if-full.false))
    ] in
    let joined : octets ++ after ≡ rest = ap₂ (λ (l r : List ℕ). l ++ r) split.front split.back ∙ take-append-drop _ rest in
    record {
      within = omega (arith, split.back_len);
      held = record {
        count_below = omega arith;
        block_length_lem = ap length filled ∙ length-paste loop.block at octets n (omega (arith, held.block_length_lem)) (omega arith) ∙ held.block_length_lem;
      };
      absorbed = ap (λ (v : Words). absorb (state g v c.fill-block.result ((loop.count + n) % 2 ^ 64)) after) words
          ∙ ap (λ (b : List ℕ). absorb (state g (next (eqb (at + n) 64) b) b ((loop.count + n) % 2 ^ 64)) after) filled
          ∙ absorb_turn (state g loop.words loop.block loop.count) octets held after room
          ∙ ap (absorb (state g loop.words loop.block loop.count)) joined
          ∙ loop.invariant.absorbed;
    }

pub returns : goal.returns
returns c =
    let loop = c.loop-rest in
    let none : length loop.rest.now ≡ 0 = search rules in
    absorb_none (state c.args.self.algorithm loop.words loop.block loop.count) loop.rest.now none ∙ loop.invariant.absorbed
