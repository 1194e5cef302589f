-- After some numbers the window is the one of the session whose tokens present them; so its count and what it misses are the clerk's.
use mathlib.Core.Path.{◌≡◌, sym, ap, ap₂, ◌∙◌}
use mathlib.Core.List.{List, [], ◌∷◌, map, reverse, reverse-append}
use Prim.Native.Nat.{ℕ, ◌+◌, ◌<◌}
use native.Mathlib.Numerals.{add-one}
use lib.ListN.{length, take, get_or}
use lib.Seq.{take-suc, take_all}
use Rattle.std.specs.Prelude.{Ok}
use Rattle.billing.specs.Clerk.{clerk_billed, clerk_missing}
use Rattle.billing.specs.Session.{presented, window_after, SequenceNumbers, distinct_numbers}
use Rattle.billing.specs.Window.{step, missing as missing_in}
use Rattle.billing.specs.declared.window.Receipt.{Receipt}
use Rattle.billing.specs.declared.window.Window.{Window}
use Rattle.billing.proofs.Laws.{bills_once, presented_numbers, reversed_numbers}
use Rattle.tokens.specs.Token.{sequence_numbers}
use Rattle.tally.specs.Tally.{clerk_tally}
use Rattle.tally.specs.declared.Tally.{Tally}
use borrow.Author.Rules.{rules}
use Rattle.tally.proofs.bill_all.Invariants.{tokens_of}
use Rattle.tally.proofs.bill_all.Goals as goal

-- one number more
one_more : (first : ℕ) (numbers : List ℕ) (i : ℕ) → i < length numbers
    → (step (window_after first (tokens_of (take i numbers))) (get_or numbers i 0)).window ≡ window_after first (tokens_of (take (i + 1) numbers))
unfolding window_after
one_more first numbers i h =
    ap (λ (ns : List ℕ). window_after first (map Ok ns))
    (sym (ap reverse (ap (λ (n : ℕ). take n numbers) (add-one i) ∙ take-suc numbers i 0 h) ∙ reverse-append (take i numbers) (get_or numbers i 0 ∷ [])))

-- what a session comes to
counted : (first : ℕ) (numbers : List ℕ) → ((i : ℕ) → get_or numbers i 0 < sequence_numbers)
    → ◌≡◌ {A = Tally} (record { billed = (window_after first (tokens_of numbers)).billed; missing = missing_in (window_after first (tokens_of numbers)) }) (clerk_tally first numbers)
counted first numbers fits =
    let same = presented_numbers (reverse numbers) in
    let presents : SequenceNumbers (presented (tokens_of numbers)) = rw same (reversed_numbers numbers fits) in
    let holds = bills_once first (tokens_of numbers) presents in
    ap₂ tally (holds.count_distinct ∙ ap distinct_numbers (holds.billed_clerks ∙ ap (clerk_billed first) same)) (holds.missing_clerks ∙ ap (clerk_missing first) same)
  where
    tally : ℕ → ℕ → Tally
    tally billed missing = record { billed = billed; missing = missing }

pub loop-number-init : goal.loop-number-init
unfolding window_after
loop-number-init c = c.new-window.ensures

pub loop-number-preserved : goal.loop-number-preserved
loop-number-preserved c =
    let numbers = c.args.numbers.now in
    let i = c.loop-number.number-index in
    ap (λ (r : Receipt). r.window) c.bill.ensures
    ∙ ap (λ (w : Window). (step w (get_or numbers i 0)).window) c.loop-number.invariant
    ∙ one_more c.args.first numbers i c.loop-number-test.true

pub returns : goal.returns
returns c =
    let numbers = c.args.numbers.now in
    let first = c.args.first in
    let window = c.loop-number.window in
    let whole : window ≡ window_after first (tokens_of numbers)
    = c.loop-number.invariant ∙ ap (λ (ns : List ℕ). window_after first (tokens_of ns)) (take_all c.loop-number.number-index numbers c.loop-number-test.false) in
    rw (c.missing.ensures, whole) (counted first numbers (λ i. search rules))
