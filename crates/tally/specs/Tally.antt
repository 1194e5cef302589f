-- What the clerk counts of a session.
use Rattle.std.specs.Prelude.{List, reverse, ℕ}
use Rattle.billing.specs.Clerk.{clerk_billed, clerk_missing}
use Rattle.billing.specs.Session.{distinct_numbers}
use Rattle.tally.specs.declared.Tally.{Tally}

-- of numbers in the order in which they came: how many distinct ones are billed, and how many are missing
abbrev pub clerk_tally : ℕ → List ℕ → Tally
clerk_tally first numbers = record { billed = distinct_numbers (clerk_billed first (reverse numbers)); missing = clerk_missing first (reverse numbers) }
