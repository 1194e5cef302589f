-- The clerk, who has the session's first number and every number that was handed in, and goes by the rules: what was billed so far,
-- the highest of it, and whether a number is in it. Lists of numbers are newest first.
use Rattle.std.specs.Prelude.{ℕ, zero, suc, ◌+◌, ◌-◌, min, max, Bool, true, false, cond, List, [], ◌∷◌, map, ◌==◌}
use Rattle.billing.specs.Status.{distance, status_at, is_billed}
use Rattle.billing.specs.declared.status.Status.{Status}

-- whether n is in a list
unfoldable pub member : ℕ → List ℕ → Bool
member n [] = false
member n (m ∷ ms) = cond (n == m) true (member n ms)

-- the distances of numbers
abbrev pub distances : ℕ → List ℕ → List ℕ
distances first numbers = map (distance first) numbers

-- the next expected distance, where these were billed: 0, then one above the highest
unfoldable pub next_expected : List ℕ → ℕ
next_expected [] = 0
next_expected (d ∷ ds) = max (d + 1) (next_expected ds)

-- the status of n, where these numbers were billed
abbrev pub status_among : ℕ → List ℕ → ℕ → Status
status_among first billed n = status_at (next_expected (distances first billed)) (member n billed) (distance first n)

-- the numbers billed, with n if its status is one that is billed
abbrev pub recorded : Status → ℕ → List ℕ → List ℕ
recorded status n billed = cond (is_billed status) (n ∷ billed) billed

-- the numbers of a history that the clerk bills
unfoldable pub clerk_billed : ℕ → List ℕ → List ℕ
clerk_billed first [] = []
clerk_billed first (n ∷ history) =
    let billed : List ℕ = clerk_billed first history in
    recorded (status_among first billed n) n billed

-- the status that the clerk gives to n after a history
unfoldable pub clerk_status : ℕ → List ℕ → ℕ → Status
clerk_status first history n = status_among first (clerk_billed first history) n

-- how many of the k distances below `next` are not in a list
unfoldable pub unbilled : List ℕ → ℕ → ℕ → ℕ
unbilled ds next zero = 0
unbilled ds next (suc k) = cond (member (next - suc k) ds) 0 1 + unbilled ds next k

-- how many of the last sixty-four distances below the next expected one, or of all if they are fewer, the clerk has not billed
unfoldable pub clerk_missing : ℕ → List ℕ → ℕ
clerk_missing first history =
    let billed : List ℕ = distances first (clerk_billed first history) in
    unbilled billed (next_expected billed) (min 64 (next_expected billed))
