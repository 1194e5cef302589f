-- The window of a session, and a step of it. Every window has a step: of one that no session leads to, these definitions decide.
use Rattle.std.specs.Prelude.{ℕ, ◌+◌, ◌-◌, ◌*◌, ◌/◌, ◌%◌, ◌^◌, min, Bool, cond, ◌==◌, bit_or, count_ones, nat_lt}
use Rattle.billing.specs.Status.{distance, status_at}
use Rattle.billing.specs.declared.status.Status.{Status}
use Rattle.billing.specs.declared.status.Status.TheVariants.{InOrder, Gap, Late, Duplicate, Old, Outside}
use Rattle.billing.specs.declared.window.Receipt.{Receipt}
use Rattle.billing.specs.declared.window.Window.{Window}

-- the window of a session before any number
abbrev pub new_window : ℕ → Window
new_window first = record { first = first; next = 0; seen = 0; billed = 0 }

-- ---- The marks. The one at place k is that of the distance k + 1 below the next expected one

-- whether the mark at place k is set
unfoldable pub is_marked : ℕ → ℕ → Bool
is_marked seen k = seen / 2 ^ k % 2 == 1

-- the place of a distance
abbrev pub place_of : Window → ℕ → ℕ
place_of w d = w.next - 1 - d

-- the marks moved up by some places, and the lowest set; moved by all 64 places or more, none of them is left
unfoldable pub shifted : ℕ → ℕ → ℕ
shifted seen by = cond (nat_lt by 64) (bit_or (seen * 2 ^ by % 2 ^ 64) 1) 1

-- ---- A step

-- the status of a number at the distance d
abbrev pub status_in : Window → ℕ → Status
status_in w d = status_at w.next (is_marked w.seen (place_of w d)) d

-- one number more was billed; the count is kept modulo 2^64
abbrev pub one_more : ℕ → ℕ
one_more billed = (billed + 1) % 2 ^ 64

-- the window after the number at the distance d, the next expected one or a higher one
abbrev pub advanced : Window → ℕ → Window
advanced w d = record { first = w.first; next = d + 1; seen = shifted w.seen (d - w.next + 1); billed = one_more w.billed }

-- the window after a late number, whose mark is at place k
abbrev pub filled : Window → ℕ → Window
filled w k = record { first = w.first; next = w.next; seen = bit_or w.seen (2 ^ k); billed = one_more w.billed }

-- the window after a number of a status, at the distance d
abbrev pub after : Status → Window → ℕ → Window
after InOrder w d = advanced w d
after Gap w d = advanced w d
after Late w d = filled w (place_of w d)
after Duplicate w d = w
after Old w d = w
after Outside w d = w

abbrev pub receipt : Status → Window → Receipt
receipt status w = record { status = status; window = w }

-- the status of a number at the distance d, and the window after it
abbrev pub step_at : Window → ℕ → Receipt
step_at w d = receipt (status_in w d) (after (status_in w d) w d)

-- the status of a sequence number, and the window after it
unfoldable pub step : Window → ℕ → Receipt
step w n = step_at w (distance w.first n)

-- ---- What is missing

-- how many marks are in use
abbrev pub in_use : Window → ℕ
in_use w = min 64 w.next

-- how many of them are not set
unfoldable pub missing : Window → ℕ
missing w = in_use w - count_ones (w.seen % 2 ^ in_use w)
