-- A number tested to lie in a range, as the definitions test it and as the code does.
use mathlib.Core.Path.{◌≡◌}
use mathlib.Core.Bool.{true, false, ◌&&◌}
use Prim.Native.Nat.{ℕ, ◌≤◌, ◌<◌}
use lib.Dec.{leb, ltb}
use borrow.Author.Tests.{le-leb, lt-leb, lt-ltb, le-ltb}

module _ (least above n : ℕ) where
  pub inside : least ≤ n → n < above → (leb least n && ltb n above) ≡ true
  inside low high = rw (le-leb least n low, lt-ltb n above high)

  pub below : n < least → (leb least n && ltb n above) ≡ false
  below h = rw (lt-leb least n h)

  pub beyond : least ≤ n → above ≤ n → (leb least n && ltb n above) ≡ false
  beyond low high = rw (le-leb least n low, le-ltb n above high)
