-- A capture: there is one answer for the octets that are held, and a frame at their front is found, whatever follows it.
use mathlib.Core.Path.{◌≡◌, refl, ap}
use mathlib.Core.Bool.{Bool, true, false}
use mathlib.Core.List.{List, ◌++◌}
use mathlib.Core.Logic.{⊎_elim}
use Prim.Native.Nat.{ℕ}
use native.Mathlib.Omega.{arith}
use lib.ListN.{length}
use Rattle.frame.specs.Capture.{NextIs}
use Rattle.frame.specs.Framing.{lead_length, frame}
use Rattle.frame.specs.declared.capture.Next.{Next}
use Rattle.frame.specs.declared.capture.Next.TheVariants as next
use Rattle.frame.specs.declared.framing.Framing.TheVariants.{Token}
use Rattle.frame.proofs.Frames.{frame_length}
use Rattle.frame.proofs.Fronts.{one_front, not_begun, none}

clash : (b : Bool) → b ≡ false → b ≡ true → ⊥
clash b e f = let z : ◌≡◌ {A = ℕ} 0 1 = cc in omega arith

pub one_next : (held : List ℕ) (last : Bool) (r s : Next) → NextIs held last r → NextIs held last s → r ≡ s
one_next held last (next.Frame i) (next.Frame j) (a, m, p, ei) (b, n, q, ej) =
    let same : Token a m ≡ Token b n = one_front held (Token a m) (Token b n) p q in
    let ea : a ≡ b = cc in
    let em : m ≡ n = cc in
    ap next.Frame (omega arith)
one_next held last (next.Frame i) next.More p q = absurd (not_begun held _ _ p.2 q.1)
one_next held last (next.Frame i) next.End p q = absurd (not_begun held _ _ p.2 (none held q.1))
one_next held last (next.Frame i) next.Fault p q = absurd (q.0 _ _ p.2)
one_next held last next.More (next.Frame j) p q = absurd (not_begun held _ _ q.2 p.1)
one_next held last next.More next.More p q = refl
one_next held last next.More next.End p q = absurd (clash last p.0 q.0)
one_next held last next.More next.Fault p q = absurd (⊎_elim (λ n. n p.1) (λ l. clash last p.0 l.0) q.1)
one_next held last next.End (next.Frame j) p q = absurd (not_begun held _ _ q.2 (none held p.1))
one_next held last next.End next.More p q = absurd (clash last q.0 p.0)
one_next held last next.End next.End p q = refl
one_next held last next.End next.Fault p q = absurd (⊎_elim (λ n. n (none held p.1)) (λ l. omega arith) q.1)
one_next held last next.Fault (next.Frame j) p q = absurd (p.0 _ _ q.2)
one_next held last next.Fault next.More p q = absurd (⊎_elim (λ n. n q.1) (λ l. clash last q.0 l.0) p.1)
one_next held last next.Fault next.End p q = absurd (⊎_elim (λ n. n (none held q.1)) (λ l. omega arith) p.1)
one_next held last next.Fault next.Fault p q = refl

pub frame_next : (token rest : List ℕ) (last : Bool) (r : Next) → NextIs (frame token ++ rest) last r → r ≡ next.Frame (length (frame token))
frame_next token rest last r h =
    one_next (frame token ++ rest) last r _ h (lead_length (length token), length token, record { token = token; rest = rest; octets_are = refl; before_is = refl; length_is = refl }, frame_length token)
