-- The first 24 octets of a token: those that the rule writes are read as they were written, and what is read of any others is what
-- the rule would write as them.
use mathlib.Core.Path.{◌≡◌, refl, sym, ap, ap₂, ◌∙◌}
use mathlib.Core.Bool.{true}
use mathlib.Core.List.{List, [], ◌∷◌, ◌++◌, append_assoc}
use Prim.Native.Nat.{ℕ, ◌+◌, ◌*◌, ◌/◌, ◌%◌, ◌≤◌, ◌<◌}
use native.Mathlib.Omega.{arith}
use lib.ListN.{length, take, drop, length-append, length-take, length-drop, take-append-drop}
use lib.Seq.{take_all, take_at, drop_at, take-append-le, drop-append-le, drop-drop, length-take-le}
use Rattle.std.specs.Prelude.{⊤, Result, Ok}
use Rattle.primitives.specs.Hash.{md5}
use Rattle.primitives.specs.Hmac.{hmac}
use Rattle.primitives.specs.Octets.{Octets, little_endian}
use Rattle.primitives.specs.Rc4.{rc4, key_schedule}
use Rattle.primitives.proofs.Laws.{apply_length, apply_octets, apply_twice, hmac_length, schedule_octets}
use Rattle.tokens.specs.Answer.{Outcome, require, tested}
use Rattle.tokens.specs.Checksum.{signature_key, checksum}
use Rattle.tokens.specs.Limits.{region}
use Rattle.tokens.specs.Octets.{same}
use Rattle.tokens.specs.Token.{sequence_numbers, sequence_octets, direction, sequence_field, token_checksum, sequence_key, front, header_in, checksum_in, field_in, number_of, number_in}
use Rattle.tokens.specs.declared.answer.Refusal.{Refusal}
use Rattle.tokens.specs.declared.answer.Refusal.TheVariants as refusal
use Rattle.tokens.specs.declared.context.Context.{Context}
use Rattle.tokens.specs.declared.context.Sender.{Sender}
use Rattle.tokens.specs.declared.context.Sender.TheVariants.{Initiator, Acceptor}
use Rattle.tokens.proofs.Lent.{octets_take, octets_drop}
use Rattle.tokens.proofs.SameOctets.{same_true, same_self}
use Rattle.tokens.proofs.Steps.{require_done, done_same}

-- ---- The sequence number and its octets

number_back : (n : ℕ) (rest : List ℕ) → n < sequence_numbers → number_of (sequence_octets n ++ rest) ≡ n
unfolding sequence_octets number_of
number_back n rest h =
    let top : n / 16777216 % 256 ≡ n / 16777216 = omega arith in
    omega (arith, top)

number_small : (field : List ℕ) → Octets field → number_of field < sequence_numbers
unfolding number_of
number_small field h = omega (arith, h 0, h 1, h 2, h 3)

octets_back : (field : List ℕ) → length field ≡ 8 → Octets field → sequence_octets (number_of field) ++ drop 4 field ≡ field
unfolding sequence_octets number_of
octets_back [] e h = absurd (omega arith)
octets_back (a ∷ []) e h = absurd (omega arith)
octets_back (a ∷ b ∷ []) e h = absurd (omega arith)
octets_back (a ∷ b ∷ c ∷ []) e h = absurd (omega arith)
octets_back (a ∷ b ∷ c ∷ d ∷ rest) e h =
    let ha : a < 256 = h 0 in
    let hb : b < 256 = h 1 in
    let hc : c < 256 = h 2 in
    let hd : d < 256 = h 3 in
    let n : ℕ = ((a * 256 + b) * 256 + c) * 256 + d in
    let ea : n / 16777216 % 256 ≡ a = omega arith in
    let eb : n / 65536 % 256 ≡ b = omega arith in
    let ec : n / 256 % 256 ≡ c = omega arith in
    let ed : n % 256 ≡ d = omega arith in
    rw (ea, eb, ec, ed)

direction_length : (sender : Sender) → length (direction sender) ≡ 4
unfolding direction
direction_length Initiator = refl
direction_length Acceptor = refl

octets_length : (n : ℕ) → length (sequence_octets n) ≡ 4
unfolding sequence_octets
octets_length n = refl

field_length : (sender : Sender) (n : ℕ) → length (sequence_field sender n) ≡ 8
unfolding sequence_field
field_length sender n = length-append (sequence_octets n) (direction sender) ∙ omega (arith, octets_length n, direction_length sender)

eight_of : (key text : List ℕ) → length (take 8 (hmac key text)) ≡ 8
eight_of key text = length-take-le 8 (hmac key text) (rw hmac_length (omega arith))

pub checksum_length : (key : List ℕ) (type : ℕ) (header text : List ℕ) → length (token_checksum key type header text) ≡ 8
unfolding token_checksum checksum
checksum_length key type header text = eight_of (signature_key key) (md5 (little_endian 4 type ++ (header ++ text)))

-- ---- Three fields of eight octets, and a rest

module _ (a b c rest : List ℕ) (ha : length a ≡ 8) (hb : length b ≡ 8) (hc : length c ≡ 8) where
  abbrev all : List ℕ
  all = (a ++ (b ++ c)) ++ rest

  in_turn : all ≡ a ++ (b ++ (c ++ rest))
  in_turn = append_assoc a (b ++ c) rest ∙ ap (λ (l : List ℕ). a ++ l) (append_assoc b c rest)

  from_8 : drop 8 all ≡ b ++ (c ++ rest)
  from_8 = rw in_turn (drop_at a (b ++ (c ++ rest)) 8 ha)

  from_16 : drop 16 all ≡ c ++ rest
  from_16 = sym (drop-drop 8 8 all) ∙ rw from_8 (drop_at b (c ++ rest) 8 hb)

  first_field : region 0 8 all ≡ a
  first_field = rw in_turn (take_at a (b ++ (c ++ rest)) 8 ha)

  second_field : region 8 8 all ≡ b
  second_field = rw from_8 (take_at b (c ++ rest) 8 hb)

  third_field : region 16 8 all ≡ c
  third_field = rw from_16 (take_at c rest 8 hc)

  from_24 : drop 24 all ≡ rest
  from_24 = sym (drop-drop 8 16 all) ∙ rw from_16 (drop_at c rest 8 hc)

rejoined : (octets : List ℕ) → (region 0 8 octets ++ (region 8 8 octets ++ region 16 8 octets)) ++ drop 24 octets ≡ octets
rejoined octets =
    append_assoc (take 8 octets) (take 8 (drop 8 octets) ++ take 8 (drop 16 octets)) (drop 24 octets)
    ∙ ap (λ (l : List ℕ). take 8 octets ++ l) (append_assoc (take 8 (drop 8 octets)) (take 8 (drop 16 octets)) (drop 24 octets))
    ∙ rw (← drop-drop 8 16 octets, take-append-drop 8 (drop 16 octets), ← drop-drop 8 8 octets, take-append-drop 8 (drop 8 octets)) (take-append-drop 8 octets)

-- ---- What is read of octets that the rule writes

module _ (context : Context) (header sum : List ℕ) (n : ℕ) (header-eight : length header ≡ 8) (sum_eight : length sum ≡ 8) (rest : List ℕ) where
  abbrev encrypted : List ℕ
  encrypted = rc4 (sequence_key context sum) (sequence_field context.sender n)

  encrypted_eight : length encrypted ≡ 8
  encrypted_eight = apply_length (key_schedule (sequence_key context sum)) (sequence_field context.sender n) ∙ field_length context.sender n

  pub front_length : length (front context header sum n) ≡ 24
  unfolding front
  front_length = simp length-append (omega (arith, encrypted_eight))

  pub front_header : header_in (front context header sum n ++ rest) ≡ header
  unfolding front
  front_header = first_field header encrypted sum rest header-eight encrypted_eight sum_eight

  pub front_checksum : checksum_in (front context header sum n ++ rest) ≡ sum
  unfolding front
  front_checksum = third_field header encrypted sum rest header-eight encrypted_eight sum_eight

  pub front_rest : drop 24 (front context header sum n ++ rest) ≡ rest
  unfolding front
  front_rest = from_24 header encrypted sum rest header-eight encrypted_eight sum_eight

  front_field : region 8 8 (front context header sum n ++ rest) ≡ encrypted
  unfolding front
  front_field = second_field header encrypted sum rest header-eight encrypted_eight sum_eight

  decrypted_field : field_in context (front context header sum n ++ rest) ≡ sequence_field context.sender n
  unfolding field_in
  decrypted_field = rw (front_checksum, front_field) (apply_twice (key_schedule (sequence_key context sum)) (sequence_field context.sender n))

  pub front_number : n < sequence_numbers → number_in context (front context header sum n ++ rest) ≡ Ok n
  unfolding number_in require sequence_field
  front_number h =
      rw (
        decrypted_field,
        drop_at (sequence_octets n) (direction context.sender) 4 (octets_length n),
        same_self (direction context.sender),
        number_back n (direction context.sender) h,
      )

-- ---- The direction octets compared, from what the steps give

module _ (context : Context) (front : List ℕ) {encrypted key field : List ℕ} (encrypted-is : encrypted ≡ region 8 8 front) (key-is : key ≡ sequence_key context (checksum_in front))
    (run : field ≡ rc4 key encrypted) where
  pub field_run : field ≡ field_in context front
  unfolding field_in
  field_run = run ∙ ap₂ (λ (k l : List ℕ). rc4 k l) key-is encrypted-is

  pub compared : (expected : List ℕ) {s : Result ⊤ Refusal} → length field ≡ 8 → expected ≡ direction context.sender → s ≡ tested (same (take 4 (drop 4 field)) expected) refusal.Direction
      → s ≡ tested (same (drop 4 (field_in context front)) (direction context.sender)) refusal.Direction
  compared expected eight ee es =
      let all : take 4 (drop 4 field) ≡ drop 4 field = take_all 4 (drop 4 field) (rw length-drop (omega arith)) in
      es ∙ ap₂ (λ (f d : List ℕ). tested (same f d) refusal.Direction) (all ∙ ap (drop 4) field_run) ee

-- ---- What is read is what the rule writes

module _ (context : Context) (octets : List ℕ) (bytes : Octets octets) (least : 24 ≤ length octets) {n : ℕ} (e : number_in context octets ≡ Ok n) where
  abbrev field : List ℕ
  field = field_in context octets

  tests : (same (drop 4 field) (direction context.sender) ≡ true) × ◌≡◌ {A = Outcome ℕ} (Ok (number_of field)) (Ok n)
  unfolding number_in
  tests = require_done _ _ _ n e

  field_eight : length field ≡ 8
  unfolding field_in
  field_eight = apply_length (key_schedule (sequence_key context (checksum_in octets))) (region 8 8 octets) ∙ simp (length-take, length-drop) (omega arith)

  field_octets : Octets field
  unfolding field_in
  field_octets = apply_octets (key_schedule (sequence_key context (checksum_in octets))) (region 8 8 octets) (schedule_octets (sequence_key context (checksum_in octets))) (octets_take 8 (drop 8 octets) (octets_drop 8 octets bytes))

  pub number_fits : n < sequence_numbers
  number_fits = let small = number_small field field_octets in let same_number = done_same tests.1 in omega arith

  field_is : sequence_field context.sender n ≡ field
  unfolding sequence_field
  field_is =
      ap₂ (λ (m : ℕ) (d : List ℕ). sequence_octets m ++ d) (sym (done_same tests.1)) (sym (same_true (drop 4 field) (direction context.sender) tests.0))
      ∙ octets_back field field_eight field_octets

  encrypted_back : rc4 (sequence_key context (checksum_in octets)) (sequence_field context.sender n) ≡ region 8 8 octets
  unfolding field_in
  encrypted_back = ap (rc4 (sequence_key context (checksum_in octets))) field_is ∙ apply_twice (key_schedule (sequence_key context (checksum_in octets))) (region 8 8 octets)

  pub front_back : front context (header_in octets) (checksum_in octets) n ++ drop 24 octets ≡ octets
  unfolding front
  front_back = rw encrypted_back (rejoined octets)

-- ---- Nothing after them is looked at

module _ (front rest : List ℕ) (size : length front ≡ 24) where
  in_front : (at n : ℕ) → at + n ≤ 24 → region at n (front ++ rest) ≡ region at n front
  in_front at n h = rw (drop-append-le at front rest (omega arith)) (take-append-le n (drop at front) rest (rw length-drop (omega arith)))

  pub header_alone : header_in (front ++ rest) ≡ header_in front
  header_alone = in_front 0 8 (omega arith)

  pub checksum_alone : checksum_in (front ++ rest) ≡ checksum_in front
  checksum_alone = in_front 16 8 (omega arith)

  pub number_alone : (context : Context) → number_in context (front ++ rest) ≡ number_in context front
  unfolding number_in field_in
  number_alone context = rw (checksum_alone, in_front 8 8 (omega arith))
