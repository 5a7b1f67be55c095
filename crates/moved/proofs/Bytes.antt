-- The bytes of the moved file: comment and trailer as they were, and each record with the moved number at each operand.
use Prim.Native.Nat.{ℕ, ◌+◌, ◌-◌, ◌*◌, ◌/◌, ◌%◌, ◌≤◌, ◌<◌, ◌^◌}
use mathlib.Core.Bool.{true, ◌&&◌}
use mathlib.Core.List.{List}
use mathlib.Core.Path.{◌≡◌, sym, ap, ap₂, ◌∙◌}
use native.Mathlib.Omega.{arith}
use native.Mathlib.Nat.{add-sub_cancel_left, div-one}
use lib.Arith.{digits_div, digits_mod}
use lib.Dec.{leb, eqb}
use lib.ListN.{length}
use borrow.Author.Tests.{leb-true, eqb-true, le-ltb, lt-ltb}
use Rattle.ec20.proofs.MovedLaws.{moved_length, moved_at, trailer-kept, in-record}
use Rattle.ec20.proofs.Ranges.{is_within}
use Rattle.ec20.proofs.Tests.{both, picked}
use Rattle.ec20.specs.declared.Operand.{Operand}
use Rattle.ec20.specs.declared.Rec.{Rec}
use Rattle.ec20.specs.Devices.{within}
use Rattle.ec20.specs.File.{byte_at, u16_at, u32_at, edition_of, count_of, distance_of, first_of, framed, operand_at, record_from}
use Rattle.ec20.specs.Move.{Block, byte_of, moved_number, moved_in_operand, moved_in_record, moved_file}
use Rattle.ec20.specs.Operands.{in_d, start_of}

-- a whole frame: the records and the trailer are what follows the comment
pub frame-whole : (f : List ℕ) → framed f ≡ true → first_of f + 20 * count_of f + 8 ≡ length f
unfolding framed
frame-whole f e =
    let a = both _ (leb (first_of f) 4096) e in
    let c = both _ (leb (distance_of f) (length f)) a.0 in
    let d = both (leb 8 (length f) && eqb (edition_of f) 1 && leb 1 (count_of f) && leb (count_of f) 2000) (eqb (distance_of f) (20 * count_of f + 8)) c.0 in
    let is : distance_of f ≡ 20 * count_of f + 8 = eqb-true _ _ d.1 in
    let most : distance_of f ≤ length f = leb-true _ _ c.1 in
    omega arith

-- a number below 2 ^ 32 from its four bytes
pub four_bytes : (x : ℕ) → x < 2 ^ 32 → byte_of x 0 + byte_of x 1 * 256 + byte_of x 2 * 65536 + byte_of x 3 * 16777216 ≡ x
four_bytes x h =
    let two : x / 65536 ≡ x / 256 / 256 = omega arith in
    let three : x / 16777216 ≡ x / 256 / 256 / 256 = omega arith in
    let top : x / 256 / 256 / 256 % 256 ≡ x / 256 / 256 / 256 = omega arith in
    rw (div-one, two, three, top) (omega arith)

-- and a number of four bytes is below 2 ^ 32
pub below : (f : List ℕ) → ((i : ℕ) → byte_at f i < 256) → (i : ℕ) → u32_at f i < 2 ^ 32
unfolding u32_at
below f byte i = omega (arith, byte i, byte (i + 1), byte (i + 2), byte (i + 3))

-- an operand, and a record, with the moved numbers
abbrev pub moved_operand : Block → ℕ → Operand → Operand
moved_operand b q o = record { kind = o.kind; group = o.group; value = moved_number b q o }

abbrev pub moved_rec : Block → ℕ → Rec → Rec
moved_rec b q r =
    record { number = r.number; spare = r.spare; first = moved_operand b q r.first; second = moved_operand b q r.second; third = moved_operand b q r.third }

-- a moved number fits where the old one did, if the place ends below 2 ^ 32
pub small-number : (b : Block) (q : ℕ) (o : Operand) → o.value < 2 ^ 32 → q + b.length ≤ 2 ^ 32 → moved_number b q o < 2 ^ 32
unfolding moved_number start_of
small-number b q o x y =
    picked (λ (n : ℕ). n < 2 ^ 32) (in_d o && within b.start b.length (start_of o)) (o.value - b.start + q) o.value
    (λ t.
    let w = is_within b.start b.length (start_of o) (both (in_d o) (within b.start b.length (start_of o)) t).1 in
    let l : b.start ≤ o.value = w.0 in
    let h : o.value < b.start + b.length = w.1 in
    omega arith)
    (λ t. x)

module _ (b : Block) (q : ℕ) (f : List ℕ) (whole : first_of f + 20 * count_of f + 8 ≡ length f) where
  abbrev g : List ℕ
  g = moved_file b q f

  -- ---- the trailer

  kept : (i : ℕ) → first_of f + 20 * count_of f ≤ i → i < length f → byte_at g i ≡ byte_at f i
  kept i h l = moved_at b q f i l ∙ trailer-kept b q f (first_of f) (count_of f) i h

  pub same-edition : edition_of g ≡ edition_of f
  unfolding u16_at
  same-edition = rw (moved_length b q f, kept (length f - 8) (omega arith) (omega arith), kept (length f - 8 + 1) (omega arith) (omega arith))

  pub same_count : count_of g ≡ count_of f
  unfolding u16_at
  same_count = rw (moved_length b q f, kept (length f - 6) (omega arith) (omega arith), kept (length f - 6 + 1) (omega arith) (omega arith))

  pub same-distance : distance_of g ≡ distance_of f
  unfolding u32_at
  same-distance =
      let at : ℕ = length f - 4 in
      let k0 = kept at (omega arith) (omega arith) in
      let k1 = kept (at + 1) (omega arith) (omega arith) in
      let k2 = kept (at + 2) (omega arith) (omega arith) in
      let k3 = kept (at + 3) (omega arith) (omega arith) in
      rw (moved_length b q f, k0, k1, k2, k3)

  pub same_first : first_of g ≡ first_of f
  same_first = ap₂ ◌-◌ (moved_length b q f) same-distance

  -- so the frame is as it was
  pub same-frame : framed g ≡ framed f
  unfolding framed
  same-frame = rw (same-edition, same_count, same-distance, moved_length b q f)

  -- ---- the records

  -- byte r of record k
  byte : (k r i : ℕ) → k < count_of f → r < 20 → i ≡ first_of f + 20 * k + r → byte_at g i ≡ moved_in_record b q f (first_of f + 20 * k) r
  byte k r i hk hr e =
      let z : i ≡ first_of f + (k * 20 + r) = omega arith in
      let y : first_of f + k * 20 ≡ first_of f + 20 * k = omega arith in
      moved_at b q f i (omega arith)
      ∙ rw z (in-record b q f (first_of f) (count_of f) k r hk hr)
      ∙ ap (λ (n : ℕ). moved_in_record b q f n r) y

  -- byte j of operand t, from the record's byte i on
  in-operand : (i t j : ℕ) → j < 6
      → moved_in_record b q f i (2 + (t * 6 + j)) ≡ moved_in_operand b q f (i + 2 + t * 6) j
  unfolding moved_in_record
  in-operand i t j h = rw (le-ltb (2 + (t * 6 + j)) 2 (omega arith), add-sub_cancel_left 2 (t * 6 + j), digits_div t h, digits_mod t h)

  -- operand t of record k, which begins at byte i
  module _ (k t i : ℕ) (hk : k < count_of f) (ht : t < 3) (e : i ≡ first_of f + 20 * k + 2 + t * 6) where
    abbrev o : Operand
    o = operand_at f i

    -- its byte j
    at : (j n : ℕ) → j < 6 → n ≡ i + j → byte_at g n ≡ moved_in_operand b q f i j
    at j n h z =
        let y : first_of f + 20 * k + (2 + (t * 6 + j)) ≡ n = omega arith in
        byte k (2 + (t * 6 + j)) n hk (omega arith) (sym y) ∙ in-operand (first_of f + 20 * k) t j h ∙ rw (← e)

    -- kind and group size are as they were
    head : (j n : ℕ) → j < 2 → n ≡ i + j → byte_at g n ≡ byte_at f n
    unfolding moved_in_operand
    head j n h z = at j n (omega arith) z ∙ rw (lt-ltb j 2 h, ← z)

    -- and the number is the moved one
    number : (j n : ℕ) → j < 4 → n ≡ i + (2 + j) → byte_at g n ≡ byte_of (moved_number b q o) j
    unfolding moved_in_operand
    number j n h z = at (2 + j) n (omega arith) z ∙ rw (le-ltb (2 + j) 2 (omega arith), add-sub_cancel_left 2 j)

    value : moved_number b q o < 2 ^ 32 → u32_at g (i + 2) ≡ moved_number b q o
    unfolding u32_at
    value h =
        let b0 = number 0 (i + 2) (omega arith) (omega arith) in
        let b1 = number 1 (i + 2 + 1) (omega arith) (omega arith) in
        let b2 = number 2 (i + 2 + 2) (omega arith) (omega arith) in
        let b3 = number 3 (i + 2 + 3) (omega arith) (omega arith) in
        rw (b0, b1, b2, b3) (four_bytes (moved_number b q o) h)

    pub operand-moved : moved_number b q o < 2 ^ 32 → operand_at g i ≡ moved_operand b q o
    unfolding operand_at
    operand-moved h = rw (head 0 i (omega arith) (omega arith), head 1 (i + 1) (omega arith) (omega arith), value h)

  -- number and spare byte
  front : (k r n : ℕ) → k < count_of f → r < 2 → n ≡ first_of f + 20 * k + r → byte_at g n ≡ byte_at f n
  unfolding moved_in_record
  front k r n hk hr z =
      byte k r n hk (omega arith) z ∙ rw (lt-ltb r 2 hr, ← z)

  -- record k
  pub record-moved : (k : ℕ) → k < count_of f → ((i : ℕ) → moved_number b q (operand_at f i) < 2 ^ 32)
      → record_from g (first_of f + 20 * k) ≡ moved_rec b q (record_from f (first_of f + 20 * k))
  unfolding record_from
  record-moved k hk h =
      let i : ℕ = first_of f + 20 * k in
      let number-kept = front k 0 i hk (omega arith) (omega arith) in
      let spare-kept = front k 1 (i + 1) hk (omega arith) (omega arith) in
      let one = operand-moved k 0 (i + 2) hk (omega arith) (omega arith) (h (i + 2)) in
      let two = operand-moved k 1 (i + 8) hk (omega arith) (omega arith) (h (i + 8)) in
      let three = operand-moved k 2 (i + 14) hk (omega arith) (omega arith) (h (i + 14)) in
      rw (number-kept, spare-kept, one, two, three)
