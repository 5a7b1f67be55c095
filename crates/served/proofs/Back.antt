-- WRITTEN REGISTERS AND COILS READ BACK: read-back. Its statement is in specs/Served.antt. Assumes nothing.
use Prim.Native.Nat.{ℕ, ◌+◌, ◌-◌, ◌*◌, ◌/◌, ◌%◌, ◌<◌}
use mathlib.Core.Bool.{true, false, ◌||◌}
use mathlib.Core.List.{List, [], ◌∷◌, ◌++◌}
use mathlib.Core.Logic.{◌⊎◌, inl, inr}
use mathlib.Core.Path.{◌≡◌, refl, sym, ap, ap₂, ◌∙◌}
use native.Mathlib.Omega.{arith}
use lib.Dec.{eqb}
use lib.IntN.{ℤ, pos}
use lib.ListN.{length, take, drop, set}
use lib.Seq.{get_or-set_same, take_all}
use borrow.Author.Tests.{eqb-true, eq-eqb}
use Rattle.bits.proofs.Laws.{bit-back}
use Rattle.ec20.proofs.NoFault.{passed, then-fine}
use Rattle.ec20.proofs.Tests.{both, each, picked, one-small}
use Rattle.ec20.specs.Basics.{one_if}
use Rattle.ec20.specs.Bits.{bit_at, with_bit}
use Rattle.ec20.specs.File.{byte_at, u16_at}
use Rattle.ec20.specs.Registers.{word_at}
use Rattle.modbus.proofs.Good.{eight, eight-bytes, write-coil, write-register, write-coils, write-registers}
use Rattle.modbus.specs.Answered.{Reply}
use Rattle.modbus.specs.Answer.{Answer, tables_fault, call_fault, judge_answer, replied, heard, answer_of}
use Rattle.ec20.specs.Buffer.{sent}
use Rattle.modbus.specs.Crc.{crc_of, with_crc}
use Rattle.modbus.specs.Exceptions.{value_on, bytes_of}
use Rattle.modbus.specs.Frame.{write_coil, write_register, write_coils, write_registers, number_in, station_of, function_of, address_of, quantity_of, byte_count_of, is_short, is_long, length_fits, crc_fits, is_broadcast, is_heard}
use Rattle.modbus.specs.Replies.{coil_bytes, register_bytes, reply_to}
use Rattle.modbus.specs.Writes.{coils_taken, word_of, registers_taken, coils_after, registers_after}
use Rattle.served.specs.Served.{Good, ReadBack}
use Rattle.served.proofs.Bytes.{two-more, told_back, bits_back}
use Rattle.served.proofs.Changes.{taken_at, coils-at}

module _ (own : ℕ) (f m : List ℕ) (d : List ℤ) (b : List ℕ) (g : Good own f m d b) where
  -- ---- what a good call says

  sizes : (length m ≡ 250) × (length d ≡ 8000)
  unfolding judge_answer tables_fault
  sizes =
      let t = both _ _ (passed _ 9 0 (then-fine (tables_fault m d) (call_fault own b) g.call).0) in
      (eqb-true _ _ t.0, eqb-true _ _ t.1)

  abbrev parts : Type 0
  parts = (length_fits (function_of f) (byte_count_of f) (length f) ≡ true) × (crc_fits f ≡ true)

  fits : parts
  unfolding is_heard
  fits =
      let t = each (eqb (station_of f) own || is_broadcast f) (length_fits (function_of f) (byte_count_of f) (length f)) (crc_fits f) g.heard in
      (t.1, t.2)

  -- ---- the tables afterwards

  abbrev Done : Answer → Type 0
  Done a = (a.m ≡ coils_after f m) × (a.d ≡ registers_after f d)

  done : Done (answer_of own f m d b)
  unfolding answer_of heard replied
  done =
      rw (g.call, g.heard, eq-eqb _ _ g.good)
      (picked Done (is_broadcast f) _ _ (λ _. (refl, refl)) (λ _. (refl, refl)))

  wrote-16 : function_of f ≡ write_registers → (j : ℕ) → j < quantity_of f → word_at (answer_of own f m d b).d (address_of f + j) ≡ word_of (number_in f (7 + 2 * j))
  unfolding registers_after
  wrote-16 e j l =
      let h : (answer_of own f m d b).d ≡ registers_taken d (address_of f) f (quantity_of f) = done.1 ∙ rw e refl in
      ap (λ (x : List ℤ). word_at x (address_of f + j)) h
      ∙ taken_at d (address_of f) f (quantity_of f) (omega (arith, (write-registers f g.good fits.0 e).0, sizes.1)) j l

  registers : function_of f ≡ write_registers
      → register_bytes (answer_of own f m d b).d (address_of f) (quantity_of f) ≡ take (2 * quantity_of f) (drop 7 f)
  registers e =
      told_back f g.bytes (answer_of own f m d b).d (address_of f) 7 (quantity_of f) (write-registers f g.good fits.0 e).1 (wrote-16 e)

  wrote-6 : function_of f ≡ write_register → (j : ℕ) → j < 1 → word_at (answer_of own f m d b).d (address_of f + j) ≡ word_of (number_in f (4 + 2 * j))
  unfolding registers_after
  wrote-6 e j l =
      let h : (answer_of own f m d b).d ≡ set d (address_of f) (word_of (quantity_of f)) = done.1 ∙ rw e refl in
      ap (λ (k : ℕ). word_at (answer_of own f m d b).d k) {x = address_of f + j} {y = address_of f} (omega arith)
      ∙ ap (λ (x : List ℤ). word_at x (address_of f)) h
      ∙ get_or-set_same d (address_of f) (word_of (quantity_of f)) (pos 0) (omega (arith, write-register f g.good e, sizes.1))
      ∙ ap (λ (k : ℕ). word_of (number_in f k)) {x = 4} {y = 4 + 2 * j} (omega arith)

  register : function_of f ≡ write_register → register_bytes (answer_of own f m d b).d (address_of f) 1 ≡ take 2 (drop 4 f)
  register e = told_back f g.bytes (answer_of own f m d b).d (address_of f) 4 1 (omega (arith, eight-bytes f g.good fits.0)) (wrote-6 e)

  coils : function_of f ≡ write_coils
      → coil_bytes (answer_of own f m d b).m (address_of f) (quantity_of f) (bytes_of (quantity_of f)) ≡ coil_bytes f 56 (quantity_of f) (bytes_of (quantity_of f))
  unfolding coils_after
  coils e =
      let h : (answer_of own f m d b).m ≡ coils_taken m (address_of f) f (quantity_of f) = done.0 ∙ rw e refl in
      ap (λ (x : List ℕ). coil_bytes x (address_of f) (quantity_of f) (bytes_of (quantity_of f))) h
      ∙ bits_back (coils_taken m (address_of f) f (quantity_of f)) f (address_of f) 56 (quantity_of f)
      (coils-at m (address_of f) f (quantity_of f) (omega (arith, (write-coils f g.good fits.0 e).0, sizes.0))) (bytes_of (quantity_of f))

  coil : function_of f ≡ write_coil → bit_at (answer_of own f m d b).m (address_of f) ≡ one_if (eqb (quantity_of f) value_on)
  unfolding coils_after
  coil e =
      let h : (answer_of own f m d b).m ≡ with_bit m (address_of f) (one_if (eqb (quantity_of f) value_on)) = done.0 ∙ rw e refl in
      ap (λ (x : List ℕ). bit_at x (address_of f)) h
      ∙ bit-back m (address_of f) (one_if (eqb (quantity_of f) value_on)) (one-small (eqb (quantity_of f) value_on)) (omega (arith, write-coil f g.good e, sizes.0))

  -- ---- the request itself

  same-frame : length f ≡ 8 → with_crc (take 6 f) ≡ f
  unfolding with_crc crc_fits u16_at
  same-frame l =
      let t : byte_at f (length f - 2) + byte_at f (length f - 2 + 1) * 256 ≡ crc_of (take (length f - 2) f) = eqb-true _ _ fits.1 in
      let c : byte_at f 6 + byte_at f 7 * 256 ≡ crc_of (take 6 f) = rw l at t in
      let x : crc_of (take 6 f) % 256 ≡ byte_at f 6 = omega (arith, c, g.bytes 6) in
      let y : crc_of (take 6 f) / 256 ≡ byte_at f 7 = omega (arith, c, g.bytes 6) in
      ap₂ (λ (x y : ℕ). take 6 f ++ (x ∷ y ∷ [])) x y ∙ sym (two-more f g.bytes 0 6 (omega arith)) ∙ take_all 8 f (omega arith)

  all-eight : (function_of f ≡ write_coil) ⊎ (function_of f ≡ write_register) → length f ≡ 8
  unfolding is_long is_short
  all-eight (inl e) = eight f g.good fits.0 5 e refl refl
  all-eight (inr e) = eight f g.good fits.0 6 e refl refl

  six : (function_of f ≡ write_coil) ⊎ (function_of f ≡ write_register) → reply_to f m d ≡ take 6 f
  unfolding reply_to
  six (inl e) = rw e refl
  six (inr e) = rw e refl

  abbrev Echoed : Answer → Type 0
  Echoed a = (a.answer ≡ Reply 8) × (a.reply ≡ sent f b)

  echo : is_broadcast f ≡ false → (function_of f ≡ write_coil) ⊎ (function_of f ≡ write_register) → Echoed (answer_of own f m d b)
  unfolding answer_of heard replied
  echo h w =
      let t : with_crc (reply_to f m d) ≡ f = ap with_crc (six w) ∙ same-frame (all-eight w) in
      rw (g.call, g.heard, eq-eqb _ _ g.good, h, t, all-eight w) (refl, refl)

  pub read_back : ReadBack own f m d b
  read_back = record { registers = registers; register = register; coils = coils; coil = coil; echo = echo }
