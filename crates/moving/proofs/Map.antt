-- "A word not marked written is changed by no scan", by the bytes of the use map.
use Prim.Native.Nat.{ℕ, zero, suc, ◌+◌, ◌*◌, ◌/◌, ◌%◌, ◌<◌}
use mathlib.Core.Bool.{Bool, true, false}
use mathlib.Core.List.{List}
use mathlib.Core.Path.{◌≡◌, refl, sym, ap, ◌∙◌}
use native.Mathlib.Omega.{arith}
use Rattle.ec20.specs.Verdict.{Verdict}
use Rattle.ec20.specs.Verdict.{Accepted}
use Rattle.ec20.specs.Answers.{told_by_map}
use Rattle.ec20.specs.Basics.{one_if}
use Rattle.ec20.specs.Devices.{Device}
use Rattle.ec20.specs.Bits.{bit_of, bit_at}
use Rattle.ec20.specs.File.{records_of}
use Rattle.ec20.specs.Check.{check_for}
use Rattle.ec20.specs.Registers.{word_at}
use Rattle.ec20.specs.Plant.{Plant}
use Rattle.ec20.specs.Scan.{scan_for}
use Rattle.ec20.specs.UseMap.{marked_written, packed_by, map_of, map_if, map_for}
use Rattle.ec20.proofs.MovedLaws.{get_d-from}
use Rattle.ec20.proofs.Tests.{one-small}
use Rattle.moving.proofs.Kept.{kept}

module _ (test : ℕ → Bool) (a : ℕ) where
  small : (r : ℕ) → one_if (test (a + r)) < 2
  small r = one-small (test (a + r))

  -- bit r of eight that are packed
  packed-bit : (r : ℕ) → r < 8 → bit_of (packed_by test a 8) r ≡ one_if (test (a + r))
  unfolding packed_by
  packed-bit zero l = omega (arith, small 0)
  packed-bit (suc zero) l = omega (arith, small 0, small 1)
  packed-bit (suc (suc zero)) l = omega (arith, small 0, small 1, small 2)
  packed-bit (suc (suc (suc zero))) l = omega (arith, small 0, small 1, small 2, small 3)
  packed-bit (suc (suc (suc (suc zero)))) l = omega (arith, small 0, small 1, small 2, small 3, small 4)
  packed-bit (suc (suc (suc (suc (suc zero))))) l = omega (arith, small 0, small 1, small 2, small 3, small 4, small 5)
  packed-bit (suc (suc (suc (suc (suc (suc zero)))))) l = omega (arith, small 0, small 1, small 2, small 3, small 4, small 5, small 6)
  packed-bit (suc (suc (suc (suc (suc (suc (suc zero))))))) l = omega (arith, small 0, small 1, small 2, small 3, small 4, small 5, small 6, small 7)
  packed-bit (suc (suc (suc (suc (suc (suc (suc (suc r)))))))) l = absurd (omega arith)

-- bit i of the map is on exactly if word i passes the test
pub map-bit : (v : Device) (test : ℕ → Bool) (i : ℕ) → i < 8 * (v.words / 8) → bit_at (map_of v test) i ≡ one_if (test i)
unfolding bit_at map_of
map-bit v test i l =
    let e : 8 * (0 + i / 8) + i % 8 ≡ i = omega arith in
    ap (λ (x : ℕ). bit_of x (i % 8)) (get_d-from (λ j. packed_by test (8 * j) 8) 0 (v.words / 8) (i / 8) 0 (omega arith))
    ∙ packed-bit test (8 * (0 + i / 8)) (i % 8) (omega arith)
    ∙ ap (λ (k : ℕ). one_if (test k)) e

off : (b : Bool) → one_if b ≡ 0 → b ≡ false
off true e = absurd (omega arith)
off false e = refl

-- of a device whose words are a multiple of eight, each has its bit: the map of an accepted file marks written what its records mark written
module _ (v : Device) (f : List ℕ) (n w : ℕ) (ok : check_for v f ≡ Accepted n w) (i : ℕ) (l : i < 8 * (v.words / 8)) where
  pub written-bit : bit_at (told_by_map v (map_for v f)).written i ≡ one_if (marked_written (records_of f) i)
  unfolding map_for
  written-bit = ap (λ (a : Verdict). bit_at (told_by_map v (map_if v a (records_of f))).written i) ok ∙ map-bit v (marked_written (records_of f)) i l

  -- MAP: a word that the use map of an accepted file does not mark written is after a scan what it was, for every device, elapsed time, budget
  -- and memory
  pub map-kept : bit_at (told_by_map v (map_for v f)).written i ≡ 0 → (e budget : ℕ) (q : Plant) → word_at (scan_for v f e budget q).plant.mem.d i ≡ word_at q.mem.d i
  map-kept h e budget q = kept v i f (off (marked_written (records_of f) i) (sym written-bit ∙ h)) e budget q
