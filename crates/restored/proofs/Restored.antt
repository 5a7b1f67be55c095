-- An accepted file without comment comes back: whole, with whatever behind its records, and cut in them. Assumes nothing.
use Prim.Native.Nat.{ℕ, ◌+◌, ◌-◌, ◌*◌, ◌/◌, ◌%◌, ◌≤◌, ◌<◌}
use mathlib.Core.List.{List, ◌++◌}
use mathlib.Core.Path.{◌≡◌, refl, sym, ap, ap₂, ◌∙◌}
use native.Mathlib.Omega.{arith}
use lib.ListN.{length, take, drop, length-drop, take-append-drop}
use lib.Seq.{length-take-le, take-take}
use Rattle.ec20.specs.Buffer.{sent}
use Rattle.ec20.specs.Devices.{Device}
use Rattle.ec20.specs.File.{record_from}
use Rattle.ec20.specs.Written.{trailer_of, end_record}
use Rattle.restored.proofs.Clean.{clean-salvage, open_kept, open-file, open-salvage}
use Rattle.restored.proofs.Records.{from, from_is, record-take, record-append}
use Rattle.restored.proofs.Sound.{sound-length, sound-most, sound-passes, sound-inner, sound-clean, sound-file}
use Rattle.restored.specs.Restored.{Sound, Begins, Restored}
use Rattle.torn.proofs.Stops.{Open}
use Rattle.torn.specs.Kept.{passes, is_end}
use Rattle.torn.specs.Salvage.{file_with, mended, saved, salvage_for}
use Rattle.torn.specs.Salvaged.{Done}

module _ (v : Device) (f : List ℕ) (n : ℕ) (s : Sound v f n) where
  -- ---- with whatever behind its records

  -- they are kept, and the file comes back
  begun : (t b : List ℕ) → Begins n f t → length f ≤ length b → salvage_for v t b ≡ saved (Done n 0 (length t - 20 * n)) (sent f b)
  begun t b g room =
      let is : t ≡ take (20 * n) f ++ drop (20 * n) t =
      sym (take-append-drop (20 * n) t) ∙ ap (λ (a : List ℕ). a ++ drop (20 * n) t) g.same in
      ap (λ (a : List ℕ). salvage_for v a b) is
      ∙ clean-salvage v (take (20 * n) f) n (sound-clean v f n s) (drop (20 * n) t) b (omega (arith, sound-length v f n s))
      ∙ ap₂ (λ (r : ℕ) (a : List ℕ). saved (Done n 0 r) (sent a b)) (length-drop (20 * n) t) (sym (sound-file v f n s))

  -- ---- as it is

  -- its trailer is the rest
  as_it_is : (b : List ℕ) → length f ≤ length b → salvage_for v f b ≡ saved (Done n 0 8) (sent f b)
  as_it_is b room =
      begun f b (record { long = omega (arith, sound-length v f n s); same = refl }) room
      ∙ ap (λ (r : ℕ). saved (Done n 0 r) (sent f b)) {x = length f - 20 * n} {y = 8} (omega (arith, sound-length v f n s))

  -- ---- cut in its records

  module _ (m : ℕ) (l : m < 20 * n) where
    -- the records that are whole, and the part of one behind them
    abbrev x : List ℕ
    x = take (20 * (m / 20)) f

    abbrev y : List ℕ
    y = drop (20 * (m / 20)) (take m f)

    -- they make the cut file
    in_two : take m f ≡ x ++ y
    in_two =
        sym (take-append-drop (20 * (m / 20)) (take m f)) ∙ ap (λ (a : List ℕ). a ++ y) (take-take (20 * (m / 20)) m f (omega arith))

    -- twenty bytes each
    x-length : length x ≡ 20 * (m / 20)
    x-length = length-take-le (20 * (m / 20)) f (omega (arith, sound-length v f n s))

    -- and so many bytes behind them
    y-length : length y ≡ m % 20
    y-length =
        let a : length (take m f) ≡ m = length-take-le m f (omega (arith, sound-length v f n s)) in
        length-drop (20 * (m / 20)) (take m f) ∙ omega arith

    -- they are the file's own
    x-at : (k : ℕ) → k < m / 20 → record_from x (20 * k) ≡ record_from f (20 * k)
    x-at k h = record-take f (20 * (m / 20)) (20 * k) (omega arith)

    -- each of them passes, and none is END
    x-open : Open v 1 (from x) (m / 20)
    x-open =
        record {
          pass = λ k h. ap (passes v) (from_is x k ∙ x-at k h) ∙ sound-passes v f n s k (omega arith);
          no_end = λ k h. ap is_end (from_is x k ∙ x-at k h) ∙ sound-inner v f n s k (omega arith);
        }

    -- the file that is written
    cut-file : mended v (take m f) ≡ x ++ (end_record ++ trailer_of 1 (m / 20 + 1))
    unfolding mended
    cut-file =
        let less : length y < 20 = omega (arith, y-length) in
        ap (mended v) in_two
        ∙ ap (file_with (x ++ y)) (open_kept v x (m / 20) x-length x-open y less)
        ∙ open-file v x (m / 20) x-length x-open y less

    -- the answer, and the output
    pub cut_short : (b : List ℕ) → 20 * (m / 20 + 1) + 8 ≤ length b
        → salvage_for v (take m f) b ≡ saved (Done (m / 20) 1 (m % 20)) (sent (x ++ (end_record ++ trailer_of 1 (m / 20 + 1))) b)
    cut_short b room =
        let less : length y < 20 = omega (arith, y-length) in
        ap (λ (a : List ℕ). salvage_for v a b) in_two
        ∙ open-salvage v x (m / 20) x-length x-open y less b (omega (arith, sound-most v f n s)) room
        ∙ ap (λ (r : ℕ). saved (Done (m / 20) 1 r) (sent (x ++ (end_record ++ trailer_of 1 (m / 20 + 1))) b)) y-length

    -- each record that was whole is there
    pub cut-prefix : (k : ℕ) → k < m / 20 → record_from (mended v (take m f)) (20 * k) ≡ record_from f (20 * k)
    cut-prefix k h =
        ap (λ (a : List ℕ). record_from a (20 * k)) cut-file
        ∙ record-append x (end_record ++ trailer_of 1 (m / 20 + 1)) (20 * k) (omega (arith, x-length))
        ∙ x-at k h

-- of every accepted file without comment
pub restored : (v : Device) (f : List ℕ) (n : ℕ) → Sound v f n → Restored v f n
restored v f n s =
    record {
      unchanged = as_it_is v f n s;
      restored = begun v f n s;
      cut = λ m b l room. cut_short v f n s m l b room;
      prefix = λ m k l h. cut-prefix v f n s m l k h;
    }
