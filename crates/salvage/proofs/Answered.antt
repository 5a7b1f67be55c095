-- What is kept of the records that are looked at decides the answer. Assumes nothing.
use Prim.Native.Nat.{ℕ, ◌/◌, ◌≤◌, ◌<◌, min}
use mathlib.Core.List.{List}
use mathlib.Core.Path.{◌≡◌, refl, sym, ap, ◌∙◌}
use lib.ListN.{length}
use borrow.Author.Tests.{le-leb, lt-leb}
use Rattle.ec20.specs.Buffer.{sent}
use Rattle.ec20.specs.Devices.{ec20}
use Rattle.ec20.specs.File.{records_as}
use Rattle.torn.proofs.Capped.{too_many, looked-enough}
use Rattle.torn.specs.Kept.{kept_of}
use Rattle.torn.specs.Salvage.{records_in, size_for, file_with, rest_of, saved, salvage_by, salvage_of}
use Rattle.torn.specs.declared.Kept.{Kept}
use Rattle.torn.specs.Salvaged.{Refused, Done}

module _ (t b : List ℕ) (c : ℕ) (k : Kept) (looked : c ≡ min (length t / 20) 2001) (is : k ≡ kept_of ec20 (records_as 1 t 0 c)) where
  by-kept : salvage_by k t b ≡ salvage_of t b
  unfolding salvage_of
  by-kept = ap (λ (x : Kept). salvage_by x t b) is ∙ looked-enough ec20 t b c looked

  pub refused-1 : 2000 < records_in k → saved (Refused 1 0) b ≡ salvage_of t b
  refused-1 h = sym (too_many k t b h) ∙ by-kept

  pub refused-16 : records_in k ≤ 2000 → length b < size_for (records_in k) → saved (Refused 16 0) b ≡ salvage_of t b
  refused-16 h s = sym (rw (le-leb (records_in k) 2000 h, lt-leb (size_for (records_in k)) (length b) s) refl) ∙ by-kept

  pub done : (b' : List ℕ) → records_in k ≤ 2000 → size_for (records_in k) ≤ length b → b' ≡ sent (file_with t k) b
      → saved (Done k.count k.added (rest_of t k)) b' ≡ salvage_of t b
  done b' h s e =
      ap (saved (Done k.count k.added (rest_of t k))) e
      ∙ sym (let z : salvage_by k t b ≡ saved (Done k.count k.added (rest_of t k)) (sent (file_with t k) b) = rw (le-leb (records_in k) 2000 h, le-leb (size_for (records_in k)) (length b) s) refl in z)
      ∙ by-kept
