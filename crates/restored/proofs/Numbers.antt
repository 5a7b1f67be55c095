-- What is told of a salvage has a line that holds, and nothing else is told so. Assumes nothing.
use Prim.Native.Nat.{ℕ}
use mathlib.Core.List.{List}
use mathlib.Core.Path.{◌≡◌, refl, sym, subst}
use native.Mathlib.Decide.{dec_lt}
use native.Mathlib.Omega.{arith}
use lib.ListN.{length}
use borrow.Author.Tests.{le-leb, lt-leb}
use Rattle.ec20.specs.Devices.{Device}
use Rattle.restored.specs.Numbers.{Told, told_1, told_16, told_done}
use Rattle.torn.proofs.Capped.{too_many}
use Rattle.torn.specs.Salvage.{kept_in, records_in, size_for, mended, Salvage, salvage_for}

module _ (v : Device) (t b : List ℕ) where
  -- what a line says is what the salvage is
  pub only : (s : Salvage) → Told v t b s → s ≡ salvage_for v t b
  unfolding salvage_for mended
  only s (told_1 h) = sym (too_many (kept_in v t) t b h)
  only s (told_16 h l) = sym (rw (le-leb (records_in (kept_in v t)) 2000 h, lt-leb (size_for (records_in (kept_in v t))) (length b) l) refl)
  only s (told_done h l) = sym (rw (le-leb (records_in (kept_in v t)) 2000 h, le-leb (size_for (records_in (kept_in v t))) (length b) l) refl)

  -- and one of them holds
  pub told : Told v t b (salvage_for v t b)
  told =
      elim (dec_lt 2000 (records_in (kept_in v t))) [
        | yes h ↦ subst (Told v t b) (only _ (told_1 h)) (told_1 h)
        | no h ↦ elim (dec_lt (length b) (size_for (records_in (kept_in v t)))) [
          | yes l ↦ subst (Told v t b) (only _ (told_16 (omega arith) l)) (told_16 (omega arith) l)
          | no l ↦ subst (Told v t b) (only _ (told_done (omega arith) (omega arith))) (told_done (omega arith) (omega arith))
        ]
      ]
