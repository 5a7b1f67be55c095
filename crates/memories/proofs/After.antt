-- The bytes of a memory file after a call over its tables. Assumes nothing.
use mathlib.Core.List.{List}
use mathlib.Core.Path.{◌≡◌, sym, ap, ◌∙◌}
use Prim.Native.Nat.{ℕ}
use native.Mathlib.Omega.{arith}
use lib.IntN.{ℤ}
use lib.ListN.{length, take}
use lib.Seq.{length-take-le, get_or-take}
use Rattle.ec20.specs.File.{byte_at}
use Rattle.ec20.specs.Memory.{memory}
use Rattle.ec20.specs.Plant.{Plant, plant}
use Rattle.image.proofs.Filling.{one-filled}
use Rattle.image.specs.Image.{Filled, plant_of, image_of, Sizes}

-- tables that were just made
pub new-sizes : {x y m sm t r : List ℕ} {d tv : List ℤ}
    → 32 ≡ length x → 32 ≡ length y → 250 ≡ length m → 32 ≡ length sm → 32 ≡ length t → 8000 ≡ length d → 256 ≡ length tv → 2 ≡ length r
    → Sizes (plant (memory x y m sm t d tv) r)
new-sizes x y m sm t d tv r =
    record { x = sym x; y = sym y; m = sym m; sm = sym sm; t = sym t; d = sym d; tv = sym tv; rest = sym r }

-- Tables and leftovers p were joined to the bytes b, and are what n says.
module _ {b : List ℕ} {p n : Plant} (joined : b ≡ image_of p) (again : plant_of b ≡ p) (same : p ≡ n) where
  pub tables_after : plant_of b ≡ n
  tables_after = again ∙ same

  pub bytes_after : b ≡ image_of n
  bytes_after = joined ∙ ap image_of same

  -- they are as before: so is each byte
  pub no_byte : {a : List ℕ} → image_of (plant_of a) ≡ a → n ≡ plant_of a → b ≡ a
  no_byte back e = bytes_after ∙ ap image_of e ∙ back

-- bytes that are filled by those of a buffer are its first
pub filled-start : (a b : List ℕ) {n : ℕ} → length b ≡ 65536 → n ≡ 16892 → Filled 0 n (λ i. byte_at b i) a → a ≡ take 16892 b
filled-start a b {n} h e f =
    one-filled 0 n (λ i. byte_at b i) a (take 16892 b) f
    (length-take-le 16892 b (omega arith) ∙ sym e, λ i l. get_or-take 16892 b i 0 (omega arith))
