-- What a request without an exception says, function by function. Assumes nothing.
use Prim.Native.Nat.{ℕ, ◌+◌, ◌*◌, ◌≤◌}
use mathlib.Core.Bool.{Bool, true, false, not, ◌&&◌, ◌||◌}
use mathlib.Core.List.{List}
use mathlib.Core.Path.{◌≡◌, refl, sym, subst}
use native.Mathlib.Omega.{arith}
use lib.Dec.{leb, eqb}
use lib.ListN.{length}
use borrow.Author.Tests.{leb-true, eqb-true}
use Rattle.ec20.proofs.Tests.{differ, both}
use Rattle.ec20.specs.Basics.{pick}
use Rattle.modbus.specs.Exceptions.{up_to, bytes_of, quantity_fits, is_of_coils, is_single, meant, range_fits, exception_for, exception_of}
use Rattle.modbus.specs.Frame.{function_of, address_of, quantity_of, byte_count_of, is_short, is_long, is_known, length_fits}

none : (k x y : Bool) → ◌≡◌ {A = ℕ} (pick (not k) 1 (pick (not x) 3 (pick (not y) 2 0))) 0 → (k ≡ true) × (x ≡ true) × (y ≡ true)
none true true true e = (refl, refl, refl)
none true true false e = absurd (omega arith)
none true false y e = absurd (omega arith)
none false x y e = absurd (omega arith)

pub no-exception : (n a q c : ℕ) → exception_for n a q c ≡ 0 → (is_known n ≡ true) × (quantity_fits n q c ≡ true) × (range_fits n a q ≡ true)
unfolding exception_for
no-exception n a q c e = none (is_known n) (quantity_fits n q c) (range_fits n a q) e

-- a length that fits is 4 at least
pub four : (n c l : ℕ) → length_fits n c l ≡ true → 4 ≤ l
unfolding length_fits
four n c l h = go (is_long n) (is_short n) h
  where
    go : (x y : Bool) → pick x (eqb l (9 + c)) (pick y (eqb l 8) (leb 4 l && leb l 256)) ≡ true → 4 ≤ l
    go true y e = let q : l ≡ 9 + c = eqb-true _ _ e in omega arith
    go false true e = let q : l ≡ 8 = eqb-true _ _ e in omega arith
    go false false e = leb-true _ _ (both (leb 4 l) (leb l 256) e).0

module _ (f : List ℕ) (good : exception_of f ≡ 0) where
  pub quantity-fits : (n : ℕ) → function_of f ≡ n → quantity_fits n (quantity_of f) (byte_count_of f) ≡ true
  quantity-fits n e =
      subst (λ (k : ℕ). quantity_fits k (quantity_of f) (byte_count_of f) ≡ true) e (no-exception (function_of f) (address_of f) (quantity_of f) (byte_count_of f) good).1

  pub range-fits : (n : ℕ) → function_of f ≡ n → range_fits n (address_of f) (quantity_of f) ≡ true
  range-fits n e =
      subst (λ (k : ℕ). range_fits k (address_of f) (quantity_of f) ≡ true) e (no-exception (function_of f) (address_of f) (quantity_of f) (byte_count_of f) good).2

  -- the range of coils or registers is in the device, and no read or write of several means more than its limit
  pub read-coils : function_of f ≡ 1 → (address_of f + quantity_of f ≤ 2000) × (quantity_of f ≤ 2000)
  unfolding quantity_fits range_fits is_of_coils meant is_single
  read-coils e = (leb-true _ _ (range-fits 1 e), leb-true _ _ (both (leb 1 (quantity_of f)) (leb (quantity_of f) 2000) (quantity-fits 1 e)).1)

  pub read-registers : function_of f ≡ 3 → (address_of f + quantity_of f ≤ 8000) × (quantity_of f ≤ 125)
  unfolding quantity_fits range_fits is_of_coils meant is_single
  read-registers e = (
    leb-true _ _ (both (leb (address_of f + quantity_of f) 8000) _ (range-fits 3 e)).0,
    leb-true _ _ (both (leb 1 (quantity_of f)) (leb (quantity_of f) 125) (quantity-fits 3 e)).1,
  )

  pub write-coil : function_of f ≡ 5 → address_of f + 1 ≤ 2000
  unfolding range_fits is_of_coils meant is_single
  write-coil e = leb-true _ _ (range-fits 5 e)

  pub write-register : function_of f ≡ 6 → address_of f + 1 ≤ 8000
  unfolding range_fits is_of_coils meant is_single
  write-register e = leb-true _ _ (both (leb (address_of f + 1) 8000) _ (range-fits 6 e)).0

  module _ (fits : length_fits (function_of f) (byte_count_of f) (length f) ≡ true) where
    fits-as : (n : ℕ) → function_of f ≡ n → length_fits n (byte_count_of f) (length f) ≡ true
    fits-as n e = subst (λ (k : ℕ). length_fits k (byte_count_of f) (length f) ≡ true) e fits

    pub long-16 : function_of f ≡ 16 → length f ≡ 9 + byte_count_of f
    unfolding length_fits is_long
    long-16 e = eqb-true _ _ (fits-as 16 e)

    pub long-15 : function_of f ≡ 15 → length f ≡ 9 + byte_count_of f
    unfolding length_fits is_long
    long-15 e = eqb-true _ _ (fits-as 15 e)

    -- the bytes that 15 and 16 write are there
    pub write-coils : function_of f ≡ 15 → (address_of f + quantity_of f ≤ 2000) × (7 + bytes_of (quantity_of f) ≤ length f)
    unfolding quantity_fits range_fits is_of_coils meant is_single
    write-coils e =
        let c : byte_count_of f ≡ bytes_of (quantity_of f) = eqb-true _ _ (both (up_to 1968 (quantity_of f)) (eqb (byte_count_of f) (bytes_of (quantity_of f))) (quantity-fits 15 e)).1 in
        (leb-true _ _ (range-fits 15 e), omega (arith, long-15 e, c))

    pub write-registers : function_of f ≡ 16 → (address_of f + quantity_of f ≤ 8000) × (7 + 2 * quantity_of f ≤ length f)
    unfolding quantity_fits range_fits is_of_coils meant is_single
    write-registers e =
        let c : byte_count_of f ≡ 2 * quantity_of f = eqb-true _ _ (both (up_to 123 (quantity_of f)) (eqb (byte_count_of f) (2 * quantity_of f)) (quantity-fits 16 e)).1 in
        (leb-true _ _ (both (leb (address_of f + quantity_of f) 8000) _ (range-fits 16 e)).0, omega (arith, long-16 e, c))

    -- a function of eight bytes
    pub eight : (n : ℕ) → function_of f ≡ n → is_long n ≡ false → is_short n ≡ true → length f ≡ 8
    unfolding length_fits
    eight n e t s = eqb-true _ _ (rw (sym (fits-as n e), t, s))

    known : (s l : Bool) (n c k : ℕ) → pick l (eqb k (9 + c)) (pick s (eqb k 8) (leb 4 k && leb k 256)) ≡ true → (s || l) ≡ true → 8 ≤ k
    known s true n c k e h = let q : k ≡ 9 + c = eqb-true _ _ e in omega arith
    known true false n c k e h = let q : k ≡ 8 = eqb-true _ _ e in omega arith
    known false false n c k e h = differ (sym h)

    -- a known function has eight bytes at least
    pub eight-bytes : 8 ≤ length f
    unfolding length_fits
    eight-bytes = known (is_short (function_of f)) (is_long (function_of f)) (function_of f) (byte_count_of f) (length f) fits (no-exception (function_of f) (address_of f) (quantity_of f) (byte_count_of f) good).0
