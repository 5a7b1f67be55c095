-- What a store leaves as it was: the length of each table, and each D word that is none of the target's; and what a constant reads as.
-- Assumes nothing.
use mathlib.Core.Path.{◌≡◌, refl, sym, ap, ◌∙◌}
use mathlib.Core.List.{List}
use mathlib.Core.Bool.{Bool, true, false, ◌&&◌}
use Prim.Native.Nat.{ℕ, zero, suc, ◌+◌, ◌-◌, ◌*◌, ◌/◌, ◌%◌, ◌^◌, ◌<◌, ◌≤◌}
use native.Mathlib.Nat.{mod-eq_of_lt}
use native.Mathlib.Decide.{dec_lt}
use native.Mathlib.Omega.{arith}
use borrow.Author.Tests.{eqb-true, leb-true}
use lib.Dec.{eqb, leb}
use lib.IntN.{ℤ, pos, negsuc, neg_ℤ}
use lib.ListN.{length, length-set}
use lib.Signed.{mag}
use Rattle.ec20.specs.declared.Operand.{Operand}
use Rattle.ec20.specs.declared.Outcome.{Outcome}
use Rattle.ec20.specs.Basics.{pick, one_if}
use Rattle.ec20.specs.Devices.{Device, kind_d, kind_y, kind_m}
use Rattle.ec20.specs.Numbers.{bits_in, half, signed, between}
use Rattle.ec20.specs.Registers.{word_at, with_number}
use Rattle.ec20.specs.Bits.{with_bit}
use Rattle.ec20.specs.Operands.{kind_is, constant_of}
use Rattle.ec20.specs.Memory.{Memory, sized, with_y, with_m, with_sm, with_d, store_bit, constant_at, store_of, following}
use Rattle.ec20.specs.Words.{with_flags, store_all}
use Rattle.ec20.specs.Flow.{coil_of}
use Rattle.ec20.specs.declared.Units.{Units}
use Rattle.ec20.specs.Timers.{timer_of}
use Rattle.ints.proofs.TwosLaws.{signed-small, signed-large}
use Rattle.bits.proofs.Laws.{bit_length, group-length}
use Rattle.words.proofs.Laws.{number-length, number-other}

-- ---- lengths

-- each table of b is as long as that of a
pub record SameLengths (a b : Memory) : Type 0 where
  pub x : length b.x ≡ length a.x
  pub y : length b.y ≡ length a.y
  pub m : length b.m ≡ length a.m
  pub sm : length b.sm ≡ length a.sm
  pub t : length b.t ≡ length a.t
  pub d : length b.d ≡ length a.d
  pub tv : length b.tv ≡ length a.tv

pub same-lengths : (c : Memory) → SameLengths c c
same-lengths c = record { x = refl; y = refl; m = refl; sm = refl; t = refl; d = refl; tv = refl }

pub lengths-on : {a b c : Memory} → SameLengths a b → SameLengths b c → SameLengths a c
lengths-on f g =
    record { x = g.x ∙ f.x; y = g.y ∙ f.y; m = g.m ∙ f.m; sm = g.sm ∙ f.sm; t = g.t ∙ f.t; d = g.d ∙ f.d; tv = g.tv ∙ f.tv }

-- so a memory of the sizes that a device has keeps them
pub lengths-sized : (v : Device) {a b : Memory} → SameLengths a b → sized v b ≡ sized v a
unfolding sized
lengths-sized v f = rw (f.x, f.y, f.m, f.sm, f.t, f.d, f.tv)

-- one of two memories, each of them as long as c
one_of : (b : Bool) {c p q : Memory} → SameLengths c p → SameLengths c q → SameLengths c (pick b p q)
one_of true f g = f
one_of false f g = g

pub store-lengths : (w : ℕ) (o : Operand) (z : ℤ) (c : Memory) → SameLengths c (store_of w o z c)
unfolding store_of
store-lengths w o z c =
    one_of (kind_is kind_d o) (record { x = refl; y = refl; m = refl; sm = refl; t = refl; d = number-length c.d o.value z w; tv = refl })
    (one_of (kind_is kind_y o) (record { x = refl; y = group-length w c.y o.value o.group z; m = refl; sm = refl; t = refl; d = refl; tv = refl })
    (one_of (kind_is kind_m o) (record { x = refl; y = refl; m = group-length w c.m o.value o.group z; sm = refl; t = refl; d = refl; tv = refl })
    (same-lengths c)))

pub store-bit-lengths : (o : Operand) (b : ℕ) (c : Memory) → SameLengths c (store_bit o b c)
unfolding store_bit
store-bit-lengths o b c =
    one_of (kind_is kind_y o) (record { x = refl; y = bit_length c.y o.value b; m = refl; sm = refl; t = refl; d = refl; tv = refl })
    (one_of (kind_is kind_m o) (record { x = refl; y = refl; m = bit_length c.m o.value b; sm = refl; t = refl; d = refl; tv = refl })
    (same-lengths c))

flags-lengths : (r : Outcome) (c : Memory) → SameLengths c (with_sm c (with_flags r c.sm))
unfolding with_flags
flags-lengths r c =
    record {
      x = refl;
      y = refl;
      m = refl;
      sm = bit_length (with_bit (with_bit c.sm 180 r.zero) 181 r.above) 182 r.below ∙ bit_length (with_bit c.sm 180 r.zero) 181 r.above ∙ bit_length c.sm 180 r.zero;
      t = refl;
      d = refl;
      tv = refl;
    }

pub store-all-lengths : (w : ℕ) (o : Operand) (r : Outcome) (c : Memory) → SameLengths c (store_all w o r c)
unfolding store_all
store-all-lengths w o r c = flagged (lengths-on (store-lengths w o r.value c) then)
  where
    c1 : Memory
    c1 = store_of w o r.value c

    c2 : Memory
    c2 = pick (eqb r.two 1) (store_of w (following w o) r.second c1) c1

    then : SameLengths c1 c2
    then = one_of (eqb r.two 1) (store-lengths w (following w o) r.second c1) (same-lengths c1)

    flagged : SameLengths c c2 → SameLengths c (pick (eqb r.flags 1) (with_sm c2 (with_flags r c2.sm)) c2)
    flagged f = one_of (eqb r.flags 1) (lengths-on f (flags-lengths r c2)) f

pub coil-lengths : (n : ℕ) (o : Operand) (on : Bool) (c : Memory) → SameLengths c (coil_of n o on c)
unfolding coil_of
coil-lengths n o on c =
    one_of (eqb n 12) (store-bit-lengths o (one_if on) c)
    (one_of on (store-bit-lengths o (one_if (eqb n 13)) c)
    (same-lengths c))

pub timer-lengths : (u : Units) (i constant : ℕ) (on : Bool) (c : Memory) → SameLengths c (timer_of u i constant on c)
unfolding timer_of
timer-lengths u i constant on c =
    record { x = refl; y = refl; m = refl; sm = refl; t = bit_length c.t i _; d = refl; tv = length-set c.tv i _ }

-- ---- D words

-- what a store does to the D table: a number in a D target, nothing in any other
d-by : (a b e : Bool) (c : Memory) (l : List ℤ) (p q : List ℕ) → (pick a (with_d c l) (pick b (with_y c p) (pick e (with_m c q) c))).d ≡ pick a l c.d
d-by true b e c l p q = refl
d-by false true e c l p q = refl
d-by false false true c l p q = refl
d-by false false false c l p q = refl

pub store-d : (w : ℕ) (o : Operand) (z : ℤ) (c : Memory) → (store_of w o z c).d ≡ pick (kind_is kind_d o) (with_number w c.d o.value z) c.d
unfolding store_of
store-d w o z c = d-by (kind_is kind_d o) (kind_is kind_y o) (kind_is kind_m o) c _ _ _

-- a word that is none of the target's is as it was
pub store_other : (w : ℕ) (o : Operand) (z : ℤ) (c : Memory) (j : ℕ) → (o.kind ≡ kind_d → o.value ≤ j → o.value + bits_in w / 16 ≤ j) → word_at (store_of w o z c).d j ≡ word_at c.d j
store_other w o z c j out = ap (λ (l : List ℤ). word_at l j) (store-d w o z c) ∙ go (kind_is kind_d o) refl
  where
    go : (b : Bool) → kind_is kind_d o ≡ b → word_at (pick b (with_number w c.d o.value z) c.d) j ≡ word_at c.d j
    go true e = number-other c.d o.value z w j (out (eqb-true o.kind kind_d e))
    go false e = refl

-- the same of an outcome, whose second value takes as many words again
pub store-all-other : (w : ℕ) (o : Operand) (r : Outcome) (c : Memory) (j : ℕ) → (o.kind ≡ kind_d → o.value ≤ j → o.value + pick (eqb r.two 1) 2 1 * (bits_in w / 16) ≤ j) → word_at (store_all w o r c).d j ≡ word_at c.d j
unfolding store_all
store-all-other w o r c j out = flagged (eqb r.flags 1) ∙ both (eqb r.two 1) out
  where
    n : ℕ
    n = bits_in w / 16

    c1 : Memory
    c1 = store_of w o r.value c

    c2 : Memory
    c2 = pick (eqb r.two 1) (store_of w (following w o) r.second c1) c1

    flagged : (b : Bool) → word_at (pick b (with_sm c2 (with_flags r c2.sm)) c2).d j ≡ word_at c2.d j
    flagged true = refl
    flagged false = refl

    both : (b : Bool) → (o.kind ≡ kind_d → o.value ≤ j → o.value + pick b 2 1 * n ≤ j) → word_at (pick b (store_of w (following w o) r.second c1) c1).d j ≡ word_at c.d j
    both true h =
        store_other w (following w o) r.second c1 j (λ k l. omega (arith, h k (omega arith)))
        ∙ store_other w o r.value c j (λ k l. omega (arith, h k l))
    both false h = store_other w o r.value c j (λ k l. omega (arith, h k l))

-- coils and timers touch no D word
pub store-bit-d : (o : Operand) (b : ℕ) (c : Memory) → (store_bit o b c).d ≡ c.d
unfolding store_bit
store-bit-d o b c = d-by false (kind_is kind_y o) (kind_is kind_m o) c c.d _ _

pub coil-d : (n : ℕ) (o : Operand) (on : Bool) (c : Memory) → (coil_of n o on c).d ≡ c.d
unfolding coil_of
coil-d n o on c = go (eqb n 12) on
  where
    go : (a b : Bool) → (pick a (store_bit o (one_if on) c) (pick b (store_bit o (one_if (eqb n 13)) c) c)).d ≡ c.d
    go true b = store-bit-d o (one_if on) c
    go false true = store-bit-d o (one_if (eqb n 13)) c
    go false false = refl

pub timer-d : (u : Units) (i constant : ℕ) (on : Bool) (c : Memory) → (timer_of u i constant on c).d ≡ c.d
unfolding timer_of
timer-d u i constant on c = refl

-- ---- constants

constant_by : (b : Bool) (v : ℕ) → v < 2 ^ 32 → mag (signed (2 ^ 31) v) < pick b (2 ^ 15) (2 ^ 31) → signed (pick b (2 ^ 15) (2 ^ 31)) (v % (pick b (2 ^ 15) (2 ^ 31) + pick b (2 ^ 15) (2 ^ 31))) ≡ signed (2 ^ 31) v
constant_by true v l f = go (dec_lt v 2147483648)
  where
    go : Dec (v < 2147483648) → signed 32768 (v % 65536) ≡ signed 2147483648 v
    go (yes k) =
        let e = signed-small 2147483648 v k in
        let s : v < 32768 = rw e at f in
        ap (signed 32768) (mod-eq_of_lt {n = v} {m = 65536} (omega arith)) ∙ signed-small 32768 v s ∙ sym e
    go (no k) =
        let e = signed-large 2147483648 v (omega arith) l in
        let s : 4294967296 - suc v < 32768 = rw e at f in
        signed-large 32768 (v % 65536) (omega arith) (omega arith) ∙ ap negsuc (omega arith) ∙ sym e
constant_by false v l f = ap (signed 2147483648) (mod-eq_of_lt {n = v} {m = 4294967296} l)

-- a constant that lies in the width's range reads as its value
pub constant-value : (w : ℕ) (o : Operand) → o.value < 2 ^ 32 → mag (constant_of o) < half w → constant_at w o ≡ constant_of o
constant-value w o = constant_by (eqb w 16) o.value

-- the range, as 3 tests it
pub range-tested : (h : ℕ) (z : ℤ) → 0 < h → between (neg_ℤ (pos h)) (pos (h - 1)) z ≡ true → mag z < h
range-tested zero z l e = absurd (omega arith)
range-tested (suc k) (pos n) l e = omega (arith, leb-true n (suc k - 1) e)
range-tested (suc k) (negsuc n) l e = omega (arith, leb-true n k (alone (leb n k) e))
  where
    alone : (b : Bool) → (b && true) ≡ true → b ≡ true
    alone true h = refl
    alone false h = h
