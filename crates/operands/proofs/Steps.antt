-- What the arms of the code come to, as the definitions say it. Assumes nothing.
use mathlib.Core.Path.{◌≡◌, refl, sym, ap, ap₂, ◌∙◌}
use mathlib.Core.Bool.{Bool, true, false, ◌&&◌, ◌||◌}
use mathlib.Core.List.{List}
use Prim.Native.Nat.{ℕ, ◌+◌, ◌*◌, ◌/◌, ◌^◌, ◌<◌, ◌≤◌}
use native.Mathlib.Omega.{arith}
use borrow.Author.Tests.{eq-eqb, ne_eqb, eqb-true, ltb-true}
use lib.Dec.{eqb, ltb, leb}
use lib.IntN.{ℤ, pos, negsuc}
use lib.ListN.{length, get_or, set, take}
use lib.Seq.{take-length}
use lib.Signed.{mag, lt_z}
use mir.Syntax.{w64}
use mir.Val.{to_z, of_z, bool_byte}
use Rattle.ec20.specs.declared.Operand.{Operand}
use Rattle.ec20.specs.declared.Outcome.{Outcome}
use Rattle.ec20.specs.Basics.{pick, one_if}
use Rattle.ec20.specs.Numbers.{bits_in, half, signed}
use Rattle.ec20.specs.Registers.{word_at, number_at, with_number}
use Rattle.ec20.specs.Bits.{packed, with_bit, group_at, with_group}
use Rattle.ec20.specs.Memory.{Memory, memory, group_bits, store_bit, constant_at, load_of, store_of, following}
use Rattle.ec20.specs.Words.{with_flags}
use Rattle.ec20.specs.Flow.{coil_of}
use Rattle.ec20.specs.declared.Units.{Units}
use Rattle.ec20.specs.Timers.{units_of, old_of, counted_of, contact_is, limit_at, timer_of}
use Rattle.ec20.proofs.Tests.{both}
use Rattle.ints.proofs.TwosLaws.{signed-small}
use Rattle.ints.proofs.Parts.{said, lt_z-true}

-- a number that a call answers and that is handed on: what it is, and its range
pub told : (H : ℕ) {z v : ℤ} → mag z < 2 ^ 63 → z ≡ v → mag v < H → (to_z w64 (of_z w64 z) ≡ v) × (mag (to_z w64 (of_z w64 z)) < H)
told H {z} {v} ok e l = let s : to_z w64 (of_z w64 z) ≡ v = said w64 ok e in (s, rw s l)

half-by : (b : Bool) → 2 ^ 15 ≤ pick b (2 ^ 15) (2 ^ 31)
half-by true = omega arith
half-by false = omega arith

-- a width holds every word
pub half-least : (w : ℕ) → 2 ^ 15 ≤ half w
half-least w = half-by (eqb w 16)

-- a source, by its kind: r is what is read
module _ (w : ℕ) (o : Operand) (x y m : List ℕ) (d tv : List ℤ) {r : ℤ} where
  pub read-constant : o.kind ≡ 1 → r ≡ constant_at w o → (sm t : List ℕ) → r ≡ load_of w o (memory x y m sm t d tv)
  unfolding load_of
  read-constant k e sm t = rw k e

  pub read-t : o.kind ≡ 6 → r ≡ word_at tv o.value → (sm t : List ℕ) → r ≡ load_of w o (memory x y m sm t d tv)
  unfolding load_of
  read-t k e sm t = rw k e

  pub read-d : o.kind ≡ 7 → r ≡ number_at w d o.value → (sm t : List ℕ) → r ≡ load_of w o (memory x y m sm t d tv)
  unfolding load_of
  read-d k e sm t = rw k e

  pub read-x : o.kind ≡ 2 → r ≡ group_at w x o.value o.group → (sm t : List ℕ) → r ≡ load_of w o (memory x y m sm t d tv)
  unfolding load_of group_bits
  read-x k e sm t = rw k e

  pub read-y : o.kind ≡ 3 → r ≡ group_at w y o.value o.group → (sm t : List ℕ) → r ≡ load_of w o (memory x y m sm t d tv)
  unfolding load_of group_bits
  read-y k e sm t = rw k e

  -- a group of M stands for all other kinds
  pub read-m : eqb o.kind 1 ≡ false → (o.kind ≡ 7 → ⊥) → (o.kind ≡ 6 → ⊥) → (o.kind ≡ 2 → ⊥) → (o.kind ≡ 3 → ⊥) → r ≡ group_at w m o.value o.group → (sm t : List ℕ) → r ≡ load_of w o (memory x y m sm t d tv)
  unfolding load_of group_bits
  read-m k1 k7 k6 k2 k3 e sm t = rw (k1, ne_eqb _ _ k6, ne_eqb _ _ k7, ne_eqb _ _ k2, ne_eqb _ _ k3) e

-- D, by the test of a table of n words: it goes on behind v
pub in_table : (k v n : ℕ) → (eqb k 7 && ltb (v + 1) n) ≡ true → (k ≡ 7) × (v + 1 < n)
in_table k v n e = let b = both (eqb k 7) (ltb (v + 1) n) e in (eqb-true k 7 b.0, ltb-true (v + 1) n b.1)

-- what `load` and `compared` hand on of a call's answer z, by where it comes from
module _ (w : ℕ) (o : Operand) (x y m : List ℕ) (d tv : List ℤ) where
  abbrev Loaded : ℤ → Type 0
  Loaded r = ((sm t : List ℕ) → r ≡ load_of w o (memory x y m sm t d tv)) × (mag r < half w)

  pub loaded-in : {z : ℤ} → mag z < 2 ^ 63 → o.kind ≡ 7 → (z ≡ number_at w d o.value) × (mag z < half w) → Loaded (to_z w64 (of_z w64 z))
  loaded-in ok k e =
      let s = said w64 ok refl in
      (read-d w o x y m d tv k (s ∙ e.0), rw s e.1)

  pub loaded-constant : {z : ℤ} → mag z < 2 ^ 63 → o.kind ≡ 1 → (z ≡ constant_at w o) × (mag z < half w) → Loaded (to_z w64 (of_z w64 z))
  loaded-constant ok k e =
      let s = said w64 ok refl in
      (read-constant w o x y m d tv k (s ∙ e.0), rw s e.1)

  -- a slice of all there is of a table is the table
  pub loaded-other : {z : ℤ} → mag z < 2 ^ 63 → ((sm t : List ℕ) → z ≡ load_of w o (memory (take (length x) x) (take (length y) y) (take (length m) m) sm t (take (length d) d) (take (length tv) tv))) × (mag z < half w) → Loaded (to_z w64 (of_z w64 z))
  loaded-other ok e =
      let s = said w64 ok refl in
      (λ sm t. s ∙ e.0 sm t ∙ (λ i. load_of w o (memory (take-length x i) (take-length y i) (take-length m i) sm t (take-length d i) (take-length tv i))), rw s e.1)

none-by : (b : Bool) (bs : List ℕ) (i : ℕ) → signed (pick b (2 ^ 15) (2 ^ 31)) (packed bs i (pick (leb (4 * 0) (pick b 16 32)) (4 * 0) (pick b 16 32))) ≡ pos 0
unfolding packed
none-by true bs i = signed-small 32768 0 (omega arith)
none-by false bs i = signed-small 2147483648 0 (omega arith)

-- an operand that is none reads 0: it is a group of no bits
pub read_none : (w : ℕ) (o : Operand) (x y m : List ℕ) (d tv : List ℤ) → (eqb o.kind 0 && eqb o.group 0) ≡ true → (sm t : List ℕ) → pos 0 ≡ load_of w o (memory x y m sm t d tv)
unfolding load_of group_bits group_at
read_none w o x y m d tv e sm t =
    let b = both (eqb o.kind 0) (eqb o.group 0) e in
    rw (eqb-true o.kind 0 b.0, eqb-true o.group 0 b.1) (sym (none-by (eqb w 16) m o.value))

-- a target, by its kind
module _ (w : ℕ) (o : Operand) (z : ℤ) (x y m sm t : List ℕ) (d tv : List ℤ) where
  pub into_d : {d' : List ℤ} → o.kind ≡ 7 → d' ≡ with_number w d o.value z → memory x y m sm t d' tv ≡ store_of w o z (memory x y m sm t d tv)
  unfolding store_of
  into_d k e = rw (k, e)

  pub into-y : {y' : List ℕ} → o.kind ≡ 3 → y' ≡ with_group w y o.value o.group z → memory x y' m sm t d tv ≡ store_of w o z (memory x y m sm t d tv)
  unfolding store_of
  into-y k e = rw (k, e)

  pub into-m : {m' : List ℕ} → o.kind ≡ 4 → m' ≡ with_group w m o.value o.group z → memory x y m' sm t d tv ≡ store_of w o z (memory x y m sm t d tv)
  unfolding store_of
  into-m k e = rw (k, e)

  pub into-none : (o.kind ≡ 7 → ⊥) → (o.kind ≡ 3 → ⊥) → (o.kind ≡ 4 → ⊥) → memory x y m sm t d tv ≡ store_of w o z (memory x y m sm t d tv)
  unfolding store_of
  into-none k7 k3 k4 = rw (ne_eqb _ _ k7, ne_eqb _ _ k3, ne_eqb _ _ k4)

-- a coil's bit, by its kind
module _ (o : Operand) (b : ℕ) (x y m sm t : List ℕ) (d tv : List ℤ) where
  pub bit-y : {y' : List ℕ} → o.kind ≡ 3 → y' ≡ with_bit y o.value b → memory x y' m sm t d tv ≡ store_bit o b (memory x y m sm t d tv)
  unfolding store_bit
  bit-y k e = rw (k, e)

  pub bit-m : {m' : List ℕ} → o.kind ≡ 4 → m' ≡ with_bit m o.value b → memory x y m' sm t d tv ≡ store_bit o b (memory x y m sm t d tv)
  unfolding store_bit
  bit-m k e = rw (k, e)

  pub bit-none : (o.kind ≡ 3 → ⊥) → (o.kind ≡ 4 → ⊥) → memory x y m sm t d tv ≡ store_bit o b (memory x y m sm t d tv)
  unfolding store_bit
  bit-none k3 k4 = rw (ne_eqb _ _ k3, ne_eqb _ _ k4)

-- the target that follows, by the words of its width
pub follows : (w : ℕ) (o : Operand) {words : ℕ} {n : Operand} → n ≡ record { kind = o.kind; group = o.group; value = o.value + words } → words ≡ bits_in w / 16 → n ≡ following w o
follows w o g e = g ∙ ap (λ (k : ℕ). record { kind = o.kind; group = o.group; value = o.value + k }) e

-- the second value, where there is one
module _ (w : ℕ) (o : Operand) (r : Outcome) (y m y1 m1 : List ℕ) (d d1 : List ℤ) where
  pub second-stored : {n : Operand} {z : ℤ} → r.two ≡ 1 → n ≡ following w o → z ≡ r.second
      → ((x sm t : List ℕ) (tv : List ℤ) → memory x y1 m1 sm t d1 tv ≡ store_of w n z (memory x y m sm t d tv))
      → (x sm t : List ℕ) (tv : List ℤ) → memory x y1 m1 sm t d1 tv ≡ pick (eqb r.two 1) (store_of w (following w o) r.second (memory x y m sm t d tv)) (memory x y m sm t d tv)
  second-stored two en ez f x sm t tv =
      rw (eq-eqb _ _ two)
      (f x sm t tv ∙ ap₂ (λ (n : Operand) (z : ℤ). store_of w n z (memory x y m sm t d tv)) en ez)

-- the three flags
pub flags-put : (r : Outcome) (sm a b : List ℕ) {e : List ℕ} → r.flags ≡ 1 → a ≡ with_bit sm 180 r.zero → b ≡ with_bit a 181 r.above → e ≡ with_bit b 182 r.below
    → e ≡ pick (eqb r.flags 1) (with_flags r sm) sm
unfolding with_flags
flags-put r sm a b f ea eb ee =
    rw (eq-eqb _ _ f)
    (ee ∙ ap (λ (l : List ℕ). with_bit l 182 r.below) (eb ∙ ap (λ (l : List ℕ). with_bit l 181 r.above) ea))

-- a test as a number
pub bit-of : (b : Bool) → (bool_byte b ≡ one_if b) × (bool_byte b < 2)
bit-of true = (refl, omega arith)
bit-of false = (refl, omega arith)

-- a coil, by whether it is OUT, whether there is flow, and whether it is SET
coil-yes : (out on set : Bool) (o : Operand) (c : Memory) → (out || on) ≡ true
    → store_bit o (pick out (one_if on) (one_if set)) c ≡ pick out (store_bit o (one_if on) c) (pick on (store_bit o (one_if set) c) c)
coil-yes true on set o c h = refl
coil-yes false true set o c h = refl
coil-yes false false set o c h = let z : ◌≡◌ {A = ℕ} 0 1 = cc in absurd (omega arith)

coil-no : (out on set : Bool) (o : Operand) (c : Memory) → (out || on) ≡ false
    → c ≡ pick out (store_bit o (one_if on) c) (pick on (store_bit o (one_if set) c) c)
coil-no true on set o c h = let z : ◌≡◌ {A = ℕ} 0 1 = cc in absurd (omega arith)
coil-no false true set o c h = let z : ◌≡◌ {A = ℕ} 0 1 = cc in absurd (omega arith)
coil-no false false set o c h = refl

module _ (n : ℕ) (o : Operand) (on : Bool) where
  pub coil-acts : {b : ℕ} {e : Memory} (c : Memory) → (eqb n 12 || on) ≡ true → b ≡ pick (eqb n 12) (one_if on) (one_if (eqb n 13)) → e ≡ store_bit o b c → e ≡ coil_of n o on c
  unfolding coil_of
  coil-acts c h eb e = e ∙ ap (λ (j : ℕ). store_bit o j c) eb ∙ coil-yes (eqb n 12) on (eqb n 13) o c h

  pub coil-rests : (c : Memory) → (eqb n 12 || on) ≡ false → c ≡ coil_of n o on c
  unfolding coil_of
  coil-rests c h = coil-no (eqb n 12) on (eqb n 13) o c h

-- "old value, or 0 if negative"
pub old-negative : (z : ℤ) → lt_z z (pos 0) ≡ true → 0 ≡ old_of z
old-negative (pos n) h = absurd (omega (arith, lt_z-true (pos n) (pos 0) h))
old-negative (negsuc n) h = refl

-- a timer
module _ (u : Units) (i constant : ℕ) (on : Bool) (t : List ℕ) (tv : List ℤ) where
  pub timed : (n : ℕ) {t1 : List ℕ} {tv1 : List ℤ} → n ≡ counted_of on (limit_at constant) (units_of u i) (get_or tv i (pos 0)) → t1 ≡ with_bit t i (contact_is on (limit_at constant) n) → tv1 ≡ set tv i (pos n)
      → (x y m sm : List ℕ) (d : List ℤ) → memory x y m sm t1 d tv1 ≡ timer_of u i constant on (memory x y m sm t d tv)
  unfolding timer_of
  timed n en et ev x y m sm d =
      ap₂ (λ (l : List ℕ) (k : List ℤ). memory x y m sm l d k) et ev
      ∙ ap (λ (j : ℕ). memory x y m sm (with_bit t i (contact_is on (limit_at constant) j)) d (set tv i (pos j))) en
