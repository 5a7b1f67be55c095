-- A number of four bytes put into a file, byte by byte. Assumes nothing.
use Prim.Native.Nat.{ℕ, zero, suc, ◌+◌, ◌*◌, ◌<◌, ◌≤◌}
use mathlib.Core.List.{List}
use mathlib.Core.Path.{◌≡◌, refl, sym, ap, ◌∙◌}
use native.Mathlib.Omega.{arith}
use lib.ListN.{length, set, length-set}
use lib.Seq.{get_or-set_same, get_or-set_other, set-get_or}
use Rattle.ec20.specs.File.{byte_at, u32_at, operand_at}
use Rattle.ec20.specs.Move.{byte_of}
use Rattle.rewrite.specs.Numbers.{with_u32}

module _ (f : List ℕ) (i v : ℕ) where
  pub u32-length : length (with_u32 f i v) ≡ length f
  unfolding with_u32
  u32-length = simp length-set

  -- the file after one, two and three bytes
  abbrev one : List ℕ
  one = set f i (byte_of v 0)

  abbrev two : List ℕ
  two = set one (i + 1) (byte_of v 1)

  abbrev three : List ℕ
  three = set two (i + 2) (byte_of v 2)

  -- a byte that is none of the four is as it was
  pub u32-other : (x : ℕ) → (i ≤ x → i + 4 ≤ x) → byte_at (with_u32 f i v) x ≡ byte_at f x
  unfolding with_u32
  u32-other x h =
      get_or-set_other three (i + 3) x (byte_of v 3) 0 (λ e. let k = h (omega arith) in omega arith)
      ∙ get_or-set_other two (i + 2) x (byte_of v 2) 0 (λ e. let k = h (omega arith) in omega arith)
      ∙ get_or-set_other one (i + 1) x (byte_of v 1) 0 (λ e. let k = h (omega arith) in omega arith)
      ∙ get_or-set_other f i x (byte_of v 0) 0 (λ e. let k = h (omega arith) in omega arith)

  -- byte j of the four is that of the number
  module _ (h : i + 4 ≤ length f) where
    at-three : byte_at (with_u32 f i v) (i + 3) ≡ byte_of v 3
    unfolding with_u32
    at-three = get_or-set_same three (i + 3) (byte_of v 3) 0 (simp length-set (omega arith))

    at-two : byte_at (with_u32 f i v) (i + 2) ≡ byte_of v 2
    unfolding with_u32
    at-two =
        get_or-set_other three (i + 3) (i + 2) (byte_of v 3) 0 (λ e. omega arith)
        ∙ get_or-set_same two (i + 2) (byte_of v 2) 0 (simp length-set (omega arith))

    at_one : byte_at (with_u32 f i v) (i + 1) ≡ byte_of v 1
    unfolding with_u32
    at_one =
        get_or-set_other three (i + 3) (i + 1) (byte_of v 3) 0 (λ e. omega arith)
        ∙ get_or-set_other two (i + 2) (i + 1) (byte_of v 2) 0 (λ e. omega arith)
        ∙ get_or-set_same one (i + 1) (byte_of v 1) 0 (simp length-set (omega arith))

    at_zero : byte_at (with_u32 f i v) (i + 0) ≡ byte_of v 0
    unfolding with_u32
    at_zero =
        let e : i + 0 ≡ i = omega arith in
        ap (byte_at (with_u32 f i v)) e
        ∙ get_or-set_other three (i + 3) i (byte_of v 3) 0 (λ e. omega arith)
        ∙ get_or-set_other two (i + 2) i (byte_of v 2) 0 (λ e. omega arith)
        ∙ get_or-set_other one (i + 1) i (byte_of v 1) 0 (λ e. omega arith)
        ∙ get_or-set_same f i (byte_of v 0) 0 (omega arith)

    pub u32-byte : (j : ℕ) → j < 4 → byte_at (with_u32 f i v) (i + j) ≡ byte_of v j
    u32-byte zero l = at_zero
    u32-byte (suc zero) l = at_one
    u32-byte (suc (suc zero)) l = at-two
    u32-byte (suc (suc (suc zero))) l = at-three
    u32-byte (suc (suc (suc (suc j)))) l = absurd (omega (arith, l))

  -- an operand after the four bytes is as it was
  pub operand-after : (k : ℕ) → i + 4 ≤ k → operand_at (with_u32 f i v) k ≡ operand_at f k
  unfolding operand_at u32_at
  operand-after k h =
      rw (u32-other k (λ _. omega arith), u32-other (k + 1) (λ _. omega arith), u32-other (k + 2) (λ _. omega arith), u32-other (k + 2 + 1) (λ _. omega arith), u32-other (k + 2 + 2) (λ _. omega arith), u32-other (k + 2 + 3) (λ _. omega arith)) refl

-- the number that four bytes hold, put where it stands: nothing changes
module _ (a b c d : ℕ) (ha : a < 256) (hb : b < 256) (hc : c < 256) (hd : d < 256) where
  abbrev sum : ℕ
  sum = a + b * 256 + c * 65536 + d * 16777216

  byte-0 : byte_of sum 0 ≡ a
  byte-0 = omega arith

  byte-1 : byte_of sum 1 ≡ b
  byte-1 = omega arith

  byte-2 : byte_of sum 2 ≡ c
  byte-2 = omega arith

  byte-3 : byte_of sum 3 ≡ d
  byte-3 = omega arith

-- byte j of the number that four bytes hold is the one that stands there
pub u32-read : (f : List ℕ) (i : ℕ) → ((k : ℕ) → byte_at f k < 256) → (j : ℕ) → j < 4 → byte_of (u32_at f i) j ≡ byte_at f (i + j)
unfolding u32_at
u32-read f i h zero l = let e : i + 0 ≡ i = omega arith in byte-0 _ _ _ _ (h i) (h (i + 1)) (h (i + 2)) (h (i + 3)) ∙ ap (byte_at f) (sym e)
u32-read f i h (suc zero) l = byte-1 _ _ _ _ (h i) (h (i + 1)) (h (i + 2)) (h (i + 3))
u32-read f i h (suc (suc zero)) l = byte-2 _ _ _ _ (h i) (h (i + 1)) (h (i + 2)) (h (i + 3))
u32-read f i h (suc (suc (suc zero))) l = byte-3 _ _ _ _ (h i) (h (i + 1)) (h (i + 2)) (h (i + 3))
u32-read f i h (suc (suc (suc (suc j)))) l = absurd (omega (arith, l))

pub u32-kept : (f : List ℕ) (i : ℕ) → ((k : ℕ) → byte_at f k < 256) → with_u32 f i (u32_at f i) ≡ f
unfolding with_u32 u32_at
u32-kept f i h =
    let a : ℕ = byte_at f i in
    let b : ℕ = byte_at f (i + 1) in
    let c : ℕ = byte_at f (i + 2) in
    let d : ℕ = byte_at f (i + 3) in
    let ha : a < 256 = h i in
    let hb : b < 256 = h (i + 1) in
    let hc : c < 256 = h (i + 2) in
    let hd : d < 256 = h (i + 3) in
    rw (byte-0 a b c d ha hb hc hd, byte-1 a b c d ha hb hc hd, byte-2 a b c d ha hb hc hd, byte-3 a b c d ha hb hc hd, set-get_or f i 0, set-get_or f (i + 1) 0, set-get_or f (i + 2) 0, set-get_or f (i + 3) 0) refl
