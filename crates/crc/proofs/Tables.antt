-- An entry of a table, by its key; and the key of the last entry. Assumes nothing.
use Prim.Native.Nat.{ℕ, zero, suc, ◌*◌, ◌≤◌, ◌<◌}
use mathlib.Core.Path.{◌≡◌, sym, ap, ◌∙◌}
use native.Mathlib.Omega.{arith}
use Rattle.modbus.specs.Crc.{crc_byte}

pub low-entry : (r x k : ℕ) → x ≡ k → r ≡ crc_byte 0 k → r ≡ crc_byte 0 x
low-entry r x k e h = h ∙ ap (crc_byte 0) (sym e)

pub high-entry : (r x k : ℕ) → x ≡ k → r ≡ crc_byte 0 (k * 16) → r ≡ crc_byte 0 (x * 16)
high-entry r x k e h = h ∙ ap (λ (n : ℕ). crc_byte 0 (n * 16)) (sym e)

-- none of the first j numbers, beside what else is known: this the last arm of a match knows
abbrev pub None : Type 0 → ℕ → ℕ → Type 0
None B zero n = B
None B (suc j) n = None B j n × (n ≡ j → ⊥)

past : (B : Type 0) (j n : ℕ) → None B j n → j ≤ n
past B zero n h = omega arith
past B (suc j) n h = let p : j ≤ n = past B j n h.0 in let q = h.1 in omega arith

-- so of 16 numbers it is the last
pub last-key : (B : Type 0) (n : ℕ) → None B 15 n → n < 16 → n ≡ 15
last-key B n h m = let p : 15 ≤ n = past B 15 n h in omega arith
