-- "The bytes of a reply, each as two hexadecimal digits with a blank ahead."
use Rattle.std.specs.Prelude.{◌≡◌, ℕ, ◌+◌, ◌*◌, ◌/◌, ◌%◌, ◌<◌, ◌≤◌, List, length, nat_lt, slice_index}
use Rattle.ec20.specs.Basics.{pick}

-- 0 to 9, then a to f
abbrev pub hex_digit : ℕ → ℕ
hex_digit v = pick (nat_lt v 10) (48 + v) (87 + v)

-- t spells the first n bytes of s; the blanks ahead of them, and what stands past them, are those of b
pub record Spelt (s : List ℕ) (n : ℕ) (b t : List ℕ) : Type 0 where
  pub size : length t ≡ length b
  pub blank : (i : ℕ) → i < n → slice_index t (3 * i) ≡ slice_index b (3 * i)
  pub high : (i : ℕ) → i < n → slice_index t (3 * i + 1) ≡ hex_digit (slice_index s i / 16)
  pub low : (i : ℕ) → i < n → slice_index t (3 * i + 2) ≡ hex_digit (slice_index s i % 16)
  pub past : (j : ℕ) → 3 * n ≤ j → slice_index t j ≡ slice_index b j
