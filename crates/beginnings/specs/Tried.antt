-- What a trial asks for: by the words of its call, or the mixer's own.
use Rattle.std.specs.Prelude.{◌≡◌, ℕ, Bool, true, false, ◌&&◌, List}
use Rattle.calls.specs.Numbers.{is_number, number_of, all_numbers}
use Rattle.calls.specs.Text.{word_of}
use Rattle.beginnings.specs.declared.trials.Tried.{Tried}

-- "trial OLD START LENGTH POOLSTART POOLEND MEMORY SCANS": words 2 to 5 and 7 are numbers (`all_named`), and word 6 names the memory
pub record Named (s : List ℕ) (t : Tried) : Type 0 where
  pub start : t.start ≡ number_of (word_of s 2)
  pub length : t.length ≡ number_of (word_of s 3)
  pub pool_start : t.pool_start ≡ number_of (word_of s 4)
  pub pool_end : t.pool_end ≡ number_of (word_of s 5)
  pub scans : t.scans ≡ number_of (word_of s 7)
  pub memory : t.memory_word ≡ 6
  pub told : t.told ≡ false

abbrev pub all_named : List ℕ → Bool
all_named s = all_numbers s && is_number (word_of s 7)

-- "demo": the mixer's block D100 to D106, the pool D300 to D399, 20 scans, after the story
abbrev pub of_mixer : Tried
of_mixer = record { start = 100; length = 7; pool_start = 300; pool_end = 400; scans = 20; memory_word = 2; told = true }
