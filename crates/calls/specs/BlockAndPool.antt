-- "A block of D words and the pool in which it looks for a place."
use Rattle.std.specs.Prelude.{◌≡◌, ℕ, List}
use Rattle.calls.specs.Numbers.{number_of}
use Rattle.calls.specs.Text.{word_of}
use Rattle.calls.specs.declared.numbers.Asked.{Asked}

-- each is the number that its word of the call is
pub record IsBlockAndPool (call : List ℕ) (a : Asked) : Type 0 where
  pub start_value : a.start ≡ number_of (word_of call 2)
  pub length_value : a.length ≡ number_of (word_of call 3)
  pub pool_start_value : a.pool_start ≡ number_of (word_of call 4)
  pub pool_end_value : a.pool_end ≡ number_of (word_of call 5)
