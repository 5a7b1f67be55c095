-- What the parts of the answer lean on.
use Rattle.std.specs.Prelude.{true, List, ◌≡◌, ℕ, length}
use Rattle.modbus.specs.Exceptions.{exception_of}
use Rattle.modbus.specs.Frame.{function_of, byte_count_of, length_fits}

-- the frame has a length that its function can have, and gets no exception
pub record Fit (f : List ℕ) : Type 0 where
  pub fits : length_fits (function_of f) (byte_count_of f) (length f) ≡ true
  pub good : exception_of f ≡ 0
