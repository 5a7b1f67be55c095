-- A program whose structure is right: 6 refuses none of its records.
use Rattle.std.specs.Prelude.{ℕ, ◌≡◌}
use Rattle.ec20.specs.Control.{Controls}
use Rattle.ec20.specs.Walkers.{walk_of}
use Rattle.ec20.specs.Walked.{Done}

unfoldable pub Sound : Controls → ℕ → Type 0
Sound code count = (m : ℕ) × (w : ℕ) × (walk_of code count ≡ Done m w)
