-- What is known of the digits from here on is known of all. Assumes nothing.
use Rattle.std.proofs.Common.{◌<◌}
use Rattle.calls.proofs.Digits.{Ahead}
use Rattle.calls.proofs.numbers.parsed.Given as goal

abbrev pub invariant-loop-byte : goal.invariant-loop-byte
invariant-loop-byte l = (l.n < 4294967296) × Ahead l.text l.byte-index l.n
