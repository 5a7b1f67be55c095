-- The program file as it is written: its numbers, its trailer, and the END record.
use Rattle.std.specs.Prelude.{ℕ, ◌+◌, ◌*◌, ◌/◌, ◌%◌, List, [], ◌∷◌, ◌++◌, replicate}
use Rattle.ec20.specs.Mnemonics.{END}

-- "Numbers are little-endian."
abbrev pub le16 : ℕ → List ℕ
le16 n = n % 256 ∷ n / 256 % 256 ∷ []

abbrev pub le32 : ℕ → List ℕ
le32 n = n % 256 ∷ n / 256 % 256 ∷ n / 65536 % 256 ∷ n / 16777216 % 256 ∷ []

-- "The trailer points back: edition (u16, 1), record count (u16, 1 to 2,000), distance from the end of the file to the first record (u32, equal to
-- 20 x count + 8)." Of edition e and n records.
unfoldable pub trailer_of : ℕ → ℕ → List ℕ
trailer_of e n = le16 e ++ (le16 n ++ le32 (20 * n + 8))

-- END, which has no operand: "Unused operands are six zeros."
unfoldable pub end_record : List ℕ
end_record = END ∷ replicate 19 0
