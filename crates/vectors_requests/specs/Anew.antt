-- The tables before a call.
use Rattle.std.specs.Prelude.{ℕ, ◌<◌, ◌≤◌, List, [], ◌≡◌, ℤ, pos, length, get_or}
use Rattle.cases.specs.Drawn.{ruled}
use Rattle.cases.specs.Filled.{copied}
use Rattle.image.specs.Image.{Filled, word_in}

-- n bytes by one of the rules 0 to 5
unfoldable pub made_by : ℕ → ℕ → ℕ → ℕ → List ℕ
made_by rule bits seed n = get_or (ruled n bits seed) rule []

-- "The tables are 250 bytes and 8,000 words, made by the rules 0 to 5 above, each with draws and offsets of its own that start at its first entry: M as
-- bytes of bits alone, D as words alone. Rule 6 leaves both as the case before left them." Past them a table is 0. The words are made twice: as they
-- are lent, and as they are wanted.
pub record Anew (rule seed : ℕ) (m m' : List ℕ) (d d' e e' : List ℤ) : Type 0 where
  pub kept : 5 < rule → (m' ≡ m) × (d' ≡ d) × (e' ≡ e)
  pub bits : rule ≤ 5 → m' ≡ copied (made_by rule 250 seed 250) (length m)
  pub words : rule ≤ 5 → Filled (pos 0) (length d) (λ i. word_in (made_by rule 0 seed 16000) i) d'
  pub wanted : rule ≤ 5 → Filled (pos 0) (length e) (λ i. word_in (made_by rule 0 seed 16000) i) e'
