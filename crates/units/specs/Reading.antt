-- A text of lines, read line by line: each line makes an entry, and the first that is misspelt is 15.
use Rattle.std.specs.Prelude.{ℕ, zero, suc, ◌+◌, List, [], ◌∷◌, leb}
use Rattle.ec20.specs.Basics.{pick}
use Rattle.ec20.specs.Judged.{Judged}
use Rattle.ec20.specs.Judged.{Fine, Fault}

-- a line as it was read: misspelt; or its entry, and the place after its line feed
pub data Entry (A : Type 0) : Type 0 where
  misspelt : Entry A
  spelt : A → ℕ → Entry A

-- What is read of a text: the first line that is misspelt (15), and the entries ahead of it.
pub record Read (A : Type 0) : Type 0 where
  pub fault : Judged
  pub list : List A

abbrev pub read : {A : Type 0} → Judged → List A → Read A
read j l = record { fault = j; list = l }

-- one entry, and what comes after it
abbrev pub more : {A : Type 0} → A → Read A → Read A
more a r = read r.fault (a ∷ r.list)

-- the place after a line
abbrev pub next_of : {A : Type 0} → Entry A → ℕ
next_of misspelt = 0
next_of (spelt a e) = e

-- what is read from line k on: the line was read as this, and what comes after it as `rest`
abbrev pub read_by : {A : Type 0} → ℕ → Entry A → Read A → Read A
read_by k misspelt rest = read (Fault 15 k) []
read_by k (spelt a e) rest = more a rest

-- the lines from byte `from` of a text of n bytes on, the first of which is line k; m is at least their number. `at` reads the line at a place.
unfoldable pub read_from : {A : Type 0} → (ℕ → Entry A) → ℕ → ℕ → ℕ → ℕ → Read A
read_from at n zero from k = read Fine []
read_from at n (suc m) from k =
    let line = at from in
    let rest = read_from at n m (next_of line) (k + 1) in
    pick (leb n from) (read Fine []) (read_by k line rest)

-- a whole text of n bytes: each line has a byte at least
abbrev pub lines_of : {A : Type 0} → (ℕ → Entry A) → ℕ → Read A
lines_of at n = read_from at n n 0 0
