-- What is kept of a text that was read: its entries in a room of so many places.
use Rattle.std.specs.Prelude.{ℕ, List, [], ◌∷◌, replicate}

-- the entries of a list in a room: from its first place on, those past its end left out; places past them stay as they were
unfoldable pub kept_in : {A : Type 0} → List A → List A → List A
kept_in [] l = []
kept_in (b ∷ bs) [] = b ∷ bs
kept_in (b ∷ bs) (a ∷ l) = a ∷ kept_in bs l

-- the first n of a list, filled up with entries that hold nothing
abbrev pub first_of : {A : Type 0} → ℕ → A → List A → List A
first_of n nothing l = kept_in (replicate n nothing) l
