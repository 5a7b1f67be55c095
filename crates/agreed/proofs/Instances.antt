-- What the theorems say of some lists and texts. Assumes nothing.
use Prim.Native.Nat.{ℕ}
use mathlib.Core.Bool.{true}
use mathlib.Core.List.{List, [], ◌∷◌}
use mathlib.Core.Path.{◌≡◌, refl, ◌∙◌}
use native.Mathlib.Omega.{arith}
use lib.ListN.{length}
use Rattle.units.proofs.Computing.{declarations}
use Rattle.units.specs.Clash.{Declared, listed, clash_of}
use Rattle.units.specs.Report.{pair, clashes_of, report_of}
use Rattle.units.specs.Clashed.{Refused}
use Rattle.units.specs.declared.Declaration.{Declaration}
use Rattle.agreed.specs.Agreed.{over_64, AllAgree, exchanged, swapped, IsLine}
use Rattle.agreed.proofs.Agreement.{agreement}
use Rattle.agreed.proofs.Answers.{answers}
use Rattle.agreed.proofs.Even.{even}
use Rattle.agreed.proofs.Swapped.{order}
use Rattle.agreed.proofs.Texts.{first-line}

abbrev mixer : List ℕ
mixer = 77 ∷ 73 ∷ 88 ∷ 69 ∷ 82 ∷ 32 ∷ 32 ∷ 32 ∷ []

abbrev dosing : List ℕ
dosing = 68 ∷ 79 ∷ 83 ∷ 73 ∷ 78 ∷ 71 ∷ 32 ∷ 32 ∷ []

abbrev by : ℕ → List ℕ → ℕ → ℕ → Declaration
by u name s n = record { unit = u; name = name; start = s; length = n }

-- 64 declarations under one name, no two with one start: 2,016 clashes
abbrev all-clash : Declared
all-clash = record { count = 64; at = λ (i : ℕ). by i mixer i 1 }

pub as-many-as-may-be : length (clashes_of all-clash) ≡ 2016
unfolding declarations
as-many-as-may-be = refl

-- a block that is one word longer clashes, whichever units declare the two
pub any-two-units : (u w : ℕ) → clash_of (by u mixer 100 6) (by w mixer 100 7) ≡ true
unfolding declarations
any-two-units u w = (even (by 0 mixer 100 6) (by 0 mixer 100 7)).any_unit u w ∙ refl

-- a list of 65 is refused, whatever is declared and whatever the report
pub sixty-five : (at : ℕ → Declaration) (b : List (List ℕ)) → (report_of (record { count = 65; at = at }) b).answer ≡ Refused 10 0
sixty-five at b = (answers (record { count = 65; at = at }) b).ten.1 (over_64 (omega arith))

-- MIXER as two units have it, and DOSING right behind it
abbrev agreed : Declared
agreed = listed (by 1 mixer 100 6 ∷ by 2 mixer 100 6 ∷ by 2 dosing 106 7 ∷ [])

pub they-agree : AllAgree agreed
unfolding declarations
they-agree = (agreement agreed []).none_clash refl

-- the mixer's mistake, at the places 0 and 2; with DOSING put first, at 1 and 2; as many either way
abbrev longer : Declared
longer = listed (by 1 mixer 100 6 ∷ by 2 dosing 200 7 ∷ by 2 mixer 100 7 ∷ [])

pub at-0-and-2 : clashes_of longer ≡ pair 0 2 ∷ []
unfolding declarations
at-0-and-2 = refl

pub at-1-and-2 : clashes_of (swapped longer 0 1) ≡ pair 1 2 ∷ []
unfolding declarations exchanged
at-1-and-2 = refl

pub as_many : length (clashes_of (swapped longer 0 1)) ≡ length (clashes_of longer)
as_many = (order longer [] 0 1 (omega arith) (omega arith)).count

-- "MIXER    100 7", a line feed, and more: its first 15 bytes are its first line
abbrev text : List ℕ
text = 77 ∷ 73 ∷ 88 ∷ 69 ∷ 82 ∷ 32 ∷ 32 ∷ 32 ∷ 32 ∷ 49 ∷ 48 ∷ 48 ∷ 32 ∷ 55 ∷ 10 ∷ 109 ∷ 10 ∷ []

pub fifteen-bytes : IsLine text 15
unfolding declarations
fifteen-bytes = first-line text 100 7 15 refl
