-- "Records by their instruction's name."
use Rattle.std.specs.Prelude.{ℕ, List, [], ◌∷◌, slice_index_or, codes}

-- the names of the numbers 0 to 23, of those on 16 bits (32 to 40) and of those on 32 bits (48 to 55); no letter for what is none
abbrev pub names : List (List ℕ)
names =
    codes "NOP" ∷ codes "LD" ∷ codes "LDI" ∷ codes "AND" ∷ codes "ANI" ∷ codes "OR" ∷ codes "ORI" ∷ codes "ANB" ∷ codes "ORB" ∷ codes "MPS" ∷ codes "MRD" ∷ codes "MPP" ∷ codes "OUT" ∷ codes "SET" ∷ codes "RST" ∷ codes "LD=" ∷ codes "LD>" ∷ codes "LD<" ∷ codes "TON" ∷ codes "FOR" ∷ codes "NEXT" ∷ codes "CJ" ∷ codes "LBL" ∷ codes "END" ∷
    [] ∷ [] ∷ [] ∷ [] ∷ [] ∷ [] ∷ [] ∷ [] ∷
    codes "MOV" ∷ codes "ADD" ∷ codes "SUB" ∷ codes "DIV" ∷ codes "SQT" ∷ codes "INC" ∷ codes "DEC" ∷ codes "VABS" ∷ codes "NEG" ∷
    [] ∷ [] ∷ [] ∷ [] ∷ [] ∷ [] ∷ [] ∷
    codes "DMOV" ∷ codes "DADD" ∷ codes "DSUB" ∷ codes "DMUL" ∷ codes "DDIV" ∷ codes "DSQT" ∷ codes "DINC" ∷ codes "DDEC" ∷ []

-- "The name of an instruction, by its number": no letter past the last
unfoldable pub name_of : ℕ → List ℕ
name_of n = slice_index_or names n []
