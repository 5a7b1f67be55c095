-- What the report of clashes, its refusals and the part that is handed back are, in the words of the request. Places are counted from 0.
use Rattle.std.specs.Prelude.{ℕ, ◌+◌, ◌-◌, ◌≤◌, ◌<◌, min, max, true, false, List, [], ◌⊎◌, ◌↔◌, ◌≡◌, eqb, length, get_or, take}
use Rattle.ec20.specs.Basics.{pick}
use Rattle.units.specs.Clash.{Declared, clash_of}
use Rattle.units.specs.Report.{pair, clashes_of, judge_clashes, report_of, reported}
use Rattle.units.specs.Spelling.{line_feed, byte_in}
use Rattle.units.specs.Text.{first_line, longer_of}
use Rattle.units.specs.Clashed.{Refused, Clashes}
use Rattle.units.specs.declared.Declaration.{Declaration}
use Rattle.units.specs.Line.{Misspelt, Spelt}

-- ---- 1. "Report every clash once, by lower place, then higher"

-- entry k of a report
abbrev pub entry : List (List ℕ) → ℕ → List ℕ
entry s k = get_or s k []

-- the declarations at the places i and j, i the lower, clash
pub record Clash (v : Declared) (i j : ℕ) : Type 0 where
  pub lower : i < j
  pub below : j < v.count
  pub clash : clash_of (v.at i) (v.at j) ≡ true

-- some entry of the report is this pair of places
abbrev pub Told : Declared → ℕ → ℕ → Type 0
Told v i j = (k : ℕ) × (k < length (clashes_of v)) × (entry (clashes_of v) k ≡ pair i j)

-- pair x comes ahead of pair y: its lower place is lower, or that is the same and its higher place is lower
abbrev pub Ahead : List ℕ → List ℕ → Type 0
Ahead x y = (get_or x 0 0 < get_or y 0 0) ⊎ ((get_or x 0 0 ≡ get_or y 0 0) × (get_or x 1 0 < get_or y 1 0))

-- Of every list: the report is complete.
pub record Complete (v : Declared) : Type 0 where
  -- every clash is told
  pub told : (i j : ℕ) → Clash v i j → Told v i j
  -- and nothing else
  pub only : (k : ℕ) → k < length (clashes_of v) → (i : ℕ) × (j : ℕ) × (Clash v i j) × (entry (clashes_of v) k ≡ pair i j)
  -- by lower place, then higher
  pub ordered : (k l : ℕ) → k < l → l < length (clashes_of v) → Ahead (entry (clashes_of v) k) (entry (clashes_of v) l)
  -- once: equal entries are one entry
  pub once : (k l : ℕ) → k < length (clashes_of v) → l < length (clashes_of v) → entry (clashes_of v) k ≡ entry (clashes_of v) l → k ≡ l
  -- 2,016 pairs are room enough for the clashes of 64 declarations
  pub most : v.count ≤ 64 → length (clashes_of v) ≤ 2016

-- ---- 2. The rule of a clash

-- a declaration, made by another unit
abbrev pub by_unit : ℕ → Declaration → Declaration
by_unit u a = record { unit = u; name = a.name; start = a.start; length = a.length }

-- Of any two declarations.
pub record Even (a b : Declaration) : Type 0 where
  -- which of them is named first plays no part
  pub either_way : clash_of a b ≡ clash_of b a
  -- no declaration clashes with itself
  pub not_itself : clash_of a a ≡ false
  -- the unit's number plays no part
  pub any_unit : (u w : ℕ) → clash_of (by_unit u a) (by_unit w b) ≡ clash_of a b

-- ---- 3. "refuse only a list over 64 or an empty or out-of-range block (10), then a report under 2,016 pairs (16)"

-- an empty block, or one that is out of range
abbrev pub Wrong : Declaration → Type 0
Wrong a = (a.length ≡ 0) ⊎ (8000 < a.start + a.length)

-- 10
pub data Line10 (v : Declared) : Type 0 where
  over_64 : 64 < v.count → Line10 v
  block : (i : ℕ) → i < v.count → Wrong (v.at i) → Line10 v

abbrev pub Not10 : Declared → Type 0
Not10 v = Line10 v → ⊥

-- of a report b there is made another, with c clashes of the list as its first entries; what stands after them, and the size, are b's
pub record Filled (v : Declared) (b after : List (List ℕ)) (c : ℕ) : Type 0 where
  pub count : c ≡ length (clashes_of v)
  pub first : (k : ℕ) → k < c → entry after k ≡ entry (clashes_of v) k
  pub rest : (k : ℕ) → c ≤ k → entry after k ≡ entry b k
  pub size : length after ≡ length b

-- Of every list v and report b: each answer is given exactly when its line holds.
pub record Answers (v : Declared) (b : List (List ℕ)) : Type 0 where
  pub ten : ((report_of v b).answer ≡ Refused 10 0) ↔ Line10 v
  pub sixteen : ((report_of v b).answer ≡ Refused 16 0) ↔ (Not10 v × (length b < 2016))
  pub clashes : ((report_of v b).answer ≡ Clashes (length (clashes_of v))) ↔ (Not10 v × (2016 ≤ length b))
  -- a refused call changes nothing, and its record is 0
  pub refused : (n k : ℕ) → (report_of v b).answer ≡ Refused n k → ((report_of v b).report ≡ b) × ((n ≡ 10) ⊎ (n ≡ 16)) × (k ≡ 0)
  -- a call that is not refused has the clashes as the first entries of its report
  pub told : (c : ℕ) → (report_of v b).answer ≡ Clashes c → Filled v b (report_of v b).report c

-- ---- 4. Declarations that agree

-- the name is the same: each of its eight bytes
abbrev pub SameName : Declaration → Declaration → Type 0
SameName a b = (i : ℕ) → i < 8 → get_or a.name i 0 ≡ get_or b.name i 0

-- word i is one of the block's
pub record Holds (a : Declaration) (i : ℕ) : Type 0 where
  pub from : a.start ≤ i
  pub to : i < a.start + a.length

-- two declarations agree: under one name they have one block, under two names they have no word in common
pub record Agree (a b : Declaration) : Type 0 where
  pub one_name : SameName a b → (a.start ≡ b.start) × (a.length ≡ b.length)
  pub two_names : (SameName a b → ⊥) → (i : ℕ) → Holds a i → Holds b i → ⊥

-- any two declarations of the list agree
abbrev pub AllAgree : Declared → Type 0
AllAgree v = (i j : ℕ) → i < j → j < v.count → Agree (v.at i) (v.at j)

-- no block of the list is empty
abbrev pub NoneEmpty : Declared → Type 0
NoneEmpty v = (i : ℕ) → i < v.count → 0 < (v.at i).length

-- Of every list v and report b: no clash is told exactly if any two declarations agree. The test of an overlap is for blocks that are
-- not empty (10 refuses the others), so the first line asks that none is.
pub record Agreement (v : Declared) (b : List (List ℕ)) : Type 0 where
  pub none_told : NoneEmpty v → AllAgree v → clashes_of v ≡ []
  pub none_clash : clashes_of v ≡ [] → AllAgree v
  -- a call that is not refused then answers 0 clashes, and the report stays as it was
  pub report : Not10 v → 2016 ≤ length b → AllAgree v → report_of v b ≡ reported (Clashes 0) b

-- ---- 5. Two declarations that change places

-- the place that place i is exchanged for: q for p, p for q, any other for itself
unfoldable pub exchanged : ℕ → ℕ → ℕ → ℕ
exchanged p q i = pick (eqb i p) q (pick (eqb i q) p i)

-- the list with the declarations at p and q exchanged
abbrev pub swapped : Declared → ℕ → ℕ → Declared
swapped v p q = record { count = v.count; at = λ (i : ℕ). v.at (exchanged p q i) }

-- the clash of two places is told, under the lower and the higher of them
abbrev pub ToldOf : Declared → ℕ → ℕ → Type 0
ToldOf v i j = Told v (min i j) (max i j)

-- Of every list v, report b and places p and q of the list: the order of the declarations changes neither what is refused, nor which of them clash, nor
-- how many clashes there are.
pub record Swapped (v : Declared) (b : List (List ℕ)) (p q : ℕ) : Type 0 where
  -- the list is refused by the same number, or not refused
  pub refusal : judge_clashes (swapped v p q) b ≡ judge_clashes v b
  -- the clash of two places is told exactly if that of the places where their declarations stood was told of the list before
  pub clash : (i j : ℕ) → i < v.count → j < v.count → (i ≡ j → ⊥) → ToldOf (swapped v p q) i j ↔ ToldOf v (exchanged p q i) (exchanged p q j)
  -- there are as many clashes
  pub count : length (clashes_of (swapped v p q)) ≡ length (clashes_of v)

-- ---- 6. "hand back the part of whichever holds the longer block: its first line, the first text's if equal, nothing if either is misspelt"

-- the first e bytes of a text are its first line: the last of them is a line feed, and none before it is
pub record IsLine (s : List ℕ) (e : ℕ) : Type 0 where
  pub some : 0 < e
  pub inside : e ≤ length s
  pub ends : byte_in s (e - 1) ≡ line_feed
  pub no_other : (i : ℕ) → i + 1 < e → byte_in s i ≡ line_feed → ⊥

-- Of any two texts a and b. A declaration text that is well spelt has a start, a length and the place behind its line feed.
pub record HandedBack (a b : List ℕ) : Type 0 where
  -- the second's is longer
  pub second : (s m e t n f : ℕ) → first_line a ≡ Spelt s m e → first_line b ≡ Spelt t n f → m < n → longer_of a b ≡ take f b
  -- the first's is longer, or they are equal
  pub first : (s m e t n f : ℕ) → first_line a ≡ Spelt s m e → first_line b ≡ Spelt t n f → n ≤ m → longer_of a b ≡ take e a
  pub misspelt : (first_line a ≡ Misspelt) ⊎ (first_line b ≡ Misspelt) → longer_of a b ≡ []

-- Of every text: the part that is handed back of one that is well spelt is its first line.
abbrev pub FirstLine : List ℕ → Type 0
FirstLine a = (s m e : ℕ) → first_line a ≡ Spelt s m e → IsLine a e
