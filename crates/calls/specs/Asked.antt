-- "Which command a call asks for."
use Rattle.std.specs.Prelude.{ℕ, Bool, false, cond, ◌&&◌, ◌||◌, List, [], ◌∷◌, ◌==◌, slice_index_or, Option, Some, None}
use Rattle.calls.specs.declared.names.Command.TheVariants.{Check, Map, Move, Exchange, Scan, Trial, Demo, Answer, Slave, Clashes, Longer, Job, Picture}
use Rattle.calls.specs.declared.names.Command.{Command}
use Rattle.calls.specs.Text.{word_of, count_of, same_word, which_of}

-- The names, each ended by a zero byte: check, map, move, exchange, scan, trial, demo, answer, slave, clashes, longer, job.
unfoldable pub names : List ℕ
names =
    99 ∷ 104 ∷ 101 ∷ 99 ∷ 107 ∷ 0 ∷
    109 ∷ 97 ∷ 112 ∷ 0 ∷
    109 ∷ 111 ∷ 118 ∷ 101 ∷ 0 ∷
    101 ∷ 120 ∷ 99 ∷ 104 ∷ 97 ∷ 110 ∷ 103 ∷ 101 ∷ 0 ∷
    115 ∷ 99 ∷ 97 ∷ 110 ∷ 0 ∷
    116 ∷ 114 ∷ 105 ∷ 97 ∷ 108 ∷ 0 ∷
    100 ∷ 101 ∷ 109 ∷ 111 ∷ 0 ∷
    97 ∷ 110 ∷ 115 ∷ 119 ∷ 101 ∷ 114 ∷ 0 ∷
    115 ∷ 108 ∷ 97 ∷ 118 ∷ 101 ∷ 0 ∷
    99 ∷ 108 ∷ 97 ∷ 115 ∷ 104 ∷ 101 ∷ 115 ∷ 0 ∷
    108 ∷ 111 ∷ 110 ∷ 103 ∷ 101 ∷ 114 ∷ 0 ∷
    106 ∷ 111 ∷ 98 ∷ 0 ∷ []

-- the place of a command among them; 12 for none, and 13 for a map as a picture
abbrev pub number_of_command : Option Command → ℕ
number_of_command None = 12
number_of_command (Some Check) = 0
number_of_command (Some Map) = 1
number_of_command (Some Move) = 2
number_of_command (Some Exchange) = 3
number_of_command (Some Scan) = 4
number_of_command (Some Trial) = 5
number_of_command (Some Demo) = 6
number_of_command (Some Answer) = 7
number_of_command (Some Slave) = 8
number_of_command (Some Clashes) = 9
number_of_command (Some Longer) = 10
number_of_command (Some Job) = 11
number_of_command (Some Picture) = 13

-- --picture
unfoldable pub picture : List ℕ
picture = 45 ∷ 45 ∷ 112 ∷ 105 ∷ 99 ∷ 116 ∷ 117 ∷ 114 ∷ 101 ∷ []

-- how many words a call of each command has, itself counted, in the order of the names
abbrev pub counts : ℕ → List Bool
counts n =
    (n == 2) ∷ (n == 2) ∷ (n == 6) ∷ (n == 5) ∷ (n == 4 || n == 5) ∷ (n == 8) ∷ (n == 4) ∷ (n == 4) ∷ (n == 9) ∷ (n == 2 || n == 3) ∷ (n == 3) ∷ (n == 3 || n == 4) ∷ []

-- "Whether a call of so many words is one of the command."
unfoldable pub fits_of : ℕ → ℕ → Bool
fits_of k n = slice_index_or (counts n) k false

-- a map as a picture, 13: "map --picture" and one word more
unfoldable pub is_picture : List ℕ → ℕ → ℕ → Bool
is_picture s k n = k == 1 && n == 3 && same_word (word_of s 1) picture

-- by the name's place, and how many words there are; 12 for what is no command
unfoldable pub command_by : List ℕ → ℕ → ℕ → ℕ
command_by s k n = cond (fits_of k n) k (cond (is_picture s k n) 13 12)

-- "The command of a call, by its first word and how many there are."
unfoldable pub command_of : List ℕ → ℕ
command_of s = command_by s (which_of (word_of s 0) names 12) (count_of s)

-- salvage
unfoldable pub salvage_word : List ℕ
salvage_word = 115 ∷ 97 ∷ 108 ∷ 118 ∷ 97 ∷ 103 ∷ 101 ∷ []

-- whether it is a call of salvage: its name and two words more
unfoldable pub is_salvage : List ℕ → Bool
is_salvage s = same_word (word_of s 0) salvage_word && count_of s == 3
