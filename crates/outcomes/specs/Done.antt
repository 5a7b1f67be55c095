-- What a word instruction with flow does: the error it ends in, and what it stores.
use Rattle.std.specs.Prelude.{ℕ, ◌+◌, ◌<◌, ◌≤◌, List, ◌⊎◌, ◌≡◌, true, eqb, length}
use Rattle.ec20.specs.Basics.{pick}
use Rattle.ec20.specs.Code.{no_operand}
use Rattle.ec20.specs.File.{operand_at}
use Rattle.ec20.specs.Memory.{Memory}
use Rattle.ec20.specs.Mnemonics.{DIV, DDIV}
use Rattle.ec20.specs.Numbers.{half}
use Rattle.ec20.specs.Step.{width_of, outcome_of}
use Rattle.ec20.specs.Table.{row_of}
use Rattle.ec20.specs.Forms.{form_is, is_word_form, form_three, form_two}
use Rattle.ec20.specs.Words.{store_all}
use Rattle.ec20.specs.declared.Operand.{Operand}

-- the record at byte i is a word instruction of w bits: its number n is in the table, which says so
pub record WordAt (w n i : ℕ) (f : List ℕ) : Type 0 where
  pub known : n < 56
  pub form : is_word_form (row_of n).form ≡ true
  pub width : width_of n ≡ w
  pub near : i < 50000
  pub room : i + 20 ≤ length f

-- number n is DIV or DDIV, and h is one more than the largest number of w bits
pub record Divides (n w h : ℕ) : Type 0 where
  pub number : (n ≡ DIV) ⊎ (n ≡ DDIV)
  pub by : h ≡ half w

-- the second source of the record at byte i: none, but where the table has two
abbrev pub second_of : List ℕ → ℕ → ℕ → Operand
second_of f n i = pick (form_is (row_of n).form form_three) (operand_at f (i + 8)) no_operand

-- its target: the third operand, the second, or the first, which is also read
abbrev pub target_of : List ℕ → ℕ → ℕ → Operand
target_of f n i =
    operand_at f (pick (form_is (row_of n).form form_three) (i + 14) (pick (form_is (row_of n).form form_two) (i + 8) (i + 2)))

-- the error of the outcome, 0 if there is none; "One that ends in error changes nothing"
pub record Done (n : ℕ) (a b t : Operand) (c : Memory) (q : ℕ) (after : Memory) : Type 0 where
  pub error : q ≡ (outcome_of n a b c).error
  pub stored : after ≡ pick (eqb q 0) (store_all (width_of n) t (outcome_of n a b c) c) c
