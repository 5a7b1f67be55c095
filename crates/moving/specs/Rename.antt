-- D numbers renamed by σ: in an operand, a record, an instruction, a program; and the D table exchanged by it. Of the move σ is `swapped`.
use Rattle.std.specs.Prelude.{ℕ, ◌+◌, ◌*◌, ◌/◌, ◌<◌, true, ◌≡◌}
use Rattle.ec20.specs.declared.Operand.{Operand}
use Rattle.ec20.specs.declared.Rec.{Rec}
use Rattle.ec20.specs.declared.Instr.{Instr}
use Rattle.ec20.specs.declared.Instr.TheVariants.{Nop, Contact, Compare, Join, Branch, Coil, Timer, For, Next, Jump, Label, End, Word}
use Rattle.ec20.specs.Basics.{pick}
use Rattle.ec20.specs.Numbers.{bits_in}
use Rattle.ec20.specs.Operands.{in_d, start_of}
use Rattle.ec20.specs.Code.{Program}
use Rattle.ec20.specs.Exchange.{exchange_by}
use Rattle.ec20.specs.Memory.{Memory, with_d}
use Rattle.ec20.specs.Mnemonics.{DIV, DDIV}
use Rattle.ec20.specs.Words.{is}
use Rattle.ec20.specs.Step.{World, world, width_of}
use Rattle.ec20.specs.Plant.{Plant, plant}
use Rattle.ec20.specs.Scan.{Ran, ran, Scan, scan}

-- a renaming that is its own inverse, and keeps the numbers below n below n
pub record Swap (σ : ℕ → ℕ) (n : ℕ) : Type 0 where
  pub twice : (i : ℕ) → σ (σ i) ≡ i
  pub stays : (i : ℕ) → i < n → σ i < n

-- an operand with its number renamed, if it is in D
unfoldable pub rename_operand : (ℕ → ℕ) → Operand → Operand
rename_operand σ o = pick (in_d o) (record { kind = o.kind; group = o.group; value = σ (start_of o) }) o

unfoldable pub rename_rec : (ℕ → ℕ) → Rec → Rec
rename_rec σ r =
    record { number = r.number; spare = r.spare; first = rename_operand σ r.first; second = rename_operand σ r.second; third = rename_operand σ r.third }

-- an instruction with its D numbers renamed: sources and targets of comparisons and word instructions; what names a bit, a timer, a label or a count stays
unfoldable pub rename_instr : (ℕ → ℕ) → Instr → Instr
rename_instr σ Nop = Nop
rename_instr σ (Contact n o) = Contact n o
rename_instr σ (Compare n a b) = Compare n (rename_operand σ a) (rename_operand σ b)
rename_instr σ (Join n) = Join n
rename_instr σ (Branch n) = Branch n
rename_instr σ (Coil n o) = Coil n o
rename_instr σ (Timer i c) = Timer i c
rename_instr σ (For c) = For c
rename_instr σ Next = Next
rename_instr σ (Jump l) = Jump l
rename_instr σ (Label l) = Label l
rename_instr σ End = End
rename_instr σ (Word n a b t) = Word n (rename_operand σ a) (rename_operand σ b) (rename_operand σ t)

abbrev pub rename_program : (ℕ → ℕ) → Program → Program
rename_program σ p = record { edition = p.edition; count = p.count; code = λ k. rename_instr σ (p.code k) }

-- the memory with its D table exchanged, and all else as it is
abbrev pub ex_memory : (ℕ → ℕ) → Memory → Memory
ex_memory σ c = with_d c (exchange_by σ c.d)

abbrev pub ex_world : (ℕ → ℕ) → World → World
ex_world σ w = world (ex_memory σ w.mem) w.loops w.st

abbrev pub ex_ran : (ℕ → ℕ) → Ran → Ran
ex_ran σ r = ran r.answer (ex_memory σ r.mem)

-- the leftovers are not exchanged
abbrev pub ex_plant : (ℕ → ℕ) → Plant → Plant
ex_plant σ q = plant (ex_memory σ q.mem) q.rest

abbrev pub ex_scan : (ℕ → ℕ) → Scan → Scan
ex_scan σ s = scan s.answer (ex_plant σ s.plant)

-- if the operand is in D, the e words from its first on go along: each is renamed to as many on from the renamed first
unfoldable pub Along : (ℕ → ℕ) → ℕ → Operand → Type 0
Along σ e o = in_d o ≡ true → (j : ℕ) → j < e → σ (start_of o + j) ≡ σ (start_of o) + j

-- the D words of one number of w bits
abbrev pub words_of : ℕ → ℕ
words_of w = bits_in w / 16

-- the D words that word instruction n writes: DIV and DDIV two numbers, the others one
abbrev pub written_by : ℕ → ℕ
written_by n = pick (is n DIV DDIV) (2 * words_of (width_of n)) (words_of (width_of n))

-- each extent of the instruction goes along whole
unfoldable pub Whole : (ℕ → ℕ) → Instr → Type 0
Whole σ Nop = Unit
Whole σ (Contact n o) = Unit
Whole σ (Compare n a b) = Unit
Whole σ (Join n) = Unit
Whole σ (Branch n) = Unit
Whole σ (Coil n o) = Unit
Whole σ (Timer i c) = Unit
Whole σ (For c) = Unit
Whole σ Next = Unit
Whole σ (Jump l) = Unit
Whole σ (Label l) = Unit
Whole σ End = Unit
Whole σ (Word n a b t) = Along σ (words_of (width_of n)) a × Along σ (words_of (width_of n)) b × Along σ (written_by n) t
