-- A source reads on the exchanged table, renamed, what it reads on the table.
use Prim.Native.Nat.{ℕ, ◌+◌}
use mathlib.Core.Path.{◌≡◌, sym, ap, ◌∙◌}
use native.Mathlib.Omega.{arith}
use lib.ListN.{length}
use Rattle.ec20.specs.declared.Operand.{Operand}
use Rattle.ec20.specs.Operands.{start_of}
use Rattle.ec20.specs.Registers.{number_at}
use Rattle.ec20.specs.Memory.{Memory, load_of}
use Rattle.ec20.specs.Exchange.{exchange_by}
use Rattle.moving.specs.Rename.{Swap, rename_operand, ex_memory, Along, words_of}
use Rattle.moving.proofs.Numbers.{number_read}
use Rattle.moving.proofs.Operand.{in-or-not, rename-other, rename-in, rename-start, load-D, load-other}

-- LOAD: a source whose words go along reads, renamed, on the exchanged table what it reads on the table, for every width
pub load-sim : (σ : ℕ → ℕ) (w : ℕ) (o : Operand) (c : Memory) → Along σ (words_of w) o → Swap σ (length c.d)
    → load_of w (rename_operand σ o) (ex_memory σ c) ≡ load_of w o c
unfolding Along
load-sim σ w o c a h =
    in-or-not o
    (λ e.
    load-D w (rename_operand σ o) (ex_memory σ c) (rename-in σ o ∙ e)
    ∙ ap (number_at w (exchange_by σ c.d)) (rename-start σ o e)
    ∙ number_read σ c.d h (start_of o) w (a e)
    ∙ sym (load-D w o c e))
    (λ e. ap (λ (q : Operand). load_of w q (ex_memory σ c)) (rename-other σ o e) ∙ load-other w o c (exchange_by σ c.d) e)

-- one word goes along with itself
pub along_one : (σ : ℕ → ℕ) (o : Operand) → Along σ 1 o
unfolding Along
along_one σ o e j l =
    let z : j ≡ 0 = omega arith in
    let a : start_of o + j ≡ start_of o = omega arith in
    ap σ a ∙ let b : σ (start_of o) ≡ σ (start_of o) + j = omega arith in b
