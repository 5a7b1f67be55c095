-- What the check sees of a program, past its operands: renamed, it is the same. The rung rule, loops, labels and W go by instructions and not by
-- D numbers.
use Prim.Native.Nat.{ℕ, zero, suc}
use mathlib.Core.Path.{◌≡◌, refl, ap, ap₂}
use Rattle.std.specs.Prelude.{Err}
use Rattle.ec20.specs.Basics.{then}
use Rattle.ec20.specs.declared.Instr.{Instr}
use Rattle.ec20.specs.declared.Instr.TheVariants.{Nop, Contact, Compare, Join, Branch, Coil, Timer, For, Next, Jump, Label, End, Word}
use Rattle.ec20.specs.Judged.{Judged}
use Rattle.ec20.specs.Judged.{Fine}
use Rattle.ec20.specs.declared.Rung.{Rung}
use Rattle.ec20.specs.Verdict.{Accepted}
use Rattle.ec20.specs.Check.{judge_program, verdict_of}
use Rattle.ec20.specs.Code.{Program}
use Rattle.ec20.specs.Control.{Controls}
use Rattle.ec20.specs.Labels.{first_unlabelled}
use Rattle.ec20.specs.Loops.{first_unsound, w_in, too_long}
use Rattle.ec20.specs.Rung.{start_rung, keeps, after_record, broken_from}
use Rattle.moving.specs.Rename.{rename_instr, rename_program}
use Rattle.moving.proofs.Exec.{controls-same}

module _ (σ : ℕ → ℕ) where
  -- ---- an instruction

  same-keeps : (i : Instr) (s : Rung) → keeps (rename_instr σ i) s ≡ keeps i s
  unfolding rename_instr keeps
  same-keeps Nop s = refl
  same-keeps (Contact n o) s = refl
  same-keeps (Compare n a b) s = refl
  same-keeps (Join n) s = refl
  same-keeps (Branch n) s = refl
  same-keeps (Coil n o) s = refl
  same-keeps (Timer i c) s = refl
  same-keeps (For c) s = refl
  same-keeps Next s = refl
  same-keeps (Jump l) s = refl
  same-keeps (Label l) s = refl
  same-keeps End s = refl
  same-keeps (Word n a b t) s = refl

  same_after : (i : Instr) (s : Rung) → after_record (rename_instr σ i) s ≡ after_record i s
  unfolding rename_instr after_record
  same_after Nop s = refl
  same_after (Contact n o) s = refl
  same_after (Compare n a b) s = refl
  same_after (Join n) s = refl
  same_after (Branch n) s = refl
  same_after (Coil n o) s = refl
  same_after (Timer i c) s = refl
  same_after (For c) s = refl
  same_after Next s = refl
  same_after (Jump l) s = refl
  same_after (Label l) s = refl
  same_after End s = refl
  same_after (Word n a b t) s = refl

  -- ---- a program

  same-rungs : (code : ℕ → Instr) (s : Rung) (k n : ℕ) → broken_from (λ j. rename_instr σ (code j)) s k n ≡ broken_from code s k n
  unfolding broken_from
  same-rungs code s k zero = refl
  same-rungs code s k (suc n) = rw (same-keeps (code k) s, same_after (code k) s, same-rungs code (after_record (code k) s) (suc k) n)

  module _ (p : Program) where
    -- 6, 7 and 8 see the controls alone
    abbrev structure : Controls → Judged
    structure c = then (first_unsound c p.count) (then (first_unlabelled c p.count) (too_long (w_in c p.count)))

    pub same-judged : judge_program (rename_program σ p) ≡ judge_program p
    unfolding judge_program
    same-judged =
        ap₂ (λ (a : Judged) (c : Controls). then a (structure c)) (same-rungs p.code start_rung 0 p.count) (controls-same σ p)

    pub same-verdict : (j : Judged) → verdict_of (rename_program σ p) j ≡ verdict_of p j
    same-verdict Fine = ap (λ (c : Controls). Accepted p.count (w_in c p.count)) (controls-same σ p)
    same-verdict (Err r) = refl
