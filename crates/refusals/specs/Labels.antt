-- 7: "label set twice (the later LBL), or CJ whose label (its first LBL) doesn't stand where it must".
use Rattle.std.specs.Prelude.{ℕ, ◌<◌, ◌≡◌}
use Rattle.ec20.specs.declared.Instr.TheVariants.{Jump, Label}
use Rattle.ec20.specs.Code.{Program}
use Rattle.ec20.specs.Control.{controls_of}
use Rattle.ec20.specs.Labels.{Stands}

pub data Line7 (p : Program) (k : ℕ) : Type 0 where
  -- "label set twice (the later LBL)": an LBL whose label an earlier LBL sets
  set_twice : {l j : ℕ} → p.code k ≡ Label l → j < k → p.code j ≡ Label l → Line7 p k
  -- "CJ whose label (its first LBL) doesn't stand where it must": at no record t does it stand "later and directly in the same loop body"
  astray : {l : ℕ} → p.code k ≡ Jump l → ((t : ℕ) → Stands (controls_of p) p.count k l t → ⊥) → Line7 p k
