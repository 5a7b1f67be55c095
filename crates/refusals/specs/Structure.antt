-- 6: "NEXT with no FOR open, ninth open FOR, END not last; last record not END or a FOR open there".
use Rattle.std.specs.Prelude.{ℕ, zero, suc, ◌+◌, ◌<◌, ◌≤◌, ◌≡◌}
use Rattle.ec20.specs.declared.Instr.TheVariants.{For, Next, End}
use Rattle.ec20.specs.Code.{Program}
use Rattle.ec20.specs.Control.{Controls, controls_of, open_after}
use Rattle.ec20.specs.Devices.{deepest}

-- how many loops are open before record k, in record order
unfoldable pub open_at : Controls → ℕ → ℕ
open_at code zero = 0
open_at code (suc k) = open_after (code k) (open_at code k)

abbrev pub depth_at : Program → ℕ → ℕ
depth_at p k = open_at (controls_of p) k

pub data Line6 (p : Program) (k : ℕ) : Type 0 where
  -- "NEXT with no FOR open"
  stray_next : p.code k ≡ Next → depth_at p k ≡ 0 → Line6 p k
  -- "ninth open FOR": as many as may be are open before it
  ninth_for : {c : ℕ} → p.code k ≡ For c → deepest ≤ depth_at p k → Line6 p k
  -- "END not last"
  early_end : p.code k ≡ End → k + 1 < p.count → Line6 p k
  -- "last record not END"
  last_not_end : k + 1 ≡ p.count → (p.code k ≡ End → ⊥) → Line6 p k
  -- "or a FOR open there"
  for_open_there : k + 1 ≡ p.count → 0 < depth_at p k → Line6 p k
