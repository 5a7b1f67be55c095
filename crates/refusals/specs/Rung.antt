-- 5: "rung rule broken".
use Rattle.std.specs.Prelude.{ℕ, zero, suc, false}
use Rattle.ec20.specs.declared.Rung.{Rung}
use Rattle.ec20.specs.Code.{Program}
use Rattle.ec20.specs.Rung.{rung, start_rung, after_record}
use Rattle.refusals.specs.Keeps.{number_of, Keeps, Goes_on}

-- flow and stacks before record k are s: "judged in record order, jumps ignored"
pub data Before (p : Program) : ℕ → Rung → Type 0 where
  -- "A scan, and the check, start with flow absent and both empty."
  at_start : Before p zero (rung false false 0 0)
  after : {k : ℕ} {s t : Rung} → Before p k s → Goes_on (number_of (p.code k)) s t → Before p (suc k) t

-- 5: record k does not keep the rule
pub data Line5 (p : Program) (k : ℕ) : Type 0 where
  broken : {s : Rung} → Before p k s → (Keeps (number_of (p.code k)) s → ⊥) → Line5 p k

-- flow and stacks before record k, computed
unfoldable pub rung_at : Program → ℕ → Rung
rung_at p zero = start_rung
rung_at p (suc k) = after_record (p.code k) (rung_at p k)
