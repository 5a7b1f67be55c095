-- Both lengths are tested, and then the bytes. Assumes nothing.
use Rattle.std.proofs.Common.{sym, refl, arith}
use Rattle.ec20.proofs.Tests.{differ}
use Rattle.beginnings.proofs.ChangeLaws.{unlike, alike}
use Rattle.beginnings.proofs.changes.differs.Goals as goal

pub returns-then-i-new : goal.returns-then-i-new
returns-then-i-new c = (λ e. record { one = omega arith; two = omega arith; apart = unlike _ _ _ refl e }, λ e _ _. alike _ _ _ refl e)

pub returns-else-i-new : goal.returns-else-i-new
returns-else-i-new c = (λ e. differ (sym e), λ _ _ h. absurd (omega (arith, h)))

pub returns-else-i-old : goal.returns-else-i-old
returns-else-i-old c = (λ e. differ (sym e), λ _ h _. absurd (omega (arith, h)))
