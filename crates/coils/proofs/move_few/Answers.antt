-- Three parts of the byte. Assumes nothing.
use mathlib.Core.Path.{◌≡◌, ap, ◌∙◌}
use Prim.Native.Nat.{ℕ, ◌+◌, ◌*◌, ◌-◌, ◌/◌, ◌%◌, ◌^◌, ◌<◌}
use native.Mathlib.Omega.{arith}
use lib.Bits.{bit_and}
use lib.ListN.{get_or, set}
use Rattle.ec20.specs.Bits.{spread}
use Rattle.bits.proofs.Bytes.{with_run}
use Rattle.coils.proofs.Shifts.{run-code, run-lt}
use Rattle.coils.proofs.Steps.{few-moved}
use Rattle.coils.proofs.move_few.Goals as goal

-- the byte as it becomes, and that it is one
byte : (c : goal.After-slice_known-2-1) → let a = c.args in let x = get_or a.to.now (a.at / 8) 0 in let v = c.few-v.result in ((x / 2 ^ (a.at % 8 + a.n) * 2 ^ (a.at % 8 + a.n)) % 65536 + (v * 2 ^ (a.at % 8)) % 65536 + bit_and x ((1 * 2 ^ (a.at % 8)) % 65536 - 1) ≡ with_run x (a.at % 8) a.n v) × (with_run x (a.at % 8) a.n v < 256)
byte c =
    let a = c.args in
    let x : ℕ = get_or a.to.now (a.at / 8) 0 in
    let h : x < 256 = omega arith in
    let l : c.few-v.result < 2 ^ a.n = c.few-v.ensures.1 in
    (run-code x (a.at % 8) a.n _ h c.requires.0 l, run-lt x (a.at % 8) a.n _ h c.requires.0 l)

pub overflow_cast-to-5 : goal.overflow_cast-to-5
overflow_cast-to-5 c = let b = byte c in rw b.0 (record { fits = b.1 })

pub returns : goal.returns
returns c =
    let a = c.args in
    let e = c.few-v.ensures in
    ap (set a.to.now (a.at / 8)) (byte c).0
    ∙ few-moved a.to.now a.at a.n c.few-v.result (omega arith) c.requires.0 e.1
    ∙ ap (spread a.to.now a.at a.n) e.0
