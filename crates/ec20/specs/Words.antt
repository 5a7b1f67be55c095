-- The word instructions, as a function of values: what is stored, which flags, which error. h gives the width (specs/Numbers.antt).
use Rattle.std.specs.Prelude.{ℕ, ◌*◌, Bool, false, not, ◌||◌, List, eqb, ℤ, pos, neg_ℤ, nat_abs, ◌+ℤ◌, ◌-ℤ◌, ◌*ℤ◌}
use Rattle.std.specs.Int.Signed.{lt_z, quot_z, rem_z}
use Rattle.ec20.specs.declared.Outcome.{Outcome}
use Rattle.ec20.specs.declared.Operand.{Operand}
use Rattle.ec20.specs.Basics.{pick, one_if}
use Rattle.ec20.specs.Numbers.{wrap, is_zero, is_above, is_below, is_lowest, root_of}
use Rattle.ec20.specs.Mnemonics.{ADD, SUB, DIV, SQT, INC, DEC, VABS, NEG, DADD, DSUB, DMUL, DDIV, DSQT, DINC, DDEC}
use Rattle.ec20.specs.Bits.{with_bit}
use Rattle.ec20.specs.Memory.{Memory, with_sm, store_of, following}

-- one value and no flags; two values and no flags; an error
abbrev pub value : ℤ → Outcome
value z = record { error = 0; value = z; second = pos 0; two = 0; flags = 0; zero = 0; above = 0; below = 0 }

abbrev pub values : ℤ → ℤ → Outcome
values z y = record { error = 0; value = z; second = y; two = 1; flags = 0; zero = 0; above = 0; below = 0 }

abbrev pub failure : ℕ → Outcome
failure e = record { error = e; value = pos 0; second = pos 0; two = 0; flags = 0; zero = 0; above = 0; below = 0 }

-- one value with its three flags
abbrev pub flagged : ℤ → Bool → Bool → Bool → Outcome
flagged z zero above below =
    record { error = 0; value = z; second = pos 0; two = 0; flags = 1; zero = one_if zero; above = one_if above; below = one_if below }

-- "SM180 on exactly if the exact result is 0, SM181 if it is above the width's range, SM182 if below. The low 16 or 32 bits are stored."
unfoldable pub sum_of : ℕ → ℤ → Outcome
sum_of h z = flagged (wrap h z) (is_zero z) (is_above h z) (is_below h z)

-- "Quotient rounded toward zero, remainder with the dividend's sign (ours). Lowest number by -1: lowest number, remainder 0 (ours). Zero
-- divisor: error 1, not executed."
unfoldable pub div_of : ℕ → ℤ → ℤ → Outcome
div_of h a b = pick (is_zero b) (failure 1) (values (wrap h (quot_z a b)) (rem_z a b))

-- "the largest whole root; SM180 on exactly if it is 0, SM182 exactly if a fraction was dropped, SM181 off"
abbrev pub rooted : ℕ → ℕ → Outcome
rooted n r = flagged (pos r) (eqb r 0) false (not (eqb (r * r) n))

-- "Negative source: error 2, not executed."
unfoldable pub sqt_of : ℤ → Outcome
sqt_of a = pick (lt_z a (pos 0)) (failure 2) (rooted (nat_abs a) (root_of (nat_abs a)))

-- "VABS, NEG of -32768: error 2, not executed."
unfoldable pub vabs_of : ℕ → ℤ → Outcome
vabs_of h a = pick (is_lowest h a) (failure 2) (value (pos (nat_abs a)))

unfoldable pub neg_of : ℕ → ℤ → Outcome
neg_of h a = pick (is_lowest h a) (failure 2) (value (neg_ℤ a))

-- n is a or b
abbrev pub is : ℕ → ℕ → ℕ → Bool
is n a b = eqb n a || eqb n b

-- What instruction n comes to, of its sources a and b. "INC, DEC, DINC, DDEC wrap." "DMUL stores the low 32 bits." "Only ADD, SUB, DADD, DSUB,
-- SQT and DSQT touch flags (ours)." The last line is MOV and DMOV: the source.
unfoldable pub compute_of : ℕ → ℕ → ℤ → ℤ → Outcome
compute_of n h a b =
    pick (is n ADD DADD) (sum_of h (a +ℤ b))
    (pick (is n SUB DSUB) (sum_of h (a -ℤ b))
    (pick (is n DIV DDIV) (div_of h a b)
    (pick (is n SQT DSQT) (sqt_of a)
    (pick (is n INC DINC) (value (wrap h (a +ℤ pos 1)))
    (pick (is n DEC DDEC) (value (wrap h (a -ℤ pos 1)))
    (pick (eqb n VABS) (vabs_of h a)
    (pick (eqb n NEG) (neg_of h a)
    (pick (eqb n DMUL) (value (wrap h (a *ℤ b)))
    (value a)))))))))

-- SM180, SM181, SM182
unfoldable pub with_flags : Outcome → List ℕ → List ℕ
with_flags r sm = with_bit (with_bit (with_bit sm 180 r.zero) 181 r.above) 182 r.below

-- an outcome that is no error, stored in the target: the value, the second value after it, the flags
unfoldable pub store_all : ℕ → Operand → Outcome → Memory → Memory
store_all w t r c =
    let c1 = store_of w t r.value c in
    let c2 = pick (eqb r.two 1) (store_of w (following w t) r.second c1) c1 in
    pick (eqb r.flags 1) (with_sm c2 (with_flags r c2.sm)) c2
