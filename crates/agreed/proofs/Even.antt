-- THE RULE OF A CLASH: even. Its statement is in specs/Agreed.antt. Assumes nothing.
use Prim.Native.Nat.{ℕ, zero, suc, ◌+◌}
use mathlib.Core.Bool.{Bool, true, false, not, ◌&&◌}
use mathlib.Core.List.{List}
use mathlib.Core.Path.{◌≡◌, refl, sym, ap, ap₂, ◌∙◌}
use native.Mathlib.Decide.{ℕ_discrete}
use lib.Dec.{ltb, eqb}
use lib.ListN.{get_or}
use borrow.Author.Tests.{eq-eqb, ne_eqb}
use Rattle.ec20.specs.Basics.{pick}
use Rattle.ec20.specs.Devices.{meets}
use Rattle.units.specs.Clash.{same_to, same_name, other_block, overlap, clash_of}
use Rattle.units.specs.declared.Declaration.{Declaration}
use Rattle.agreed.specs.Agreed.{by_unit, Even}

and_comm : (a b : Bool) → a && b ≡ b && a
and_comm true true = refl
and_comm true false = refl
and_comm false true = refl
and_comm false false = refl

eqb_comm : (a b : ℕ) → eqb a b ≡ eqb b a
eqb_comm a b =
    elim (ℕ_discrete a b) [
      | yes e ↦ eq-eqb a b e ∙ sym (eq-eqb b a (sym e))
      | no e ↦ ne_eqb a b e ∙ sym (ne_eqb b a (λ d. e (sym d)))
    ]

same-comm : (n : ℕ) (a b : List ℕ) → same_to n a b ≡ same_to n b a
unfolding same_to
same-comm zero a b = refl
same-comm (suc n) a b = ap₂ ◌&&◌ (same-comm n a b) (eqb_comm (get_or a n 0) (get_or b n 0))

same_self : (n : ℕ) (a : List ℕ) → same_to n a a ≡ true
unfolding same_to
same_self zero a = refl
same_self (suc n) a = ap₂ ◌&&◌ (same_self n a) (eq-eqb (get_or a n 0) (get_or a n 0) refl)

pub clash-comm : (a b : Declaration) → clash_of a b ≡ clash_of b a
unfolding clash_of meets
clash-comm a b =
    let n : same_name a b ≡ same_name b a = same-comm 8 a.name b.name in
    let o : other_block a b ≡ other_block b a = ap not (ap₂ ◌&&◌ (eqb_comm a.start b.start) (eqb_comm a.length b.length)) in
    let m : overlap a b ≡ overlap b a = and_comm (ltb a.start (b.start + b.length)) (ltb b.start (a.start + a.length)) in
    ap (λ (t : Bool). pick t (other_block a b) (overlap a b)) n ∙ ap₂ (λ (x y : Bool). pick (same_name b a) x y) o m

not_itself : (a : Declaration) → clash_of a a ≡ false
unfolding clash_of
not_itself a = rw (same_self 8 a.name, eq-eqb a.start a.start refl, eq-eqb a.length a.length refl) refl

any_unit : (a b : Declaration) (u w : ℕ) → clash_of (by_unit u a) (by_unit w b) ≡ clash_of a b
unfolding clash_of
any_unit a b u w = refl

pub even : (a b : Declaration) → Even a b
even a b = record { either_way = clash-comm a b; not_itself = not_itself a; any_unit = any_unit a b }
