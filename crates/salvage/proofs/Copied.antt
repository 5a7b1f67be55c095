-- Bytes that are copied, one after the other. Assumes nothing.
use Prim.Native.Nat.{ℕ, suc, ◌+◌, ◌<◌}
use mathlib.Core.List.{List}
use mathlib.Core.Path.{◌≡◌, sym, ap, ◌∙◌}
use native.Mathlib.Omega.{arith}
use lib.ListN.{length, take, set, get_or}
use lib.Seq.{length-take-le, take-suc}
use Rattle.ec20.proofs.BufferLaws.{over-more}
use Rattle.ec20.specs.Buffer.{over}

-- one byte more
pub copied_more : (at : ℕ) (s b b' : List ℕ) (i : ℕ) → i < length s → at + i < length b → b' ≡ over at (take i s) b
    → set b' (at + i) (get_or s i 0) ≡ over at (take (i + 1) s) b
copied_more at s b b' i l m e =
    ap (λ (x : List ℕ). set x (at + i) (get_or s i 0)) e
    ∙ over-more at (take i s) b (get_or s i 0) (at + i) (ap (λ (n : ℕ). at + n) (sym (length-take-le i s (omega arith)))) m
    ∙ ap (λ (x : List ℕ). over at x b) (sym (take-suc s i 0 l) ∙ ap (λ (n : ℕ). take n s) {x = suc i} {y = i + 1} (omega arith))
