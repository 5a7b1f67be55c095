-- Parts at the start of a buffer. Assumes nothing.
use Rattle.std.proofs.Common.{◌≡◌, ℕ, ◌-◌, ◌≤◌, List, ◌++◌, length, take, drop, sym, ap, ◌∙◌, subst, arith, length-take-le, take_at}
use lib.Seq.{take-length}
use Rattle.ec20.specs.Move.{Block}
use Rattle.turns.specs.Turns.{MovedTo}

-- all of a file over the start of a buffer
pub copied-over : (old z : List ℕ) {new : List ℕ} → new ≡ old → new ++ drop (length old) z ≡ take (length old) old ++ drop (length old) z
copied-over old z e = ap (λ (x : List ℕ). x ++ drop (length old) z) (e ∙ sym (take-length old))

-- all of a file copied to the start of a buffer, and read there
pub copied-part : (old z : List ℕ) {new : List ℕ} → new ≡ take (length old) old ++ drop (length old) z → take (length old - 0) new ≡ old
copied-part old z {new} e =
    ap (λ (k : ℕ). take k new) {x = length old - 0} {y = length old} (omega arith)
    ∙ ap (take (length old)) (e ∙ ap (λ (x : List ℕ). x ++ drop (length old) z) (take-length old))
    ∙ take_at old (drop (length old) z) (length old) (omega arith)

-- the new program at the start of its buffer
pub new-part : {old new : List ℕ} {b : Block} {q n : ℕ} (post : List ℕ) → MovedTo old b q new × (n ≡ length old) → length new ≡ length old
    → MovedTo old b q (take n (new ++ post)) × (n ≡ length old)
new-part {old} {new} {b} {q} {n} post m e = (subst (MovedTo old b q) (sym (take_at new post n (e ∙ sym m.1))) m.0, m.1)

-- the old program at the start of its buffer
pub old-part : {new : List ℕ} {b : Block} {q : ℕ} (old : List ℕ) (k n : ℕ) → MovedTo (take k old) b q new × (n ≡ length (take k old)) → k ≤ length old
    → MovedTo (take n old) b q new
old-part {new} {b} {q} old k n m l =
    subst (λ (x : ℕ). MovedTo (take x old) b q new) (sym (m.1 ∙ length-take-le k old l)) m.0
