-- The three parts of the file, one after the other, are the file. Assumes nothing.
use Prim.Native.Nat.{ℕ, zero, suc, ◌+◌, ◌*◌, ◌≤◌}
use mathlib.Core.List.{List, [], ◌++◌}
use mathlib.Core.Path.{◌≡◌, refl, ap, ◌∙◌}
use native.Mathlib.Omega.{arith}
use lib.Dec.{eqb}
use lib.ListN.{length, take, drop, length-append}
use lib.Seq.{length-take-le}
use Rattle.ec20.proofs.BufferLaws.{append_assoc, sent-over}
use Rattle.ec20.specs.Basics.{pick}
use Rattle.ec20.specs.Buffer.{over, sent}
use Rattle.ec20.specs.Written.{trailer_of, end_record}
use Rattle.torn.specs.Salvage.{records_in, file_with}
use Rattle.torn.specs.declared.Kept.{Kept}

-- END is the whole of its record, or nothing of it
end-part : (a : ℕ) → a ≤ 1 → take (20 * a) end_record ≡ pick (eqb a 0) [] end_record
unfolding end_record
end-part zero l = refl
end-part (suc zero) l = refl
end-part (suc (suc a)) l = absurd (omega arith)

end-size : (a : ℕ) → a ≤ 1 → length (pick (eqb a 0) [] end_record) ≡ 20 * a
unfolding end_record
end-size zero l = refl
end-size (suc zero) l = refl
end-size (suc (suc a)) l = absurd (omega arith)

at_start : (s b : List ℕ) → over 0 s b ≡ sent s b
unfolding over sent
at_start s b = ap (λ (n : ℕ). s ++ drop n b) {x = 0 + length s} {y = length s} (omega arith)

pub written : (t b : List ℕ) (k : Kept) → 20 * k.count ≤ length t → k.added ≤ 1
    → over (20 * (k.count + k.added)) (trailer_of 1 (records_in k)) (over (20 * k.count) (take (20 * k.added) end_record) (over 0 (take (20 * k.count) t) b))
    ≡ sent (file_with t k) b
unfolding file_with
written t b k l m =
    let p : List ℕ = take (20 * k.count) t in
    let q : List ℕ = pick (eqb k.added 0) [] end_record in
    let r : List ℕ = trailer_of 1 (records_in k) in
    let a : length p ≡ 20 * k.count = length-take-le (20 * k.count) t l in
    let d : length q ≡ 20 * k.added = end-size k.added m in
    let size : length (p ++ q) ≡ 20 * (k.count + k.added) = length-append p q ∙ omega (arith, a, d) in
    ap (λ (x : List ℕ). over (20 * (k.count + k.added)) r (over (20 * k.count) x (over 0 p b))) (end-part k.added m)
    ∙ ap (λ (x : List ℕ). over (20 * (k.count + k.added)) r (over (20 * k.count) q x)) (at_start p b)
    ∙ ap (λ (x : List ℕ). over (20 * (k.count + k.added)) r x) (sent-over p q b (20 * k.count) a)
    ∙ sent-over (p ++ q) r b (20 * (k.count + k.added)) size
    ∙ ap (λ (x : List ℕ). sent x b) (append_assoc p q r)

-- the same, part after part
pub written-by : (t b b1 b2 b3 : List ℕ) (k : Kept) (end trailer : List ℕ) → b1 ≡ over 0 (take (20 * k.count) t) b → b2 ≡ over (20 * k.count) (take (20 * k.added) end) b1
    → b3 ≡ over (20 * (k.count + k.added)) trailer b2 → end ≡ end_record → trailer ≡ trailer_of 1 (records_in k) → 20 * k.count ≤ length t → k.added ≤ 1
    → b3 ≡ sent (file_with t k) b
written-by t b b1 b2 b3 k end trailer p q r e f l m = rw (r, q, p, e, f) (written t b k l m)
