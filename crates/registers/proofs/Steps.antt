-- One register more is read into a reply, and one more is written from a request. Assumes nothing.
use Prim.Native.Nat.{ℕ, ◌+◌, ◌*◌, ◌/◌, ◌%◌, ◌<◌}
use mathlib.Core.List.{List, [], ◌∷◌, ◌++◌}
use mathlib.Core.Path.{◌≡◌, refl, sym, ap, ap₂, ◌∙◌}
use native.Mathlib.Numerals.{add-one}
use native.Mathlib.Omega.{arith}
use lib.IntN.{ℤ}
use lib.ListN.{length, set, length-set, length-append}
use Rattle.ec20.specs.File.{byte_at}
use Rattle.ec20.specs.Numbers.{low}
use Rattle.ec20.specs.Registers.{word_at}
use Rattle.ec20.specs.Buffer.{over}
use Rattle.modbus.specs.Frame.{number_in}
use Rattle.modbus.specs.Replies.{register_bytes}
use Rattle.modbus.specs.Writes.{word_of, registers_taken}
use Rattle.ec20.proofs.BufferLaws.{append_assoc, over_none, over-more}
use Rattle.modbus.proofs.Lengths.{registers-told}

-- none is read
pub read_none : (d : List ℤ) (a : ℕ) (b : List ℕ) → b ≡ over 3 (register_bytes d a 0) b
unfolding register_bytes
read_none d a b = sym (over_none 3 b)

-- two bytes more
two-more : (s b : List ℕ) (v w n : ℕ) → length s ≡ n → 4 + n < length b → set (set (over 3 s b) (3 + n) v) (4 + n) w ≡ over 3 (s ++ (v ∷ w ∷ [])) b
two-more s b v w n e l =
    ap (λ (t : List ℕ). set t (4 + n) w) (over-more 3 s b v (3 + n) (omega arith) (omega arith))
    ∙ over-more 3 (s ++ (v ∷ [])) b w (4 + n) (omega (arith, length-append s (v ∷ []))) l
    ∙ ap (λ (t : List ℕ). over 3 t b) (append_assoc s (v ∷ []) (w ∷ []))

-- one register more, whose bits are u
pub read_more : (d : List ℤ) (a i u : ℕ) (b r : List ℕ) → r ≡ over 3 (register_bytes d a i) b → u ≡ low 65536 (word_at d (a + i)) → 4 + 2 * i < length b → set (set r (3 + 2 * i) (u / 256)) (4 + 2 * i) (u % 256) ≡ over 3 (register_bytes d a (i + 1)) b
unfolding register_bytes
read_more d a i u b r e f l =
    ap₂ (λ (t : List ℕ) (x : ℕ). set (set t (3 + 2 * i) (x / 256)) (4 + 2 * i) (x % 256)) e f
    ∙ two-more (register_bytes d a i) b _ _ (2 * i) (registers-told d a i) l
    ∙ rw (add-one i) refl

-- two stores keep the length
pub length_two : {A : Type 0} (r : List A) (i j : ℕ) (v w : A) → length (set (set r i v) j w) ≡ length r
length_two r i j v w = length-set (set r i v) j w ∙ length-set r i v

-- one register more takes its number z
pub write-more : (d e : List ℤ) (a i : ℕ) (f : List ℕ) (z : ℤ) → e ≡ registers_taken d a f i → z ≡ word_of (number_in f (7 + 2 * i)) → set e (a + i) z ≡ registers_taken d a f (i + 1)
unfolding registers_taken
write-more d e a i f z p q = rw (add-one i) (ap₂ (λ (t : List ℤ) (x : ℤ). set t (a + i) x) p q)

-- its two bytes make its number, the high byte first
pub number_is : (f : List ℕ) (i x y : ℕ) → x ≡ byte_at f (7 + 2 * i) → y ≡ byte_at f (8 + 2 * i) → x * 256 + y ≡ number_in f (7 + 2 * i)
unfolding number_in
number_is f i x y p q =
    ap₂ (λ (h l : ℕ). h * 256 + l) p (q ∙ ap (λ (k : ℕ). byte_at f k) {x = 8 + 2 * i} {y = 7 + 2 * i + 1} (omega arith))
