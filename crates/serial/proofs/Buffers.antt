-- Bytes that come into a buffer, and that are taken from its front. Assumes nothing.
use Prim.Native.Nat.{ℕ, ◌+◌, ◌-◌, ◌<◌, ◌≤◌, min}
use mathlib.Core.List.{List, ◌++◌}
use mathlib.Core.Path.{◌≡◌, refl, sym, ap, ◌∙◌}
use native.Mathlib.Omega.{arith}
use native.Mathlib.Nat.{min-zero}
use borrow.Rule.Slice.PartMut.{put_mid}
use lib.ListN.{length, take, drop}
use lib.Seq.{paste, paste-zero}
use Rattle.std.proofs.lemmas.List.{drop-drop}
use mathlib.Core.List.{append_assoc}
use borrow.Author.Tests.{le-leb, lt-leb}
use Rattle.serial.specs.Held.{room_for, left_of}

-- k bytes are copied to a place
pub pasted : (b from y : List ℕ) (n k : ℕ) → y ≡ take k from → put_mid n (n + k - n) b y ≡ paste b n from k
pasted b from y n k e =
    rw e
    (ap (λ (t : List ℕ). take n b ++ (take k from ++ t)) (drop-drop (n + k - n) n b ∙ ap (λ (j : ℕ). drop j b) {x = n + (n + k - n)} {y = n + k} (omega arith))
    ∙ sym (append_assoc (take n b) (take k from) (drop (n + k) b)))

-- ---- how many

-- none has room, where more are said to be held than the buffer has
pub more-none : (n : ℕ) (came b : List ℕ) → length b < n → (n ≡ n + room_for n came b) × (b ≡ paste b n came (room_for n came b))
unfolding room_for
more-none n came b l =
    let e : min (length came) (length b - n) ≡ 0 = ap (min (length came)) {x = length b - n} {y = 0} (omega arith) ∙ min-zero (length came) in
    (omega (arith, e), paste-zero b n came ∙ ap (λ (j : ℕ). paste b n came j) (sym e))

-- k have room, and are copied
pub more-done : (n k : ℕ) (came b t : List ℕ) → k ≡ min (length came) (length b - n) → t ≡ paste b n came k → (n + k ≡ n + room_for n came b) × (t ≡ paste b n came (room_for n came b))
unfolding room_for
more-done n k came b t e f = (ap (λ (j : ℕ). n + j) e, f ∙ ap (λ (j : ℕ). paste b n came j) e)

-- none is left, where more are said to be held than the buffer has, or more are taken than are held
pub less_none : (n k : ℕ) (b : List ℕ) → length b < n → (0 ≡ left_of n k b) × (b ≡ paste b 0 (drop k b) (left_of n k b))
unfolding left_of
less_none n k b l = rw (lt-leb n (length b) l) (refl, paste-zero b 0 (drop k b))

pub less-all : (n k : ℕ) (b : List ℕ) → n ≤ length b → n < k → (0 ≡ left_of n k b) × (b ≡ paste b 0 (drop k b) (left_of n k b))
unfolding left_of
less-all n k b l h =
    let e : 0 ≡ n - k = omega arith in
    rw (le-leb n (length b) l) (e, paste-zero b 0 (drop k b) ∙ ap (λ (j : ℕ). paste b 0 (drop k b) j) e)

-- n - k are left, and are moved to the front
pub less_done : (n k : ℕ) (b t : List ℕ) → n ≤ length b → t ≡ paste b 0 (drop k b) (n - k) → (n - k ≡ left_of n k b) × (t ≡ paste b 0 (drop k b) (left_of n k b))
unfolding left_of
less_done n k b t l e = rw (le-leb n (length b) l) (refl, e)
