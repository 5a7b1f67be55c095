-- A buffer that is written byte by byte. Assumes nothing.
use Prim.Native.Nat.{ℕ, suc, ◌+◌, ◌<◌, ◌≤◌}
use mathlib.Core.List.{List, [], ◌∷◌, ◌++◌}
use mathlib.Core.Path.{◌≡◌, refl, sym, ap, ap₂, ◌∙◌}
use native.Mathlib.Omega.{arith}
use lib.ListN.{length, take, drop, set, get_or, length-append, length-drop, take-append-drop}
use lib.Seq.{length-take-le, drop-cons, set_at, take_at, drop_at, drop-drop}
use Rattle.ec20.specs.Buffer.{over, sent}

pub append_assoc : {A : Type 0} (x y z : List A) → (x ++ y) ++ z ≡ x ++ (y ++ z)
append_assoc [] y z = refl
append_assoc (a ∷ x) y z = ap (λ (l : List _). a ∷ l) (append_assoc x y z)

-- ---- bytes as the first of a buffer

-- none
pub sent-none : (b : List ℕ) → sent [] b ≡ b
unfolding sent
sent-none b = refl

-- one more
pub sent-more : (s b : List ℕ) (v n : ℕ) → n ≡ length s → n < length b → set (sent s b) n v ≡ sent (s ++ (v ∷ [])) b
unfolding sent
sent-more s b v n e l =
    ap (λ (t : List ℕ). set (s ++ t) n v) (drop-cons b (length s) 0 (omega arith))
    ∙ set_at s (get_or b (length s) 0) (drop (suc (length s)) b) v n (sym e)
    ∙ ap (λ (k : ℕ). s ++ (v ∷ drop k b)) {x = suc (length s)} {y = length (s ++ (v ∷ []))} (sym (length-append s (v ∷ []) ∙ omega arith))
    ∙ sym (append_assoc s (v ∷ []) (drop (length (s ++ (v ∷ []))) b))

-- the buffer keeps its length
pub sent-length : (s b : List ℕ) → length s ≤ length b → length (sent s b) ≡ length b
unfolding sent
sent-length s b l = length-append s (drop (length s) b) ∙ omega (arith, length-drop (length s) b)

-- the bytes that were sent
pub sent-take : (s b : List ℕ) (n : ℕ) → length s ≡ n → take n (sent s b) ≡ s
unfolding sent
sent-take s b n e = take_at s (drop (length s) b) n e

-- ---- bytes from byte k on

pub over-sent : (k : ℕ) (s b : List ℕ) → k ≤ length b → over k s b ≡ sent (take k b ++ s) b
unfolding over sent
over-sent k s b l =
    let e : k + length s ≡ length (take k b ++ s) = sym (length-append (take k b) s ∙ ap (λ (n : ℕ). n + length s) (length-take-le k b l)) in
    ap (λ (n : ℕ). take k b ++ (s ++ drop n b)) e ∙ sym (append_assoc (take k b) s (drop (length (take k b ++ s)) b))

-- none
pub over_none : (k : ℕ) (b : List ℕ) → over k [] b ≡ b
unfolding over
over_none k b = ap (λ (n : ℕ). take k b ++ drop n b) {x = k + 0} {y = k} (omega arith) ∙ take-append-drop k b

-- one more
pub over-more : (k : ℕ) (s b : List ℕ) (v n : ℕ) → n ≡ k + length s → n < length b → set (over k s b) n v ≡ over k (s ++ (v ∷ [])) b
over-more k s b v n e l =
    let h : k ≤ length b = omega arith in
    let f : n ≡ length (take k b ++ s) = e ∙ sym (length-append (take k b) s ∙ ap (λ (n : ℕ). n + length s) (length-take-le k b h)) in
    ap (λ (t : List ℕ). set t n v) (over-sent k s b h) ∙ sent-more (take k b ++ s) b v n f l
    ∙ ap (λ (t : List ℕ). sent t b) (append_assoc (take k b) s (v ∷ []))
    ∙ sym (over-sent k (s ++ (v ∷ [])) b h)

-- the buffer keeps its length
pub over-length : (k : ℕ) (s b : List ℕ) → k + length s ≤ length b → length (over k s b) ≡ length b
over-length k s b l =
    let h : k ≤ length b = omega arith in
    ap (λ (t : List ℕ). length t) (over-sent k s b h)
    ∙ sent-length (take k b ++ s) b (omega (arith, length-append (take k b) s, length-take-le k b h))

-- after the bytes h come the bytes s
pub sent-over : (h s b : List ℕ) (k : ℕ) → length h ≡ k → over k s (sent h b) ≡ sent (h ++ s) b
unfolding over sent
sent-over h s b k e =
    ap₂ (λ (x y : List ℕ). x ++ (s ++ y)) (take_at h (drop (length h) b) k e) (sym (drop-drop (length s) k (h ++ drop (length h) b)) ∙ ap (drop (length s)) (drop_at h (drop (length h) b) k e) ∙ drop-drop (length s) (length h) b ∙ ap (λ (n : ℕ). drop n b) (sym (length-append h s)))
    ∙ sym (append_assoc h s (drop (length (h ++ s)) b))
