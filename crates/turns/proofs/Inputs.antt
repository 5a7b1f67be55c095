-- The inputs that are drawn are the first bytes of a memory file, its X. Assumes nothing.
use Prim.Native.Nat.{ℕ, zero, suc, ◌+◌, ◌-◌, ◌/◌, ◌<◌, ◌≤◌}
use mathlib.Core.List.{List, [], ◌∷◌, ◌++◌}
use mathlib.Core.Path.{◌≡◌, refl, sym, ap, ap₂, subst, ◌∙◌}
use native.Mathlib.Omega.{arith}
use lib.ListN.{length, take, drop, set, length-append}
use lib.Seq.{take_at, drop-append-add, drop-drop}
use Rattle.ec20.specs.Memory.{memory}
use Rattle.ec20.specs.Plant.{Plant, plant}
use Rattle.image.specs.Image.{part, memory_of, plant_of}
use Rattle.ec20.proofs.BufferLaws.{sent-none, sent-more}
use Rattle.ec20.specs.Buffer.{sent}
use Rattle.turns.specs.Turns.{turned_by, state_after, drawn}

pub drawn-length : (n s : ℕ) → length (drawn n s) ≡ n
unfolding drawn
drawn-length zero s = refl
drawn-length (suc n) s = length-append (drawn n s) (state_after (suc n) s / 16777216 ∷ []) ∙ omega (arith, drawn-length n s)

-- of none
pub state-none : (s : ℕ) → s ≡ state_after 0 s
unfolding state_after
state-none s = refl

pub drawn-none : (s : ℕ) (b : List ℕ) → b ≡ sent (drawn 0 s) b
unfolding drawn
drawn-none s b = sym (sent-none b)

-- of one more: x is the state before it, and r the one after
pub state-more : (n s x r : ℕ) → x ≡ state_after n s → r ≡ turned_by x → r ≡ state_after (n + 1) s
unfolding state_after
state-more n s x r e q = q ∙ ap turned_by e ∙ ap (λ (m : ℕ). state_after m s) {x = suc n} {y = n + 1} (omega arith)

pub drawn-more : (b b' : List ℕ) (n s r : ℕ) → b' ≡ sent (drawn n s) b → r ≡ state_after (n + 1) s → n < length b
    → set b' n (r / 16777216) ≡ sent (drawn (n + 1) s) b
unfolding drawn
drawn-more b b' n s r e q h =
    let m : n + 1 ≡ suc n = omega arith in
    ap₂ (λ (l : List ℕ) (x : ℕ). set l n (x / 16777216)) e (q ∙ ap (λ (k : ℕ). state_after k s) m)
    ∙ sent-more (drawn n s) b (state_after (suc n) s / 16777216) n (sym (drawn-length n s)) h
    ∙ ap (λ (k : ℕ). sent (drawn k s) b) (sym m)

-- all of them, after i turns
pub drawn-all : (i s : ℕ) {r : ℕ} {a b : List ℕ} (a₀ b₀ : List ℕ) → i ≡ 32 → r ≡ state_after i s → a ≡ sent (drawn i s) a₀ → b ≡ sent (drawn i s) b₀
    → (r ≡ state_after 32 s) × ((a ≡ sent (drawn 32 s) a₀) × (b ≡ sent (drawn 32 s) b₀))
drawn-all i s a₀ b₀ e p q t =
    (p ∙ ap (λ (n : ℕ). state_after n s) e, (q ∙ ap (λ (n : ℕ). sent (drawn n s) a₀) e, t ∙ ap (λ (n : ℕ). sent (drawn n s) b₀) e))

-- what stands past the first bytes stays
past : (xs b : List ℕ) (k n : ℕ) → length xs ≤ k → part k n (sent xs b) ≡ part k n b
unfolding sent
past xs b k n h =
    let e : length xs + (k - length xs) ≡ k = omega arith in
    ap (take n)
    (subst (λ (m : ℕ). drop m (xs ++ drop (length xs) b) ≡ drop m b) e
    (drop-append-add xs (drop (length xs) b) (k - length xs) ∙ drop-drop (k - length xs) (length xs) b))

first : (xs b : List ℕ) → length xs ≡ 32 → part 0 32 (sent xs b) ≡ xs
unfolding sent
first xs b e = take_at xs (drop (length xs) b) 32 e

-- memory and leftovers with another X
abbrev pub with_inputs : List ℕ → Plant → Plant
with_inputs xs p = let c = p.mem in plant (memory xs c.y c.m c.sm c.t c.d c.tv) p.rest

-- a memory file with another X
pub with-inputs : (xs b : List ℕ) → length xs ≡ 32 → plant_of (sent xs b) ≡ with_inputs xs (plant_of b)
unfolding plant_of memory_of
with-inputs xs b e =
    rw (
      first xs b e,
      past xs b 32 32 (omega (arith, e)),
      past xs b 64 250 (omega (arith, e)),
      past xs b 314 32 (omega (arith, e)),
      past xs b 346 32 (omega (arith, e)),
      past xs b 378 16000 (omega (arith, e)),
      past xs b 16378 512 (omega (arith, e)),
      past xs b 16890 2 (omega (arith, e)),
    ) refl
