-- The cases of where a frame ends. Assumes nothing.
use Prim.Native.Nat.{ℕ, ◌+◌, ◌<◌, ◌≤◌}
use mathlib.Core.Bool.{Bool, true, false, ◌||◌}
use mathlib.Core.List.{List}
use mathlib.Core.Path.{◌≡◌, refl, sym, ap, ap₂, ◌∙◌}
use lib.Dec.{eqb}
use lib.ListN.{length, take}
use borrow.Author.Tests.{le-leb, lt-leb}
use Rattle.ec20.specs.File.{byte_at}
use Rattle.modbus.specs.Frame.{is_short, is_long, crc_fits}
use Rattle.serial.specs.Held.{is_read, is_write, told_length, reply_length, others_length, is_whole, frame_of}

-- ---- the length that a function tells

pub told-long : (n c : ℕ) → is_long n ≡ true → 9 + c ≡ told_length n c
unfolding told_length
told-long n c e = rw e refl

pub told-short : (n c : ℕ) (r s : Bool) → is_long n ≡ false → r ≡ is_read n → s ≡ is_short n → (r || s) ≡ true → 8 ≡ told_length n c
unfolding told_length
told-short n c r s e p q g = rw (e, ap₂ ◌||◌ (sym p) (sym q) ∙ g) refl

pub told_none : (n c : ℕ) (r s : Bool) → is_long n ≡ false → r ≡ is_read n → s ≡ is_short n → (r || s) ≡ false → 0 ≡ told_length n c
unfolding told_length
told_none n c r s e p q g = rw (e, ap₂ ◌||◌ (sym p) (sym q) ∙ g) refl

pub reply-read : (n c : ℕ) → is_read n ≡ true → 5 + c ≡ reply_length n c
unfolding reply_length
reply-read n c e = rw e refl

pub reply-write : (n c : ℕ) → is_read n ≡ false → is_write n ≡ true → 8 ≡ reply_length n c
unfolding reply_length
reply-write n c e f = rw (e, f) refl

pub reply-exception : (n c : ℕ) → is_read n ≡ false → is_write n ≡ false → 128 ≤ n → 5 ≡ reply_length n c
unfolding reply_length
reply-exception n c e f h = rw (e, f, le-leb 128 n h) refl

pub reply-none : (n c : ℕ) → is_read n ≡ false → is_write n ≡ false → n < 128 → 0 ≡ reply_length n c
unfolding reply_length
reply-none n c e f h = rw (e, f, lt-leb 128 n h) refl

pub others-own : (own : ℕ) (b : List ℕ) (s : ℕ) → s ≡ byte_at b 0 → eqb s own ≡ true → 0 ≡ others_length own b
unfolding others_length
others-own own b s p e = rw (ap (λ (k : ℕ). eqb k own) (sym p) ∙ e) refl

pub others-reply : (own : ℕ) (b : List ℕ) (s x y n : ℕ) → s ≡ byte_at b 0 → eqb s own ≡ false → x ≡ byte_at b 1 → y ≡ byte_at b 2 → n ≡ reply_length x y → n ≡ others_length own b
unfolding others_length
others-reply own b s x y n p e q r f = rw (ap (λ (k : ℕ). eqb k own) (sym p) ∙ e) (f ∙ ap₂ reply_length q r)

-- ---- whether so many bytes are a frame

pub whole-short : (n : ℕ) (b : List ℕ) → n < 2 → false ≡ is_whole n b
unfolding is_whole
whole-short n b l = rw (lt-leb 2 n l) refl

pub whole_long : (n : ℕ) (b : List ℕ) → 2 ≤ n → length b < n → false ≡ is_whole n b
unfolding is_whole
whole_long n b l h = rw (le-leb 2 n l, lt-leb n (length b) h) refl

pub whole-there : (n : ℕ) (b : List ℕ) → 2 ≤ n → n ≤ length b → crc_fits (take n b) ≡ is_whole n b
unfolding is_whole
whole-there n b l h = rw (le-leb 2 n l, le-leb n (length b) h) refl

-- ---- the frame, by the length n that its function x and its byte count y tell, and the length m that it has as a reply

pub told_of : (b : List ℕ) (x y n : ℕ) → x ≡ byte_at b 1 → y ≡ byte_at b 6 → n ≡ told_length x y → n ≡ told_length (byte_at b 1) (byte_at b 6)
told_of b x y n p q e = e ∙ ap₂ told_length p q

pub whole_of : (b : List ℕ) (n k : ℕ) (t : Bool) → n ≡ k → is_whole n b ≡ t → is_whole k b ≡ t
whole_of b n k t e w = ap (λ (j : ℕ). is_whole j b) (sym e) ∙ w

pub frame-request : (own : ℕ) (s : Bool) (b : List ℕ) (n : ℕ) → n ≡ told_length (byte_at b 1) (byte_at b 6) → is_whole n b ≡ true → n ≡ frame_of own s b
unfolding frame_of
frame-request own s b n e w = rw (whole_of b n _ true e w) e

pub frame-reply : (own : ℕ) (s : Bool) (b : List ℕ) (n m : ℕ) → n ≡ told_length (byte_at b 1) (byte_at b 6) → is_whole n b ≡ false → m ≡ others_length own b → is_whole m b ≡ true → m ≡ frame_of own s b
unfolding frame_of
frame-reply own s b n m e w f v = rw (whole_of b n _ false e w, whole_of b m _ true f v) f

pub frame-silent : (own : ℕ) (s : Bool) (b : List ℕ) (n m : ℕ) → n ≡ told_length (byte_at b 1) (byte_at b 6) → is_whole n b ≡ false → m ≡ others_length own b → is_whole m b ≡ false → s ≡ true → length b ≡ frame_of own s b
unfolding frame_of
frame-silent own s b n m e w f v h = rw (whole_of b n _ false e w, whole_of b m _ false f v, h) refl

pub frame-open : (own : ℕ) (s : Bool) (b : List ℕ) (n m : ℕ) → n ≡ told_length (byte_at b 1) (byte_at b 6) → is_whole n b ≡ false → m ≡ others_length own b → is_whole m b ≡ false → s ≡ false → 0 ≡ frame_of own s b
unfolding frame_of
frame-open own s b n m e w f v h = rw (whole_of b n _ false e w, whole_of b m _ false f v, h) refl
