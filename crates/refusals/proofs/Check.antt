-- THE TABLE OF REFUSALS: the check answers as the table says (told), and the table says one answer (only).
use Prim.Native.Nat.{ℕ, ◌<◌, ◌≤◌}
use mathlib.Core.Bool.{Bool}
use mathlib.Core.List.{List}
use mathlib.Core.Logic.{◌↔◌}
use mathlib.Core.Path.{◌≡◌, refl, sym, ap, subst, ◌∙◌}
use native.Mathlib.Omega.{arith}
use native.Mathlib.Decide.{dec_lt}
use Rattle.std.specs.Prelude.{Err}
use Rattle.ec20.specs.Judged.{Judged}
use Rattle.ec20.specs.Judged.{Fine, Fault}
use Rattle.ec20.specs.Verdict.{Verdict}
use Rattle.ec20.specs.Verdict.{Accepted, Refused}
use Rattle.ec20.specs.Basics.{pick, then}
use Rattle.ec20.specs.Devices.{Device, ec20}
use Rattle.ec20.specs.File.{count_of, records_of, framed}
use Rattle.ec20.specs.Operands.{first_bad}
use Rattle.ec20.specs.Code.{Program, program_of}
use Rattle.ec20.specs.Control.{controls_of}
use Rattle.ec20.specs.Rung.{first_broken}
use Rattle.ec20.specs.Loops.{first_unsound, too_long}
use Rattle.ec20.specs.Walkers.{steps_walked, walked}
use Rattle.ec20.specs.Labels.{first_unlabelled}
use Rattle.ec20.specs.Check.{w_of, judge_program, judge_file, verdict_of, check_for, check_of}
use Rattle.ec20.proofs.Tests.{picked}
use Rattle.ec20.proofs.Walkers.{walked-unsound}
use Rattle.bound.proofs.Accepted.{sound-walk}
use Rattle.refusals.specs.Frame.{no_records}
use Rattle.refusals.specs.Rung.{Line5}
use Rattle.refusals.specs.Structure.{Line6}
use Rattle.refusals.specs.Labels.{Line7}
use Rattle.refusals.specs.Steps.{WOf, above}
use Rattle.refusals.specs.Table.{Told, told_1, told_2, told_3, told_4, told_5, told_6, told_7, told_8, accepted}
use Rattle.refusals.specs.Table.{record_at, Not1, Not2to4, Not5, Not6, Not7, First2to4}
use Rattle.refusals.proofs.Search.{Judges, judged-fine, judged-fault}
use Rattle.refusals.proofs.Frame.{unframed, frame_right, right-frame, wrong-frame}
use Rattle.refusals.proofs.Records.{Number, is_2, is_3, is_4, is_0, none-broken, only-2, only-3, only-4, Judges2-4, judged-2-4, bad-fine, bad-fault}
use Rattle.refusals.proofs.Keeps.{formed}
use Rattle.refusals.proofs.Rung.{judged-5}
use Rattle.refusals.proofs.Structure.{judged-6}
use Rattle.refusals.proofs.Labels.{judged-7}
use Rattle.refusals.proofs.Steps.{w-is, w-there, line-8, long, not-long}

module _ (v : Device) (f : List ℕ) where
  abbrev p : Program
  p = program_of f

  -- the judgements of a file whose frame is right
  abbrev J2-4 : Judged
  J2-4 = first_bad v (records_of f)

  abbrev J5 : Judged
  J5 = first_broken p

  abbrev J6 : Judged
  J6 = first_unsound (controls_of p) p.count

  abbrev J7 : Judged
  J7 = first_unlabelled (controls_of p) p.count

  judged-records : Judges2-4 v (records_of f) J2-4
  judged-records = judged-2-4 v (records_of f)

  judged-rung : Judges 5 (count_of f) (Line5 p) J5
  unfolding program_of
  judged-rung = judged-5 p (formed f)

  judged-structure : Judges 6 (count_of f) (Line6 p) J6
  unfolding program_of
  judged-structure = judged-6 p

  some-record : Not1 f → 0 < count_of f
  some-record n = elim (dec_lt 0 (count_of f)) [ yes h ↦ h | no h ↦ absurd (n (no_records (omega arith))) ]

  judged-labels : Not1 f → J6 ≡ Fine → Judges 7 (count_of f) (Line7 p) J7
  unfolding program_of
  judged-labels n e =
      let d = sound-walk (walked p) (walked-unsound (controls_of p) p.count (some-record n) ∙ e) in
      judged-7 p d.0 (steps_walked (walked p)) d.1

  none-6 : Not6 f → J6 ≡ Fine
  none-6 h = judged-fine 6 (count_of f) (Line6 p) J6 judged-structure h

  -- W, where 1 and 6 do not refuse
  pub steps-there : Not1 f → Not6 f → WOf p (w_of p)
  unfolding program_of
  steps-there n d = w-there p (some-record n) (none-6 d)

  -- the check's W is W in words, and no other is
  pub w-exactly : Not1 f → Not6 f → (w : ℕ) → WOf p w ↔ (w ≡ w_of p)
  w-exactly n d w = (λ s. sym (w-is p s), λ e. subst (WOf p) (sym e) (steps-there n d))

  -- ---- the check answers as the table says

  by_number : {n k : ℕ} → Not1 f → First2to4 v f k → Number v (record_at f k) n → Told v f (Refused n k)
  by_number a b (is_2 x) = told_2 a b x
  by_number a b (is_3 x y) = told_3 a b x y
  by_number a b (is_4 x y z) = told_4 a b x y z
  by_number {k = k} a b (is_0 x y z) = absurd (none-broken v (record_at f k) (is_0 x y z) refl b.holds)

  -- 8, or accepted
  by-steps : Not1 f → Not2to4 v f → Not5 f → Not6 f → Not7 f → Told v f (verdict_of p (too_long (w_of p)))
  unfolding program_of
  by-steps a b c d e =
      let w = steps-there a d in
      elim (dec_lt 10000000 (w_of p)) [
        | yes h ↦ rw (long p h) (told_8 a b c d e (above w (omega arith)))
        | no h ↦ rw (not-long p (omega arith)) (accepted a b c d e (λ l. h (line-8 p l)) w)
      ]

  -- 2 to 4, then 5, 6, 7, then 8
  by_order : Not1 f → (a b c d : Judged) → Judges2-4 v (records_of f) a → Judges 5 (count_of f) (Line5 p) b
      → Judges 6 (count_of f) (Line6 p) c
      → (c ≡ Fine → Judges 7 (count_of f) (Line7 p) d)
      → Told v f (verdict_of p (then a (then b (then c (then d (too_long (w_of p)))))))
  by_order n (Err r) b c d w x y z = by_number n w.0 w.1
  by_order n Fine (Err r) c d w x y z = rw x.0 (told_5 n w x.1)
  by_order n Fine Fine (Err r) d w x y z = rw y.0 (told_6 n w x y.1)
  by_order n Fine Fine Fine (Err _) w x y z = let r = z refl in rw r.0 (told_7 n w x y r.1)
  by_order n Fine Fine Fine Fine w x y z = by-steps n w x y (z refl)

  pub told : Told v f (check_for v f)
  unfolding check_for judge_file judge_program
  told =
      picked (Told v f) (framed f) _ _ (λ e.
      let n = frame_right f e in by_order n J2-4 J5 J6 J7 judged-records judged-rung judged-structure (judged-labels n))
      (λ e. told_1 (unframed f e))

  -- ---- and no other answer is told

  -- the check, by its judgements
  answered : {a b c d e : Judged} → Not1 f → J2-4 ≡ a → J5 ≡ b → J6 ≡ c → J7 ≡ d → too_long (w_of p) ≡ e
      → check_for v f ≡ verdict_of p (then a (then b (then c (then d e))))
  unfolding check_for judge_file judge_program
  answered n a b c d e = rw (right-frame f n, a, b, c, d, e)

  found-2-4 : (m k : ℕ) → ((n : ℕ) → Number v (record_at f k) n → n ≡ m) → First2to4 v f k → J2-4 ≡ Fault m k
  found-2-4 m k g h = bad-fault v (records_of f) m k g J2-4 judged-records h

  none-2-4 : Not2to4 v f → J2-4 ≡ Fine
  none-2-4 h = bad-fine v (records_of f) J2-4 judged-records h

  none-5 : Not5 f → J5 ≡ Fine
  none-5 h = judged-fine 5 (count_of f) (Line5 p) J5 judged-rung h

  none-7 : Not1 f → J6 ≡ Fine → Not7 f → J7 ≡ Fine
  none-7 n e h = judged-fine 7 (count_of f) (Line7 p) J7 (judged-labels n e) h

  -- what the table says is the check's answer
  pub answer : {r : Verdict} → Told v f r → check_for v f ≡ r
  unfolding check_for program_of
  answer (told_1 l) = ap (λ (t : Bool). pick t (verdict_of p (judge_file v f)) (Refused 1 0)) (wrong-frame f l)
  answer (told_2 {k = k} n h x) = answered n (found-2-4 2 k (λ m q. only-2 v (record_at f k) q x) h) refl refl refl refl
  answer (told_3 {k = k} n h x y) = answered n (found-2-4 3 k (λ m q. only-3 v (record_at f k) q x y) h) refl refl refl refl
  answer (told_4 {k = k} n h x y z) = answered n (found-2-4 4 k (λ m q. only-4 v (record_at f k) q x y z) h) refl refl refl refl
  answer (told_5 {k = k} n a h) = answered n (none-2-4 a) (judged-fault 5 (count_of f) (Line5 p) k J5 judged-rung h) refl refl refl
  answer (told_6 {k = k} n a b h) =
      answered n (none-2-4 a) (none-5 b) (judged-fault 6 (count_of f) (Line6 p) k J6 judged-structure h) refl refl
  answer (told_7 {k = k} n a b c h) =
      answered n (none-2-4 a) (none-5 b) (none-6 c) (judged-fault 7 (count_of f) (Line7 p) k J7 (judged-labels n (none-6 c)) h) refl
  answer (told_8 n a b c d h) = answered n (none-2-4 a) (none-5 b) (none-6 c) (none-7 n (none-6 c) d) (long p (line-8 p h))
  answer (accepted n a b c d h s) =
      let few : w_of p ≤ 10000000 = elim (dec_lt 10000000 (w_of p)) [ yes g ↦ absurd (h (above (steps-there n c) g)) | no g ↦ omega arith ] in
      answered n (none-2-4 a) (none-5 b) (none-6 c) (none-7 n (none-6 c) d) (not-long p few) ∙ ap (λ (w : ℕ). Accepted (count_of f) w) (w-is p s)

-- the table determines the answer
pub only : {v : Device} {f : List ℕ} {r s : Verdict} → Told v f r → Told v f s → r ≡ s
only {v} {f} a b = sym (answer v f a) ∙ answer v f b

-- the check of an EC20 file
pub told_of : (f : List ℕ) → Told ec20 f (check_of f)
unfolding check_of
told_of f = told ec20 f
