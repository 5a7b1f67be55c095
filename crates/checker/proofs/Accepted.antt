-- What an accepted verdict says of a file: its frame is whole, which names its records, and 2 to 4 refuse none of them. Assumes nothing.
use Prim.Native.Nat.{ℕ}
use mathlib.Core.Bool.{Bool, true, false}
use mathlib.Core.List.{List}
use mathlib.Core.Path.{◌≡◌, refl, sym, ap, ap₂, ◌∙◌}
use native.Mathlib.Omega.{arith}
use Rattle.std.specs.Prelude.{Result, Ok, Err}
use Rattle.checker.specs.Accepted.{accepted_of, framed_by}
use Rattle.ec20.specs.declared.Frame.{Frame as WholeFrame}
use Rattle.ec20.specs.declared.Refusal.{Refusal}
use Rattle.ec20.proofs.Parts.{whole-parts}
use Rattle.ec20.proofs.NoFault.{accepted-framed as framed-if, accepted-records}
use Rattle.ec20.specs.Basics.{pick}
use Rattle.ec20.specs.Check.{check_of}
use Rattle.ec20.specs.Devices.{ec20}
use Rattle.ec20.specs.File.{framed, frame_of, first_of, count_of, records_from, records_of}
use Rattle.ec20.specs.Operands.{first_bad}
use Rattle.ec20.specs.Frame.{Frame}
use Rattle.ec20.specs.Frame.{Whole, Broken}
use Rattle.ec20.specs.Judged.{Fine}
use Rattle.ec20.specs.Verdict.{Verdict}
use Rattle.ec20.specs.Verdict.{Accepted}

-- a broken frame is not a whole one
pub apart : {A : Type 0} {a b : ℕ} → ◌≡◌ {A = Frame} Broken (Whole a b) → A
apart e = let z : ◌≡◌ {A = ℕ} 0 1 = cc in absurd (omega arith)

pub whole-pick : (t : Bool) {a b first count : ℕ} → pick t (Whole a b) Broken ≡ Whole first count → (t ≡ true) × (first ≡ a) × (count ≡ b)
whole-pick true {a} {b} {first} {count} e = let z = whole-parts a b first count e in (refl, sym z.0, sym z.1)
whole-pick false e = apart e

module _ (f : List ℕ) where
  module _ {v : Verdict} {n w : ℕ} (is : v ≡ check_of f) (ok : v ≡ Accepted n w) where
    pub accepted-framed : framed f ≡ true
    unfolding check_of
    accepted-framed = framed-if ec20 f n w (sym is ∙ ok)

    -- none of its records is refused by 2, 3 or 4
    pub accepted-fine : first_bad ec20 (records_of f) ≡ Fine
    unfolding check_of
    accepted-fine = accepted-records ec20 f n w (sym is ∙ ok)

  -- a whole frame names the byte of the file's first record, and their count
  pub whole-names : {x : Frame} {first count : ℕ} → x ≡ frame_of f → x ≡ Whole first count → (first ≡ first_of f) × (count ≡ count_of f)
  unfolding frame_of
  whole-names g e = let h = whole-pick (framed f) (sym g ∙ e) in (h.1, h.2)

  -- a whole frame names the file's records
  pub whole-records : {x : Frame} {first count : ℕ} → x ≡ frame_of f → x ≡ Whole first count → records_from f first count ≡ records_of f
  unfolding frame_of
  whole-records g e = let h = whole-pick (framed f) (sym g ∙ e) in rw (h.1, h.2) refl

  -- a file that is framed has a whole frame
  pub not-broken : {A : Type 0} {x : Frame} → framed f ≡ true → x ≡ frame_of f → x ≡ Broken → A
  unfolding frame_of
  not-broken h g e = apart (let q : Broken ≡ Whole (first_of f) (count_of f) = sym e ∙ g ∙ rw h refl in q)

  -- a framed file has a whole frame
  pub framed-whole : framed f ≡ true → Whole (first_of f) (count_of f) ≡ frame_of f
  unfolding frame_of
  framed-whole h = rw h refl

  -- what is told of an accepted file
  pub accepted-frame : {n w first count : ℕ} → Accepted n w ≡ check_of f → Whole first count ≡ frame_of f
      → ◌≡◌ {A = Result WholeFrame Refusal} (Ok (record { first = first; count = count })) (accepted_of f)
  unfolding accepted_of
  accepted-frame e g =
      let h = whole-names g refl in
      rw (sym e) (ap₂ (λ (i n : ℕ). let x : Result WholeFrame Refusal = Ok (record { first = i; count = n }) in x) h.0 h.1)

  pub accepted-not : {d : Refusal} → ◌≡◌ {A = Verdict} (Err d) (check_of f) → ◌≡◌ {A = Result WholeFrame Refusal} (Err d) (accepted_of f)
  unfolding accepted_of
  accepted-not e = rw (sym e) refl

-- what `accepted_of` tells of a file, where it tells a frame
pub record Taken (f : List ℕ) (w : WholeFrame) : Type 0 where
  pub records : ℕ
  pub steps : ℕ
  pub verdict : check_of f ≡ Accepted records steps
  pub first : w.first ≡ first_of f
  pub count : w.count ≡ count_of f
  pub fine : first_bad ec20 (records_of f) ≡ Fine

frame_in : WholeFrame → Result WholeFrame Refusal → WholeFrame
frame_in w (Ok a) = a
frame_in w (Err r) = w

refusal_in : Refusal → Result WholeFrame Refusal → Refusal
refusal_in d (Ok a) = d
refusal_in d (Err r) = r

module _ (f : List ℕ) where
  pub taken : {w : WholeFrame} → ◌≡◌ {A = Result WholeFrame Refusal} (Ok w) (accepted_of f) → Taken f w
  unfolding accepted_of frame_in
  taken {w} e = go (check_of f) refl
    where
      go : (v : Verdict) → check_of f ≡ v → Taken f w
      go (Err r) q = let z : ◌≡◌ {A = Result WholeFrame Refusal} (Ok w) (Err r) = rw q at e in let y : ◌≡◌ {A = ℕ} 0 1 = cc in absurd (omega arith)
      go (Ok a) q =
          let z : w ≡ record { first = first_of f; count = count_of f } = ap (frame_in w) (rw q at e) in
          record {
            records = a.records;
            steps = a.steps;
            verdict = q;
            first = ap (λ (x : WholeFrame). x.first) z;
            count = ap (λ (x : WholeFrame). x.count) z;
            fine = accepted-fine f (sym q) refl;
          }

  -- and where it tells a refusal
  pub not_taken : {d : Refusal} → ◌≡◌ {A = Result WholeFrame Refusal} (Err d) (accepted_of f) → ◌≡◌ {A = Verdict} (Err d) (check_of f)
  unfolding accepted_of refusal_in
  not_taken {d} e = go (check_of f) refl
    where
      go : (v : Verdict) → check_of f ≡ v → ◌≡◌ {A = Verdict} (Err d) (check_of f)
      go (Ok a) q = let z : ◌≡◌ {A = Result WholeFrame Refusal} (Err d) (framed_by (Ok a) f) = rw q at e in let y : ◌≡◌ {A = ℕ} 0 1 = cc in absurd (omega arith)
      go (Err r) q = ap (λ (x : Refusal). let v : Verdict = Err x in v) (ap (refusal_in d) (rw q at e)) ∙ sym q
