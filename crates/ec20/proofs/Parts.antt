-- Equal answers have equal parts.
use Rattle.std.specs.Prelude.{ℕ, ◌≡◌, Result, Ok, Err, Option, Some, None}
use Rattle.std.proofs.Common.{ap}
use Rattle.ec20.specs.Judged.{refusal}
use Rattle.ec20.specs.Verdict.{Verdict, Accepted}
use Rattle.ec20.specs.Frame.{Frame, Whole}
use Rattle.ec20.specs.Walked.{Walked, Done}
use Rattle.ec20.specs.declared.Refusal.{Refusal}

number_in : {A : Type 0} → Result A Refusal → ℕ
number_in (Ok a) = 0
number_in (Err r) = r.number

at_in : {A : Type 0} → Result A Refusal → ℕ
at_in (Ok a) = 0
at_in (Err r) = r.at

pub refused-parts : {A : Type 0} (n k m j : ℕ) → ◌≡◌ {A = Result A Refusal} (Err (refusal n k)) (Err (refusal m j)) → (n ≡ m) × (k ≡ j)
unfolding number_in at_in
refused-parts n k m j e = (ap number_in e, ap at_in e)

records_in : Verdict → ℕ
records_in (Ok a) = a.records
records_in (Err r) = 0

steps_in : Verdict → ℕ
steps_in (Ok a) = a.steps
steps_in (Err r) = 0

pub accepted-parts : (n w m v : ℕ) → Accepted n w ≡ Accepted m v → (n ≡ m) × (w ≡ v)
unfolding records_in steps_in
accepted-parts n w m v e = (ap records_in e, ap steps_in e)

next_in : Walked → ℕ
next_in (Ok a) = a.next
next_in (Err k) = 0

steps_walked_in : Walked → ℕ
steps_walked_in (Ok a) = a.steps
steps_walked_in (Err k) = 0

pub done-parts : (n w m v : ℕ) → Done n w ≡ Done m v → (n ≡ m) × (w ≡ v)
unfolding next_in steps_walked_in
done-parts n w m v e = (ap next_in e, ap steps_walked_in e)

first_in : Frame → ℕ
first_in (Some w) = w.first
first_in None = 0

count_in : Frame → ℕ
count_in (Some w) = w.count
count_in None = 0

pub whole-parts : (i n j m : ℕ) → Whole i n ≡ Whole j m → (i ≡ j) × (n ≡ m)
unfolding first_in count_in
whole-parts i n j m e = (ap first_in e, ap count_in e)
