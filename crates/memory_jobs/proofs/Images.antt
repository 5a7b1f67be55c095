-- A job over a program file and a memory file, from what its calls give. Assumes nothing.
use Prim.Native.Nat.{ℕ}
use mathlib.Core.Bool.{Bool}
use mathlib.Core.List.{List}
use mathlib.Core.Path.{◌≡◌, sym, ap, ◌∙◌}
use native.Mathlib.Omega.{arith}
use lib.IntN.{ℤ}
use Rattle.std.specs.Prelude.{Err}
use Rattle.ec20.specs.Devices.{ec20}
use Rattle.ec20.specs.Memory.{memory}
use Rattle.ec20.specs.Plant.{Plant, plant}
use Rattle.image.specs.Image.{plant_of, image_of}
use Rattle.jobs.specs.Job.{Job, job, job_if, job_answer, job_for, job_of}
use Rattle.jobs.specs.Tasks.{Task}
use Rattle.jobs.specs.Jobbed.{Jobbed}
use Rattle.jobs.specs.Jobbed.{Refused, Done}
use Rattle.memories.proofs.After.{tables_after, bytes_after, no_byte}
use Rattle.memory_jobs.specs.Images.{JobOver, over_plant, job_over, no_table}

-- a refused job changes neither file nor table
by_answer : (a : Jobbed) (f : List ℕ) (d : List ℤ) (ts : List Task) (m k i j : ℕ) → (job_if a f d ts).answer ≡ Refused m k i j
    → job_if a f d ts ≡ job (Refused m k i j) f d
by_answer (Err r) f d ts m k i j h = ap (λ (a : Jobbed). job a f d) h
by_answer (Done n) f d ts m k i j h = let z : ◌≡◌ {A = ℕ} 0 1 = cc in absurd (omega arith)

refused-job : (f : List ℕ) (d : List ℤ) (ts : List Task) (m k i j : ℕ) → (job_of f d ts).answer ≡ Refused m k i j → job_of f d ts ≡ job (Refused m k i j) f d
unfolding job_of job_for
refused-job f d ts m k i j h = by_answer (job_answer ec20 f d ts) f d ts m k i j h

pub refused_keeps : (f : List ℕ) (p : Plant) (ts : List Task) (m k i j : ℕ) → (job_over f p ts).answer ≡ Refused m k i j
    → job_over f p ts ≡ record { answer = Refused m k i j; file = f; plant = p }
unfolding job_over
refused_keeps f p ts m k i j h = ap (over_plant p) (refused-job f p.mem.d ts m k i j h)

-- the job over the table that stands for no memory, or for one of another size
pub without : (f f' : List ℕ) (d' : List ℤ) (ts : List Task) {r : Jobbed} {right : Bool} {b : Bool} → job r f' d' ≡ job_of f (no_table b) ts → right ≡ b
    → (r ≡ (job_of f (no_table right) ts).answer) × (f' ≡ (job_of f (no_table right) ts).file)
without f f' d' ts {right} {b} e h =
    let g = e ∙ ap (λ (t : Bool). job_of f (no_table t) ts) (sym h) in
    (ap (λ (j : Job). j.answer) g, ap (λ (j : Job). j.file) g)

-- b and b': the bytes of the memory before and after it, f and f' those of the program. Tables and leftovers are those of b, D is exchanged in them, and
-- they are joined to b'.
module _ {b b' f' : List ℕ} (f : List ℕ) (ts : List Task) {x y m sm t rest : List ℕ} {d d' tv : List ℤ} {r : Jobbed}
    (split : plant (memory x y m sm t d tv) rest ≡ plant_of b)
    (back : image_of (plant_of b) ≡ b)
    (words : job r f' d' ≡ job_of f d ts)
    (joined : b' ≡ image_of (plant (memory x y m sm t d' tv) rest))
    (again : plant_of b' ≡ plant (memory x y m sm t d' tv) rest) where
  all : over_plant (plant (memory x y m sm t d tv) rest) (job r f' d') ≡ job_over f (plant_of b) ts
  unfolding job_over
  all = ap (over_plant (plant (memory x y m sm t d tv) rest)) words ∙ ap (λ (p : Plant). job_over f p ts) split

  pub job-after : (r ≡ (job_over f (plant_of b) ts).answer)
      × ((f' ≡ (job_over f (plant_of b) ts).file)
      × ((plant_of b' ≡ (job_over f (plant_of b) ts).plant)
      × ((b' ≡ image_of (job_over f (plant_of b) ts).plant)
      × ((m k i j : ℕ) → r ≡ Refused m k i j → (f' ≡ f) × (b' ≡ b)))))
  job-after =
      let answer = ap (λ (e : JobOver). e.answer) all in
      let file = ap (λ (e : JobOver). e.file) all in
      let same = ap (λ (e : JobOver). e.plant) all in (
        answer,
        (
          file,
          (
            tables_after joined again same,
            (
              bytes_after joined again same,
              λ m k i j h.
                  let keeps = refused_keeps f (plant_of b) ts m k i j (sym answer ∙ h) in
                  (file ∙ ap (λ (e : JobOver). e.file) keeps, no_byte joined again same back (ap (λ (e : JobOver). e.plant) keeps)),
            ),
          ),
        ),
      )
