-- A line of a job by its three parts: a number, and the byte behind it. Assumes nothing.
use Prim.Native.Nat.{ℕ, ◌+◌}
use mathlib.Core.List.{List}
use mathlib.Core.Path.{◌≡◌, refl, sym, ap, ◌∙◌}
use lib.Dec.{eqb}
use Rattle.std.specs.Prelude.{Some}
use Rattle.ec20.specs.Basics.{pick}
use Rattle.jobs.specs.Text.{most, line_by_place, line_by_length, line_by_start, job_line_at}
use Rattle.jobs.specs.JobLine.{JobLine}
use Rattle.jobs.specs.JobLine as J
use Rattle.spelling.proofs.Parts.{got, parted}
use Rattle.spelling.specs.Part.{part_by, part_at}
use Rattle.units.specs.Spelling.{byte_in, number_at}
use Rattle.units.specs.Number.{Number}
use Rattle.units.specs.Number as N

-- the line by its parts, from the last on
by-place : (s : List ℕ) (a n : ℕ) (x : Number) → line_by_place s a n x ≡ got (part_by s 10 x) (λ q e. J.Spelt a n q e)
by-place s a n N.Misspelt = refl
by-place s a n (Some w) = parted s 10 w.value w.next (λ q e. J.Spelt a n q e)

abbrev behind_length : List ℕ → ℕ → ℕ → ℕ → JobLine
behind_length s a n e = got (part_at s e most 10) (λ q f. J.Spelt a n q f)

by-length : (s : List ℕ) (a : ℕ) (x : Number) → line_by_length s a x ≡ got (part_by s 32 x) (behind_length s a)
unfolding part_at
by-length s a N.Misspelt = refl
by-length s a (Some w) =
    ap (λ (y : JobLine). pick (eqb (byte_in s w.next) 32) y J.Misspelt) (by-place s a w.value (number_at s (w.next + 1) most))
    ∙ parted s 32 w.value w.next (behind_length s a)

abbrev behind_start : List ℕ → ℕ → ℕ → JobLine
behind_start s a e = got (part_at s e most 32) (behind_length s a)

by-start : (s : List ℕ) (x : Number) → line_by_start s x ≡ got (part_by s 32 x) (behind_start s)
unfolding part_at
by-start s N.Misspelt = refl
by-start s (Some w) =
    ap (λ (y : JobLine). pick (eqb (byte_in s w.next) 32) y J.Misspelt) (by-length s w.value (number_at s (w.next + 1) most))
    ∙ parted s 32 w.value w.next (behind_start s)

-- the ways out of `job_line`: x, y and z are the parts
module _ (s : List ℕ) (from : ℕ) (x : Number) (ex : x ≡ part_at s from most 32) where
  by_parts : got x (behind_start s) ≡ job_line_at s from
  unfolding job_line_at part_at
  by_parts = rw (by-start s (number_at s from most), sym ex)

  pub start-misspelt : x ≡ N.Misspelt → J.Misspelt ≡ job_line_at s from
  start-misspelt g = rw g at by_parts

  module _ (a e : ℕ) (xs : x ≡ N.Spelt a e) (y : Number) (ey : y ≡ part_at s e most 32) where
    by_rest : got y (behind_length s a) ≡ job_line_at s from
    by_rest = rw (sym ey) at (rw xs at by_parts)

    pub length-misspelt : y ≡ N.Misspelt → J.Misspelt ≡ job_line_at s from
    length-misspelt g = rw g at by_rest

    module _ (n f : ℕ) (ys : y ≡ N.Spelt n f) (z : Number) (ez : z ≡ part_at s f most 10) where
      by_last : got z (λ q g. J.Spelt a n q g) ≡ job_line_at s from
      by_last = rw (sym ez) at (rw ys at by_rest)

      pub place-misspelt : z ≡ N.Misspelt → J.Misspelt ≡ job_line_at s from
      place-misspelt g = rw g at by_last

      pub job-spelt : (q g : ℕ) → z ≡ N.Spelt q g → J.Spelt a n q g ≡ job_line_at s from
      job-spelt q g zs = rw zs at by_last
