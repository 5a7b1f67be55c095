-- A JOB THAT IS DONE: done-alike. The words and statements are in specs/Jobs.antt.
use Prim.Native.Nat.{ℕ, zero, suc, ◌≤◌, ◌<◌, ◌^◌}
use mathlib.Core.Bool.{true, false}
use mathlib.Core.List.{List, [], ◌∷◌, map}
use mathlib.Core.Logic.{inl, inr}
use mathlib.Core.Path.{◌≡◌, refl, sym, ap, ap₂, subst, ◌∙◌}
use native.Mathlib.Omega.{arith}
use lib.Dec.{eqb}
use lib.IntN.{ℤ}
use lib.ListN.{length, length-map}
use borrow.Author.Tests.{eqb-true}
use Rattle.demands.specs.Demand3.{OfBytes}
use Rattle.demands.specs.Lines.{In}
use Rattle.ec20.proofs.Exchanges.{exchange-length}
use Rattle.ec20.proofs.Ranges.{common-meets}
use Rattle.ec20.proofs.Tests.{differ, either, neither}
use Rattle.ec20.specs.Check.{check_for}
use Rattle.ec20.specs.Devices.{Device, ec20, meets}
use Rattle.ec20.specs.Exchange.{swapped, exchange_by, exchanged}
use Rattle.ec20.specs.Verdict.{Accepted}
use Rattle.jobs.proofs.Accepts.{Accepts, done-accepts, accepts-done}
use Rattle.jobs.specs.Job.{job, job_if, job_for, job_answer, right_table, task_at}
use Rattle.jobs.specs.Tasks.{Task, tasks_meet, back, moved_by, exchanged_by}
use Rattle.jobs.specs.Jobbed.{Jobbed}
use Rattle.jobs.specs.Jobbed.{Done}
use Rattle.orders.specs.Any.{Each, DisjointFrom, AllDisjoint, Fits, Reordered}
use Rattle.orders.specs.Jobs.{DoneAlike}
use Rattle.orders.specs.Two.{Goes, in_block, in_place, Disjoint}
use Rattle.orders.proofs.Any.{reorder-fits, reorder-length, bytes-alike, table-alike, check-alike, any-on}
use Rattle.orders.proofs.Back.{back_fits, file-back, words_back}
use Rattle.orders.proofs.Went.{some_word, the-answer, went}
use Rattle.orders.proofs.Words.{unmet}

-- ---- tasks that do not meet have no word in common

module _ (s t : Task) where
  -- no word of two rows that do not meet is in both
  apart : (a n b m i : ℕ) → meets a n b m ≡ false → In a n i → In b m i → ⊥
  apart a n b m i e x y = differ (sym (common-meets a n b m i x.from x.to y.from y.to) ∙ e)

  pub unmet-disjoint : tasks_meet s t ≡ false → Disjoint s t
  unfolding tasks_meet
  unmet-disjoint e i x y =
      let p = neither _ _ e in
      let q = neither _ _ p.0 in
      let r = neither _ _ q.0 in
      elim x [
        | in_block g ↦ elim y [ in_block h ↦ apart _ _ _ _ i r.0 g h | in_place h ↦ apart _ _ _ _ i r.1 g h ]
        | in_place g ↦ elim y [ in_block h ↦ apart _ _ _ _ i q.1 g h | in_place h ↦ apart _ _ _ _ i p.1 g h ]
      ]

  -- and the other way, where neither block is empty
  pub disjoint-unmet : 0 < s.block.length → 0 < t.block.length → Disjoint s t → tasks_meet s t ≡ false
  unfolding tasks_meet
  disjoint-unmet x y d =
      rw (unmet s.block.start s.block.length t.block.start t.block.length x y (λ i g h. d i (in_block g) (in_block h)), unmet s.block.start s.block.length t.place t.block.length x y (λ i g h. d i (in_block g) (in_place h)), unmet s.place s.block.length t.block.start t.block.length x y (λ i g h. d i (in_place g) (in_block h)), unmet s.place s.block.length t.place t.block.length x y (λ i g h. d i (in_place g) (in_place h)))

-- ---- by place in the list, and by the list

abbrev Unmet : List Task → Type 0
Unmet ts = (i j : ℕ) → j < i → i < length ts → tasks_meet (task_at ts j) (task_at ts i) ≡ false

from_first : (t : Task) (ts : List Task) → ((i : ℕ) → i < length ts → tasks_meet t (task_at ts i) ≡ false) → DisjointFrom t ts
from_first t [] h = tt
from_first t (u ∷ ts) h = (unmet-disjoint t u (h 0 (omega arith)), from_first t ts (λ i l. h (suc i) (omega arith)))

all-disjoint : (ts : List Task) → Unmet ts → AllDisjoint ts
all-disjoint [] h = tt
all-disjoint (t ∷ ts) h =
    (from_first t ts (λ i l. h (suc i) 0 (omega arith) (omega arith)), all-disjoint ts (λ i j l u. h (suc i) (suc j) (omega arith) (omega arith)))

module _ (v : Device) (f : List ℕ) where
  abbrev At : List Task → Type 0
  At ts = (j : ℕ) → j < length ts → Goes v f (task_at ts j)

  each_of : (ts : List Task) → At ts → Each v f ts
  each_of [] h = tt
  each_of (t ∷ ts) h = (h 0 (omega arith), each_of ts (λ j l. h (suc j) (omega arith)))

  of-each : (ts : List Task) → Each v f ts → At ts
  of-each [] e j l = absurd (omega arith)
  of-each (t ∷ ts) e zero l = e.0
  of-each (t ∷ ts) e (suc j) l = of-each ts e.1 j (omega arith)

  first-unmet : (t : Task) (ts : List Task) → Goes v f t → Each v f ts → DisjointFrom t ts → (i : ℕ) → i < length ts → tasks_meet t (task_at ts i) ≡ false
  first-unmet t [] g e d i l = absurd (omega arith)
  first-unmet t (u ∷ ts) g e d zero l = disjoint-unmet t u (some_word (went v f t g)) (some_word (went v f u e.0)) d.0
  first-unmet t (u ∷ ts) g e d (suc i) l = first-unmet t ts g e.1 d.1 i (omega arith)

  all-unmet : (ts : List Task) → Each v f ts → AllDisjoint ts → Unmet ts
  all-unmet [] e d i j l u = absurd (omega arith)
  all-unmet (t ∷ ts) e d zero j l u = absurd (omega arith)
  all-unmet (t ∷ ts) e d (suc i) zero l u = first-unmet t ts e.0 e.1 d.0 i (omega arith)
  all-unmet (t ∷ ts) e d (suc i) (suc j) l u = all-unmet ts e.1 d.1 i j (omega arith) (omega arith)

-- ---- when a job is done

-- at most 64 tasks, an accepted file, a right table, and moves that fit: as `Accepts` says it of each place, by the list
pub record Ready (v : Device) (f : List ℕ) (d : List ℤ) (ts : List Task) : Type 0 where
  pub few : length ts ≤ 64
  pub records : ℕ
  pub steps : ℕ
  pub accepted : check_for v f ≡ Accepted records steps
  pub table : right_table v d ≡ true
  pub fits : Fits v f ts

module _ (v : Device) (f : List ℕ) (d : List ℤ) (ts : List Task) where
  ready : Accepts v f d ts → Ready v f d ts
  ready a =
      record {
        few = a.few;
        records = a.records;
        steps = a.steps;
        accepted = a.accepted;
        table = a.right;
        fits = record { each = each_of v f ts (λ j h. ((task_at ts j).place, a.moves j h)); disjoint = all-disjoint ts a.apart };
      }

  accepts : Ready v f d ts → Accepts v f d ts
  accepts r =
      record {
        few = r.few;
        records = r.records;
        steps = r.steps;
        accepted = r.accepted;
        right = r.table;
        moves = λ j h. the-answer (went v f (task_at ts j) (of-each v f ts r.fits.each j h));
        apart = all-unmet v f ts r.fits.each r.fits.disjoint;
      }

  pub job-done : Ready v f d ts → job_for v f d ts ≡ job (Done (length ts)) (moved_by ts f) (exchanged_by ts d)
  unfolding job_for
  job-done r = ap (λ (a : Jobbed). job_if a f d ts) (accepts-done v f d ts (accepts r))

-- ---- the table: as many words as the device has, or none

no_words : (ts : List Task) → exchanged_by ts [] ≡ []
unfolding exchanged_by exchange_by
no_words [] = refl
no_words (t ∷ ts) = no_words ts

pub words-length : (ts : List Task) (d : List ℤ) → length (exchanged_by ts d) ≡ length d
unfolding exchanged_by
words-length [] d = refl
words-length (t ∷ ts) d = words-length ts (exchanged t.block t.place d) ∙ exchange-length (swapped t.block t.place) d

empty : (d : List ℤ) → length d ≡ 0 → d ≡ []
empty [] e = refl
empty (x ∷ d) e = absurd (omega (arith, e))

-- what holds of a table of as many words as the device has, and of none, holds of a right one
by_size : (v : Device) (P : List ℤ → Type 0) (d : List ℤ) → right_table v d ≡ true → (length d ≡ v.words → P d) → P [] → P d
by_size v P d r f g =
    elim (either (eqb (length d) v.words) (eqb (length d) 0) r) [
      | inl e ↦ f (eqb-true _ _ e)
      | inr e ↦ subst P (sym (empty d (eqb-true _ _ e))) g
    ]

-- ---- THE THEOREM

module _ (v : Device) (small : v.words ≤ 2 ^ 32) (f : List ℕ) (byte : OfBytes f) (d : List ℤ) (ts : List Task) (r : Ready v f d ts) where
  alike : (us : List Task) → Reordered ts us → job_for v f d us ≡ job_for v f d ts
  alike us o =
      let size : length us ≡ length ts = reorder-length o in
      let ready-us : Ready v f d us =
      record {
        few = subst (λ (n : ℕ). n ≤ 64) (sym size) r.few;
        records = r.records;
        steps = r.steps;
        accepted = r.accepted;
        table = r.table;
        fits = reorder-fits o r.fits;
      } in
      let words : exchanged_by us d ≡ exchanged_by ts d =
      by_size v (λ (l : List ℤ). exchanged_by us l ≡ exchanged_by ts l) d r.table (λ e. table-alike v small f byte o r.fits d e) (no_words us ∙ sym (no_words ts)) in
      job-done v f d us ready-us
      ∙ ap (λ (n : ℕ). job (Done n) (moved_by us f) (exchanged_by us d)) size
      ∙ ap₂ (job (Done (length ts))) (bytes-alike v small f byte o r.fits) words
      ∙ sym (job-done v f d ts r)

  again : job_for v (moved_by ts f) (exchanged_by ts d) (map back ts) ≡ job (Done (length ts)) f d
  again =
      let size : length (map back ts) ≡ length ts = length-map ts back in
      let ready-back : Ready v (moved_by ts f) (exchanged_by ts d) (map back ts) =
      record {
        few = subst (λ (n : ℕ). n ≤ 64) (sym size) r.few;
        records = r.records;
        steps = r.steps;
        accepted = check-alike v small f byte ts r.fits ∙ r.accepted;
        table = rw (words-length ts d) r.table;
        fits = back_fits v small f byte ts r.fits;
      } in
      let words : exchanged_by (map back ts) (exchanged_by ts d) ≡ d =
      by_size v (λ (l : List ℤ). exchanged_by (map back ts) (exchanged_by ts l) ≡ l) d r.table (λ e. words_back v small f byte ts r.fits d e) (ap (exchanged_by (map back ts)) (no_words ts) ∙ no_words (map back ts)) in
      job-done v (moved_by ts f) (exchanged_by ts d) (map back ts) ready-back
      ∙ ap (λ (n : ℕ). job (Done n) (moved_by (map back ts) (moved_by ts f)) (exchanged_by (map back ts) (exchanged_by ts d))) size
      ∙ ap₂ (job (Done (length ts))) (file-back v small f byte ts r.fits) words

  pub alike-on : DoneAlike v f d ts
  alike-on =
      record { done = job-done v f d ts r; any_order = any-on v small f byte ts r.fits; alike = alike; back_again = again }

-- of the EC20: of every file of bytes, every table and every job that is done
pub done-alike : (f : List ℕ) → OfBytes f → (d : List ℤ) (ts : List Task) (n : ℕ) → job_answer ec20 f d ts ≡ Done n → DoneAlike ec20 f d ts
done-alike f byte d ts n e = alike-on ec20 (omega arith) f byte d ts (ready ec20 f d ts (done-accepts ec20 f d ts n e).0)
