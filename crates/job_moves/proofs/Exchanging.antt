-- The D table, exchanged line by line: what is to come makes the whole. Assumes nothing.
use Prim.Native.Nat.{ℕ, ◌+◌, ◌≤◌, ◌<◌}
use mathlib.Core.Bool.{true, ◌||◌}
use mathlib.Core.List.{List, [], ◌∷◌}
use mathlib.Core.Logic.{inl, inr}
use mathlib.Core.Path.{◌≡◌, refl, sym, ap, ap₂, ◌∙◌}
use native.Mathlib.Numerals.{add-one}
use native.Mathlib.Omega.{arith}
use lib.Dec.{eqb}
use lib.IntN.{ℤ}
use lib.ListN.{length, get_or, drop, drop_of_length-le}
use lib.Seq.{drop-cons}
use borrow.Author.Tests.{eqb-true}
use Rattle.ec20.proofs.Exchanges.{exchange-length}
use Rattle.ec20.proofs.Tests.{either}
use Rattle.ec20.specs.Devices.{ec20}
use Rattle.ec20.specs.Exchange.{Exchange, swapped, exchange_by, exchanged, size_fault, judge_exchange, exchange_for, exchange_of}
use Rattle.ec20.specs.Exchanged.{Exchanged}
use Rattle.job_moves.specs.Ready.{Granted}
use Rattle.jobs.specs.Job.{right_table}
use Rattle.jobs.specs.Tasks.{Task, exchanged_by, task_of, tasks_of}

module _ (t : Task) (g : Granted t) where
  abbrev after : List ℤ → List ℤ
  after d = exchanged t.block t.place d

  -- no word: 9, and the table is as it was
  of_none : (d : List ℤ) → length d ≡ 0 → (exchange_of d t.block t.place).words ≡ after d
  unfolding exchange_of exchange_for judge_exchange size_fault exchange_by
  of_none [] e = refl
  of_none (x ∷ d) e = absurd (omega arith)

  -- a table of 8,000 words or none
  of_right : (d : List ℤ) → right_table ec20 d ≡ true → (exchange_of d t.block t.place).words ≡ after d
  of_right d h =
      elim (either (eqb (length d) 8000) (eqb (length d) 0) h) [
        | inl e ↦ ap (λ (x : Exchange). x.words) (g.exchanges d (eqb-true _ _ e))
        | inr e ↦ of_none d (eqb-true _ _ e)
      ]

-- k lines of the table d₀ are exchanged, which left the table d
pub record Exchanging (ls : List (List ℕ)) (d₀ : List ℤ) (k : ℕ) (d : List ℤ) : Type 0 where
  pub right : right_table ec20 d ≡ true
  pub size : length d ≡ length d₀
  pub rest : exchanged_by (tasks_of (drop k ls)) d ≡ exchanged_by (tasks_of ls) d₀

module _ (ls : List (List ℕ)) (d₀ : List ℤ) where
  pub exchanging-none : right_table ec20 d₀ ≡ true → Exchanging ls d₀ 0 d₀
  exchanging-none h = record { right = h; size = refl; rest = refl }

  pub exchanging-more : (k : ℕ) (d e : List ℤ) {r : Exchanged} → Exchanging ls d₀ k d → k < length ls → Granted (task_of (get_or ls k []))
      → record { answer = r; words = e } ≡ exchange_of d (task_of (get_or ls k [])).block (task_of (get_or ls k [])).place → Exchanging ls d₀ (k + 1) e
  unfolding exchanged_by
  exchanging-more k d e m h g q =
      let t : Task = task_of (get_or ls k []) in
      let is : e ≡ exchanged t.block t.place d = ap (λ (x : Exchange). x.words) q ∙ of_right t g d m.right in
      let long : length e ≡ length d = ap length is ∙ exchange-length (swapped t.block t.place) d in
      record {
        right = ap (λ (n : ℕ). eqb n 8000 || eqb n 0) long ∙ m.right;
        size = long ∙ m.size;
        rest = ap₂ (λ (n : ℕ) (x : List ℤ). exchanged_by (tasks_of (drop n ls)) x) (add-one k) is ∙ sym (ap (λ (r : List (List ℕ)). exchanged_by (tasks_of r) d) (drop-cons ls k [] h)) ∙ m.rest;
      }

  pub exchanging-all : (k : ℕ) (d : List ℤ) → Exchanging ls d₀ k d → length ls ≤ k → d ≡ exchanged_by (tasks_of ls) d₀
  unfolding exchanged_by
  exchanging-all k d m h = sym (ap (λ (r : List (List ℕ)). exchanged_by (tasks_of r) d) (drop_of_length-le ls h)) ∙ m.rest
