-- The file, moved line by line: what is to come makes the whole. Assumes nothing.
use Prim.Native.Nat.{ℕ, ◌+◌, ◌*◌, ◌≤◌, ◌<◌}
use mathlib.Core.List.{List, []}
use mathlib.Core.Path.{◌≡◌, refl, sym, ap, ap₂, subst, ◌∙◌}
use native.Mathlib.Numerals.{add-one}
use lib.ListN.{length, get_or, drop, drop_of_length-le}
use lib.Seq.{drop-cons}
use Rattle.ec20.proofs.MovedLaws.{moved_length}
use Rattle.ec20.specs.Basics.{list}
use Rattle.ec20.specs.Move.{moved_byte, moved_file}
use Rattle.job_moves.specs.Ready.{Movable}
use Rattle.jobs.specs.Tasks.{Task, moved_by, task_of, tasks_of}
use Rattle.moved.proofs.Bytes.{same_first, same_count}
use Rattle.records.specs.Ranges.{Held}

-- a file that was moved is one whose records a move may change
moved-movable : (t : Task) (f : List ℕ) (first count : ℕ) → Movable f first count → Movable (moved_file t.block t.place f) first count
moved-movable t f first count m =
    let i = same_first t.block t.place f m.whole in
    let n = same_count t.block t.place f m.whole in
    let l = moved_length t.block t.place f in
    record {
      held = subst (λ (s : ℕ). Held s first count) (sym l) m.held;
      begin = m.begin ∙ sym i;
      many = m.many ∙ sym n;
      whole = ap₂ (λ (a b : ℕ). a + 20 * b + 8) i n ∙ m.whole ∙ sym l;
    }

-- k lines of the file f₀ are moved, which left the file f
pub record Moving (first count : ℕ) (ls : List (List ℕ)) (f₀ : List ℕ) (k : ℕ) (f : List ℕ) : Type 0 where
  pub movable : Movable f first count
  pub size : length f ≡ length f₀
  pub rest : moved_by (tasks_of (drop k ls)) f ≡ moved_by (tasks_of ls) f₀

module _ (first count : ℕ) (ls : List (List ℕ)) (f₀ : List ℕ) where
  pub moving-none : Movable f₀ first count → Moving first count ls f₀ 0 f₀
  moving-none m = record { movable = m; size = refl; rest = refl }

  pub moving-more : (k : ℕ) (f g : List ℕ) → Moving first count ls f₀ k f → k < length ls
      → g ≡ list (length f) (moved_byte (task_of (get_or ls k [])).block (task_of (get_or ls k [])).place f first count) → Moving first count ls f₀ (k + 1) g
  unfolding moved_by moved_file
  moving-more k f g m h e =
      let t : Task = task_of (get_or ls k []) in
      let is : g ≡ moved_file t.block t.place f = e ∙ ap₂ (λ (i n : ℕ). list (length f) (moved_byte t.block t.place f i n)) m.movable.begin m.movable.many in
      record {
        movable = subst (λ (x : List ℕ). Movable x first count) (sym is) (moved-movable t f first count m.movable);
        size = ap length is ∙ moved_length t.block t.place f ∙ m.size;
        rest = ap₂ (λ (n : ℕ) (x : List ℕ). moved_by (tasks_of (drop n ls)) x) (add-one k) is ∙ sym (ap (λ (r : List (List ℕ)). moved_by (tasks_of r) f) (drop-cons ls k [] h)) ∙ m.rest;
      }

  pub moving-all : (k : ℕ) (f : List ℕ) → Moving first count ls f₀ k f → length ls ≤ k → f ≡ moved_by (tasks_of ls) f₀
  unfolding moved_by
  moving-all k f m h = sym (ap (λ (r : List (List ℕ)). moved_by (tasks_of r) f) (drop_of_length-le ls h)) ∙ m.rest
