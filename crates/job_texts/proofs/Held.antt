-- The walk over the lines of a job: by the walk over any lines. Assumes nothing.
use Prim.Native.Nat.{ℕ, ◌+◌, ◌<◌, ◌≤◌}
use mathlib.Core.List.{List, [], ◌∷◌}
use mathlib.Core.Path.{◌≡◌, sym, ap, ◌∙◌}
use lib.ListN.{length, set}
use Rattle.std.specs.Prelude.{Some}
use Rattle.ec20.specs.Judged.{Judged, Fine, Fault}
use Rattle.jobs.specs.Text.{job_line_at, three_of, job_in}
use Rattle.jobs.specs.JobLine.{JobLine}
use Rattle.jobs.specs.declared.JobLine.{JobLine as SpeltLine}
use Rattle.jobs.specs.JobLine as J
use Rattle.units.proofs.Walk.{kept-length, kept-none, Passed as Walked, Over, passed_none as Walked-none, passed-more as Walked-more, passed-misspelt as walked-misspelt, passed-all as walked_all}
use Rattle.units.specs.Kept.{kept_in}
use Rattle.units.specs.Reading.{Entry, Read}
use Rattle.job_texts.specs.Held.{held_of}
use Rattle.job_texts.specs.declared.Lines.{Lines}

-- the line at a place, as an entry
abbrev pub entry_at : List ℕ → ℕ → Entry (List ℕ)
entry_at s from = three_of (job_line_at s from)

-- The lines ahead of byte `from` of the text were read: k of them, which t keeps in the room b, and what is to come makes the whole.
abbrev pub Passed : List ℕ → List (List ℕ) → ℕ → ℕ → List (List ℕ) → Type 0
Passed s b from k t = Walked (List ℕ) (entry_at s) (length s) b from k t

pub passed_none : (s : List ℕ) (b : List (List ℕ)) → Passed s b 0 0 b
passed_none s b = Walked-none (entry_at s) (length s) b b (sym (kept-none b))

-- the room stays as long as it was
pub room-same : (s : List ℕ) (b : List (List ℕ)) (from k : ℕ) (t : List (List ℕ)) → Passed s b from k t → length t ≡ length b
room-same s b from k t w = ap (λ (y : List (List ℕ)). length y) w.kept ∙ kept-length b w.l

-- what is promised of a walk that is over
abbrev pub Promised : List ℕ → List (List ℕ) → Lines → List (List ℕ) → Type 0
Promised s b r t = (r ≡ held_of (job_in s)) × (t ≡ kept_in b (job_in s).list)

held-over : (r : Read (List ℕ)) (b : List (List ℕ)) (j : Judged) (k : ℕ) (t : List (List ℕ)) → Over (List ℕ) r b j k t → record { fault = j; count = k } ≡ held_of r
unfolding held_of
held-over r b j k t o = rw (o.fault, o.count)

module _ (s : List ℕ) (b : List (List ℕ)) (from k : ℕ) (t : List (List ℕ)) (w : Passed s b from k t) where
  module _ (h : from < length s) (x : JobLine) (ex : x ≡ job_line_at s from) where
    pub passed-more : (y : SpeltLine) (t' : List (List ℕ)) → x ≡ Some y → from < y.next → y.next ≤ length s
        → t' ≡ set t k (y.start ∷ y.length ∷ y.place ∷ []) → Passed s b y.next (k + 1) t'
    passed-more y t' g l v et =
        Walked-more (entry_at s) (length s) b from k t w (y.start ∷ y.length ∷ y.place ∷ []) y.next t' h (ap three_of (sym ex ∙ g)) l v et

    pub passed-misspelt : x ≡ J.Misspelt → Promised s b (record { fault = Fault 15 k; count = k }) t
    unfolding job_in
    passed-misspelt g =
        let o = walked-misspelt (entry_at s) (length s) b from k t w h (ap three_of (sym ex ∙ g)) in
        (held-over _ _ _ k t o, o.kept)

  pub passed-all : length s ≤ from → Promised s b (record { fault = Fine; count = k }) t
  unfolding job_in
  passed-all h =
      let o = walked_all (entry_at s) (length s) b from k t w h in
      (held-over _ _ _ k t o, o.kept)
