-- The walk over the lines of a unit list, whose declarations a table keeps: by the walk over any lines. Assumes nothing.
use Prim.Native.Nat.{ℕ, ◌+◌, ◌<◌, ◌≤◌}
use mathlib.Core.List.{List, []}
use mathlib.Core.Path.{◌≡◌, sym, ap, ◌∙◌}
use native.Mathlib.Decide.{dec_lt}
use native.Mathlib.Omega.{arith}
use lib.ListN.{length, set, replicate}
use lib.Seq.{set_out}
use borrow.Author.Tests.{lt-ltb, le-ltb}
use Rattle.std.specs.Prelude.{Some}
use Rattle.ec20.specs.Judged.{Judged, Fine, Fault}
use Rattle.units.proofs.Walk.{kept-length, Passed as Walked, Over, passed_none as Walked-none, passed-more as Walked-more, passed-misspelt as walked-misspelt, passed-all as walked_all}
use Rattle.units.specs.Listed.{declaration, unit_at, entry_of, units_of}
use Rattle.units.specs.Reading.{Entry, spelt, Read}
use Rattle.units.specs.declared.Declaration.{Declaration}
use Rattle.units.specs.declared.Table.{Table}
use Rattle.units.specs.UnitLine.{UnitLine}
use Rattle.units.specs.declared.UnitLine.{UnitLine as SpeltLine}
use Rattle.units.specs.UnitLine as U
use Rattle.unit_texts.specs.Held.{nothing, table_of, put_of, held_of}

-- the line at a place, as an entry
abbrev pub entry_at : List ℕ → ℕ → Entry Declaration
entry_at s from = entry_of s (unit_at s from)

-- 64 places with nothing in them
abbrev pub room : List Declaration
room = replicate 64 nothing

-- The lines ahead of byte `from` of the text were read: k of them, which make the table t, and what is to come makes the whole.
abbrev pub Passed : List ℕ → ℕ → ℕ → Table → Type 0
Passed s from k t = Walked Declaration (entry_at s) (length s) room from k t.at

pub passed_none : (s : List ℕ) (t : Table) → t ≡ table_of [] → Passed s 0 0 t
unfolding table_of
passed_none s t e = Walked-none (entry_at s) (length s) room t.at (ap (λ (y : Table). y.at) e)

-- what is put past the 64 places is left out
put-at : (t : Table) (i : ℕ) (d : Declaration) → length t.at ≡ 64 → (put_of t i d).at ≡ set t.at i d
unfolding put_of
put-at t i d e =
    elim (dec_lt i 64) [
      | yes h ↦ rw (lt-ltb i 64 h)
      | no h ↦ let l : 64 ≤ i = omega arith in rw (le-ltb i 64 l) (sym (set_out t.at i d (omega (arith, e))))
    ]

-- what a walk that is over has is what is held
held-over : (r : Read Declaration) (j : Judged) (k : ℕ) (t : Table) → Over Declaration r room j k t.at → record { fault = j; count = k; table = t } ≡ held_of r
unfolding held_of table_of
held-over r j k t o = rw (o.fault, o.count, ← o.kept)

module _ (s : List ℕ) (from k : ℕ) (t : Table) (w : Passed s from k t) where
  module _ (h : from < length s) (x : UnitLine) (ex : x ≡ unit_at s from) where
    pub passed-more : (y : SpeltLine) (d : Declaration) (t' : Table) → x ≡ Some y → from < y.next → y.next ≤ length s
        → d ≡ declaration s y.unit y.name y.start y.length → t' ≡ put_of t k d → Passed s y.next (k + 1) t'
    passed-more y d t' g l v ed et =
        let places : length t.at ≡ 64 = ap (λ (z : List Declaration). length z) w.kept ∙ kept-length room w.l in
        Walked-more (entry_at s) (length s) room from k t.at w d y.next t'.at h
        (ap (entry_of s) (sym ex ∙ g) ∙ ap (λ (z : Declaration). spelt z y.next) (sym ed)) l v
        (ap (λ (z : Table). z.at) et ∙ put-at t k d places)

    pub passed-misspelt : x ≡ U.Misspelt → record { fault = Fault 15 k; count = k; table = t } ≡ held_of (units_of s)
    unfolding units_of
    passed-misspelt g = held-over _ _ k t (walked-misspelt (entry_at s) (length s) room from k t.at w h (ap (entry_of s) (sym ex ∙ g)))

  pub passed-all : length s ≤ from → record { fault = Fine; count = k; table = t } ≡ held_of (units_of s)
  unfolding units_of
  passed-all h = held-over _ _ k t (walked_all (entry_at s) (length s) room from k t.at w h)
