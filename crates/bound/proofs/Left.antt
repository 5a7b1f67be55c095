-- What is left of a scan: the rest of the row that the record due stands in, then what follows the row, loop by loop outwards.
use Prim.Native.Nat.{ℕ, suc, ◌+◌, ◌-◌, ◌*◌, ◌<◌, ◌≤◌}
use mathlib.Core.List.{List, [], ◌∷◌}
use mathlib.Core.Path.{◌≡◌, refl, sym, ap, ◌∙◌}
use native.Mathlib.Omega.{arith}
use lib.ListN.{length}
use Rattle.ec20.specs.declared.Control.TheVariants.{Closes, Ends}
use Rattle.ec20.specs.Found.{Nowhere}
use Rattle.ec20.specs.Control.{Controls, marks, found_in_body}
use Rattle.ec20.specs.Labels.{opens_of}
use Rattle.bound.specs.Small.{Frame, frame, State, start}
use Rattle.bound.proofs.Rows.{Seq}
use Rattle.bound.proofs.Search.{at_next, at_last}
use Rattle.bound.proofs.Opens.{row_opens}
use Rattle.bound.proofs.Rule.{Whole}

-- After code count d loops e c: at record e, d deep, a row ends, and c steps are left: END; or the NEXT of a pass, with x passes in hand,
-- that one counted, and what comes after the loop
pub data After (code : Controls) (count : ℕ) : ℕ → List Frame → ℕ → ℕ → Type 0 where
  ends : {e : ℕ} → code e ≡ Ends → e + 1 ≡ count → opens_of code e ≡ [] → After code count 0 [] e 1
  again : {d h e x v w f c : ℕ} {loops : List Frame} → d < 8 → code e ≡ Closes → e + 1 < count → opens_of code h ≡ (h - 1) ∷ opens_of code (e + 1)
      → Seq code (suc d) h e v → Seq code d (e + 1) f w → After code count d loops f c
      → After code count (suc d) (frame x h ∷ loops) e (suc ((x - 1) * suc v + (w + c)))

-- at most m steps are left, and just m where no jump is taken
pub record Left (code : Controls) (count : ℕ) (s : State) (m : ℕ) : Type 0 where
  pub d : ℕ
  pub to : ℕ
  pub w : ℕ
  pub c : ℕ
  pub row : Seq code d s.pc to w
  pub rest : After code count d s.loops to c
  pub cost : w + c ≡ m
  pub runs : s.mark ≡ 0

-- the FORs of open loops
abbrev pub fors : List Frame → List ℕ
fors [] = []
fors (f ∷ l) = (f.back - 1) ∷ fors l

module _ (code : Controls) (count : ℕ) where
  pub after-in : {d e c : ℕ} {loops : List Frame} → After code count d loops e c → e < count
  after-in (ends q h o) = omega arith
  after-in (again r q h o b t a) = omega arith

  pub after-deep : {d e c : ℕ} {loops : List Frame} → After code count d loops e c → length loops ≡ d
  after-deep (ends q h o) = refl
  after-deep (again r q h o b t a) = ap suc (after-deep a)

  pub after-low : {d e c : ℕ} {loops : List Frame} → After code count d loops e c → d ≤ 8
  after-low (ends q h o) = omega arith
  after-low (again r q h o b t a) = omega arith

  pub after-some : {d e c : ℕ} {loops : List Frame} → After code count d loops e c → 0 < c
  after-some (ends q h o) = omega arith
  after-some (again r q h o b t a) = omega arith

  -- the loops open are those in which the record stands
  pub after-opens : {d e c : ℕ} {loops : List Frame} → After code count d loops e c → opens_of code e ≡ fors loops
  after-opens (ends q h o) = o
  after-opens (again {h = h} r q i o b t a) = row_opens code b ∙ o ∙ ap ((h - 1) ∷◌) (sym (row_opens code t) ∙ after-opens a)

  -- no label is found at the end of a row
  pub after_none : {d e c : ℕ} {loops : List Frame} (l : ℕ) → After code count d loops e c → found_in_body code count (marks l) 0 e ≡ Nowhere
  unfolding marks
  after_none {e = e} l (ends q h o) = at_last code count (marks l) e h q refl
  after_none {e = e} l (again r q h o b t a) = at_next code count (marks l) e (omega arith) q refl

  pub left-some : {s : State} {m : ℕ} → Left code count s m → 0 < m
  left-some {s} {m} g = let p : 0 < g.c = after-some g.rest in let q : g.w + g.c ≡ m = g.cost in omega arith

  -- before a scan all is left
  pub left-start : {e u : ℕ} → Whole code count e u → Left code count start (suc u)
  unfolding opens_of
  left-start {e} {u} p =
      record {
        d = 0;
        to = e;
        w = u;
        c = 1;
        row = p.body;
        rest = ends p.last p.size (row_opens code p.body);
        cost = omega arith;
        runs = refl;
      }
