-- What the trailer's test says of the frame. Assumes nothing.
use mathlib.Core.Bool.{Bool, true, false, ◌&&◌}
use mathlib.Core.List.{List}
use mathlib.Core.Path.{◌≡◌, sym, ◌∙◌}
use Prim.Native.Nat.{ℕ, ◌+◌, ◌*◌, ◌-◌, ◌<◌, ◌≤◌}
use native.Mathlib.Omega.{arith}
use lib.Dec.{eqb, leb}
use lib.ListN.{length}
use borrow.Author.Tests.{leb-true, eqb-true, le-leb, lt-leb}
use Rattle.ec20.proofs.Tests.{both}
use Rattle.ec20.specs.Basics.{pick}
use Rattle.ec20.specs.File.{edition_of, count_of, distance_of, first_of, framed, frame_of}
use Rattle.ec20.specs.Frame.{Whole, Broken}
use Rattle.records.specs.Ranges.{Held}

-- what `trailer_fits` tests
abbrev fits : ℕ → ℕ → ℕ → ℕ → Bool
fits n edition count distance =
    eqb edition 1 && leb 1 count && leb count 2000 && eqb distance (20 * count + 8) && leb distance n && leb (n - distance) 4096

-- the test says how the records lie in the file
pub held : (n edition count distance : ℕ) → fits n edition count distance ≡ true → {first : ℕ} → first ≡ n - distance → Held n first count
held n edition count distance t f =
    let all = both (eqb edition 1 && leb 1 count && leb count 2000 && eqb distance (20 * count + 8) && leb distance n) _ t in
    let a = both (eqb edition 1 && leb 1 count && leb count 2000 && eqb distance (20 * count + 8)) _ all.0 in
    let b = both (eqb edition 1 && leb 1 count && leb count 2000) _ a.0 in
    let d = both (eqb edition 1 && leb 1 count) _ b.0 in
    let e = both (eqb edition 1) _ d.0 in
    let is : distance ≡ 20 * count + 8 = eqb-true _ _ b.1 in
    let in-file : distance ≤ n = leb-true _ _ a.1 in
    record { whole = omega arith; some = leb-true _ _ e.1; most = leb-true _ _ d.1; near = let z : n - distance ≤ 4096 = leb-true _ _ all.1 in let y : count ≤ 2000 = leb-true _ _ d.1 in omega arith }

module _ (f : List ℕ) where
  pub short : length f < 8 → Broken ≡ frame_of f
  unfolding frame_of framed
  short h = rw (lt-leb 8 (length f) h)

  -- the frame is whole by the test on what the trailer says
  by-test : 8 ≤ length f → frame_of f ≡ pick (fits (length f) (edition_of f) (count_of f) (distance_of f)) (Whole (first_of f) (count_of f)) Broken
  unfolding frame_of framed
  by-test h = rw (le-leb 8 (length f) h)

  module _ {edition count distance : ℕ} {t : Bool} (h : 8 ≤ length f) (e : edition ≡ edition_of f) (c : count ≡ count_of f) (d : distance ≡ distance_of f) (is : t ≡ fits (length f) edition count distance) where
    judged : frame_of f ≡ pick t (Whole (length f - distance) count) Broken
    judged = by-test h ∙ rw (is, e, c, d)

    pub whole : {first : ℕ} → t ≡ true → first ≡ length f - distance → Whole first count ≡ frame_of f
    whole y z = rw z (sym (judged ∙ rw y))

    pub broken : t ≡ false → Broken ≡ frame_of f
    broken y = sym (judged ∙ rw y)
