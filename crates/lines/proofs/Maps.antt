-- "A word is marked read exactly if some record's source extent holds it, written exactly if a target extent does." Assumes nothing.
use Prim.Native.Nat.{ℕ, ◌+◌, ◌*◌, ◌/◌, ◌<◌}
use mathlib.Core.Bool.{Bool, true, ◌&&◌}
use mathlib.Core.List.{List}
use mathlib.Core.Path.{◌≡◌, sym, ap₂, ◌∙◌}
use native.Mathlib.Omega.{arith}
use Rattle.ec20.proofs.Ranges.{within-yes, is_within}
use Rattle.ec20.proofs.Some.{some_at, at_some}
use Rattle.ec20.proofs.Tests.{both}
use Rattle.ec20.specs.Check.{check_for}
use Rattle.ec20.specs.Answers.{told_by_map}
use Rattle.ec20.specs.Devices.{Device, within}
use Rattle.ec20.specs.File.{Records, records_of}
use Rattle.ec20.specs.Operands.{in_d, start_of, extent_of}
use Rattle.ec20.specs.Roles.{is_read, is_written}
use Rattle.ec20.specs.UseMap.{holds, record_has, some_record, marked_read, marked_written, map_for}
use Rattle.ec20.specs.declared.Operand.{Operand}
use Rattle.ec20.specs.declared.Place.{Place}
use Rattle.ec20.specs.Verdict.{Accepted}
use Rattle.marks.proofs.Maps.{map-marked}
use Rattle.marks.specs.Marked.{marked}
use Rattle.refusals.proofs.Has.{has_one, one_has}
use Rattle.lines.specs.Uses.{Uses}

module _ (used : Place → Bool) (i : ℕ) where
  abbrev Test : Place → Operand → Bool
  Test p o = used p && holds i p o

  pub some-uses : (rs : Records) → some_record Test rs ≡ true → Uses used rs i
  unfolding some_record holds
  some-uses rs e =
      let k = some_at (λ j. record_has Test (rs.at j)) 0 rs.count e in
      let u : k.0 < 0 + rs.count = k.2 in
      let q = has_one Test (rs.at k.0) k.3 in
      let p : Place = q.0 in
      let o : Operand = q.1 in
      let a = both (used p) (holds i p o) q.3 in
      let b = both (in_d o) (within (start_of o) (extent_of p o) i) a.1 in
      let d = is_within (start_of o) (extent_of p o) i b.1 in
      record { at = k.0; there = omega arith; place = p; operand = o; is = q.2; role = a.0; in_D = b.0; from = d.0; to = d.1 }

  pub uses-some : (rs : Records) → Uses used rs i → some_record Test rs ≡ true
  unfolding some_record holds
  uses-some rs u =
      at_some (λ j. record_has Test (rs.at j)) 0 rs.count u.at (omega arith) (omega (arith, u.there))
      (one_has Test (rs.at u.at) u.is (ap₂ ◌&&◌ u.role (ap₂ ◌&&◌ u.in_D (within-yes (start_of u.operand) (extent_of u.place u.operand) i u.from u.to))))

-- a device, an accepted file, and a word of D
module _ (v : Device) (f : List ℕ) (n w : ℕ) (ok : check_for v f ≡ Accepted n w) (i : ℕ) (h : i < 8 * (v.words / 8)) where
  read_is : marked (told_by_map v (map_for v f)).read i ≡ marked_read (records_of f) i
  unfolding map_for
  read_is = rw ok (map-marked v (marked_read (records_of f)) i h)

  written_is : marked (told_by_map v (map_for v f)).written i ≡ marked_written (records_of f) i
  unfolding map_for
  written_is = rw ok (map-marked v (marked_written (records_of f)) i h)

  pub read-used : marked (told_by_map v (map_for v f)).read i ≡ true → Uses is_read (records_of f) i
  unfolding marked_read
  read-used e = some-uses is_read i (records_of f) (sym read_is ∙ e)

  pub used-read : Uses is_read (records_of f) i → marked (told_by_map v (map_for v f)).read i ≡ true
  unfolding marked_read
  used-read u = read_is ∙ uses-some is_read i (records_of f) u

  pub written-used : marked (told_by_map v (map_for v f)).written i ≡ true → Uses is_written (records_of f) i
  unfolding marked_written
  written-used e = some-uses is_written i (records_of f) (sym written_is ∙ e)

  pub used-written : Uses is_written (records_of f) i → marked (told_by_map v (map_for v f)).written i ≡ true
  unfolding marked_written
  used-written u = written_is ∙ uses-some is_written i (records_of f) u
