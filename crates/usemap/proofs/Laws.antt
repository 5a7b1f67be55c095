-- The use map by its cases, and one record of the walk. Assumes nothing.
use Prim.Native.Nat.{ℕ, ◌≤◌}
use mathlib.Core.Bool.{Bool, true, false, ◌&&◌}
use mathlib.Core.List.{List}
use mathlib.Core.Path.{◌≡◌, refl, sym, ap₂}
use Rattle.ec20.specs.Check.{check_of}
use Rattle.ec20.specs.Devices.{Device, ec20}
use Rattle.ec20.specs.File.{Records, records_from}
use Rattle.ec20.specs.UseMap.{holds, some_operand, marked_read, marked_written, map_for, use_map_of}
use Rattle.std.specs.Prelude.{Result, Ok, Err}
use Rattle.checker.specs.Accepted.{accepted_of}
use Rattle.checker.proofs.Accepted.{taken, not_taken}
use Rattle.ec20.specs.Mapped.{Mapped}
use Rattle.ec20.specs.declared.Frame.{Frame}
use Rattle.ec20.specs.declared.Refusal.{Refusal}
use Rattle.ec20.specs.declared.UseMap.{UseMap}
use Rattle.ec20.specs.declared.Operand.{Operand}
use Rattle.ec20.specs.declared.Place.{Place}
use Rattle.ec20.specs.declared.Rec.{Rec}
use Rattle.ec20.specs.declared.Row.{Row}
use Rattle.marks.proofs.Walk.{widen-held, widen_none, widen-three, passed-all}
use Rattle.marks.specs.Marked.{marking_held, Widened, Passed}
use Rattle.usemap.specs.Maps.{read_by, written_by, maps_in}

-- an operand that is used in the map's way, and one that is not
module _ (v : Device) (m : List ℕ) (p : Place) (o : Operand) where
  pub widen-used : {u : Bool} {n : List ℕ} → u ≡ true → n ≡ marking_held m p o → Widened v (λ i. u && holds i p o) m n
  widen-used e f = rw e (widen-held v m p o f)

  pub widen-unused : {u : Bool} → u ≡ false → Widened v (λ i. u && holds i p o) m m
  widen-unused e = rw e (widen_none v m)

-- the three operands of a record, each by its own use
pub widen-uses : (v : Device) (use-of : Place → Bool) (w : Row) (r : Rec) {a b c d : List ℕ} {s t u : Bool}
    → s ≡ use-of w.first → t ≡ use-of w.second → u ≡ use-of w.third
    → Widened v (λ i. s && holds i w.first r.first) a b
    → Widened v (λ i. t && holds i w.second r.second) b c
    → Widened v (λ i. u && holds i w.third r.third) c d
    → Widened v (λ i. some_operand (λ p o. use-of p && holds i p o) w r) a d
widen-uses v use-of w r e f g x y z = widen-three v (λ i p o. use-of p && holds i p o) w r (rw e at x) (rw f at y) (rw g at z)

-- all records are passed: the two maps
pub both-maps : (rs : Records) (k : ℕ) {m n : List ℕ} → rs.count ≤ k → Passed ec20 read_by rs k m → Passed ec20 written_by rs k n
    → record { read = m; written = n } ≡ maps_in rs
unfolding maps_in marked_read marked_written
both-maps rs k h s t =
    ap₂ (λ (x y : List ℕ). let m : UseMap = record { read = x; written = y } in m) (passed-all ec20 read_by rs k h s) (passed-all ec20 written_by rs k h t)

-- by what the check says of the file
module _ (f : List ℕ) where
  pub unfit-map : {d : Refusal} → ◌≡◌ {A = Result Frame Refusal} (Err d) (accepted_of f) → ◌≡◌ {A = Mapped} (Err d) (use_map_of f)
  unfolding use_map_of map_for check_of
  unfit-map e = rw (sym (not_taken f e)) refl

  pub fit-map : {w : Frame} {m : UseMap} → ◌≡◌ {A = Result Frame Refusal} (Ok w) (accepted_of f) → m ≡ maps_in (records_from f w.first w.count)
      → ◌≡◌ {A = Mapped} (Ok m) (use_map_of f)
  unfolding use_map_of map_for check_of maps_in
  fit-map e g =
      let t = taken f e in
      rw (g, t.first, t.count, t.verdict) refl
