-- ANY LIST OF MOVES TO NAMED PLACES, IN ANY ORDER: any_order. The words and statements are in specs/Any.antt.
use Prim.Native.Nat.{ℕ, ◌≤◌, ◌^◌}
use mathlib.Core.List.{List, [], ◌∷◌, map, map-id, map-map}
use mathlib.Core.Path.{◌≡◌, refl, sym, ap, subst, ◌∙◌}
use native.Mathlib.Omega.{arith}
use lib.IntN.{ℤ}
use lib.ListN.{length}
use Rattle.demands.specs.Demand3.{OfBytes, with_exchange, scan_exchanged}
use Rattle.ec20.specs.Check.{check_for}
use Rattle.ec20.specs.Devices.{Device, ec20}
use Rattle.ec20.specs.Exchange.{exchanged}
use Rattle.ec20.specs.Plant.{Plant}
use Rattle.jobs.specs.Tasks.{Task, moved_by, exchanged_by}
use Rattle.moving.specs.Series.{Input, series}
use Rattle.orders.specs.Any.{Each, DisjointFrom, AllDisjoint, Fits, Reordered, as_it_is, swapped, behind, then, InTurn, none, next, Exchanged, no_more, one_more, with_exchanges, scan_exchanged_by, AnyOrder}
use Rattle.orders.proofs.After.{check-after}
use Rattle.orders.proofs.Image.{moved-bytes}
use Rattle.orders.proofs.Two.{disjoint-back, exchange-of, table-size, second, same_bytes, same-table, same_of}
use Rattle.orders.proofs.Went.{Went, the-answer, file_by, went}

-- ---- the premises, in another order

pub reorder-each : (v : Device) (f : List ℕ) {ts us : List Task} → Reordered ts us → Each v f ts → Each v f us
reorder-each v f as_it_is e = e
reorder-each v f swapped e = (e.1.0, (e.0, e.1.1))
reorder-each v f (behind r) e = (e.0, reorder-each v f r e.1)
reorder-each v f (then r q) e = reorder-each v f q (reorder-each v f r e)

reorder-from : (t : Task) {ts us : List Task} → Reordered ts us → DisjointFrom t ts → DisjointFrom t us
reorder-from t as_it_is d = d
reorder-from t swapped d = (d.1.0, (d.0, d.1.1))
reorder-from t (behind r) d = (d.0, reorder-from t r d.1)
reorder-from t (then r q) d = reorder-from t q (reorder-from t r d)

pub reorder-disjoint : {ts us : List Task} → Reordered ts us → AllDisjoint ts → AllDisjoint us
reorder-disjoint as_it_is d = d
reorder-disjoint (swapped {s} {t}) d = ((disjoint-back s t d.0.0, d.1.0), (d.0.1, d.1.1))
reorder-disjoint (behind {t} r) d = (reorder-from t r d.0, reorder-disjoint r d.1)
reorder-disjoint (then r q) d = reorder-disjoint q (reorder-disjoint r d)

pub reorder-fits : {v : Device} {f : List ℕ} {ts us : List Task} → Reordered ts us → Fits v f ts → Fits v f us
reorder-fits {v} {f} r x = record { each = reorder-each v f r x.each; disjoint = reorder-disjoint r x.disjoint }

pub reorder-length : {ts us : List Task} → Reordered ts us → length us ≡ length ts
reorder-length as_it_is = refl
reorder-length swapped = refl
reorder-length (behind r) = rw (reorder-length r)
reorder-length (then r q) = reorder-length q ∙ reorder-length r

-- ---- on a device whose D numbers fit four bytes

module _ (v : Device) (few : v.words ≤ 2 ^ 32) where
  -- after the first move the others are accepted still
  others : (f : List ℕ) → OfBytes f → (s : Task) → Went v f s → (ts : List Task) → Each v f ts → DisjointFrom s ts → Each v (file_by s f) ts
  others f byte s w [] e d = tt
  others f byte s w (t ∷ ts) e d =
      ((t.place, the-answer (second v few f byte s t w (went v f t e.0) d.0)), others f byte s w ts e.1 d.1)

  pub first-went : {f : List ℕ} {t : Task} {ts : List Task} → Fits v f (t ∷ ts) → Went v f t
  first-went {f} {t} x = went v f t x.each.0

  pub rest-fits : {f : List ℕ} → OfBytes f → {t : Task} {ts : List Task} → Fits v f (t ∷ ts) → Fits v (file_by t f) ts
  rest-fits {f} byte {t} {ts} x =
      record { each = others f byte t (first-went x) ts x.each.1 x.disjoint.0; disjoint = x.disjoint.1 }

  pub rest-bytes : (f : List ℕ) → OfBytes f → (t : Task) → OfBytes (file_by t f)
  rest-bytes f byte t = moved-bytes t.block t.place f byte

  -- all are accepted, one after the other
  pub in-turn : (f : List ℕ) → OfBytes f → (ts : List Task) → Fits v f ts → InTurn v f ts (moved_by ts f)
  unfolding moved_by
  in-turn f byte [] x = none
  in-turn f byte (t ∷ ts) x = next (first-went x).answer (in-turn (file_by t f) (rest-bytes f byte t) ts (rest-fits byte x))

  -- the same bytes
  pub bytes-alike : (f : List ℕ) → OfBytes f → {ts us : List Task} → Reordered ts us → Fits v f ts → moved_by us f ≡ moved_by ts f
  unfolding moved_by
  bytes-alike f byte as_it_is x = refl
  bytes-alike f byte (swapped {s} {t} {ts}) x =
      ap (moved_by ts) (sym (same_bytes v few f byte s t (first-went x) (went v f t x.each.1.0) x.disjoint.0.0))
  bytes-alike f byte (behind {t} r) x = bytes-alike (file_by t f) (rest-bytes f byte t) r (rest-fits byte x)
  bytes-alike f byte (then r q) x = bytes-alike f byte q (reorder-fits r x) ∙ bytes-alike f byte r x

  -- all exchanges are granted, one after the other
  pub exchanged-in-turn : (f : List ℕ) (ts : List Task) → Each v f ts → (d : List ℤ) → length d ≡ v.words → Exchanged v d ts (exchanged_by ts d)
  unfolding exchanged_by
  exchanged-in-turn f [] e d l = no_more
  exchanged-in-turn f (t ∷ ts) e d l =
      let w = went v f t e.0 in
      one_more (exchange-of w d l) (exchanged-in-turn f ts e.1 (exchanged t.block t.place d) (table-size w d l))

  -- the same table
  pub table-alike : (f : List ℕ) → OfBytes f → {ts us : List Task} → Reordered ts us → Fits v f ts → (d : List ℤ) → length d ≡ v.words
      → exchanged_by us d ≡ exchanged_by ts d
  unfolding exchanged_by
  table-alike f byte as_it_is x d l = refl
  table-alike f byte (swapped {s} {t} {ts}) x d l =
      ap (exchanged_by ts) (sym (same-table v few f byte s t (first-went x) (went v f t x.each.1.0) x.disjoint.0.0 d l))
  table-alike f byte (behind {t} r) x d l =
      table-alike (file_by t f) (rest-bytes f byte t) r (rest-fits byte x) (exchanged t.block t.place d) (table-size (first-went x) d l)
  table-alike f byte (then r q) x d l = table-alike f byte q (reorder-fits r x) d l ∙ table-alike f byte r x d l

  -- accepted as before
  pub check-alike : (f : List ℕ) → OfBytes f → (ts : List Task) → Fits v f ts → check_for v (moved_by ts f) ≡ check_for v f
  unfolding moved_by
  check-alike f byte [] x = refl
  check-alike f byte (t ∷ ts) x =
      check-alike (file_by t f) (rest-bytes f byte t) ts (rest-fits byte x) ∙ check-after v few f byte t (first-went x)

  -- and every scan alike
  pub scans-alike : (f : List ℕ) → OfBytes f → (ts : List Task) → Fits v f ts → (p : Plant) (is : List Input)
      → series v (moved_by ts f) (with_exchanges ts p) is ≡ map (scan_exchanged_by ts) (series v f p is)
  unfolding moved_by exchanged_by
  scans-alike f byte [] x p is = sym (map-id (series v f p is))
  scans-alike f byte (t ∷ ts) x p is =
      scans-alike (file_by t f) (rest-bytes f byte t) ts (rest-fits byte x) (with_exchange t.block t.place p) is
      ∙ ap (map (scan_exchanged_by ts)) ((same_of v few f byte t (first-went x)).scans p is)
      ∙ map-map (scan_exchanged_by ts) (scan_exchanged t.block t.place) (series v f p is)

  pub any-on : (f : List ℕ) → OfBytes f → (ts : List Task) → Fits v f ts → AnyOrder v f ts
  any-on f byte ts x =
      record {
        bytes = λ us r. subst (InTurn v f us) (bytes-alike f byte r x) (in-turn f byte us (reorder-fits r x));
        table = λ us r d l. subst (Exchanged v d us) (table-alike f byte r x d l) (exchanged-in-turn f us (reorder-each v f r x.each) d l);
        check = check-alike f byte ts x;
        scans = scans-alike f byte ts x;
      }

-- THE THEOREM, of the EC20: of every file of bytes
pub any_order : (f : List ℕ) → OfBytes f → (ts : List Task) → Fits ec20 f ts → AnyOrder ec20 f ts
any_order f byte ts x = any-on ec20 (omega arith) f byte ts x
