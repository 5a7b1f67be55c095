-- WORK over any series of scans and requests.
use Prim.Native.Nat.{ℕ}
use mathlib.Core.List.{List, [], ◌∷◌}
use mathlib.Core.Path.{◌≡◌, refl, ◌∙◌}
use Rattle.ec20.specs.Verdict.{Accepted}
use Rattle.ec20.specs.Check.{check_for}
use Rattle.ec20.specs.Devices.{ec20}
use Rattle.ec20.specs.Plant.{Plant}
use Rattle.ec20.specs.Registers.{word_at}
use Rattle.moving.proofs.Work.{work-kept}
use Rattle.moving.specs.Series.{plant_with_x}
use Rattle.served.proofs.Theorem.{served}
use Rattle.demands.specs.Events.{Event, after_event, after_events}
use Rattle.demands.specs.Events.{scans, asks}
use Rattle.demands.specs.Lines.{Work}

module _ (f : List ℕ) (n w : ℕ) (ok : check_for ec20 f ≡ Accepted n w) (i : ℕ) (h : Work ec20 i) where
  one : (q : Plant) (e : Event) → word_at (after_event f q e).mem.d i ≡ word_at q.mem.d i
  unfolding after_event
  one q (scans s) = work-kept ec20 f n w ok i h.from s.elapsed s.budget (plant_with_x q s.x)
  one q (asks own g b) = (served own g q.mem.m q.mem.d b).work i h.from h.to

  pub events-work : (q : Plant) (es : List Event) → word_at (after_events f q es).mem.d i ≡ word_at q.mem.d i
  unfolding after_events
  events-work q [] = refl
  events-work q (e ∷ rest) = events-work (after_event f q e) rest ∙ one q e
