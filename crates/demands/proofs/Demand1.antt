-- DEMAND 1 IS MET: demand-1. Its words and its statement are in specs/Demand1.antt.
use Prim.Native.Nat.{ℕ}
use mathlib.Core.List.{List, [], ◌∷◌}
use mathlib.Core.Path.{◌≡◌, refl, ap}
use Rattle.ec20.proofs.Computing.{computing}
use Rattle.ec20.proofs.Files.{D, r3, alone, blank, still}
use Rattle.ec20.specs.Exchanged.{Refused as NotExchanged}
use Rattle.ec20.specs.Moved.{To, Refused as NotMoved}
use Rattle.ec20.specs.Scanned.{Refused as NotScanned}
use Rattle.ec20.specs.Verdict.{Verdict}
use Rattle.ec20.specs.Verdict.{Accepted}
use Rattle.ec20.specs.Answers.{told_by_map}
use Rattle.ec20.specs.Check.{check_for}
use Rattle.ec20.specs.Devices.{Device, ec20}
use Rattle.ec20.specs.Exchange.{exchange_for}
use Rattle.ec20.specs.File.{count_of, records_of}
use Rattle.ec20.specs.Move.{block, pool, move_for}
use Rattle.ec20.specs.Plant.{Plant, plant}
use Rattle.ec20.specs.Scan.{scan_for}
use Rattle.ec20.specs.UseMap.{map_if, map_for}
use Rattle.agreed.proofs.Answers.{answers}
use Rattle.refusals.specs.Table.{Told, told_1, told_2, told_3, told_4, told_5, told_6, told_7, told_8, accepted}
use Rattle.refusals.proofs.Check.{told}
use Rattle.refusals.proofs.Refused.{refused-1, refused-2, refused-3, refused-4, refused-5, refused-6, refused-7, refused-8, accepted-in-words, one_to_eight}
use Rattle.demands.specs.Demand1.{CheckNumbers, MapNumbers, Demand1}
use Rattle.demands.specs.Lines.{Line9, Line10, Line11, Line12, First13, Line14, Lowest, Line14D}
use Rattle.demands.proofs.ScanAnswers.{scan-ends, scan_numbers, scan-only}
use Rattle.demands.proofs.MoveAnswers.{move_numbers, move-only}
use Rattle.demands.proofs.ExchangeAnswers.{exchange_numbers, exchange-only}
use Rattle.demands.proofs.RequestAnswers.{answer_numbers}

check_numbers : (v : Device) (f : List ℕ) → CheckNumbers v f (check_for v f)
check_numbers v f = record {
  one = refused-1 v f;
  two = refused-2 v f;
  three = refused-3 v f;
  four = refused-4 v f;
  five = refused-5 v f;
  six = refused-6 v f;
  seven = refused-7 v f;
  eight = refused-8 v f;
  no_other = one_to_eight v f;
  accepted = accepted-in-words v f;
}

-- what the table tells, an answer for which the lines hold is
check-same : {v : Device} {f : List ℕ} {a r : Verdict} → CheckNumbers v f a → Told v f r → a ≡ r
check-same n (told_1 h) = (n.one 0).1 (refl, h)
check-same n (told_2 {k = k} a b c) = (n.two k).1 (a, b, c)
check-same n (told_3 {k = k} a b c d) = (n.three k).1 (a, b, c, d)
check-same n (told_4 {k = k} a b c d e) = (n.four k).1 (a, b, c, d, e)
check-same n (told_5 {k = k} a b c) = (n.five k).1 (a, b, c)
check-same n (told_6 {k = k} a b c d) = (n.six k).1 (a, b, c, d)
check-same n (told_7 {k = k} a b c d e) = (n.seven k).1 (a, b, c, d, e)
check-same n (told_8 a b c d e h) = (n.eight 0).1 (refl, a, b, c, d, e, h)
check-same {f = f} n (accepted {w = w} a b c d e h s) = (n.accepted (count_of f) w).1 (refl, s, a, b, c, d, e, h)

map_numbers : (v : Device) (f : List ℕ) → MapNumbers v f
unfolding map_for
map_numbers v f = record {
  refused = λ m k h. ap (λ (x : Verdict). told_by_map v (map_if v x (records_of f))) h;
  accepted = λ ok.
      (ap (λ (x : Verdict). (told_by_map v (map_if v x (records_of f))).number) ok.2, ap (λ (x : Verdict). (told_by_map v (map_if v x (records_of f))).at) ok.2);
}

pub demand-1 : Demand1
demand-1 = record {
  ends = scan-ends ec20;
  check_numbers = λ f. record { told = check_numbers ec20 f; only = λ r n. check-same n (told ec20 f) };
  scan_numbers = λ f e b q. record { told = scan_numbers ec20 f e b q; only = scan-only ec20 f e b q };
  map_numbers = map_numbers ec20;
  move_numbers = λ f b l. record { told = move_numbers ec20 f b l; only = move-only ec20 f b l };
  exchange_numbers = λ d b q. record { told = exchange_numbers ec20 d b q; only = exchange-only ec20 d b q };
  answer_numbers = answer_numbers;
  clashes_numbers = answers;
}

-- ---- and it is not for nothing: one call for each number from 9 on, by its line

-- LD SM0, DDIV D100 by D102 to D106, END
abbrev sample : List ℕ
sample = alone (r3 52 (D 100) (D 102) (D 106))

sample-ok : check_for ec20 sample ≡ Accepted 3 3
unfolding computing
sample-ok = refl

-- 9: elapsed 10,001 ms; and a leftover of 10 ms for the 10 ms timers
nine : (scan_for ec20 sample 10001 100 (still blank)).answer ≡ NotScanned 9 0
unfolding computing
nine = refl

pub late : Line9 ec20 10001 (still blank)
late = (((demand-1.scan_numbers sample 10001 100 (still blank)).told.nine 0).0 nine).2

abbrev spilt : Plant
spilt = plant blank (10 ∷ 0 ∷ [])

nine-spilt : (scan_for ec20 sample 0 100 spilt).answer ≡ NotScanned 9 0
unfolding computing
nine-spilt = refl

pub too_much : Line9 ec20 0 spilt
too_much = (((demand-1.scan_numbers sample 0 100 spilt).told.nine 0).0 nine-spilt).2

-- 10, 11, 12: an empty block, a pool from 5 to 4, a block into WORK
ten : (move_for ec20 sample (block 0 0) (pool 0 100)).answer ≡ NotMoved 10 0
unfolding computing
ten = refl

pub empty : Line10 ec20 (block 0 0)
empty = (((demand-1.move_numbers sample (block 0 0) (pool 0 100)).told.ten 0).0 ten).2

eleven : (move_for ec20 sample (block 100 10) (pool 5 4)).answer ≡ NotMoved 11 0
unfolding computing
eleven = refl

pub turned : Line11 ec20 (pool 5 4)
turned = (((demand-1.move_numbers sample (block 100 10) (pool 5 4)).told.eleven 0).0 eleven).3

twelve : (move_for ec20 sample (block 7895 10) (pool 0 100)).answer ≡ NotMoved 12 0
unfolding computing
twelve = refl

pub into-work : Line12 ec20 (block 7895 10)
into-work = (((demand-1.move_numbers sample (block 7895 10) (pool 0 100)).told.twelve 0).0 twelve).4

-- 13: the four words of DDIV at D106 are partly in D100 to D107
thirteen : (move_for ec20 sample (block 100 8) (pool 0 100)).answer ≡ NotMoved 13 1
unfolding computing
thirteen = refl

pub split : First13 sample (block 100 8) 1
split = (((demand-1.move_numbers sample (block 100 8) (pool 0 100)).told.thirteen 1).0 thirteen).4

-- 14: a pool of nine words for a block of ten; with one more it is taken, and the file is not turned away
fourteen : (move_for ec20 sample (block 100 10) (pool 195 204)).answer ≡ NotMoved 14 0
unfolding computing
fourteen = refl

pub no_place : Line14 ec20 sample (block 100 10) (pool 195 204)
no_place = (((demand-1.move_numbers sample (block 100 10) (pool 195 204)).told.fourteen 0).0 fourteen).2

goes : (move_for ec20 sample (block 100 10) (pool 195 205)).answer ≡ To 195
unfolding computing
goes = refl

pub lowest : Lowest ec20 sample (block 100 10) (pool 195 205) 195
lowest = (((demand-1.move_numbers sample (block 100 10) (pool 195 205)).told.place 195).0 goes).1

-- the exchange: a table of no words, and a place that meets the block
no_table : (exchange_for ec20 [] (block 100 10) 195).answer ≡ NotExchanged 9 0
unfolding computing
no_table = refl

over : (exchange_for ec20 blank.d (block 100 10) 105).answer ≡ NotExchanged 14 0
unfolding computing
over = refl

pub meets-block : Line14D ec20 (block 100 10) 105
meets-block = (((demand-1.exchange_numbers blank.d (block 100 10) 105).told.fourteen 0).0 over).4
