-- Each refusal at least once, on a small file, and the order in which they are told. Assumes nothing.
use mathlib.Core.Path.{◌≡◌, refl}
use mathlib.Core.Bool.{true}
use mathlib.Core.List.{List, [], ◌∷◌, ◌++◌}
use Prim.Native.Nat.{ℕ, ◌+◌, ◌^◌}
use lib.ListN.{replicate, drop}
use lib.IntN.{pos}
use Rattle.ec20.specs.Answers.{told_by_map}
use Rattle.ec20.specs.Devices.{ec20}
use Rattle.ec20.specs.Verdict.{Accepted, Refused}
use Rattle.ec20.specs.Scanned.{Ended, Refused as NotScanned}
use Rattle.ec20.specs.Moved.{To, Refused as NotMoved}
use Rattle.ec20.specs.Exchanged.{Done, Refused as NotExchanged}
use Rattle.ec20.specs.File.{framed}
use Rattle.ec20.specs.Check.{check_of}
use Rattle.ec20.specs.Plant.{Plant, plant}
use Rattle.ec20.specs.Scan.{scan, scan_of}
use Rattle.ec20.specs.Memory.{Memory, memory, with_d, with_sm}
use Rattle.ec20.specs.UseMap.{use_map_of}
use Rattle.ec20.specs.Move.{block, pool, move, move_of}
use Rattle.ec20.specs.Exchange.{exchange_of}
use Rattle.ec20.specs.Written.{le16, le32}
use Rattle.ec20.proofs.Computing.{computing}
use Rattle.ec20.proofs.Files.{operand, K, K-, X, Y, M, SM, T, D, L, KM, KX, KY, r0, r1, r2, r3, file, trailer, alone, blank, still}

-- the shortest program, END alone: 28 bytes
abbrev shortest : List ℕ
shortest = 0x17 ∷ replicate 19 0 ++ (0x01 ∷ 0x00 ∷ 0x01 ∷ 0x00 ∷ 0x1C ∷ 0x00 ∷ 0x00 ∷ 0x00 ∷ [])

abbrev ld : List ℕ
ld = r1 1 (SM 0)

pub record One : Type 0 where
  pub passes : check_of shortest ≡ Accepted 1 1
  pub short : check_of (replicate 7 0) ≡ Refused 1 0
  pub edition : check_of (r0 23 ++ le16 2 ++ le16 1 ++ le32 28) ≡ Refused 1 0
  pub none_there : check_of (trailer 0) ≡ Refused 1 0
  pub distance : check_of (r0 23 ++ le16 1 ++ le16 1 ++ le32 27) ≡ Refused 1 0
  pub past_start : check_of (trailer 1) ≡ Refused 1 0
  pub comment : check_of (replicate 4096 7 ++ shortest) ≡ Accepted 1 1
  pub long_comment : check_of (replicate 4097 7 ++ shortest) ≡ Refused 1 0
  pub empty : check_of [] ≡ Refused 1 0
  pub byte_less : check_of (drop 1 shortest) ≡ Refused 1 0
  -- what stands before the distance is comment, also where it looks like a record
  pub looks_like_record : check_of (r0 24 ++ shortest) ≡ Accepted 1 1
  pub edition_high : check_of (r0 23 ++ le16 257 ++ le16 1 ++ le32 28) ≡ Refused 1 0
  pub distance_high : check_of (r0 23 ++ le16 1 ++ le16 1 ++ le32 (2 ^ 31 + 28)) ≡ Refused 1 0
  pub distance_more : check_of (7 ∷ r0 23 ++ le16 1 ++ le16 1 ++ le32 29) ≡ Refused 1 0
  -- 2,000 records and no more
  pub most : framed (replicate 40000 0 ++ trailer 2000) ≡ true
  pub more : check_of (replicate 40020 0 ++ trailer 2001) ≡ Refused 1 0
  -- 1 goes before 2
  pub before_two : check_of (r0 24 ++ le16 2 ++ le16 1 ++ le32 28) ≡ Refused 1 0

one : One
unfolding computing
one =
    record { passes = refl; short = refl; edition = refl; none_there = refl; distance = refl; past_start = refl; comment = refl; long_comment = refl; empty = refl; byte_less = refl; looks_like_record = refl; edition_high = refl; distance_high = refl; distance_more = refl; most = refl; more = refl; before_two = refl }

pub record TwoToFour : Type 0 where
  pub unknown : check_of (file (r0 24 ∷ r0 23 ∷ [])) ≡ Refused 2 0
  pub spare : check_of (file ((0 ∷ 1 ∷ replicate 18 0) ∷ r0 23 ∷ [])) ≡ Refused 2 0
  pub not_unused : check_of (file (r1 0 (K 0) ∷ r0 23 ∷ [])) ≡ Refused 3 0
  pub last_x : check_of (file (r1 1 (X 255) ∷ r0 23 ∷ [])) ≡ Accepted 2 2
  pub past_x : check_of (file (r1 1 (X 256) ∷ r0 23 ∷ [])) ≡ Refused 3 0
  pub last_group : check_of (alone (r2 32 (KM 4 1984) (D 0))) ≡ Accepted 3 3
  pub past_group : check_of (alone (r2 32 (KM 4 1985) (D 0))) ≡ Refused 3 1
  pub wide_group : check_of (alone (r2 32 (KM 5 0) (D 0))) ≡ Refused 3 1
  pub wide_group_32 : check_of (alone (r2 48 (KM 8 0) (D 0))) ≡ Accepted 3 3
  pub no_group : check_of (alone (r2 32 (M 0) (D 0))) ≡ Refused 3 1
  pub lowest : check_of (alone (r2 32 (K- 32768) (D 0))) ≡ Accepted 3 3
  pub below_lowest : check_of (alone (r2 32 (K- 32769) (D 0))) ≡ Refused 3 1
  pub above_highest : check_of (alone (r2 32 (K 32768) (D 0))) ≡ Refused 3 1
  pub any_32 : check_of (alone (r2 48 (K- 2147483648) (D 0))) ≡ Accepted 3 3
  pub timer_16 : check_of (alone (r2 32 (T 255) (D 0))) ≡ Accepted 3 3
  pub timer_32 : check_of (alone (r2 48 (T 255) (D 0))) ≡ Refused 3 1
  pub to_timer : check_of (alone (r2 32 (K 0) (T 0))) ≡ Refused 3 1
  pub div_to_group : check_of (alone (r3 35 (K 1) (K 1) (KM 4 0))) ≡ Refused 3 1
  pub no_units : check_of (alone (r2 18 (T 0) (K 0))) ≡ Refused 3 1
  pub last_label : check_of (file (r1 22 (L 127) ∷ r0 23 ∷ [])) ≡ Accepted 2 2
  pub past_label : check_of (file (r1 22 (L 128) ∷ r0 23 ∷ [])) ≡ Refused 3 0
  -- all four words of DDIV count
  pub ddiv_below : check_of (alone (r3 52 (K 1) (K 1) (D 7896))) ≡ Accepted 3 3
  pub ddiv_into : check_of (alone (r3 52 (K 1) (K 1) (D 7897))) ≡ Refused 4 1
  pub reads_work : check_of (alone (r2 32 (D 7999) (D 0))) ≡ Accepted 3 3
  pub inc_work : check_of (alone (r1 37 (D 7900))) ≡ Refused 4 1
  -- a 4 at record 1 is told before a 2 at record 2
  pub first_told : check_of (file (ld ∷ r1 37 (D 7900) ∷ r0 24 ∷ r0 23 ∷ [])) ≡ Refused 4 1
  -- 24 to 31, 41 to 47, and 56 up
  pub unknown_31 : check_of (file (r0 31 ∷ r0 23 ∷ [])) ≡ Refused 2 0
  pub unknown_41 : check_of (file (r0 41 ∷ r0 23 ∷ [])) ≡ Refused 2 0
  pub unknown_47 : check_of (file (r0 47 ∷ r0 23 ∷ [])) ≡ Refused 2 0
  pub unknown_56 : check_of (file (r0 56 ∷ r0 23 ∷ [])) ≡ Refused 2 0
  pub unknown_255 : check_of (file (r0 255 ∷ r0 23 ∷ [])) ≡ Refused 2 0
  -- six zeros: kind, group and value
  pub unused_group : check_of (file (r1 0 (operand 0 1 0) ∷ r0 23 ∷ [])) ≡ Refused 3 0
  pub unused_value : check_of (file (r1 0 (operand 0 0 (2 ^ 24)) ∷ r0 23 ∷ [])) ≡ Refused 3 0
  pub unused_third : check_of (alone (r3 32 (K 0) (D 0) (D 0))) ≡ Refused 3 1
  pub missing : check_of (alone (r1 32 (K 0))) ≡ Refused 3 1
  -- bits that are read: the last of each device, and one past it
  pub last_y : check_of (file (r1 2 (Y 255) ∷ r0 23 ∷ [])) ≡ Accepted 2 2
  pub last_m : check_of (file (r1 1 (M 1999) ∷ r0 23 ∷ [])) ≡ Accepted 2 2
  pub last_sm : check_of (file (r1 1 (SM 255) ∷ r0 23 ∷ [])) ≡ Accepted 2 2
  pub last_t : check_of (file (r1 1 (T 255) ∷ r0 23 ∷ [])) ≡ Accepted 2 2
  pub past_y : check_of (file (r1 1 (Y 256) ∷ r0 23 ∷ [])) ≡ Refused 3 0
  pub past_m : check_of (file (r1 1 (M 2000) ∷ r0 23 ∷ [])) ≡ Refused 3 0
  pub past_sm : check_of (file (r1 1 (SM 256) ∷ r0 23 ∷ [])) ≡ Refused 3 0
  pub past_t : check_of (file (r1 1 (T 256) ∷ r0 23 ∷ [])) ≡ Refused 3 0
  -- a device's number is unsigned: -1 is far out of range
  pub negative_x : check_of (file (r1 1 (X 4294967295) ∷ r0 23 ∷ [])) ≡ Refused 3 0
  pub bit_of_d : check_of (file (r1 1 (D 0) ∷ r0 23 ∷ [])) ≡ Refused 3 0
  pub bit_of_constant : check_of (file (r1 1 (K 0) ∷ r0 23 ∷ [])) ≡ Refused 3 0
  pub bit_with_group : check_of (file (r1 1 (KM 1 0) ∷ r0 23 ∷ [])) ≡ Refused 3 0
  pub kind_9 : check_of (file (r1 1 (operand 9 0 0) ∷ r0 23 ∷ [])) ≡ Refused 3 0
  -- bits that are written: Y and M, no other
  pub out_last : check_of (alone (r1 12 (Y 255))) ≡ Accepted 3 3
  pub out_x : check_of (alone (r1 12 (X 0))) ≡ Refused 3 1
  pub set_sm : check_of (alone (r1 13 (SM 1))) ≡ Refused 3 1
  pub rst_t : check_of (alone (r1 14 (T 0))) ≡ Refused 3 1
  -- the group byte is 0 for a constant, T, D, and a label
  pub constant_group : check_of (alone (r2 32 (operand 1 1 0) (D 0))) ≡ Refused 3 1
  pub timer_group : check_of (alone (r2 32 (operand 6 1 0) (D 0))) ≡ Refused 3 1
  pub word_group : check_of (alone (r2 32 (K 0) (operand 7 1 0))) ≡ Refused 3 1
  pub label_group : check_of (file (r1 22 (operand 8 1 0) ∷ r0 23 ∷ [])) ≡ Refused 3 0
  pub sm_group : check_of (alone (r2 32 (operand 5 1 0) (D 0))) ≡ Refused 3 1
  -- groups: sources of X, Y, M, targets of Y, M
  pub x_group : check_of (alone (r2 32 (KX 4 240) (KY 4 240))) ≡ Accepted 3 3
  pub past_x_group : check_of (alone (r2 32 (KX 4 241) (D 0))) ≡ Refused 3 1
  pub to_x_group : check_of (alone (r2 32 (K 0) (KX 1 0))) ≡ Refused 3 1
  pub group_9 : check_of (alone (r2 48 (KM 9 0) (D 0))) ≡ Refused 3 1
  pub to_group_8 : check_of (alone (r2 48 (K 0) (KY 8 224))) ≡ Accepted 3 3
  pub past_group_8 : check_of (alone (r2 48 (K 0) (KY 8 225))) ≡ Refused 3 1
  pub group_1_of_32 : check_of (alone (r2 48 (KM 1 1996) (KM 1 0))) ≡ Accepted 3 3
  -- D, and the pair of a 32-bit source
  pub past_d : check_of (alone (r2 32 (D 8000) (D 0))) ≡ Refused 3 1
  pub last_pair : check_of (alone (r2 48 (D 7998) (D 0))) ≡ Accepted 3 3
  pub past_pair : check_of (alone (r2 48 (D 7999) (D 0))) ≡ Refused 3 1
  pub to_constant : check_of (alone (r2 32 (K 0) (K 0))) ≡ Refused 3 1
  pub minus_one_32 : check_of (alone (r2 48 (K 4294967295) (D 0))) ≡ Accepted 3 3
  pub compare_wide : check_of (file (r2 15 (K 32768) (K 0) ∷ r0 23 ∷ [])) ≡ Refused 3 0
  pub compare : check_of (file (r2 17 (T 0) (D 7999) ∷ r0 23 ∷ [])) ≡ Accepted 2 2
  pub inc_constant : check_of (alone (r1 37 (K 0))) ≡ Refused 3 1
  pub inc_x : check_of (alone (r1 37 (KX 1 0))) ≡ Refused 3 1
  pub ddiv_to_group : check_of (alone (r3 52 (K 1) (K 1) (KM 8 0))) ≡ Refused 3 1
  -- TON, FOR, CJ
  pub most_units : check_of (alone (r2 18 (T 255) (K 32767))) ≡ Accepted 3 3
  pub more_units : check_of (alone (r2 18 (T 0) (K 32768))) ≡ Refused 3 1
  pub past_timer : check_of (alone (r2 18 (T 256) (K 1))) ≡ Refused 3 1
  pub timed_by_word : check_of (alone (r2 18 (T 0) (D 0))) ≡ Refused 3 1
  pub more_passes : check_of (file (r1 19 (K 32768) ∷ r0 20 ∷ r0 23 ∷ [])) ≡ Refused 3 0
  pub fewer_passes : check_of (file (r1 19 (K- 1) ∷ r0 20 ∷ r0 23 ∷ [])) ≡ Refused 3 0
  pub to_number : check_of (file (ld ∷ r1 21 (K 0) ∷ r1 22 (L 0) ∷ r0 23 ∷ [])) ≡ Refused 3 1
  -- WORK: two words of DIV, a pair that is also read, four words of DDIV
  pub div_below : check_of (alone (r3 35 (K 1) (K 1) (D 7898))) ≡ Accepted 3 3
  pub div_into : check_of (alone (r3 35 (K 1) (K 1) (D 7899))) ≡ Refused 4 1
  pub div_past : check_of (alone (r3 35 (K 1) (K 1) (D 7999))) ≡ Refused 3 1
  pub dinc_below : check_of (alone (r1 54 (D 7898))) ≡ Accepted 3 3
  pub dinc_into : check_of (alone (r1 54 (D 7899))) ≡ Refused 4 1
  pub ddiv_last : check_of (alone (r3 52 (K 1) (K 1) (D 7996))) ≡ Refused 4 1
  pub ddiv_past : check_of (alone (r3 52 (K 1) (K 1) (D 7997))) ≡ Refused 3 1
  -- within a record 2 before 3 before 4; a 3 at record 1 is told before a 2 at record 2
  pub two_before_three : check_of (file ((0 ∷ 1 ∷ K 0 ++ replicate 12 0) ∷ r0 23 ∷ [])) ≡ Refused 2 0
  pub three_before_four : check_of (alone (r2 32 (K 40000) (D 7900))) ≡ Refused 3 1
  pub three_told : check_of (file (ld ∷ r1 37 (K 0) ∷ r0 24 ∷ r0 23 ∷ [])) ≡ Refused 3 1

two-to-four : TwoToFour
unfolding computing
two-to-four =
    record { unknown = refl; spare = refl; not_unused = refl; last_x = refl; past_x = refl; last_group = refl; past_group = refl; wide_group = refl; wide_group_32 = refl; no_group = refl; lowest = refl; below_lowest = refl; above_highest = refl; any_32 = refl; timer_16 = refl; timer_32 = refl; to_timer = refl; div_to_group = refl; no_units = refl; last_label = refl; past_label = refl; ddiv_below = refl; ddiv_into = refl; reads_work = refl; inc_work = refl; first_told = refl; unknown_31 = refl; unknown_41 = refl; unknown_47 = refl; unknown_56 = refl; unknown_255 = refl; unused_group = refl; unused_value = refl; unused_third = refl; missing = refl; last_y = refl; last_m = refl; last_sm = refl; last_t = refl; past_y = refl; past_m = refl; past_sm = refl; past_t = refl; negative_x = refl; bit_of_d = refl; bit_of_constant = refl; bit_with_group = refl; kind_9 = refl; out_last = refl; out_x = refl; set_sm = refl; rst_t = refl; constant_group = refl; timer_group = refl; word_group = refl; label_group = refl; sm_group = refl; x_group = refl; past_x_group = refl; to_x_group = refl; group_9 = refl; to_group_8 = refl; past_group_8 = refl; group_1_of_32 = refl; past_d = refl; last_pair = refl; past_pair = refl; to_constant = refl; minus_one_32 = refl; compare_wide = refl; compare = refl; inc_constant = refl; inc_x = refl; ddiv_to_group = refl; most_units = refl; more_units = refl; past_timer = refl; timed_by_word = refl; more_passes = refl; fewer_passes = refl; to_number = refl; div_below = refl; div_into = refl; div_past = refl; dinc_below = refl; dinc_into = refl; ddiv_last = refl; ddiv_past = refl; two_before_three = refl; three_before_four = refl; three_told = refl }

abbrev out : List ℕ
out = r1 12 (Y 0)

abbrev mps : List ℕ
mps = r0 9

pub record Five : Type 0 where
  pub no_flow : check_of (file (out ∷ r0 23 ∷ [])) ≡ Refused 5 0
  pub good : check_of (file (ld ∷ ld ∷ r0 7 ∷ out ∷ ld ∷ out ∷ r0 23 ∷ [])) ≡ Accepted 7 7
  pub left_over : check_of (file (ld ∷ ld ∷ out ∷ r0 23 ∷ [])) ≡ Refused 5 2
  pub nothing_to_join : check_of (file (ld ∷ r0 8 ∷ r0 23 ∷ [])) ≡ Refused 5 1
  pub nothing_to_read : check_of (file (ld ∷ r0 10 ∷ r0 23 ∷ [])) ≡ Refused 5 1
  pub branches : check_of (file (ld ∷ mps ∷ out ∷ r0 10 ∷ out ∷ r0 11 ∷ out ∷ r0 23 ∷ [])) ≡ Accepted 8 8
  pub start_in_branch : check_of (file (ld ∷ mps ∷ out ∷ ld ∷ r0 23 ∷ [])) ≡ Refused 5 3
  pub ninth_block : check_of (file (ld ∷ ld ∷ ld ∷ ld ∷ ld ∷ ld ∷ ld ∷ ld ∷ ld ∷ ld ∷ r0 23 ∷ [])) ≡ Refused 5 9
  pub ninth_branch : check_of (file (ld ∷ mps ∷ mps ∷ mps ∷ mps ∷ mps ∷ mps ∷ mps ∷ mps ∷ mps ∷ r0 23 ∷ [])) ≡ Refused 5 9
  pub jump_without_flow : check_of (file (r1 21 (L 0) ∷ r1 22 (L 0) ∷ r0 23 ∷ [])) ≡ Refused 5 0
  -- a 6 at record 0 loses to a 5 at record 1; the rule goes on past an END
  pub before_six : check_of (file (r0 20 ∷ out ∷ r0 23 ∷ [])) ≡ Refused 5 1
  pub past_end : check_of (file (r0 23 ∷ out ∷ r0 23 ∷ [])) ≡ Refused 5 1
  -- NOP is passed over: after an action LD starts, else it pushes
  pub nop_after_action : check_of (file (ld ∷ out ∷ r0 0 ∷ ld ∷ out ∷ r0 23 ∷ [])) ≡ Accepted 6 6
  pub nop_after_load : check_of (file (ld ∷ r0 0 ∷ ld ∷ out ∷ r0 23 ∷ [])) ≡ Refused 5 3
  -- after ANB and after AND it pushes; a comparison is an LD
  pub push_after_join : check_of (file (ld ∷ ld ∷ r0 7 ∷ ld ∷ r0 8 ∷ out ∷ r0 23 ∷ [])) ≡ Accepted 7 7
  pub push_after_and : check_of (file (ld ∷ r1 3 (M 0) ∷ r2 15 (K 0) (K 0) ∷ r0 8 ∷ out ∷ r0 23 ∷ [])) ≡ Accepted 6 6
  pub push_after_read : check_of (file (ld ∷ mps ∷ out ∷ r0 10 ∷ ld ∷ r0 7 ∷ out ∷ r0 11 ∷ ld ∷ r0 7 ∷ out ∷ r0 23 ∷ [])) ≡ Accepted 12 12
  -- AND after an action is legal
  pub and_after_action : check_of (file (ld ∷ out ∷ r1 3 (M 0) ∷ out ∷ r0 23 ∷ [])) ≡ Accepted 5 5
  -- eight entries fit in each stack
  pub eight_blocks : check_of (file (ld ∷ ld ∷ ld ∷ ld ∷ ld ∷ ld ∷ ld ∷ ld ∷ ld ∷ r0 7 ∷ r0 7 ∷ r0 7 ∷ r0 7 ∷ r0 7 ∷ r0 7 ∷ r0 7 ∷ r0 7 ∷ out ∷ r0 23 ∷ [])) ≡ Accepted 19 19
  pub eight_branches : check_of (file (ld ∷ mps ∷ mps ∷ mps ∷ mps ∷ mps ∷ mps ∷ mps ∷ mps ∷ r0 11 ∷ r0 11 ∷ r0 11 ∷ r0 11 ∷ r0 11 ∷ r0 11 ∷ r0 11 ∷ r0 11 ∷ out ∷ r0 23 ∷ [])) ≡ Accepted 19 19
  pub nothing_to_pop : check_of (file (ld ∷ mps ∷ r0 11 ∷ r0 11 ∷ r0 23 ∷ [])) ≡ Refused 5 3
  -- MPS, MRD and MPP need the block stack empty
  pub mps_in_block : check_of (file (ld ∷ ld ∷ mps ∷ r0 23 ∷ [])) ≡ Refused 5 2
  pub mrd_in_block : check_of (file (ld ∷ mps ∷ ld ∷ r0 10 ∷ r0 23 ∷ [])) ≡ Refused 5 3
  pub mpp_in_block : check_of (file (ld ∷ mps ∷ ld ∷ r0 11 ∷ r0 23 ∷ [])) ≡ Refused 5 3
  -- what needs flow has none at the start, nor after 19 to 23
  pub and_at_start : check_of (file (r1 3 (M 0) ∷ r0 23 ∷ [])) ≡ Refused 5 0
  pub mps_at_start : check_of (file (mps ∷ r0 23 ∷ [])) ≡ Refused 5 0
  pub join_at_start : check_of (file (r0 7 ∷ r0 23 ∷ [])) ≡ Refused 5 0
  pub word_at_start : check_of (file (r1 37 (D 0) ∷ r0 23 ∷ [])) ≡ Refused 5 0
  pub timer_at_start : check_of (file (r2 18 (T 0) (K 1) ∷ r0 23 ∷ [])) ≡ Refused 5 0
  pub after_for : check_of (file (ld ∷ r1 19 (K 1) ∷ out ∷ r0 20 ∷ r0 23 ∷ [])) ≡ Refused 5 2
  pub after_next : check_of (file (r1 19 (K 1) ∷ ld ∷ r0 20 ∷ out ∷ r0 23 ∷ [])) ≡ Refused 5 3
  pub after_jump : check_of (file (ld ∷ r1 21 (L 0) ∷ out ∷ r1 22 (L 0) ∷ r0 23 ∷ [])) ≡ Refused 5 2
  pub after_label : check_of (file (ld ∷ r1 22 (L 0) ∷ out ∷ r0 23 ∷ [])) ≡ Refused 5 2
  -- FOR, NEXT, LBL and END may follow flow, with both stacks empty
  pub flow_before : check_of (file (ld ∷ r1 19 (K 1) ∷ ld ∷ r0 20 ∷ ld ∷ r1 22 (L 0) ∷ ld ∷ r0 23 ∷ [])) ≡ Accepted 8 8
  pub for_in_block : check_of (file (ld ∷ ld ∷ r1 19 (K 1) ∷ r0 20 ∷ r0 23 ∷ [])) ≡ Refused 5 2
  pub next_in_branch : check_of (file (r1 19 (K 1) ∷ ld ∷ mps ∷ r0 20 ∷ r0 23 ∷ [])) ≡ Refused 5 3
  pub jump_in_branch : check_of (file (ld ∷ mps ∷ r1 21 (L 0) ∷ r1 22 (L 0) ∷ r0 23 ∷ [])) ≡ Refused 5 2
  pub label_in_block : check_of (file (ld ∷ ld ∷ r1 22 (L 0) ∷ r0 23 ∷ [])) ≡ Refused 5 2
  pub end_in_branch : check_of (file (ld ∷ mps ∷ r0 23 ∷ [])) ≡ Refused 5 2
  pub end_in_block : check_of (file (ld ∷ ld ∷ r0 23 ∷ [])) ≡ Refused 5 2
  -- a 4 at record 1 is told before a 5 at record 0
  pub after_four : check_of (file (out ∷ r1 37 (D 7900) ∷ r0 23 ∷ [])) ≡ Refused 4 1

five : Five
unfolding computing
five =
    record { no_flow = refl; good = refl; left_over = refl; nothing_to_join = refl; nothing_to_read = refl; branches = refl; start_in_branch = refl; ninth_block = refl; ninth_branch = refl; jump_without_flow = refl; before_six = refl; past_end = refl; nop_after_action = refl; nop_after_load = refl; push_after_join = refl; push_after_and = refl; push_after_read = refl; and_after_action = refl; eight_blocks = refl; eight_branches = refl; nothing_to_pop = refl; mps_in_block = refl; mrd_in_block = refl; mpp_in_block = refl; and_at_start = refl; mps_at_start = refl; join_at_start = refl; word_at_start = refl; timer_at_start = refl; after_for = refl; after_next = refl; after_jump = refl; after_label = refl; flow_before = refl; for_in_block = refl; next_in_branch = refl; jump_in_branch = refl; label_in_block = refl; end_in_branch = refl; end_in_block = refl; after_four = refl }

abbrev for : List ℕ
for = r1 19 (K 2)

abbrev next : List ℕ
next = r0 20

abbrev cj : List ℕ
cj = r1 21 (L 5)

abbrev lbl : List ℕ
lbl = r1 22 (L 5)

abbrev end : List ℕ
end = r0 23

abbrev most : List ℕ
most = r1 19 (K 32767)

pub record SixToEight : Type 0 where
  pub stray_next : check_of (file (r0 0 ∷ next ∷ end ∷ [])) ≡ Refused 6 1
  pub eight : check_of (file (for ∷ for ∷ for ∷ for ∷ for ∷ for ∷ for ∷ for ∷ next ∷ next ∷ next ∷ next ∷ next ∷ next ∷ next ∷ next ∷ end ∷ [])) ≡ Accepted 17 766
  pub nine : check_of (file (for ∷ for ∷ for ∷ for ∷ for ∷ for ∷ for ∷ for ∷ for ∷ end ∷ [])) ≡ Refused 6 8
  pub early_end : check_of (file (end ∷ end ∷ [])) ≡ Refused 6 0
  pub no_end : check_of (file (r0 0 ∷ r0 0 ∷ [])) ≡ Refused 6 1
  pub open_for : check_of (file (for ∷ r0 0 ∷ end ∷ [])) ≡ Refused 6 2
  pub jump : check_of (file (ld ∷ cj ∷ for ∷ next ∷ lbl ∷ end ∷ [])) ≡ Accepted 6 7
  pub missing : check_of (file (ld ∷ cj ∷ end ∷ [])) ≡ Refused 7 1
  pub earlier : check_of (file (lbl ∷ ld ∷ cj ∷ end ∷ [])) ≡ Refused 7 2
  pub into_loop : check_of (file (ld ∷ cj ∷ for ∷ lbl ∷ next ∷ end ∷ [])) ≡ Refused 7 1
  pub out_of_loop : check_of (file (for ∷ ld ∷ cj ∷ next ∷ lbl ∷ end ∷ [])) ≡ Refused 7 2
  pub other_loop : check_of (file (for ∷ ld ∷ cj ∷ next ∷ for ∷ lbl ∷ next ∷ end ∷ [])) ≡ Refused 7 2
  pub in_loop : check_of (file (for ∷ ld ∷ cj ∷ lbl ∷ next ∷ end ∷ [])) ≡ Accepted 6 10
  pub twice : check_of (file (lbl ∷ lbl ∷ end ∷ [])) ≡ Refused 7 1
  -- 32767 x 32767 steps and more
  pub too_long : check_of (file (r1 19 (K 32767) ∷ r1 19 (K 32767) ∷ next ∷ next ∷ end ∷ [])) ≡ Refused 8 0
  pub never_entered : check_of (file (r1 19 (K 0) ∷ r1 19 (K 32767) ∷ r1 19 (K 32767) ∷ next ∷ next ∷ next ∷ end ∷ [])) ≡ Accepted 7 2
  pub next_last : check_of (file (for ∷ next ∷ [])) ≡ Refused 6 1
  pub for_last : check_of (file (r0 0 ∷ for ∷ [])) ≡ Refused 6 1
  pub nop_alone : check_of (file (r0 0 ∷ [])) ≡ Refused 6 0
  pub lowest : check_of (file (r0 0 ∷ next ∷ end ∷ next ∷ end ∷ [])) ≡ Refused 6 1
  pub end_in_loop : check_of (file (for ∷ end ∷ next ∷ end ∷ [])) ≡ Refused 6 1
  -- nine loops, but no nine of them open at once
  pub in_a_row : check_of (file (for ∷ next ∷ for ∷ next ∷ for ∷ next ∷ for ∷ next ∷ for ∷ next ∷ for ∷ next ∷ for ∷ next ∷ for ∷ next ∷ for ∷ next ∷ end ∷ [])) ≡ Accepted 19 28
  -- the first LBL is in a loop: the second, in the CJ's own body, does not count, and the CJ is told before it
  pub first_counts : check_of (file (ld ∷ cj ∷ for ∷ lbl ∷ next ∷ lbl ∷ end ∷ [])) ≡ Refused 7 1
  pub twice_apart : check_of (file (for ∷ lbl ∷ next ∷ lbl ∷ end ∷ [])) ≡ Refused 7 3
  pub out_of_inner : check_of (file (for ∷ for ∷ ld ∷ cj ∷ next ∷ lbl ∷ next ∷ end ∷ [])) ≡ Refused 7 3
  pub over_a_loop : check_of (file (for ∷ ld ∷ cj ∷ for ∷ next ∷ lbl ∷ next ∷ end ∷ [])) ≡ Accepted 8 16
  pub two_jumps : check_of (file (ld ∷ cj ∷ ld ∷ cj ∷ lbl ∷ end ∷ [])) ≡ Accepted 6 6
  pub later_missing : check_of (file (lbl ∷ lbl ∷ ld ∷ r1 21 (L 6) ∷ end ∷ [])) ≡ Refused 7 1
  -- 6 before 7, 7 before 8
  pub six_before_seven : check_of (file (ld ∷ cj ∷ r0 0 ∷ [])) ≡ Refused 6 2
  pub seven_before_eight : check_of (file (r1 19 (K 32767) ∷ r1 19 (K 32767) ∷ next ∷ next ∷ ld ∷ cj ∷ end ∷ [])) ≡ Refused 7 5
  -- eight nested loops of 32767: W passes 64 bits
  pub far_too_long : check_of (file (most ∷ most ∷ most ∷ most ∷ most ∷ most ∷ most ∷ most ∷ next ∷ next ∷ next ∷ next ∷ next ∷ next ∷ next ∷ next ∷ end ∷ [])) ≡ Refused 8 0

six-to-eight : SixToEight
unfolding computing
six-to-eight =
    record { stray_next = refl; eight = refl; nine = refl; early_end = refl; no_end = refl; open_for = refl; jump = refl; missing = refl; earlier = refl; into_loop = refl; out_of_loop = refl; other_loop = refl; in_loop = refl; twice = refl; too_long = refl; never_entered = refl; next_last = refl; for_last = refl; nop_alone = refl; lowest = refl; end_in_loop = refl; in_a_row = refl; first_counts = refl; twice_apart = refl; out_of_inner = refl; over_a_loop = refl; two_jumps = refl; later_missing = refl; six_before_seven = refl; seven_before_eight = refl; far_too_long = refl }

-- DMOV D100 to D104, with block and pool
abbrev prog : List ℕ
prog = alone (r2 48 (D 100) (D 104))

-- all zeros, in tables of these sizes: X, Y, M, SM, T contacts, T values
abbrev tables : ℕ → ℕ → ℕ → ℕ → ℕ → ℕ → Memory
tables x y m sm t tv = memory (replicate x 0) (replicate y 0) (replicate m 0) (replicate sm 0) (replicate t 0) (replicate 8000 (pos 0)) (replicate tv (pos 0))

-- all zeros, with these leftovers
abbrev resting : List ℕ → Plant
resting r = plant blank r

pub record NineToFourteen : Type 0 where
  pub small_table : scan_of shortest 0 9 (still (with_d blank (replicate 7999 (pos 0)))) ≡ scan (NotScanned 9 0) (still (with_d blank (replicate 7999 (pos 0))))
  pub elapsed : scan_of shortest 10001 9 (still blank) ≡ scan (NotScanned 9 0) (still blank)
  -- 1 goes before 9
  pub before_nine : scan_of (replicate 7 0) 10001 9 (still blank) ≡ scan (NotScanned 1 0) (still blank)
  pub empty : move_of prog (block 100 0) (pool 200 300) ≡ move (NotMoved 10 0) prog
  pub outside : move_of prog (block 7999 2) (pool 200 300) ≡ move (NotMoved 10 0) prog
  pub pool_back : move_of prog (block 100 2) (pool 300 200) ≡ move (NotMoved 11 0) prog
  pub pool_past : move_of prog (block 100 2) (pool 300 8001) ≡ move (NotMoved 11 0) prog
  pub in_work : move_of prog (block 7899 2) (pool 300 400) ≡ move (NotMoved 12 0) prog
  pub split : move_of prog (block 101 2) (pool 300 400) ≡ move (NotMoved 13 1) prog
  pub no_pool : move_of prog (block 100 2) (pool 300 300) ≡ move (NotMoved 14 0) prog
  pub work_only : move_of prog (block 100 2) (pool 7899 8000) ≡ move (NotMoved 14 0) prog
  -- the order: 10 before 11 before 12 before 13
  pub ordered : move_of prog (block 101 9000) (pool 300 200) ≡ move (NotMoved 10 0) prog
  pub exchange_size : (exchange_of (replicate 7999 (pos 0)) (block 100 0) 100).answer ≡ NotExchanged 9 0
  pub exchange_block : (exchange_of (replicate 8000 (pos 0)) (block 100 0) 100).answer ≡ NotExchanged 10 0
  pub exchange_work : (exchange_of (replicate 8000 (pos 0)) (block 7900 1) 100).answer ≡ NotExchanged 12 0
  pub exchange_place : (exchange_of (replicate 8000 (pos 0)) (block 100 10) 109).answer ≡ NotExchanged 14 0
  pub elapsed_most : scan_of shortest 10000 1 (still blank) ≡ scan (Ended (record { steps = 1; stop = 0; error = 0; at = 0 })) (still (with_sm blank (1 ∷ replicate 31 0)))
  pub x_table : (scan_of shortest 0 9 (still (tables 31 32 250 32 32 256))).answer ≡ NotScanned 9 0
  pub y_table : (scan_of shortest 0 9 (still (tables 32 33 250 32 32 256))).answer ≡ NotScanned 9 0
  pub m_table : (scan_of shortest 0 9 (still (tables 32 32 249 32 32 256))).answer ≡ NotScanned 9 0
  pub sm_table : (scan_of shortest 0 9 (still (tables 32 32 250 0 32 256))).answer ≡ NotScanned 9 0
  pub t_table : (scan_of shortest 0 9 (still (tables 32 32 250 32 31 256))).answer ≡ NotScanned 9 0
  pub tv_table : (scan_of shortest 0 9 (still (tables 32 32 250 32 32 257))).answer ≡ NotScanned 9 0
  -- "two leftovers, 0 to 9 ms and 0 to 99 ms ..; a table with others is 9": that of the 10 ms timers is the first
  pub leftovers_most : scan_of shortest 0 1 (resting (9 ∷ 99 ∷ [])) ≡ scan (Ended (record { steps = 1; stop = 0; error = 0; at = 0 })) (plant (with_sm blank (1 ∷ replicate 31 0)) (9 ∷ 99 ∷ []))
  pub tens_most : (scan_of shortest 0 1 (resting (9 ∷ 0 ∷ []))).answer ≡ Ended (record { steps = 1; stop = 0; error = 0; at = 0 })
  pub tens_more : scan_of shortest 0 1 (resting (10 ∷ 0 ∷ [])) ≡ scan (NotScanned 9 0) (resting (10 ∷ 0 ∷ []))
  pub hundreds_most : (scan_of shortest 0 1 (resting (0 ∷ 99 ∷ []))).answer ≡ Ended (record { steps = 1; stop = 0; error = 0; at = 0 })
  pub hundreds_more : scan_of shortest 0 1 (resting (0 ∷ 100 ∷ [])) ≡ scan (NotScanned 9 0) (resting (0 ∷ 100 ∷ []))
  pub leftovers_turned : scan_of shortest 0 1 (resting (99 ∷ 9 ∷ [])) ≡ scan (NotScanned 9 0) (resting (99 ∷ 9 ∷ []))
  pub no_leftovers : scan_of shortest 0 1 (resting []) ≡ scan (NotScanned 9 0) (resting [])
  pub one_leftover : scan_of shortest 0 1 (resting (0 ∷ [])) ≡ scan (NotScanned 9 0) (resting (0 ∷ []))
  pub three_leftovers : scan_of shortest 0 1 (resting (0 ∷ 0 ∷ 0 ∷ [])) ≡ scan (NotScanned 9 0) (resting (0 ∷ 0 ∷ 0 ∷ []))
  -- 1 to 8 go before it
  pub one_before_leftovers : scan_of (replicate 7 0) 0 9 (resting (10 ∷ 0 ∷ [])) ≡ scan (NotScanned 1 0) (resting (10 ∷ 0 ∷ []))
  pub two_before_leftovers : scan_of (file (r0 24 ∷ end ∷ [])) 0 9 (resting (0 ∷ 100 ∷ [])) ≡ scan (NotScanned 2 0) (resting (0 ∷ 100 ∷ []))
  pub three_before_leftovers : scan_of (file (r1 0 (K 0) ∷ end ∷ [])) 0 9 (resting (99 ∷ 9 ∷ [])) ≡ scan (NotScanned 3 0) (resting (99 ∷ 9 ∷ []))
  pub four_before_leftovers : scan_of (alone (r1 37 (D 7900))) 0 9 (resting []) ≡ scan (NotScanned 4 1) (resting [])
  pub five_before_leftovers : scan_of (file (out ∷ end ∷ [])) 0 9 (resting (0 ∷ [])) ≡ scan (NotScanned 5 0) (resting (0 ∷ []))
  pub six_before_leftovers : scan_of (file (end ∷ end ∷ [])) 0 9 (resting (10 ∷ 100 ∷ [])) ≡ scan (NotScanned 6 0) (resting (10 ∷ 100 ∷ []))
  pub seven_before_leftovers : scan_of (file (ld ∷ cj ∷ end ∷ [])) 0 9 (resting (10 ∷ 0 ∷ [])) ≡ scan (NotScanned 7 1) (resting (10 ∷ 0 ∷ []))
  pub eight_before_leftovers : scan_of (file (most ∷ most ∷ next ∷ next ∷ end ∷ [])) 0 9 (resting (0 ∷ 100 ∷ [])) ≡ scan (NotScanned 8 0) (resting (0 ∷ 100 ∷ []))
  -- 8 goes before 9; the mover and the map refuse by 1 to 8 too
  pub eight_before_nine : scan_of (file (most ∷ most ∷ next ∷ next ∷ end ∷ [])) 10001 9 (still blank) ≡ scan (NotScanned 8 0) (still blank)
  pub five_before_ten : move_of (file (out ∷ end ∷ [])) (block 0 0) (pool 1 0) ≡ move (NotMoved 5 0) (file (out ∷ end ∷ []))
  pub no_map : told_by_map ec20 (use_map_of (file (ld ∷ r1 37 (D 7900) ∷ end ∷ []))) ≡ record { number = 4; at = 1; read = replicate 1000 0; written = replicate 1000 0 }
  -- numbers as large as the entry takes
  pub far_block : move_of prog (block 4294967295 4294967295) (pool 200 300) ≡ move (NotMoved 10 0) prog
  pub far_pool : move_of prog (block 100 2) (pool 4294967295 4294967295) ≡ move (NotMoved 11 0) prog
  -- 11 before 12, 12 before 13, 13 before 14; the first record is told
  pub eleven_before_twelve : move_of prog (block 7899 2) (pool 300 200) ≡ move (NotMoved 11 0) prog
  pub twelve_before_thirteen : (move_of (alone (r2 48 (D 7899) (D 0))) (block 7900 1) (pool 300 400)).answer ≡ NotMoved 12 0
  pub thirteen_before_fourteen : move_of prog (block 101 2) (pool 300 300) ≡ move (NotMoved 13 1) prog
  pub first_split : (move_of (file (ld ∷ r1 37 (D 100) ∷ r1 54 (D 100) ∷ r1 54 (D 101) ∷ end ∷ [])) (block 100 1) (pool 300 400)).answer ≡ NotMoved 13 2
  -- an extent that holds the whole block is partly in it too
  pub around : (move_of (alone (r3 52 (K 1) (K 1) (D 99))) (block 100 2) (pool 300 400)).answer ≡ NotMoved 13 1
  -- places over the block, over WORK and over words in use are passed over; the pool may end at 8000
  pub over_block : (move_of prog (block 100 2) (pool 99 104)).answer ≡ To 102
  pub over_block_only : move_of prog (block 100 2) (pool 99 103) ≡ move (NotMoved 14 0) prog
  pub below_work : (move_of prog (block 100 2) (pool 7898 8000)).answer ≡ To 7898
  pub in_use : (move_of prog (block 50 1) (pool 103 107)).answer ≡ To 103
  pub in_use_pair : (move_of prog (block 50 1) (pool 104 107)).answer ≡ To 106
  pub too_long_for_pool : move_of prog (block 100 2) (pool 300 301) ≡ move (NotMoved 14 0) prog
  -- the exchange: 10 before 12, 12 before 14, and the place at its edges
  pub exchange_ten : (exchange_of (replicate 8000 (pos 0)) (block 7995 10) 0).answer ≡ NotExchanged 10 0
  pub exchange_twelve : (exchange_of (replicate 8000 (pos 0)) (block 7899 2) 7899).answer ≡ NotExchanged 12 0
  pub exchange_past : (exchange_of (replicate 8000 (pos 0)) (block 100 10) 4294967295).answer ≡ NotExchanged 14 0
  pub exchange_into_work : (exchange_of (replicate 8000 (pos 0)) (block 100 10) 7891).answer ≡ NotExchanged 14 0
  pub exchange_below_work : (exchange_of (replicate 8000 (pos 0)) (block 100 10) 7890).answer ≡ Done
  pub exchange_below : (exchange_of (replicate 8000 (pos 0)) (block 100 10) 91).answer ≡ NotExchanged 14 0
  pub exchange_beside : (exchange_of (replicate 8000 (pos 0)) (block 100 10) 110).answer ≡ Done
  pub exchange_kept : (exchange_of (pos 1 ∷ pos 2 ∷ []) (block 0 1) 1).words ≡ pos 1 ∷ pos 2 ∷ []

nine-to-fourteen : NineToFourteen
unfolding computing
nine-to-fourteen =
    record { small_table = refl; elapsed = refl; before_nine = refl; empty = refl; outside = refl; pool_back = refl; pool_past = refl; in_work = refl; split = refl; no_pool = refl; work_only = refl; ordered = refl; exchange_size = refl; exchange_block = refl; exchange_work = refl; exchange_place = refl; elapsed_most = refl; x_table = refl; y_table = refl; m_table = refl; sm_table = refl; t_table = refl; tv_table = refl; leftovers_most = refl; tens_most = refl; tens_more = refl; hundreds_most = refl; hundreds_more = refl; leftovers_turned = refl; no_leftovers = refl; one_leftover = refl; three_leftovers = refl; one_before_leftovers = refl; two_before_leftovers = refl; three_before_leftovers = refl; four_before_leftovers = refl; five_before_leftovers = refl; six_before_leftovers = refl; seven_before_leftovers = refl; eight_before_leftovers = refl; eight_before_nine = refl; five_before_ten = refl; no_map = refl; far_block = refl; far_pool = refl; eleven_before_twelve = refl; twelve_before_thirteen = refl; thirteen_before_fourteen = refl; first_split = refl; around = refl; over_block = refl; over_block_only = refl; below_work = refl; in_use = refl; in_use_pair = refl; too_long_for_pool = refl; exchange_ten = refl; exchange_twelve = refl; exchange_past = refl; exchange_into_work = refl; exchange_below_work = refl; exchange_below = refl; exchange_beside = refl; exchange_kept = refl }
