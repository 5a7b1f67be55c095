-- Every definition that a computed theorem may have to unfold: `unfolding computing` names them all.
use Prim.Native.Nat.{ℕ}
use Rattle.ec20.specs.Basics.{some_from, first_at, first_fault}
use Rattle.ec20.specs.Devices.{limit_of, within, meets, inside, meets_work}
use Rattle.ec20.specs.Numbers.{signed, wrap, root_from, root_of}
use Rattle.ec20.specs.Bits.{bit_at, byte_with, with_bit, packed, spread, group_at, with_group}
use Rattle.ec20.specs.Registers.{pair_at, high_word, low_word, with_pair, number_at, with_number}
use Rattle.ec20.specs.Table.{table, row_of}
use Rattle.ec20.specs.File.{u16_at, u32_at, framed, frame_of, operand_at, record_from}
use Rattle.ec20.specs.Written.{trailer_of, end_record}
use Rattle.ec20.specs.Operands.{in_range, one_of, constant_in, group_in, words_in, is_unused, is_bit_read, is_bit_written, is_source, is_target, allowed, in_d, start_of, extent_of, in_work, is_known, operands_ok, target_in_work, fault_of, fault_in}
use Rattle.ec20.specs.Code.{instr_by, code_of, program_of}
use Rattle.ec20.specs.Control.{control_of, open_after, closes, marks, search_body}
use Rattle.ec20.specs.Rung.{load_ok, action_ok, branch_ok, keeps, after_load, branches_after, after_record, broken_from}
use Rattle.ec20.specs.Loops.{breaks_inside, breaks_last, breaks, unsound_from, counting, closing, bodies_after, bodies_at, w_in}
use Rattle.ec20.specs.Labels.{same, label_fault, rest, opens_after, opens_of}
use Rattle.ec20.specs.Check.{judge_program, judge_file, check_for, check_of}
use Rattle.ec20.specs.Memory.{sized, bits_of, group_bits, load_bit, store_bit, load_of, store_of}
use Rattle.ec20.specs.Words.{sum_of, div_of, sqt_of, vabs_of, neg_of, compute_of, with_flags, store_all}
use Rattle.ec20.specs.Flow.{failed, starts_now, loaded, contact_of, compare_of, join_of, branch_of, coil_of}
use Rattle.ec20.specs.Timers.{base_of, given_to, units_of, counted_of, contact_is, timer_of}
use Rattle.ec20.specs.Step.{for_of, close_of, jump_of, outcome_of, settle, word_of, exec_of, step_of}
use Rattle.ec20.specs.Plant.{leftover_of, leftovers_fit, units_in, rest_after}
use Rattle.ec20.specs.Scan.{run_of, answer_of, run_scan, timed_scan, fitting, scan_for, scan_of}
use Rattle.ec20.specs.UseMap.{holds, some_operand, some_record, marked_read, marked_written, packed_by, map_of, map_for, use_map_of}
use Rattle.ec20.specs.Move.{touches, partly, block_fault, pool_fault, block_work, split_fault, is_place, place_of, moved_number, moved_in_operand, moved_in_record, moved_byte, moved_file, judge_move, move_for, move_of}
use Rattle.ec20.specs.Exchange.{swapped, exchange_by, size_fault, place_fault, judge_exchange, exchange_for, exchange_of}
use Rattle.ec20.specs.Buffer.{over, sent}
use Rattle.ec20.specs.Answers.{told_by_check, told_by_move, told_by_exchange, told_by_scan}

unfoldable pub computing : ℕ
unfolding some_from first_at first_fault limit_of within meets inside meets_work signed wrap root_from root_of bit_at byte_with with_bit packed spread group_at with_group pair_at high_word low_word with_pair number_at with_number table row_of u16_at u32_at framed frame_of operand_at record_from trailer_of end_record in_range one_of constant_in group_in words_in is_unused is_bit_read is_bit_written is_source is_target allowed in_d start_of extent_of in_work is_known operands_ok target_in_work fault_of fault_in instr_by code_of program_of control_of open_after closes marks search_body load_ok action_ok branch_ok keeps after_load branches_after after_record broken_from breaks_inside breaks_last breaks unsound_from counting closing bodies_after bodies_at w_in same label_fault rest opens_after opens_of judge_program judge_file check_for check_of sized bits_of group_bits load_bit store_bit load_of store_of sum_of div_of sqt_of vabs_of neg_of compute_of with_flags store_all failed starts_now loaded contact_of compare_of join_of branch_of coil_of base_of given_to units_of counted_of contact_is timer_of for_of close_of jump_of outcome_of settle word_of exec_of step_of leftover_of leftovers_fit units_in rest_after run_of answer_of run_scan timed_scan fitting scan_for scan_of holds some_operand some_record marked_read marked_written packed_by map_of map_for use_map_of touches partly block_fault pool_fault block_work split_fault is_place place_of moved_number moved_in_operand moved_in_record moved_byte moved_file judge_move move_for move_of swapped exchange_by size_fault place_fault judge_exchange exchange_for exchange_of over sent told_by_check told_by_move told_by_exchange told_by_scan
computing = 0
