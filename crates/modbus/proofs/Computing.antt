-- Every definition that a computed theorem may have to unfold: `unfolding requests` names them all, with those of the controller.
use Prim.Native.Nat.{ℕ}
use Rattle.ec20.proofs.Computing.{computing}
use Rattle.modbus.specs.Crc.{crc_bit, crc_byte, crc_from, with_crc}
use Rattle.modbus.specs.Frame.{number_in, is_short, is_long, length_fits, crc_fits, is_heard}
use Rattle.modbus.specs.Exceptions.{quantity_fits, is_of_coils, is_single, meant, range_fits, exception_for}
use Rattle.modbus.specs.Writes.{coils_taken, registers_taken, coils_after, registers_after}
use Rattle.modbus.specs.Replies.{coil_byte, coil_bytes, register_bytes, coils_reply, registers_reply, reply_to, exception_to}
use Rattle.modbus.specs.Answer.{tables_fault, call_fault, judge_answer, replied, heard, answer_of, told_by_answer}

unfoldable pub requests : ℕ
unfolding computing crc_bit crc_byte crc_from with_crc number_in is_short is_long length_fits crc_fits is_heard quantity_fits is_of_coils is_single meant range_fits exception_for coils_taken registers_taken coils_after registers_after coil_byte coil_bytes register_bytes coils_reply registers_reply reply_to exception_to tables_fault call_fault judge_answer replied heard answer_of told_by_answer
requests = 0
