-- The codes: 0 to 13 answer a step, 14 a line that is no frame, 15 an unknown label set; 16 to 19 refuse the load of a HEX text, 24 its export
-- (document 02, Ask 7). An answer is chosen by its number, never by its label.
use Rattle.std.specs.Prelude.{ℕ}

abbrev pub done : ℕ
done = 0

abbrev pub state_out_of_form : ℕ
state_out_of_form = 1

abbrev pub window_out_of_form : ℕ
window_out_of_form = 2

abbrev pub unknown_step : ℕ
unknown_step = 3

abbrev pub unknown_offset : ℕ
unknown_offset = 4

abbrev pub bad_enables : ℕ
bad_enables = 5

abbrev pub part_fifo_access : ℕ
part_fifo_access = 6

abbrev pub read_only_register : ℕ
read_only_register = 7

abbrev pub fifo_full_or_empty : ℕ
fifo_full_or_empty = 8

abbrev pub transfer_off : ℕ
transfer_off = 9

abbrev pub count_is_zero : ℕ
count_is_zero = 10

abbrev pub abort_stands : ℕ
abort_stands = 11

abbrev pub fifo_not_ready : ℕ
fifo_not_ready = 12

abbrev pub no_memory_there : ℕ
no_memory_there = 13

abbrev pub not_aframe_line : ℕ
not_aframe_line = 14

abbrev pub unknown_label_set : ℕ
unknown_label_set = 15

abbrev pub not_ahex_record : ℕ
not_ahex_record = 16

abbrev pub wrong_sum : ℕ
wrong_sum = 17

abbrev pub outside_the_window : ℕ
outside_the_window = 18

abbrev pub no_end_or_not_last : ℕ
no_end_or_not_last = 19

abbrev pub output_too_short : ℕ
output_too_short = 24
