-- The worked frames and the second text, by computing them.
use Rattle.std.proofs.Common.{◌≡◌, ℕ, length, refl, ap, arith}
use Rattle.machine.specs.Step.{computing}
use Rattle.hex_digits.specs.Hex.{hex_digits, place_in, digit_number, all_digits, number_from, digit_of, digits}
use Rattle.lines.specs.Lines.{lines_from}
use Rattle.frame.specs.Frame.{is_frame, step_in, frame_of, framed_outcome}
use Rattle.logline.specs.Labels.{english, german, label_sets, label_in, label_of}
use Rattle.logline.specs.LogLine.{numbers, log_body, log_line}
use Rattle.frame_log.specs.Log.{line_outcome, log_of, lines_outcome}
use Rattle.frame_log.specs.Promises.{program_log, WorkedHold, GermanHold, SecondHold, EchoingFails}

pub worked_hold : WorkedHold
unfolding computing hex_digits place_in digit_number all_digits number_from digit_of digits lines_from is_frame step_in frame_of framed_outcome english german label_sets label_in label_of numbers log_body log_line line_outcome log_of lines_outcome program_log
worked_hold = refl

pub german_hold : GermanHold
unfolding computing hex_digits place_in digit_number all_digits number_from digit_of digits lines_from is_frame step_in frame_of framed_outcome english german label_sets label_in label_of numbers log_body log_line line_outcome log_of lines_outcome program_log
german_hold = refl

pub second_hold : SecondHold
unfolding computing hex_digits place_in digit_number all_digits number_from digit_of digits lines_from is_frame step_in frame_of framed_outcome english german label_sets label_in label_of numbers log_body log_line line_outcome log_of lines_outcome program_log
second_hold = (refl, refl)

pub echoing_fails : EchoingFails
unfolding computing hex_digits place_in digit_number all_digits number_from digit_of digits lines_from is_frame step_in frame_of framed_outcome english german label_sets label_in label_of numbers log_body log_line line_outcome log_of lines_outcome program_log
echoing_fails e = let n : ◌≡◌ {A = ℕ} 73 161 = ap length e in absurd (omega arith)
