-- The refusals by name, with their numbers (`Codes`), and the kinds of step by name, with theirs (`Access.kind_of`).
use Rattle.std.specs.Prelude.{ℕ, zero, suc, ⊤, Result, Ok, Err}
use Rattle.machine.specs.Access.{Kind, reading, writing, cycle, chip_reset, unknown}
use Rattle.machine.specs.Sides.{pci, addon, host, card}
use Rattle.machine.specs.Codes.{done, state_out_of_form, window_out_of_form, unknown_step, unknown_offset, bad_enables, part_fifo_access, read_only_register, fifo_full_or_empty, transfer_off, count_is_zero, abort_stands, fifo_not_ready, no_memory_there, not_aframe_line, unknown_label_set, not_ahex_record, wrong_sum, outside_the_window, no_end_or_not_last, output_too_short}
use Rattle.machine.specs.declared.codes.Refusal.{Refusal}
use Rattle.machine.specs.declared.codes.Refusal.TheVariants.{StateOutOfForm, WindowOutOfForm, UnknownStep, UnknownOffset, BadEnables, PartFifoAccess, ReadOnlyRegister, FifoFullOrEmpty, TransferOff, CountIsZero, AbortStands, FifoNotReady, NoMemoryThere, NotAFrameLine, UnknownLabelSet, NotAHexRecord, WrongSum, OutsideTheWindow, NoEndOrNotLast, OutputTooShort}
use Rattle.machine.specs.declared.kinds.StepKind.{StepKind}
use Rattle.machine.specs.declared.kinds.StepKind.TheVariants.{PciRead, PciWrite, AddonRead, AddonWrite, WriteCycle, ReadCycle, ChipReset}

-- the number of what refuses
abbrev pub refusal_number : Refusal → ℕ
refusal_number StateOutOfForm = state_out_of_form
refusal_number WindowOutOfForm = window_out_of_form
refusal_number UnknownStep = unknown_step
refusal_number UnknownOffset = unknown_offset
refusal_number BadEnables = bad_enables
refusal_number PartFifoAccess = part_fifo_access
refusal_number ReadOnlyRegister = read_only_register
refusal_number FifoFullOrEmpty = fifo_full_or_empty
refusal_number TransferOff = transfer_off
refusal_number CountIsZero = count_is_zero
refusal_number AbortStands = abort_stands
refusal_number FifoNotReady = fifo_not_ready
refusal_number NoMemoryThere = no_memory_there
refusal_number NotAFrameLine = not_aframe_line
refusal_number UnknownLabelSet = unknown_label_set
refusal_number NotAHexRecord = not_ahex_record
refusal_number WrongSum = wrong_sum
refusal_number OutsideTheWindow = outside_the_window
refusal_number NoEndOrNotLast = no_end_or_not_last
refusal_number OutputTooShort = output_too_short

-- the code of what is done or refused: an answer is chosen by this number, never by a name
abbrev pub code_number : Result ⊤ Refusal → ℕ
code_number (Ok x) = done
code_number (Err r) = refusal_number r

-- the kind that a number names; any above 6 is refused by 3
abbrev pub kind_at : ℕ → Result StepKind Refusal
kind_at zero = Ok PciRead
kind_at (suc zero) = Ok PciWrite
kind_at (suc (suc zero)) = Ok AddonRead
kind_at (suc (suc (suc zero))) = Ok AddonWrite
kind_at (suc (suc (suc (suc zero)))) = Ok WriteCycle
kind_at (suc (suc (suc (suc (suc zero))))) = Ok ReadCycle
kind_at (suc (suc (suc (suc (suc (suc zero)))))) = Ok ChipReset
kind_at (suc (suc (suc (suc (suc (suc (suc n))))))) = Err UnknownStep

-- what each of these is among the kinds that the rules go by
abbrev pub kind_named : Result StepKind Refusal → Kind
kind_named (Ok PciRead) = reading host
kind_named (Ok PciWrite) = writing host
kind_named (Ok AddonRead) = reading card
kind_named (Ok AddonWrite) = writing card
kind_named (Ok WriteCycle) = cycle addon
kind_named (Ok ReadCycle) = cycle pci
kind_named (Ok ChipReset) = chip_reset
kind_named (Err r) = unknown
