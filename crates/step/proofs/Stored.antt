-- What the words of a side stand for when they are stored anew.
use Prim.Native.Nat.{ℕ, zero, suc, ◌+◌, ◌-◌, ◌%◌, ◌<◌}
use mathlib.Core.Path.{◌≡◌, refl, sym, ◌∙◌}
use mathlib.Core.Bool.{Bool, true, false, cond, ◌||◌}
use mathlib.Core.List.{List, [], ◌∷◌}
use native.Mathlib.Nat.{mod-lt}
use native.Mathlib.Omega.{arith}
use lib.Bits.{bit_xor}
use lib.Dec.{eqb, ltb}
use mir.Val.{bool_byte}
use lib.ListN.{length, get_or, set, drop}
use borrow.Author.Tests.{lt-ltb}
use Rattle.laws.proofs.Tests.{and_left, and_right}
use Rattle.machine.specs.Sides.{Side, pci, addon}
use Rattle.machine.specs.State.{lane, held}
use Rattle.machine.specs.Access.{Access}
use Rattle.machine.specs.Commands.{clears_fifo}
use Rattle.machine.specs.Fifos.{front}
use Rattle.machine.specs.Interrupts.{interrupts, interrupts_written, notified, count_bit}
use Rattle.machine.specs.Words.{bit, raised, written}
use Rattle.machine.specs.Offsets.{address_at, count_at}
use Rattle.machine.specs.Mcsr.{four_bit, mcsr_after}
use Rattle.machine.specs.Cycles.{address_kept, count_kept, next_address, count_left, runs_out}
use Rattle.fifo.specs.Ring.{from}
use Rattle.fifo.proofs.Ring.{length_from, from_front, from-pop, from-push}
use Rattle.bank.specs.Bank.{state_in}
use Rattle.bank.specs.Places.{fifo_place, address_place, count_place, head_place, fill_place, right_place, interrupts_place}
use Rattle.bank.specs.Words.{is_right, pci_in, addon_in, state_of_words}
use Rattle.bank.proofs.Words.{right_word, right_small, part_length, stand, stand-pci, stand-addon, stand-state, stand-rights, stand_numbers}
use Rattle.step.specs.Parts.{Stored, lane_changed, without_front, with_last, cleared_lane, event_told, registers_written, interrupts_stored, mcsr_stored, passed}
use Rattle.step.proofs.Answers.{part_word}

-- the ring without its front word, also where it holds none
popped : (places : List ℕ) (h n : ℕ) → from 8 0 places ((h % 8 + 1) % 8) (n - 1) ≡ drop 1 (from 8 0 places h n)
unfolding from
popped places h zero = refl
popped places h (suc n) = from-pop 8 0 places h (suc n) (omega arith)

one_more : (n : ℕ) → n < 8 → cond (ltb n 8) (suc n) n ≡ suc n
one_more n h = rw (lt-ltb n 8 h)

module _ (l : List ℕ) (long : length l ≡ 38) where
  pub taken : (side : Side) → Stored (lane_changed side without_front) l (set (set l (head_place side) ((get_or l (head_place side) 0 % 8 + 1) % 8)) (fill_place side) (get_or l (fill_place side) 0 - 1))
  unfolding state_in
  taken pci =
      let e = stand_numbers ((30, (get_or l 30 0 % 8 + 1) % 8) ∷ (31, get_or l 31 0 - 1) ∷ []) refl (stand l long) in
      record { state = stand-state e ∙ rw (popped (pci_in l) (get_or l 30 0) (get_or l 31 0)); rights = λ h. stand-rights e ∙ h }
  taken addon =
      let e = stand_numbers ((34, (get_or l 34 0 % 8 + 1) % 8) ∷ (35, get_or l 35 0 - 1) ∷ []) refl (stand l long) in
      record { state = stand-state e ∙ rw (popped (addon_in l) (get_or l 34 0) (get_or l 35 0)); rights = λ h. stand-rights e ∙ h }

  pub front_word : (side : Side) → 0 < length (held side (state_of_words l)) → get_or l (fifo_place side + get_or l (head_place side) 0 % 8) 0 ≡ front (held side (state_of_words l))
  unfolding state_in
  front_word pci h = sym (part_word 8 8 (get_or l 30 0 % 8) l (mod-lt (get_or l 30 0) (omega arith))) ∙ from_front 8 0 (pci_in l) (get_or l 30 0) (get_or l 31 0) (simp length_from at h)
  front_word addon h = sym (part_word 16 8 (get_or l 34 0 % 8) l (mod-lt (get_or l 34 0) (omega arith))) ∙ from_front 8 0 (addon_in l) (get_or l 34 0) (get_or l 35 0) (simp length_from at h)

  pub fed : (side : Side) (x : ℕ) → length (held side (state_of_words l)) < 8
      → Stored (lane_changed side (with_last x)) l
      (set (set l (fifo_place side + (get_or l (head_place side) 0 + get_or l (fill_place side) 0) % 8) x) (fill_place side) (cond (ltb (get_or l (fill_place side) 0) 8) (suc (get_or l (fill_place side) 0)) (get_or l (fill_place side) 0)))
  unfolding state_in
  fed pci x h =
      let head = get_or l 30 0 in
      let fill = get_or l 31 0 in
      let some : fill < 8 = simp length_from at h in
      let e = stand_numbers ((31, cond (ltb fill 8) (suc fill) fill) ∷ []) refl (stand-pci (stand l long) ((head + fill) % 8) x (mod-lt (head + fill) (omega arith))) in
      record { state = stand-state e ∙ rw (one_more fill some, from-push 8 0 (pci_in l) head fill x some (part_length 8 8 l (omega (arith, long)))); rights = λ r. stand-rights e ∙ r }
  fed addon x h =
      let head = get_or l 34 0 in
      let fill = get_or l 35 0 in
      let some : fill < 8 = simp length_from at h in
      let e = stand_numbers ((35, cond (ltb fill 8) (suc fill) fill) ∷ []) refl (stand-addon (stand l long) ((head + fill) % 8) x (mod-lt (head + fill) (omega arith))) in
      record { state = stand-state e ∙ rw (one_more fill some, from-push 8 0 (addon_in l) head fill x some (part_length 16 8 l (omega (arith, long)))); rights = λ r. stand-rights e ∙ r }

  pub emptied : (side : Side) (x : Access) → clears_fifo side x ≡ true → Stored (lane_changed side (cleared_lane side x)) l (set (set l (fill_place side) 0) (right_place side) 0)
  unfolding state_in from
  emptied pci x h =
      let e = stand_numbers ((31, 0) ∷ (36, 0) ∷ []) refl (stand l long) in
      record { state = stand-state e ∙ rw h; rights = λ r. stand-rights e ∙ and_right (ltb (get_or l 36 0) 2) (ltb (get_or l 37 0) 2) r }
  emptied addon x h =
      let e = stand_numbers ((35, 0) ∷ (37, 0) ∷ []) refl (stand l long) in
      record { state = stand-state e ∙ rw h; rights = λ r. stand-rights e ∙ rw (and_left (ltb (get_or l 36 0) 2) (ltb (get_or l 37 0) 2) r) }

  pub told : (side : Side) (changed : ℕ) → Stored (event_told side changed) l (set (set l 24 (bit_xor (get_or l 24 0) changed)) (interrupts_place side) (notified (get_or l (interrupts_place side) 0) changed))
  unfolding state_in
  told pci changed =
      let e = stand_numbers ((24, bit_xor (get_or l 24 0) changed) ∷ (25, notified (get_or l 25 0) changed) ∷ []) refl (stand l long) in
      record { state = stand-state e; rights = λ r. stand-rights e ∙ r }
  told addon changed =
      let e = stand_numbers ((24, bit_xor (get_or l 24 0) changed) ∷ (27, notified (get_or l 27 0) changed) ∷ []) refl (stand l long) in
      record { state = stand-state e; rights = λ r. stand-rights e ∙ r }

  pub left : (side : Side) (x : Access) → clears_fifo side x ≡ false → Stored (lane_changed side (cleared_lane side x)) l l
  unfolding state_in
  left pci x h = record { state = rw h; rights = λ r. r }
  left addon x h = record { state = rw h; rights = λ r. r }

  pub registered : (side : Side) (x : Access)
      → Stored (lane_changed side (registers_written side x)) l
      (set (set l (address_place side) (cond (eqb x.offset (address_at side)) (written address_kept (get_or l (address_place side) 0) x.value x.enables) (get_or l (address_place side) 0))) (count_place side)
      (cond (eqb x.offset (count_at side)) (written count_kept (get_or l (count_place side) 0) x.value x.enables) (get_or l (count_place side) 0)))
  unfolding state_in
  registered pci x =
      let e = stand_numbers ((28, cond (eqb x.offset 0x2C) (written address_kept (get_or l 28 0) x.value x.enables) (get_or l 28 0)) ∷ (29, cond (eqb x.offset 0x30) (written count_kept (get_or l 29 0) x.value x.enables) (get_or l 29 0)) ∷ []) refl (stand l long) in
      record { state = stand-state e; rights = λ r. stand-rights e ∙ r }
  registered addon x =
      let e = stand_numbers ((32, cond (eqb x.offset 0x24) (written address_kept (get_or l 32 0) x.value x.enables) (get_or l 32 0)) ∷ (33, cond (eqb x.offset 0x28) (written count_kept (get_or l 33 0) x.value x.enables) (get_or l 33 0)) ∷ []) refl (stand l long) in
      record { state = stand-state e; rights = λ r. stand-rights e ∙ r }

  pub interrupted : (side : Side) (x : Access) → Stored (interrupts_stored side x) l (set l (interrupts_place side) (interrupts_written side (get_or l (interrupts_place side) 0) x.value x.enables))
  unfolding state_in
  interrupted pci x =
      let e = stand_numbers ((25, interrupts_written pci (get_or l 25 0) x.value x.enables) ∷ []) refl (stand l long) in
      record { state = stand-state e; rights = λ r. stand-rights e ∙ r }
  interrupted addon x =
      let e = stand_numbers ((27, interrupts_written addon (get_or l 27 0) x.value x.enables) ∷ []) refl (stand l long) in
      record { state = stand-state e; rights = λ r. stand-rights e ∙ r }

  pub mcsr_put : (x : Access) → Stored (mcsr_stored x) l (set l 26 (mcsr_after x (get_or l 26 0)))
  unfolding state_in
  mcsr_put x =
      let e = stand_numbers ((26, mcsr_after x (get_or l 26 0)) ∷ []) refl (stand l long) in
      record { state = stand-state e; rights = λ r. stand-rights e ∙ r }

  pub passing : (side : Side) (b : Bool) → b ≡ (lane side (state_of_words l)).right || bit (get_or l 26 0) (four_bit side)
      → Stored (passed side) l
      (set (set (set (set (set l 25 (raised (get_or l 25 0) (runs_out (get_or l (count_place side) 0)) (count_bit side))) 27 (raised (get_or l 27 0) (runs_out (get_or l (count_place side) 0)) (count_bit side)))
      (address_place side) (next_address (get_or l (address_place side) 0))) (count_place side) (count_left (get_or l (count_place side) 0))) (right_place side) (bool_byte b))
  unfolding state_in
  passing pci b h =
      let e = stand_numbers ((25, raised (get_or l 25 0) (runs_out (get_or l 29 0)) 19) ∷ (27, raised (get_or l 27 0) (runs_out (get_or l 29 0)) 19) ∷ (28, next_address (get_or l 28 0)) ∷ (29, count_left (get_or l 29 0)) ∷ (36, bool_byte b) ∷ []) refl (stand l long) in
      record { state = stand-state e ∙ rw (right_word b, h); rights = λ r. stand-rights e ∙ rw (right_small b) (and_right (ltb (get_or l 36 0) 2) (ltb (get_or l 37 0) 2) r) }
  passing addon b h =
      let e = stand_numbers ((25, raised (get_or l 25 0) (runs_out (get_or l 33 0)) 18) ∷ (27, raised (get_or l 27 0) (runs_out (get_or l 33 0)) 18) ∷ (32, next_address (get_or l 32 0)) ∷ (33, count_left (get_or l 33 0)) ∷ (37, bool_byte b) ∷ []) refl (stand l long) in
      record { state = stand-state e ∙ rw (right_word b, h); rights = λ r. stand-rights e ∙ rw (right_small b, and_left (ltb (get_or l 36 0) 2) (ltb (get_or l 37 0) 2) r) }

-- what the words of a side show
pub interrupts_word : (l : List ℕ) (side : Side) → get_or l (interrupts_place side) 0 ≡ interrupts side (state_of_words l)
unfolding state_in
interrupts_word l pci = refl
interrupts_word l addon = refl

pub right_shown : (l : List ℕ) (side : Side) → is_right (get_or l (right_place side) 0) ≡ (lane side (state_of_words l)).right
unfolding state_in
right_shown l pci = refl
right_shown l addon = refl
