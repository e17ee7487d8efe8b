-- The bridge from the accounts, which go by the numbers of kinds, to the machine's rules.
use Prim.Native.Nat.{ℕ}
use mathlib.Core.Path.{◌≡◌}
use mathlib.Core.Bool.{cond, ◌&&◌, ◌||◌}
use mathlib.Core.List.{[], ◌∷◌}
use lib.Dec.{eqb}
use Rattle.machine.specs.Words.{bit}
use Rattle.machine.specs.Sides.{Side, pci, addon}
use Rattle.machine.specs.Access.{access_of, is_reset}
use Rattle.machine.specs.Commands.{commands, clears_fifo}
use Rattle.machine.specs.Fifos.{let_in, handed_out}
use Rattle.machine.specs.Event.{Event}
use Rattle.laws.proofs.KindNumbers.{Named, named}
use Rattle.promises.specs.Account.{is_kind, command, clears, words_in, words_out}

module _ (e : Event) where
  abbrev by : Named e.step.kind
  by = named e.step.kind

  pub reset-is : is_reset (access_of e.step).kind ≡ is_kind 6 e
  reset-is = by.reset

  -- the kind of the writes on a side's bus
  abbrev pub write_kind : Side → ℕ
  write_kind pci = 1
  write_kind addon = 3

  pub commands-is : (side : Side) (b : ℕ) → commands side b (access_of e.step) ≡ command (write_kind side) b e
  commands-is pci b = λ i. by.pci_write i && eqb e.step.offset 0x3C && bit e.step.enables 3 && bit e.step.value b
  commands-is addon b = λ i. by.addon_write i && eqb e.step.offset 0x3C && bit e.step.enables 3 && bit e.step.value b

  pub clears-is : (side : Side) → (is_reset (access_of e.step).kind || clears_fifo side (access_of e.step)) ≡ clears side e
  clears-is pci = λ i. by.reset i || (commands-is pci 25 i || commands-is addon 26 i)
  clears-is addon = λ i. by.reset i || (commands-is pci 26 i || commands-is addon 25 i)

  pub in_is : (side : Side) → let_in side (access_of e.step) e.answer.value ≡ words_in side e
  in_is pci =
      λ i. cond (by.read_cycle i) (e.answer.value ∷ []) (cond (by.pci_write i && eqb e.step.offset 0x20) (e.step.value ∷ []) [])
  in_is addon = λ i. cond (by.addon_write i && eqb e.step.offset 0x20) (e.step.value ∷ []) []

  pub out-is : (side : Side) → handed_out side (access_of e.step) e.answer.value ≡ words_out side e
  out-is pci = λ i. cond (by.addon_read i && eqb e.step.offset 0x20) (e.answer.value ∷ []) []
  out-is addon = λ i. cond (by.write_cycle i || by.pci_read i && eqb e.step.offset 0x20) (e.answer.value ∷ []) []
