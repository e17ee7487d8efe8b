use mathlib.Core.Path.{◌≡◌, refl, ap, ◌∙◌}
use mathlib.Core.Bool.{Bool, true, false}
use mathlib.Core.List.{[], ◌∷◌}
use lib.ListN.{replicate}
use lib.Dec.{ltb}
use Rattle.machine.specs.Sides.{addon}
use Rattle.fifo.specs.Held.{held}
use Rattle.controller.specs.Controller.{lane_of, state_of}
use Rattle.bank.specs.Bank.{state_in}
use Rattle.bank.specs.Words.{one_if, is_right, with_lane, state_of_words, has_rights}
use Rattle.bank.proofs.Words.{stand, stand-mails, stand-pcis, stand-addons, stand-state, stand-rights, stand_numbers}
use borrow.Author.Rules.{rules}
use Rattle.bank.proofs.words_of.Goals as goal

right_back : (b : Bool) → is_right (one_if b) ≡ b
right_back true = refl
right_back false = refl

small : (b : Bool) → ltb (one_if b) 2 ≡ true
small true = refl
small false = refl

pub returns : goal.returns
unfolding state_in state_of lane_of held
returns c =
    let a = c.args.c in
    let p = a.from_pci in
    let d = a.from_addon in
    let mailed = stand-mails (stand (replicate 38 0) refl) c.put_run.new.place (search rules) in
    let numbered = stand_numbers ((24, a.marks) ∷ (25, a.intcsr) ∷ (26, a.mcsr) ∷ (27, a.aint) ∷ []) refl mailed in
    let from_pci = stand_numbers ((28, p.address) ∷ (29, p.count.0) ∷ (30, p.fifo.head) ∷ (31, p.fifo.fill.0) ∷ (36, one_if p.right) ∷ []) refl (stand-pcis numbered p.fifo.words (search rules)) in
    let from_addon = stand_numbers ((32, d.address) ∷ (33, d.count.0) ∷ (34, d.fifo.head) ∷ (35, d.fifo.fill.0) ∷ (37, one_if d.right) ∷ []) refl (stand-addons from_pci d.fifo.words (search rules)) in
    let put = c.put_lane-2.ensures ∙ ap (with_lane addon d) c.put_lane.ensures in (
      c.put_lane-2.array_long,
      (
        ap has_rights put ∙ stand-rights from_addon ∙ rw (small p.right, small d.right),
        ap state_of_words put ∙ stand-state from_addon ∙ rw (c.put_run.ensures, right_back p.right, right_back d.right),
      ),
    )
