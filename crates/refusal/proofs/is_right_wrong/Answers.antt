use mathlib.Core.Path.{ap}
use mathlib.Core.Bool.{not, ◌&&◌, ◌||◌}
use Rattle.refusal.proofs.Faults.{none_wrong}
use Rattle.refusal.proofs.is_right_wrong.Goals as goal

pub returns-then-not-b : goal.returns-then-not-b
returns-then-not-b c = λ mail pci addon. let b = c.args.b in none_wrong b.from_pci.right b.from_addon.right _ _ (ap not c.if-not-b.true)

pub returns : goal.returns
returns c = λ mail pci addon.
    let b = c.args.b in
    λ i. b.from_pci.right && c.is_ended.ensures mail pci addon i || b.from_addon.right && c.is_ended-2.ensures mail pci addon i
