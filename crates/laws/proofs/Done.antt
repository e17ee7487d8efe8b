-- What a done step tells: the tests that did not apply.
use Prim.Native.Nat.{ℕ, ◌≤◌, ◌<◌}
use mathlib.Core.Path.{◌≡◌, refl, sym}
use mathlib.Core.Bool.{Bool, true, false, cond, not, ◌&&◌, true≢false}
use native.Mathlib.Omega.{arith}
use lib.ListN.{length}
use borrow.Author.Tests.{ltb-true, leb-true, leb-false, not-false}
use Rattle.machine.specs.Words.{bit}
use Rattle.machine.specs.Sides.{Side, pci, addon, other, party_of}
use Rattle.machine.specs.State.{State, lane, held}
use Rattle.machine.specs.Access.{Access, cycles, reads, writes}
use Rattle.machine.specs.Offsets.{fifo_port}
use Rattle.machine.specs.Fifos.{is_empty, cycle_feeds, amount}
use Rattle.machine.specs.Window.{place_of, inside}
use Rattle.machine.specs.Cycles.{needed, is_ready}
use Rattle.machine.specs.Code.{code_of, tests, is_port_stuck, is_full_or_empty, is_not_ready, is_no_memory}
use Rattle.laws.proofs.Tests.{none_applies, neither, or_left, and_at}

-- code 8: a port write finds room
pub room_to_write : (side : Side) (st : State) (x : Access) → is_full_or_empty st x ≡ false → writes (party_of side) fifo_port x ≡ true → length (held side st) < 8
unfolding is_full_or_empty
room_to_write side st x e w =
    leb-false 8 _ (and_at (writes (party_of side) fifo_port x) _ w (or_left _ (reads (party_of (other side)) fifo_port x && is_empty (held side st)) (neither (λ s. is_port_stuck s st x) e side)))

-- code 12: a read cycle finds room
at_least_one : (four : Bool) → 1 ≤ cond four 4 1
at_least_one true = omega arith
at_least_one false = omega arith

pub room_to_read : (side : Side) (st : State) (x : Access) → is_not_ready st x ≡ false → cycle_feeds side x ≡ true → length (held side st) < 8
unfolding is_not_ready is_ready
room_to_read pci st x e c =
    let room = leb-true (needed pci st.mcsr st.from_pci.right) (amount pci (held pci st)) (not-false _ (and_at (cycles pci x.kind) _ c (neither (λ s. cycles s x.kind && not (is_ready s st)) e pci))) in
    omega (arith, at_least_one (bit st.mcsr 13 && not st.from_pci.right))
room_to_read addon st x e c = absurd (true≢false (sym c))

-- code 13: a done cycle's place is in the memory
pub place_inside : (side : Side) (st : State) (start words : ℕ) (x : Access) → code_of st start words x ≡ 0 → cycles side x.kind ≡ true
    → place_of start (lane side st).address < words
unfolding code_of is_no_memory
place_inside side st start words x e c =
    let none = none_applies (tests st start words x) refl e 13 in
    ltb-true _ words
    (not-false _ (and_at (cycles side x.kind) _ c (neither (λ of. cycles of x.kind && not (inside start words (lane of st).address)) none side)))
