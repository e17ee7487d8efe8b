use mathlib.Core.Path.{◌≡◌, ap, ◌∙◌}
use mathlib.Core.List.{List, [], ◌∷◌}
use Prim.Native.Nat.{ℕ, ◌/◌}
use lib.ListN.{length, get_or, take, drop}
use Rattle.std.proofs.lemmas.List.{drop-drop}
use borrow.Author.Rules.{rules}
use Rattle.std.specs.Simd.{first_chunks}
use Rattle.controller.specs.Controller.{state_of}
use Rattle.bank.specs.Bank.{state_in, lane_with}
use Rattle.bank.specs.Words.{part}
use Rattle.bank.proofs.controller_of.Goals as goal

pub returns : goal.returns
unfolding state_in state_of
returns c =
    let b = c.bank_in-b in
    let l = c.args.words in
    let long : length l ≡ 38 = search rules in
    let runs : c.as_chunks.result.0.now ≡ part 0 8 l ∷ part 8 8 l ∷ part 16 8 l ∷ take 8 (drop 8 (drop 8 (drop 8 l))) ∷ [] = c.as_chunks.ensures.front ∙ ap (λ (n : ℕ). first_chunks 8 (n / 8) l) long ∙ ap (λ (t : List ℕ). take 8 l ∷ take 8 (drop 8 l) ∷ take 8 t ∷ take 8 (drop 8 (drop 8 (drop 8 l))) ∷ []) (drop-drop 8 8 l) in
    let mail = ap (λ (rs : List (List ℕ)). get_or rs 0 []) runs in
    let pci = c.lane_of.ensures ∙ (λ i. lane_with (b.ensures i).from_pci (get_or (runs i) 1 [])) in
    let addon = c.lane_of-2.ensures ∙ (λ i. lane_with (b.ensures i).from_addon (get_or (runs i) 2 [])) in
    λ i. record { mail = mail i; marks = (b.ensures i).marks; from_pci = pci i; from_addon = addon i; intcsr = (b.ensures i).intcsr; mcsr = (b.ensures i).mcsr; aint = (b.ensures i).aint }
