use mathlib.Core.Path.{◌≡◌, sym, ap, ◌∙◌}
use native.Mathlib.Omega.{arith}
use lib.ListN.{length}
use Rattle.machine.specs.Sides.{Side, pci, addon}
use Rattle.machine.specs.State.{reset_state}
use Rattle.machine.specs.Access.{cycle, access_of, kind_of, is_access}
use Rattle.machine.specs.Step.{nothing, answered, respond}
use Rattle.machine.specs.declared.kinds.StepKind.TheVariants.{PciRead, PciWrite, AddonRead, AddonWrite, WriteCycle, ReadCycle, ChipReset}
use Rattle.machine.specs.declared.Step.{Step}
use Rattle.machine.specs.declared.Answer.{Answer}
use Prim.Native.Nat.{ℕ}
use mathlib.Core.Bool.{true}
use mathlib.Core.List.{List}
use Rattle.bank.specs.Words.{mail_in, pci_in, addon_in, state_of_words, has_rights}
use Rattle.bank.proofs.Words.{zeros_are_reset}
use Rattle.step.specs.Parts.{settled_outcome, told_step, Accessed, Cycled}
use Rattle.step.specs.Parts as parts
use Rattle.step.proofs.Laws.{refused, settled_reset}
use Rattle.step.proofs.Codes.{code-of-access, code-of-cycle, code-of-reset, code-of-unknown, named-as, unnamed, reset_step}
use Rattle.step.proofs.Answers.{at_words, kept_same, done_kept}
use Rattle.step.proofs.by_kind.Goals as goal

module _ (l l' memory : List ℕ) (start : ℕ) (s : Step) (a : Answer) where
  accessed : is_access (kind_of s.kind) ≡ true → Accessed s l a l' → parts.Kind l start memory s a l' memory
  unfolding told_step
  accessed h r = (r.0 start memory ∙ (λ i. respond (state_of_words l) start memory (access_of s) (sym (code-of-access (state_of_words l) start (length memory) s h) i)), r.1)

  cycled : (side : Side) (memory' : List ℕ) → kind_of s.kind ≡ cycle side → Cycled side l start memory a l' memory' → parts.Kind l start memory s a l' memory'
  unfolding told_step
  cycled side memory' k r = (rw (k, code-of-cycle (state_of_words l) start (length memory) side s.offset s.enables s.value) (r.0 s.offset s.enables s.value), r.1)

pub returns-in-Ok-PciRead : goal.returns-in-Ok-PciRead
returns-in-Ok-PciRead c =
    let a = c.args in
    let r = c.read in
    let k = c.in-Ok-PciRead in
    accessed a.words.now r.new.words a.memory.now a.start a.s r.result (ap is_access (named-as a.s.kind k.field-0 PciRead k.ensures k.field-0-is)) r.ensures

pub returns-in-Ok-PciWrite : goal.returns-in-Ok-PciWrite
returns-in-Ok-PciWrite c =
    let a = c.args in
    let r = c.write in
    let k = c.in-Ok-PciWrite in
    accessed a.words.now r.new.words a.memory.now a.start a.s r.result (ap is_access (named-as a.s.kind k.field-0 PciWrite k.ensures k.field-0-is)) r.ensures

pub returns-in-Ok-AddonRead : goal.returns-in-Ok-AddonRead
returns-in-Ok-AddonRead c =
    let a = c.args in
    let r = c.read-in-Ok-AddonRead in
    let k = c.in-Ok-AddonRead in
    accessed a.words.now r.new.words a.memory.now a.start a.s r.result (ap is_access (named-as a.s.kind k.field-0 AddonRead k.ensures k.field-0-is)) r.ensures

pub returns-in-Ok-AddonWrite : goal.returns-in-Ok-AddonWrite
returns-in-Ok-AddonWrite c =
    let a = c.args in
    let r = c.write-in-Ok-AddonWrite in
    let k = c.in-Ok-AddonWrite in
    accessed a.words.now r.new.words a.memory.now a.start a.s r.result (ap is_access (named-as a.s.kind k.field-0 AddonWrite k.ensures k.field-0-is)) r.ensures

pub returns-in-Ok-WriteCycle : goal.returns-in-Ok-WriteCycle
returns-in-Ok-WriteCycle c =
    let a = c.args in
    let r = c.write_cycle in
    let k = c.in-Ok-WriteCycle in
    cycled a.words.now r.new.words a.memory.now a.start a.s r.result addon r.new.memory (named-as a.s.kind k.field-0 WriteCycle k.ensures k.field-0-is) r.ensures

pub returns-in-Ok-ReadCycle : goal.returns-in-Ok-ReadCycle
returns-in-Ok-ReadCycle c =
    let a = c.args in
    let r = c.read_cycle in
    let k = c.in-Ok-ReadCycle in
    cycled a.words.now r.new.words a.memory.now a.start a.s r.result pci a.memory.now (named-as a.s.kind k.field-0 ReadCycle k.ensures k.field-0-is) r.ensures

pub returns-in-Ok-ChipReset : goal.returns-in-Ok-ChipReset
unfolding told_step
returns-in-Ok-ChipReset c =
    let r = c.reset in
    let l = c.args.words.now in
    let st = state_of_words l in
    let s = c.args.s in
    let memory = c.args.memory.now in
    let k = named-as s.kind c.in-Ok-ChipReset.field-0 ChipReset c.in-Ok-ChipReset.ensures c.in-Ok-ChipReset.field-0-is in
    let fresh : state_of_words r.new.words ≡ reset_state = ap state_of_words r.ensures.0 ∙ zeros_are_reset.1 in (
      (λ i. settled_outcome (record { state = fresh i; memory = memory; answer = r.ensures.1 i }))
          ∙ settled_reset memory ∙ reset_step st c.args.start memory s k
          ∙ (λ i. respond st c.args.start memory (access_of s) (sym (code-of-reset st c.args.start (length memory) s k) i)),
      done_kept l r.new.words reset_state _ r.result r.ensures.1 (λ h. ap has_rights r.ensures.0),
    )

pub returns-in-Err : goal.returns-in-Err
unfolding told_step
returns-in-Err c =
    let l = c.args.words.now in
    let s = c.args.s in
    let st = state_of_words l in
    let memory = c.args.memory.now in
    let q = unnamed s.kind c.in-Err.unknown c.in-Err.ensures in
    let code = c.from.ensures ∙ q.1 in
    let told = c.refused.ensures (mail_in l) (pci_in l) (addon_in l) ∙ (λ i. answered (at_words l c.bank_in.result c.bank_in.ensures i) (code i) nothing) in
    rw told (
      refused st c.args.start memory (access_of s) 3 (λ e. omega arith) (λ e. omega arith)
          ∙ (λ i. respond st c.args.start memory (access_of s) (sym (code-of-unknown st c.args.start (length memory) s q.0) i)),
      kept_same l _,
    )
