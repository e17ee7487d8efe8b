use mathlib.Core.Path.{◌≡◌, refl, ◌∙◌}
use native.Mathlib.Omega.{arith}
use lib.Dec.{eqb}
use lib.IntN.{pos}
use lib.ListN.{length}
use mir.Syntax.{w64}
use mir.ValLaws.{to_z_pos}
use Rattle.machine.specs.declared.Step.{Step}
use Rattle.promises.specs.CodeTable.{step_codes}
use Rattle.promises.proofs.Answers.{in_list}
use Rattle.step.specs.Parts.{InWords}
use Rattle.driver.specs.Call.{words_of_answer, step_of_words, form_of_words}
use Rattle.driver.proofs.Words.{left_by_lem}
use Rattle.driver.proofs.Call.{step-code}
use Rattle.driver.proofs.s5933_step.Goals as goal

pub returns : goal.returns
returns c =
    let p = c.words_of in
    let k = c.in_words-a in
    let g = c.form_in in
    let a = c.args in
    let words = a.controller.now in
    let memory = a.memory.now in
    let s : Step = record { kind = a.kind; offset = a.offset; enables = a.enables; value = a.value } in
    let promised : InWords words memory a.start (form_of_words words a.start (length memory)) s k.result k.new.words k.new.memory = rw (← c.code-form.ensures ∙ g.ensures) k.ensures in
    let e = left_by_lem words a.start memory s k.result k.new.words k.new.memory k.auto.words promised in
    let code = k.result.code in
    let same : code ≡ (step_of_words words a.start memory s).answer.code = λ i. (e.outcome i).answer.code in
    let small = in_list 256 step_codes (step_of_words words a.start memory s).answer.code refl (step-code words a.start memory s) in
    record {
      unasked = λ other. absurd (other c.in-Some.ensures.cases.long);
      told = λ asked.
          record {
            result = rw c.from.ensures (to_z_pos w64 code (omega (arith, same, small)) ∙ (λ i. pos (e.outcome i).answer.code));
            answer = p.ensures ∙ (λ i. words_of_answer (e.outcome i).answer);
            state = λ i. (e.outcome i).state;
            memory = λ i. (e.outcome i).memory;
            still = e.still;
            refused = λ zero abort. k.ensures.kept.refused ((λ i. eqb (e.outcome i).answer.code 0) ∙ zero) ((λ i. eqb (e.outcome i).answer.code 13) ∙ abort);
          };
    }
