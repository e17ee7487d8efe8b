use mathlib.Core.Path.{refl, sym}
use Rattle.step.proofs.Answers.{coded, access-refused, access-done, pop-done}
use Rattle.step.proofs.reads.pop.Goals as goal

pub returns-in-Err : goal.returns-in-Err
returns-in-Err g c =
    let a = c.args in
    let k = c.in-Err in
    access-refused a.words.now a.s c.bank_in-b.result c.bank_in-b.ensures k.r k.ensures.goes_on k.ensures.code c.from.result c.from.ensures c.refused.result c.refused.ensures

pub returns : goal.returns
returns g c =
    let l = c.args.words.now in
    let s = c.args.s in
    let b = c.bank_in-b in
    let go = c.in-Ok.ensures in
    access-done l s b.result 0 b.ensures (go.goes_on, go.code) c.done.result _ refl
    (pop-done l _ s c.done.result g.S.Side.side _ g.met.S.Party.other_is c.requires.0 c.requires.1 (sym (coded l s b.result 0 b.ensures (go.goes_on, go.code))) c.take_word-front.result c.take_word-front.ensures.state c.take_word-front.ensures.word c.done.ensures)
