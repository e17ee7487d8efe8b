use Rattle.std.proofs.Common.{◌≡◌, drop, sym, ◌∙◌, arith, length-drop, take_all, ltb-true}
use Rattle.std.proofs.lemmas.Grind.{get_or_default_zero}
use Rattle.frame.proofs.Stands.{few_none, no_lf_none, lf_frame}
use Rattle.frame.proofs.frame_at.Goals as goal

pub returns-in_err-rest : goal.returns-in_err-rest
returns-in_err-rest c =
    let a = c.args in
    rw c.from_residual.ensures (few_none (drop a.at a.text.now) (grind (arith, length-drop a.at a.text.now, c.in_err-rest.ensures.lookup)))

pub returns-in_err-get : goal.returns-in_err-get
returns-in_err-get c =
    let a = c.args in
    let rest : c.in_ok-rest.rest.now ≡ drop a.at a.text.now = c.in_ok-rest.ensures.lookup.0.2 ∙ take_all _ _ (omega (arith, length-drop a.at a.text.now)) in
    rw (c.from_residual-in_err-get.ensures, ← rest) (few_none c.in_ok-rest.rest.now (grind (arith, c.in_err-get.ensures.lookup.0)))

pub returns-then-branch-ne10 : goal.returns-then-branch-ne10
returns-then-branch-ne10 c =
    let a = c.args in
    let rest : c.in_ok-rest.rest.now ≡ drop a.at a.text.now = c.in_ok-rest.ensures.lookup.0.2 ∙ take_all _ _ (omega (arith, length-drop a.at a.text.now)) in
    let byte = c.in_ok-get.ensures.lookup.1 ∙ get_or_default_zero _ 13 _ (ltb-true _ _ (sym c.in_ok-get.ensures.lookup.0)) in
    rw (← rest) (no_lf_none c.in_ok-rest.rest.now (λ e. c.if-branch-ne10.true (byte ∙ e)))

pub returns : goal.returns
returns c =
    let a = c.args in
    let rest : c.in_ok-rest.rest.now ≡ drop a.at a.text.now = c.in_ok-rest.ensures.lookup.0.2 ∙ take_all _ _ (omega (arith, length-drop a.at a.text.now)) in
    let byte = c.in_ok-get.ensures.lookup.1 ∙ get_or_default_zero _ 13 _ (ltb-true _ _ (sym c.in_ok-get.ensures.lookup.0)) in
    c.frame.ensures ∙ rw (← rest) (lf_frame c.in_ok-rest.rest.now (sym byte ∙ c.if-branch-ne10.false))
