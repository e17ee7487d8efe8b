use Rattle.std.proofs.Common.{◌∙◌, take, drop}
use Rattle.hex_load.proofs.Digits.{word_none, word_some}
use Rattle.hex_load.proofs.Records.{head_says, head_not, kind_not}
use Rattle.hex_load.proofs.Head.read.Goals as goal

pub returns-in_err-word_at : goal.returns-in_err-word_at
returns-in_err-word_at c = rw c.from_residual.ensures (head_not c.args.text.now (word_none (take 8 (drop 1 c.args.text.now)) c.in_err-word_at.ensures))

pub returns-in_err-kind : goal.returns-in_err-kind
returns-in_err-kind c =
    let t = c.args.text.now in
    let w = word_some (take 8 (drop 1 t)) c.in_ok-word_at.field-0 c.in_ok-word_at.ensures in
    let s = head_says t c.requires w.0 c.to_be_bytes.result c.from_be_bytes-offset.result (rw w.1 at c.to_be_bytes.ensures) c.from_be_bytes-offset.ensures in
    rw c.from_residual-in_err-kind.ensures (kind_not t (rw (s.0, s.1, s.2) at c.in_err-kind.ensures))

pub returns : goal.returns
returns c =
    let t = c.args.text.now in
    let w = word_some (take 8 (drop 1 t)) c.in_ok-word_at.field-0 c.in_ok-word_at.ensures in
    let s = head_says t c.requires w.0 c.to_be_bytes.result c.from_be_bytes-offset.result (rw w.1 at c.to_be_bytes.ensures) c.from_be_bytes-offset.ensures in
    let k = c.in_ok-kind.ensures in
    (record { counts = s.0; offsets = s.1; kinds = k.1 ∙ s.2 }, w.0, rw (s.0, s.1, s.2) at k.0)
