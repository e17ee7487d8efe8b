-- What `feed` and `finish` promise, by how far the reading has come.
use Prim.Native.Nat.{ℕ, ◌+◌, ◌≤◌, zero-le}
use mathlib.Core.Path.{◌≡◌, refl, sym, ap, ◌∙◌}
use mathlib.Core.List.{List}
use mathlib.Core.Bool.{Bool, true, false}
use borrow.Author.Tests.{le-ltb}
use native.Mathlib.Omega.{arith}
use lib.ListN.{length, length-drop}
use Rattle.machine.specs.State.{State}
use Rattle.controller.specs.Controller.{state_of}
use Rattle.lines.specs.Lines.{lines}
use Rattle.logline.specs.Labels.{english_set}
use Rattle.machine.specs.Codes.{unknown_label_set}
use Rattle.logline.specs.LogLine.{refusing, refusal, line_room}
use Rattle.logline.proofs.Labels.{line_fits}
use Rattle.std.proofs.Common.{Result, Ok}
use Rattle.frame_log.specs.declared.NoRoom.{NoRoom}
use Rattle.frame_log.specs.Results.{no_room, is_short, with_log, begun_of, text_run, piece_of}
use Rattle.input.specs.declared.Reading.{Reading}
use Rattle.input.specs.declared.Reading.TheVariants.{FirstLine, Frames, Over}
use Rattle.input.specs.declared.SetLine.{SetLine}
use Rattle.input.specs.declared.Input.{Input}
use Rattle.input.specs.Input.{has_set, Passing, passing, refusal_after, fed_past, fed_input, ended_first, ended_input}
use Rattle.input.specs.Results.{InputRun, with_room, as_it_is, lines_left, PassedUnique, InputFeedUnique, InputFinishUnique}

module _ (i : Input) (start : ℕ) (memory out : List ℕ) where
  abbrev st : State
  st = state_of i.stream.controller

  abbrev begun : List ℕ
  begun = begun_of i.stream

  -- ---- a piece

  module _ (piece : List ℕ) where
    abbrev pub fed_run : InputRun
    fed_run = with_room (length piece + 1) (as_it_is i memory out) (fed_input i.reading st start memory begun piece)

    pub fed-short : is_short (length piece + 1) out ≡ true → as_it_is i memory out ≡ fed_run
    unfolding with_room as_it_is
    fed-short e = simp e

    module _ (rest : List ℕ) (e : is_short (length piece + 1) out ≡ false) where
      pub fed-first : (line : SetLine) → passing i.reading piece ≡ record { reading = FirstLine line; rest = rest }
          → record { reading = FirstLine line; state = st; memory = memory; begun = begun; out = out; log = Ok 0 } ≡ fed_run
      unfolding with_room as_it_is fed_input fed_past with_log
      fed-first line p = rw (p, e)

      pub fed-over : passing i.reading piece ≡ record { reading = Over; rest = rest } → (n : ℕ) (out' : List ℕ) → n ≡ length (refusal_after i.reading) → out' ≡ with_log (refusal_after i.reading) out
          → record { reading = Over; state = st; memory = memory; begun = begun; out = out'; log = Ok n } ≡ fed_run
      unfolding with_room as_it_is fed_input fed_past
      fed-over p n out' m w = rw (p, e, m, w)

      pub fed-frames : (set : ℕ) → passing i.reading piece ≡ record { reading = Frames set; rest = rest } → is_short (length rest) out ≡ false
          → {state : State} {memory' begun' out' : List ℕ} {log : Result ℕ NoRoom}
          → record { state = state; memory = memory'; begun = begun'; out = out'; log = log } ≡ piece_of set st start memory begun rest out
          → record { reading = Frames set; state = state; memory = memory'; begun = begun'; out = out'; log = log } ≡ fed_run
      unfolding with_room as_it_is fed_input fed_past piece_of
      fed-frames set p r q =
          let f = rw r at q in
          rw (p, e) (λ j. record { reading = Frames set; state = (f j).state; memory = (f j).memory; begun = (f j).begun; out = (f j).out; log = (f j).log })

  -- ---- the end

  abbrev pub ended_run : Reading → InputRun
  ended_run r = with_room (lines_left r begun) (as_it_is i memory out) (ended_input r st start memory begun)

  -- what is left, by how far the reading has come
  pub at_reading : {r : Reading} {state : State} {memory' out' : List ℕ} {log : Result ℕ NoRoom} → i.reading ≡ r
      → record { reading = r; state = state; memory = memory'; begun = begun; out = out'; log = log } ≡ ended_run r
      → record { reading = i.reading; state = state; memory = memory'; begun = begun; out = out'; log = log } ≡ ended_run i.reading
  at_reading {state = state} {memory' = memory'} {out' = out'} {log = log} g e =
      ap (λ (q : Reading). record { reading = q; state = state; memory = memory'; begun = begun; out = out'; log = log }) g ∙ e ∙ ap ended_run (sym g)

  pub ended-over : record { reading = Over; state = st; memory = memory; begun = begun; out = out; log = Ok 0 } ≡ ended_run Over
  unfolding with_room as_it_is lines_left ended_input with_log is_short
  ended-over = simp (le-ltb (length out) 0 zero-le)

  module _ (line : SetLine) where
    pub ended-short : is_short 1 out ≡ true → i.reading ≡ FirstLine line
        → record { reading = FirstLine line; state = st; memory = memory; begun = begun; out = out; log = no_room } ≡ ended_run (FirstLine line)
    unfolding with_room as_it_is lines_left
    ended-short e r = rw (e, r)

    pub ended-known : is_short 1 out ≡ false → has_set line ≡ true
        → record { reading = FirstLine line; state = st; memory = memory; begun = begun; out = out; log = Ok 0 } ≡ ended_run (FirstLine line)
    unfolding with_room as_it_is lines_left ended_input ended_first with_log
    ended-known e h = rw (e, h)

    pub ended-refused : is_short 1 out ≡ false → has_set line ≡ false → (n : ℕ) (out' : List ℕ) → n ≡ length refusal → out' ≡ with_log refusal out
        → record { reading = Over; state = st; memory = memory; begun = begun; out = out'; log = Ok n } ≡ ended_run (FirstLine line)
    unfolding with_room as_it_is lines_left ended_input ended_first
    ended-refused e h n out' m w = rw (e, h, m, w)

  module _ (set : ℕ) (state : State) (memory' out' : List ℕ) (log : Result ℕ NoRoom) where
    abbrev Ran : Type 0
    Ran = record { state = state; memory = memory'; out = out'; log = log } ≡ text_run set st start memory begun out

    abbrev ran : InputRun
    ran = record { reading = Frames set; state = state; memory = memory'; begun = begun; out = out'; log = log }

    frames_by : (t : Bool) → is_short (length (lines begun)) out ≡ t → i.reading ≡ Frames set → Ran → ran ≡ ended_run (Frames set)
    unfolding with_room as_it_is lines_left ended_input text_run
    frames_by true e r q =
        let f = rw e at q in
        rw (e, r) (λ j. record { reading = Frames set; state = (f j).state; memory = (f j).memory; begun = begun; out = (f j).out; log = (f j).log })
    frames_by false e r q =
        let f = rw e at q in
        rw e (λ j. record { reading = Frames set; state = (f j).state; memory = (f j).memory; begun = begun; out = (f j).out; log = (f j).log })

    pub ended-frames : i.reading ≡ Frames set → Ran → ran ≡ ended_run (Frames set)
    ended-frames = frames_by (is_short (length (lines begun)) out) refl

-- ---- a refusal is a log line

pub refusal_fits : length refusal ≤ line_room
unfolding refusal
refusal_fits = line_fits english_set (refusing unknown_label_set)

pub refusal_after_fits : (r : Reading) → length (refusal_after r) ≤ line_room
unfolding refusal_after
refusal_after_fits (FirstLine line) = refusal_fits
refusal_after_fits (Frames set) = zero-le
refusal_after_fits Over = zero-le

-- ---- two results are the same

pub passed_unique : PassedUnique
passed_unique reading piece r q p o =
    let same = sym p.passes ∙ o.passes in
    let left = ap (λ (v : Passing). length v.rest) same in
    let within = p.within in
    let within' = o.within in
    let next : r.next ≡ q.next = omega (arith, left, length-drop r.next piece, length-drop q.next piece) in
    λ i. record { reading = (same i).reading; next = next i }

pub input_feed_unique : InputFeedUnique
input_feed_unique i start memory piece out r q memory' memory'' out' out'' p o = (p.fed ∙ sym o.fed, λ e. p.refused e ∙ sym (o.refused e))

pub input_finish_unique : InputFinishUnique
input_finish_unique i start memory out r q memory' memory'' out' out'' p o = (p.ended ∙ sym o.ended, λ e. p.refused e ∙ sym (o.refused e))
