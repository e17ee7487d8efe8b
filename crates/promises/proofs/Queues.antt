-- The account of any queue, and two queues alike.
use Prim.Native.Nat.{ℕ, ◌-◌, ◌≤◌}
use mathlib.Core.Path.{◌≡◌, refl, sym, ap, ap₂, ◌∙◌}
use mathlib.Core.Bool.{Bool, true, false, cond, true≢false}
use mathlib.Core.List.{List, [], ◌∷◌, ◌++◌, head-eq_of_cons-eq, tail-eq_of_cons-eq, append_assoc, append-nil}
use native.Mathlib.Omega.{arith}
use lib.ListN.{length, drop, length-append, length-drop}
use Rattle.promises.specs.Queues.{Move, queue_after, queue_from, MakesAll, Tally, fresh, tally_after, tallied_from, QueueAccount, MovesAlike, NoneClears, accepted, QueuesAgree}

module _ {A : Type 0} where
  -- ---- one queue

  -- the account over one move
  account-move : (cut : Bool) (ins outs held out new : List A) → ins ≡ outs ++ held → held ≡ out ++ drop (length out) held
      → cond cut [] (ins ++ new) ≡ cond cut [] (outs ++ out) ++ cond cut [] (drop (length out) held ++ new)
  account-move true ins outs held out new e f = refl
  account-move false ins outs held out new e f =
      let rest = drop (length out) held in
      ap (λ (l : List A). l ++ new) (e ∙ ap (λ (l : List A). outs ++ l) f ∙ sym (append_assoc outs out rest)) ∙ append_assoc (outs ++ out) rest new

  account_from : (depth : ℕ) (t : Tally A) (held : List A) (ms : List (Move A)) → MakesAll depth held ms → t.let_in ≡ t.handed_out ++ held
      → (tallied_from t ms).let_in ≡ (tallied_from t ms).handed_out ++ queue_from held ms
  account_from depth t held [] k e = e
  account_from depth t held (m ∷ ms) k e =
      account_from depth (tally_after t m) (queue_after held m) ms k.1 (account-move m.clears t.let_in t.handed_out held m.handed_out m.let_in e k.0.front)

  -- its depth
  room-move : (depth : ℕ) (cut : Bool) (held out new : List A) → length held ≤ depth → length new ≤ depth - (length held - length out)
      → length (cond cut [] (drop (length out) held ++ new)) ≤ depth
  room-move depth true held out new h r = omega arith
  room-move depth false held out new h r = simp (length-append, length-drop) (omega arith)

  room-from : (depth : ℕ) (held : List A) (ms : List (Move A)) → MakesAll depth held ms → length held ≤ depth → length (queue_from held ms) ≤ depth
  room-from depth held [] k h = h
  room-from depth held (m ∷ ms) k h =
      room-from depth (queue_after held m) ms k.1 (room-move depth m.clears held m.handed_out m.let_in h k.0.room)

  -- ---- two queues

  outs-alike : (t u : Tally A) (ms ns : List (Move A)) → MovesAlike ms ns → t.handed_out ≡ u.handed_out → (tallied_from t ms).handed_out ≡ (tallied_from u ns).handed_out
  outs-alike t u [] [] a e = e
  outs-alike t u [] (n ∷ ns) a e = absurd a
  outs-alike t u (m ∷ ms) [] a e = absurd a
  outs-alike t u (m ∷ ms) (n ∷ ns) a e = outs-alike (tally_after t m) (tally_after u n) ms ns a.1 (λ i. cond (a.0.clears i) [] (e i ++ a.0.handed_out i))

  -- with no clear: all that was let in, one move behind the other
  abbrev joined : List (List A) → List A
  joined [] = []
  joined (l ∷ ls) = l ++ joined ls

  uncut : (cut : Bool) (sofar new : List A) → cut ≡ false → cond cut [] (sofar ++ new) ≡ sofar ++ new
  uncut true sofar new e = absurd (true≢false e)
  uncut false sofar new e = refl

  all-joined : (t : Tally A) (ms : List (Move A)) → NoneClears ms → (tallied_from t ms).let_in ≡ t.let_in ++ joined (accepted ms)
  all-joined t [] h = sym (append-nil t.let_in)
  all-joined t (m ∷ ms) h =
      all-joined (tally_after t m) ms h.1 ∙ ap (λ (l : List A). l ++ joined (accepted ms)) (uncut m.clears t.let_in m.let_in h.0)
      ∙ append_assoc t.let_in m.let_in (joined (accepted ms))

  none_alike : (ms ns : List (Move A)) → MovesAlike ms ns → NoneClears ms → NoneClears ns
  none_alike [] [] a h = tt
  none_alike [] (n ∷ ns) a h = absurd a
  none_alike (m ∷ ms) [] a h = absurd a
  none_alike (m ∷ ms) (n ∷ ns) a h = (sym a.0.clears ∙ h.0, none_alike ms ns a.1 h.1)

  split : (xs us ys vs : List A) → length xs ≡ length us → xs ++ ys ≡ us ++ vs → (xs ≡ us) × (ys ≡ vs)
  split [] [] ys vs n e = (refl, e)
  split [] (u ∷ us) ys vs n e = absurd (omega arith)
  split (x ∷ xs) [] ys vs n e = absurd (omega arith)
  split (x ∷ xs) (u ∷ us) ys vs n e =
      let r = split xs us ys vs (omega arith) (tail-eq_of_cons-eq e) in (ap₂ (λ (z : A) (l : List A). z ∷ l) (head-eq_of_cons-eq e) r.0, r.1)

  each : (ms ns : List (Move A)) → MovesAlike ms ns → joined (accepted ms) ≡ joined (accepted ns) → accepted ms ≡ accepted ns
  each [] [] a e = refl
  each [] (n ∷ ns) a e = absurd a
  each (m ∷ ms) [] a e = absurd a
  each (m ∷ ms) (n ∷ ns) a e =
      let r = split m.let_in n.let_in (joined (accepted ms)) (joined (accepted ns)) a.0.much e in
      ap₂ (λ (l : List A) (ls : List (List A)). l ∷ ls) r.0 (each ms ns a.1 r.1)

pub queue_account : (A : Type 0) → QueueAccount A
queue_account A depth ms k = (account_from depth fresh [] ms k refl, room-from depth [] ms k (omega arith))

pub queues_agree : (A : Type 0) → QueuesAgree A
queues_agree A depth ms ns a k l e = (since, λ h. each ms ns a (sym (all-joined fresh ms h) ∙ since ∙ all-joined fresh ns (none_alike ms ns a h)))
  where
    since : (tallied_from fresh ms).let_in ≡ (tallied_from fresh ns).let_in
    since =
        (queue_account A depth ms k).0 ∙ ap₂ (λ (o h : List A). o ++ h) (outs-alike fresh fresh ms ns a refl) e ∙ sym (queue_account A depth ns l).0
