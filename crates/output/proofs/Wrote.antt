-- Laws of writing: nothing written, one byte, bytes copied into a part, one write after the other, and the length.
use Prim.Native.Nat.{ℕ, ◌+◌, ◌≤◌}
use mathlib.Core.Path.{◌≡◌, refl, sym, ap, ◌∙◌}
use mathlib.Core.List.{List, [], ◌∷◌, ◌++◌, append_assoc}
use native.Mathlib.Nat.{add-zero, add_assoc}
use lib.ListN.{length, take, drop, set, length-append}
use lib.Seq.{sets-eq, length-sets, drop-drop}
use borrow.Rule.Slice.PartMut.{put_mid}
use Rattle.laws.proofs.Stores.{sets_append}
use Rattle.output.specs.Wrote.{Wrote, WroteUnique}

pub wrote_none : {out : List ℕ} {at : ℕ} → Wrote out at [] at out
wrote_none {out} {at} = record { next = sym (add-zero at); over = refl }

pub wrote_one : (out : List ℕ) (at b : ℕ) → Wrote out at (b ∷ []) (at + 1) (set out at b)
wrote_one out at b = record { next = refl; over = refl }

-- after `out[at..at + n].copy_from_slice(bs)`
pub wrote_part : (out bs part : List ℕ) (at n : ℕ) → at + length bs ≤ length out → part ≡ bs → n ≡ length bs → Wrote out at bs (at + length bs) (put_mid at n out part)
wrote_part out bs part at n h e k =
    record {
      next = refl;
      over = rw (e, k) (sym (sets-eq bs out at h ∙ append_assoc (take at out) bs (drop (at + length bs) out) ∙ rw (drop-drop (length bs) at out)));
    }

pub wrote_then : {out out' out'' : List ℕ} {at r r' : ℕ} {xs ys : List ℕ} → Wrote out at xs r out' → Wrote out' r ys r' out'' → Wrote out at (xs ++ ys) r' out''
wrote_then {out} {out'} {out''} {at} {r} {r'} {xs} {ys} v w =
    record {
      next = w.next ∙ rw (v.next, length-append, add_assoc);
      over = w.over ∙ rw (v.over, v.next) (sets_append out at xs ys);
    }

pub wrote_length : {out out' : List ℕ} {at r : ℕ} {xs : List ℕ} → Wrote out at xs r out' → length out' ≡ length out
wrote_length {out} {at = at} {xs = xs} w = ap length w.over ∙ length-sets out at xs

pub wrote_unique : WroteUnique
wrote_unique out at written r q after also v w = (v.next ∙ sym w.next, v.over ∙ sym w.over)
