-- A window's words and bytes, and what is stored there.
use Prim.Native.Nat.{ℕ, zero, suc, ◌+◌, ◌-◌, ◌*◌, ◌/◌, ◌%◌, ◌^◌, ◌<◌, ◌≤◌}
use mathlib.Core.Path.{◌≡◌, refl, sym, ap, ◌∙◌}
use mathlib.Core.Bool.{Bool, true, false, ◌&&◌, true≢false, cond}
use mathlib.Core.List.{List, [], ◌∷◌, ◌++◌}
use borrow.Author.Tests.{ltb-true, ltb-false, le-ltb}
use native.Mathlib.Omega.{arith}
use lib.ListN.{length, get_or, set, drop, length-set, take}
use lib.Seq.{sets, set-append_left, drop-drop}
use lib.Dec.{ltb, eqb}
use Rattle.machine.specs.Window.{place_of, inside}
use Rattle.eight.specs.Packed.{Each}
use Rattle.records.specs.Window.{window_bytes, byte_place}
use Rattle.records.specs.Load.{Said, all_inside, stored, bytes_in, bytes_at, kind_in, count_in, address_in, content_in, run, said_by}
use Rattle.std.proofs.lemmas.List.{take-append-drop}
use Rattle.std.specs.Int.{bytes_high_first}
use Rattle.hex_digits.specs.Hex.{number}
use Rattle.hex_load.proofs.Digits.{there, all_part, in_append, in_long, last_read}
use Rattle.laws.proofs.Stores.{sets_append}
use Rattle.hex_digits.specs.Hex.{all_digits}
use Rattle.records.proofs.Promises.{run_same, stored_run}

bytes_joined : (a b c d x : ℕ) → Each 256 (a ∷ b ∷ c ∷ d ∷ []) → x ≡ a + 256 * b + 65536 * c + 16777216 * d → window_bytes (x ∷ []) ≡ a ∷ b ∷ c ∷ d ∷ []
unfolding window_bytes
bytes_joined a b c d x e is =
    let second : x / 256 ≡ b + 256 * c + 65536 * d = omega arith in
    let third : x / 65536 ≡ c + 256 * d = omega arith in
    let fourth : x / 16777216 ≡ d = omega arith in
    let p : x % 256 ≡ a = omega arith in
    let q : (b + 256 * c + 65536 * d) % 256 ≡ b = omega arith in
    let r : (c + 256 * d) % 256 ≡ c = omega arith in
    let s : d % 256 ≡ d = omega arith in
    rw (second, third, fourth, p, q, r, s)

-- a number is its four lowest bytes, and what is above them
whole : (w : ℕ) → w ≡ w % 256 + 256 * (w / 256 % 256) + 65536 * (w / 65536 % 256) + 16777216 * (w / 16777216 % 256) + 4294967296 * (w / 4294967296)
whole w =
    let second : w / 65536 ≡ w / 256 / 256 = omega arith in
    let third : w / 16777216 ≡ w / 256 / 256 / 256 = omega arith in
    let fourth : w / 4294967296 ≡ w / 256 / 256 / 256 / 256 = omega arith in
    rw (second, third, fourth) (by (w / 256) (w / 256 / 256) (w / 256 / 256 / 256) (w / 256 / 256 / 256 / 256) (omega arith) (omega arith) (omega arith) (omega arith))
  where
    by : (x y z u : ℕ) → w ≡ w % 256 + 256 * x → x ≡ x % 256 + 256 * y → y ≡ y % 256 + 256 * z → z ≡ z % 256 + 256 * u
        → w ≡ w % 256 + 256 * (x % 256) + 65536 * (y % 256) + 16777216 * (z % 256) + 4294967296 * u
    by x y z u a b c d = omega arith

low_last : (w m : ℕ) → m ≤ 4 → bytes_high_first m w ≡ drop (4 - m) (bytes_high_first 4 w)
low_last w zero h = refl
low_last w (suc zero) h = refl
low_last w (suc (suc zero)) h = refl
low_last w (suc (suc (suc zero))) h = refl
low_last w (suc (suc (suc (suc zero)))) h = refl
low_last w (suc (suc (suc (suc (suc m))))) h = absurd (omega arith)

-- ---- bytes put into a word

-- the number of byte k's lowest bit
abbrev pub unit : ℕ → ℕ
unit k = 1 * 2 ^ (8 * k) % 4294967296

-- what stands in m bytes from byte k on, and the last m bytes of another word there
abbrev pub hole : ℕ → ℕ → ℕ → ℕ
hole old k m = old / unit k % unit m * unit k

abbrev pub put : ℕ → ℕ → ℕ → ℕ
put s k m = s / 2 ^ (8 * (4 - m)) * unit k

pub record Part (old s k m : ℕ) (bytes : List ℕ) : Type 0 where
  pub some : 0 < unit k
  pub more : 0 < unit m
  pub below : hole old k m ≤ old
  pub fits : put s k m < 4294967296
  pub sum : old - hole old k m + put s k m < 4294967296
  pub are : window_bytes ((old - hole old k m + put s k m) ∷ []) ≡ bytes

module _ (a b c d e f g h old s : ℕ) (low : Each 256 (a ∷ b ∷ c ∷ d ∷ e ∷ f ∷ g ∷ h ∷ [])) (is : old ≡ a + 256 * b + 65536 * c + 16777216 * d) (new : s ≡ e + 256 * f + 65536 * g + 16777216 * h) where
  made : (k m x y z u : ℕ) → 0 < unit k → 0 < unit m → hole old k m ≤ old → put s k m < 4294967296 → old - hole old k m + put s k m ≡ x + 256 * y + 65536 * z + 16777216 * u → Each 256 (x ∷ y ∷ z ∷ u ∷ [])
      → Part old s k m (x ∷ y ∷ z ∷ u ∷ [])
  made k m x y z u p q r t v w = record { some = p; more = q; below = r; fits = t; sum = rw v (omega arith); are = bytes_joined x y z u _ w v }

  pub part : (k m : ℕ) → k + m ≤ 4 → 0 < m → (m ≡ 4 → ⊥) → Part old s k m (sets (a ∷ b ∷ c ∷ d ∷ []) k (drop (4 - m) (e ∷ f ∷ g ∷ h ∷ [])))
  part zero (suc zero) i j n = made 0 1 h b c d (omega arith) (omega arith) (omega arith) (omega arith) (omega arith) (omega arith, (omega arith, (omega arith, (omega arith, tt))))
  part zero (suc (suc zero)) i j n = made 0 2 g h c d (omega arith) (omega arith) (omega arith) (omega arith) (omega arith) (omega arith, (omega arith, (omega arith, (omega arith, tt))))
  part zero (suc (suc (suc zero))) i j n = made 0 3 f g h d (omega arith) (omega arith) (omega arith) (omega arith) (omega arith) (omega arith, (omega arith, (omega arith, (omega arith, tt))))
  part (suc zero) (suc zero) i j n = made 1 1 a h c d (omega arith) (omega arith) (omega arith) (omega arith) (omega arith) (omega arith, (omega arith, (omega arith, (omega arith, tt))))
  part (suc zero) (suc (suc zero)) i j n = made 1 2 a g h d (omega arith) (omega arith) (omega arith) (omega arith) (omega arith) (omega arith, (omega arith, (omega arith, (omega arith, tt))))
  part (suc zero) (suc (suc (suc zero))) i j n = made 1 3 a f g h (omega arith) (omega arith) (omega arith) (omega arith) (omega arith) (omega arith, (omega arith, (omega arith, (omega arith, tt))))
  part (suc (suc zero)) (suc zero) i j n = made 2 1 a b h d (omega arith) (omega arith) (omega arith) (omega arith) (omega arith) (omega arith, (omega arith, (omega arith, (omega arith, tt))))
  part (suc (suc zero)) (suc (suc zero)) i j n = made 2 2 a b g h (omega arith) (omega arith) (omega arith) (omega arith) (omega arith) (omega arith, (omega arith, (omega arith, (omega arith, tt))))
  part (suc (suc (suc zero))) (suc zero) i j n = made 3 1 a b c h (omega arith) (omega arith) (omega arith) (omega arith) (omega arith) (omega arith, (omega arith, (omega arith, (omega arith, tt))))
  part k zero i j n = absurd (omega arith)
  part zero (suc (suc (suc (suc m)))) i j n = absurd (n (omega arith))
  part (suc zero) (suc (suc (suc (suc m)))) i j n = absurd (omega arith)
  part (suc (suc zero)) (suc (suc (suc m))) i j n = absurd (omega arith)
  part (suc (suc (suc zero))) (suc (suc m)) i j n = absurd (omega arith)
  part (suc (suc (suc (suc k)))) (suc m) i j n = absurd (omega arith)

-- a number's lowest four bytes in the other order
module _ (w s : ℕ) (is : s ≡ w % 256 * 16777216 + w / 256 % 256 * 65536 + w / 65536 % 256 * 256 + w / 16777216 % 256) where
  swapped_is : s ≡ w / 16777216 % 256 + 256 * (w / 65536 % 256) + 65536 * (w / 256 % 256) + 16777216 * (w % 256)
  swapped_is = omega arith

  pub whole_set : (old k m : ℕ) → m ≡ 4 → k ≡ 0 → window_bytes (s ∷ []) ≡ sets (window_bytes (old ∷ [])) k (bytes_high_first m w)
  unfolding window_bytes
  whole_set old k m e z = rw (e, z) (bytes_joined _ _ _ _ s (omega arith, (omega arith, (omega arith, (omega arith, tt)))) swapped_is)

  pub put_bytes : (old k m : ℕ) → old < 4294967296 → k + m ≤ 4 → 0 < m → (m ≡ 4 → ⊥) → Part old s k m (sets (window_bytes (old ∷ [])) k (bytes_high_first m w))
  unfolding window_bytes
  put_bytes old k m fits h i n =
      rw (low_last w m (omega arith))
      (part _ _ _ _ _ _ _ _ old s (omega arith, (omega arith, (omega arith, (omega arith, (omega arith, (omega arith, (omega arith, (omega arith, tt)))))))) (omega (arith, whole old)) swapped_is k m h i n)

pub below_all : (m : ℕ) (ws : List ℕ) → ((i : ℕ) → i < length ws → get_or ws i 0 < m) → Each m ws
below_all m [] h = tt
below_all m (w ∷ ws) h = (h 0 (omega arith), below_all m ws (λ i k. h (suc i) (omega arith)))

pub stored_append : (start : ℕ) (w : List ℕ) (xs ys : List Said) → stored start w (xs ++ ys) ≡ stored start (stored start w xs) ys
unfolding stored
stored_append start w [] ys = refl
stored_append start w (x ∷ xs) ys = stored_append start (set w (byte_place start x.address) x.byte) xs ys

-- ---- addresses in the window

-- an address is its place past the start
pub place_back : (start a p : ℕ) → start < 2 ^ 32 → p ≡ byte_place start a → (p < 2 ^ 32) × (a % 2 ^ 32 ≡ (start + p) % 2 ^ 32)
place_back start a p h e = (omega arith, turned start a p h (e ∙ rw (same start h)))
  where
    same : (s : ℕ) → s < 2 ^ 32 → s % 2 ^ 32 ≡ s
    same s l = omega arith

    turned : (s a p : ℕ) → s < 2 ^ 32 → p ≡ (a + (2 ^ 32 - s)) % 2 ^ 32 → a % 2 ^ 32 ≡ (s + p) % 2 ^ 32
    turned s a p l f = omega arith

module _ (start words : ℕ) (low : start < 2 ^ 32) (few : words ≤ 16384) where
  outside : (a p : ℕ) → p < 2 ^ 32 → a % 2 ^ 32 ≡ (start + p) % 2 ^ 32 → 4 * words ≤ p → inside start words a ≡ false
  unfolding place_of
  outside a p k e h = let m : start % 2 ^ 32 ≡ start = omega arith in let q : (a + (2 ^ 32 - start)) % 2 ^ 32 ≡ p = omega arith in rw (m, q) (le-ltb (p / 4) words (omega arith))

  second : (b : Bool) → (b && false) ≡ false
  second true = refl
  second false = refl

  outside_step : (n a p : ℕ) → p < 2 ^ 32 → a % 2 ^ 32 ≡ (start + p) % 2 ^ 32 → (p < 4 * words → all_inside start words (suc a) n ≡ false)
      → (t : Bool) → ltb p (4 * words) ≡ t → (inside start words a && all_inside start words (suc a) n) ≡ false
  outside_step n a p k e later true f = rw (later (ltb-true p (4 * words) f)) (second (inside start words a))
  outside_step n a p k e later false f = rw (outside a p k e (ltb-false p (4 * words) f))

  pub one_outside : (n a p : ℕ) → p < 2 ^ 32 → a % 2 ^ 32 ≡ (start + p) % 2 ^ 32 → 0 < n → 4 * words < p + n → all_inside start words a n ≡ false
  unfolding all_inside
  one_outside zero a p k e some h = absurd (omega arith)
  one_outside (suc n) a p k e some h = outside_step n a p k e (λ l. one_outside n (suc a) (suc p) (omega arith) (omega arith) (omega arith) (omega arith)) (ltb p (4 * words)) refl

-- ---- words
-- stores in the first part of a list, and past its first element
sets_front : (l m : List ℕ) (k : ℕ) (bs : List ℕ) → k + length bs ≤ length l → sets (l ++ m) k bs ≡ sets l k bs ++ m
sets_front l m k [] h = refl
sets_front l m k (b ∷ bs) h = rw (set-append_left l m k b (omega arith)) (sets_front (set l k b) m (suc k) bs (rw (length-set l k b) (omega arith)))

sets_past : (a : ℕ) (l : List ℕ) (k : ℕ) (bs : List ℕ) → sets (a ∷ l) (suc k) bs ≡ a ∷ sets l k bs
sets_past a l k [] = refl
sets_past a l k (b ∷ bs) = sets_past a (set l k b) (suc k) bs

-- a word stored, as the bytes that it changes
pub set_part : (ws : List ℕ) (i r k : ℕ) (bs : List ℕ) → i < length ws → k + length bs ≤ 4 → window_bytes (r ∷ []) ≡ sets (window_bytes (get_or ws i 0 ∷ [])) k bs → window_bytes (set ws i r) ≡ sets (window_bytes ws) (4 * i + k) bs
unfolding window_bytes
set_part [] i r k bs h few e = absurd (omega arith)
set_part (w ∷ ws) zero r k bs h few e = let z : 4 * 0 + k ≡ k = omega arith in rw z (ap (λ (l : List ℕ). l ++ window_bytes ws) e ∙ sym (sets_front (window_bytes (w ∷ [])) (window_bytes ws) k bs few))
set_part (w ∷ ws) (suc i) r k bs h few e =
    let q : 4 * suc i + k ≡ suc (suc (suc (suc (4 * i + k)))) = omega arith in
    rw (q, sets_past (w % 256) (w / 256 % 256 ∷ w / 65536 % 256 ∷ w / 16777216 % 256 ∷ window_bytes ws) (suc (suc (suc (4 * i + k)))) bs, sets_past (w / 256 % 256) (w / 65536 % 256 ∷ w / 16777216 % 256 ∷ window_bytes ws) (suc (suc (4 * i + k))) bs, sets_past (w / 65536 % 256) (w / 16777216 % 256 ∷ window_bytes ws) (suc (4 * i + k)) bs, sets_past (w / 16777216 % 256) (window_bytes ws) (4 * i + k) bs)
    (ap (λ (l : List ℕ). w % 256 ∷ w / 256 % 256 ∷ w / 65536 % 256 ∷ w / 16777216 % 256 ∷ l) (set_part ws i r k bs (omega arith) few e))

-- m bytes of those that are left, put into the word where they stand
pub bytes_turn : (d : List ℕ) (from m q r : ℕ) (ws : List ℕ) → all_digits d ≡ true → 8 ≤ from → from + 2 * m ≤ length d → q % 4 + m ≤ 4 → q / 4 < length ws
    → window_bytes (r ∷ []) ≡ sets (window_bytes (get_or ws (q / 4) 0 ∷ [])) (q % 4) (bytes_high_first m (number (take 8 (drop (from + 2 * m - 8) d))))
    → sets (window_bytes ws) q (bytes_in (drop from d)) ≡ sets (window_bytes (set ws (q / 4) r)) (q + m) (bytes_in (drop (from + 2 * m) d))
bytes_turn d from m q r ws all far fits few here puts =
    let first = take (2 * m) (drop from d) in
    let back : from + 2 * m - 2 * m ≡ from = omega arith in
    let read = rw back at (last_read d (from + 2 * m) m (omega arith) (omega arith) fits (all_part 8 (from + 2 * m - 8) d all)) in
    let even : length first ≡ 2 * m = there (2 * m) from d fits in
    let long : length (bytes_in first) ≡ m = in_long m first even in
    let parts : drop from d ≡ first ++ drop (from + 2 * m) d = sym (take-append-drop (2 * m) (drop from d)) ∙ rw (drop-drop (2 * m) from d) in
    let at : 4 * (q / 4) + q % 4 ≡ q = omega arith in
    let word = set_part ws (q / 4) r (q % 4) (bytes_in first) here (rw long few) (rw read at puts) in
    rw (parts, in_append m first (drop (from + 2 * m) d) even)
    (sym (sets_append (window_bytes ws) q (bytes_in first) (bytes_in (drop (from + 2 * m) d))) ∙ rw (long, word, at))

-- ---- in the window

module _ (start words a p n : ℕ) (low : start < 2 ^ 32) (is : p ≡ byte_place start a) where
  -- n bytes whose addresses all belong to the window lie in it from the place of the first on
  pub inside_window : words ≤ 16384 → 0 < n → all_inside start words a n ≡ true → p + n ≤ 4 * words
  inside_window few some e = by (ltb (4 * words) (p + n)) refl
    where
      by : (t : Bool) → ltb (4 * words) (p + n) ≡ t → p + n ≤ 4 * words
      by true h = let q = place_back start a p low is in absurd (true≢false (sym e ∙ one_outside start words low few n a p q.0 q.1 some (ltb-true (4 * words) (p + n) h)))
      by false h = ltb-false (4 * words) (p + n) h

  -- bytes said from an address on, stored from its place on
  pub run_stored : (w bs : List ℕ) → p + length bs ≤ 2 ^ 32 → sets w p bs ≡ stored start w (run a bs)
  run_stored w bs fits = sym (ap (stored start w) (run_same a (start + p) bs (place_back start a p low is).1) ∙ stored_run start p w bs low fits)

-- ---- what a record says

module _ (upper : ℕ) (t : List ℕ) where
  pub said_data : kind_in t ≡ 0 → said_by upper t ≡ run (address_in upper t) (content_in t)
  unfolding said_by
  said_data e = rw e

  -- one of another type, or of no bytes
  pub said_nothing : (eqb (kind_in t) 0 && ltb 0 (count_in t)) ≡ false → said_by upper t ≡ []
  unfolding said_by content_in bytes_at run
  said_nothing e = by (eqb (kind_in t) 0) refl
    where
      by : (b : Bool) → eqb (kind_in t) 0 ≡ b → cond b (run (address_in upper t) (content_in t)) [] ≡ []
      by false f = refl
      by true f = let none : count_in t ≡ 0 = omega (arith, ltb-false 0 (count_in t) (rw f at e)) in rw none
